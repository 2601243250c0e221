-- The keyed hash HMAC (RFC 2104) over a hash function with blocks of 64 bytes, such as SHA-1 or
-- SHA-256. An argument `hash` is the hash function, which maps a message to its digest.
use Rattle.std.specs.Prelude.{ℕ, ◌-◌, List, ◌++◌, length, map}
use Rattle.std.specs.Prelude.{replicate, bit_xor, nat_lt, if◌then◌else◌}

-- the bytes of one block (section 2)
abbrev pub block_length : ℕ
block_length = 64

-- the key or, if it is longer than a block, its digest (section 2)
abbrev pub short_key : (List ℕ → List ℕ) → List ℕ → List ℕ
short_key hash key = if nat_lt block_length (length key) then hash key else key

-- bytes filled up to a block with zeros (section 2, step 1)
abbrev pub block_of : List ℕ → List ℕ
block_of bytes = bytes ++ replicate (block_length - length bytes) 0

-- the key as one block
abbrev pub key_block : (List ℕ → List ℕ) → List ℕ → List ℕ
key_block hash key = block_of (short_key hash key)

-- each byte of a block XORed with the pad (section 2, steps 2 and 5)
abbrev pub xor_pad : ℕ → List ℕ → List ℕ
xor_pad pad block = map (λ byte. bit_xor byte pad) block

-- the digest of the key block, XORed with the inner pad, followed by the text (section 2, steps 2
-- to 4)
abbrev pub inner_digest : (List ℕ → List ℕ) → List ℕ → List ℕ → List ℕ
inner_digest hash key text = hash (xor_pad 0x36 (key_block hash key) ++ text)

-- the HMAC of a text under a key (section 2)
unfoldable pub hmac : (List ℕ → List ℕ) → List ℕ → List ℕ → List ℕ
hmac hash key text = hash (xor_pad 0x5c (key_block hash key) ++ inner_digest hash key text)
