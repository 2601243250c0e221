-- Hashers that have been fed the padded blocks of a key (RFC 2104, section 4).
use Rattle.std.specs.Prelude.{ℕ, List}
use Rattle.stun_base.specs.Hmac.{key_block, xor_pad}

-- one has been fed the key's block under the inner pad, the other under the outer pad
abbrev pub IsBegun : {Hasher : Type 0} → (Hasher → List ℕ → Type 0) → (List ℕ → List ℕ) → List ℕ
    → Hasher → Hasher → Type 0
IsBegun holds hash key inner outer =
    holds inner (xor_pad 0x36 (key_block hash key))
    × holds outer (xor_pad 0x5c (key_block hash key))
