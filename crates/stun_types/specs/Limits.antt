-- The limits of a message and its texts, in bytes.
use Rattle.std.specs.Prelude.{ℕ}

-- the largest number of bytes of a REALM, of a NONCE and of the reason of an ERROR-CODE (RFC 8489,
-- sections 14.8 to 14.10)
abbrev pub TEXT_LIMIT : ℕ
TEXT_LIMIT = 763

-- the largest number of bytes of a USERNAME in this library, which treats a longer one as
-- malformed. By section 14.3, a sender must stay below 509 bytes, and a receiver must accept up to
-- 763
abbrev pub USERNAME_LIMIT : ℕ
USERNAME_LIMIT = 513

-- the greatest message length: the greatest multiple of 4 that fits in the 16 bits of the length
-- field (section 5)
abbrev pub max_length : ℕ
max_length = 65532

-- the largest number of bytes of a message: a header, and the greatest message length
abbrev pub LENGTH_LIMIT : ℕ
LENGTH_LIMIT = 65552
