-- The entries of the tables by which the CRC-32 is computed.
use Rattle.std.specs.Prelude.{ℕ, zero, suc}
use Rattle.stun_extra.specs.Crc32.{after_byte}

-- the remainder after this many more zero bytes
abbrev pub after_zeros : ℕ → ℕ → ℕ
after_zeros zero remainder = remainder
after_zeros (suc n) remainder = after_zeros n (after_byte remainder 0)
