-- CRC-32 (ITU-T V.42, section 8.1.1.6.2, and RFC 1952, section 8): the remainder of a division of
-- polynomials over bits.
use Rattle.std.specs.Prelude.{ℕ, ◌/◌, ◌%◌, List, [], ◌∷◌, fold, bit_xor, ◌==◌, if◌then◌else◌}

-- the polynomial x^32 + x^26 + x^23 + x^22 + x^16 + x^12 + x^11 + x^10 + x^8 + x^7 + x^5 + x^4 +
-- x^2 + x + 1 without its highest power; of a word of 32 bits the lowest stands for x^31, and the
-- highest for 1
abbrev pub POLYNOMIAL : ℕ
POLYNOMIAL = 0xEDB88320

-- a word of 32 ones: the division begins with it, and the remainder is complemented at the end
abbrev pub ONES : ℕ
ONES = 0xFFFFFFFF

-- the bits of a byte in the order of the division, the lowest first
abbrev pub bits_of : ℕ → List ℕ
bits_of byte =
    byte % 2 ∷ byte / 2 % 2 ∷ byte / 4 % 2 ∷ byte / 8 % 2
    ∷ byte / 16 % 2 ∷ byte / 32 % 2 ∷ byte / 64 % 2 ∷ byte / 128 % 2 ∷ []

-- one step of the division: the remainder is multiplied by x, and the polynomial is subtracted if
-- the power that leaves and the next bit of the message differ
abbrev pub after_bit : ℕ → ℕ → ℕ
after_bit remainder bit =
    if remainder % 2 == bit then remainder / 2 else bit_xor (remainder / 2) POLYNOMIAL

-- the remainder after the bits of one more byte
abbrev pub after_byte : ℕ → ℕ → ℕ
after_byte remainder byte = fold after_bit remainder (bits_of byte)

-- the CRC-32 of bytes
abbrev pub crc32 : List ℕ → ℕ
crc32 bytes = bit_xor (fold after_byte ONES bytes) ONES
