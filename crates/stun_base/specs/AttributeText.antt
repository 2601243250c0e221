-- The texts of attribute types.
use Rattle.std.specs.Prelude.{ℕ, ◌/◌, ◌%◌, List, [], ◌∷◌, ◌++◌, codes, false}
use Rattle.std.specs.Fmt.{digit_glyph}

-- a byte as two digits in hexadecimal
abbrev pub hex_byte : ℕ → List ℕ
hex_byte byte = digit_glyph false (byte / 16) ∷ digit_glyph false (byte % 16) ∷ []

-- a type, a number of 16 bits, as 0x and four digits
abbrev pub type_text : ℕ → List ℕ
type_text kind = codes "0x" ++ hex_byte (kind / 256) ++ hex_byte (kind % 256)
