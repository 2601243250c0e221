-- What a hole writes of a byte in hexadecimal.
use Rattle.std.specs.Prelude.{◌≡◌, ◌<◌, ◌-◌, ◌^◌, ℕ, [], false}
use Rattle.std.specs.Fmt.{digits, format_spec, padded_integral}
use Rattle.std.proofs.lemmas.Fmt.{hex_byte as two_digits}
use Rattle.stun_base.specs.AttributeText.{hex_byte}

-- two digits, a zero before a single one
pub hex_byte_written : (byte : ℕ) → byte < 256
    → padded_integral (format_spec 32 0 4 2 (2 ^ 64 - 1)) false [] (digits 16 false byte)
    ≡ hex_byte byte
hex_byte_written byte small = two_digits false byte small
