-- Which inputs are read as a raw message.
use Rattle.std.specs.Prelude.{◌≡◌, ℕ, Bool, false, List, length, drop, nat_le, nat_lt, ◌==◌, ◌&&◌}
use Rattle.byteorder.specs.Endian.{big_number}
use Rattle.stun_inspect.specs.declared.input.Input.{Input}
use Rattle.stun_inspect.specs.declared.input.Input.TheVariants.{Capture, Bytes}

-- whether the bytes are read as a raw message: their first two bits are zero, and the magic cookie
-- follows type and length (RFC 8489, section 5)
abbrev pub is_raw : List ℕ → Bool
is_raw bytes =
    nat_le 8 (length bytes) && nat_lt (big_number 2 bytes) 16384
    && (big_number 4 (drop 4 bytes) == 0x2112A442)

-- the bytes of an input are read, unless it is a capture, which is not raw
abbrev pub IsBegun : {A : Type 0} → List ℕ → Input A → Type 0
IsBegun given (Capture capture begun) = is_raw given ≡ false
IsBegun given (Bytes bytes) = bytes.items ≡ given
