-- Which bytes are a STUN message (RFC 8489, section 5).
use Rattle.std.specs.Prelude.{◌≡◌, ℕ, ◌+◌, List, ◌++◌, length, take, drop}
use Rattle.std.specs.Prelude.{Option, Some, None, nat_lt, ◌==◌, if◌then◌else◌}
use Rattle.byteorder.specs.Endian.{big_bytes}
use Rattle.stun_base.specs.declared.wire.error.StunParseError.{StunParseError}
use Rattle.stun_base.specs.declared.wire.error.StunParseError.TheVariants.{Truncated, TooLarge}
use Rattle.stun_base.specs.Header.{HEADER_LENGTH, BeginsWithHeader, header_refusal, length_field}
use Rattle.stun_types.specs.Walk.{walk, attributes_length}
pub use Rattle.stun_types.specs.Limits.{LENGTH_LIMIT}

-- the bytes with this length in the length field of their header
abbrev pub with_length : List ℕ → ℕ → List ℕ
with_length bytes n = take 2 bytes ++ big_bytes 2 n ++ drop 4 bytes

-- the bytes are a header, followed by whole attributes whose total length is the one that the
-- header states
pub record IsMessage (bytes : List ℕ) : Type 0 where
  pub header : BeginsWithHeader bytes
  pub stated : HEADER_LENGTH + length_field bytes ≡ length bytes
  pub filled : HEADER_LENGTH + attributes_length (walk bytes) ≡ length bytes

-- the reason why the bytes after a valid header are not the rest of a message
abbrev pub data_refusal : List ℕ → Option StunParseError
data_refusal bytes =
    if nat_lt (length bytes) (HEADER_LENGTH + length_field bytes) then Some Truncated
    else if nat_lt (HEADER_LENGTH + length_field bytes) (length bytes) then Some TooLarge
    else if HEADER_LENGTH + attributes_length (walk bytes) == length bytes then None
    else Some Truncated

-- the first refusal, or the second if there is no first one
abbrev pub either_refusal : Option StunParseError → Option StunParseError → Option StunParseError
either_refusal (Some error) second = Some error
either_refusal None second = second

-- the reason why bytes are not a message: the header is tested first
abbrev pub refusal : List ℕ → Option StunParseError
refusal bytes = either_refusal (header_refusal bytes) (data_refusal bytes)
