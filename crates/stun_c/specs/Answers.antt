-- The result of each call, and the caller's buffer after it.
use Rattle.std.specs.Prelude.{◌≡◌, ℕ, ℤ, pos, List, length, Option, Some, None, Result, Ok, Err}
use Rattle.stun_base.specs.declared.wire.error.StunParseError.{StunParseError}
use Rattle.stun_base.specs.declared.wire.error.ValidateError.{ValidateError}
use Rattle.stun_base.specs.declared.keys.algorithm.IntegrityAlgorithm.{IntegrityAlgorithm}
use Rattle.stun_types.specs.Message.{refusal}
use Rattle.stun_types.specs.Integrity.{verified_algorithm, integrity_refusal}
use Rattle.stun_numbers.specs.declared.refusal.Refusal.{Refusal}
use Rattle.stun_numbers.specs.Refusals.{refusal_number, refusal_of_parse}
use Rattle.stun_numbers.specs.Algorithms.{algorithm_number}
use Rattle.stun_numbers.specs.Buffers.{buffer_after, within_room}
use Rattle.stun_c.specs.Codes.{refusal_of_verdict}

-- 0 if bytes are a message, or the number of the error
abbrev pub parse_number : Option StunParseError → ℤ
parse_number None = pos 0
parse_number (Some error) = refusal_number (refusal_of_parse error)

-- the result of parsing
abbrev pub parse_answer : List ℕ → ℤ
parse_answer bytes = parse_number (refusal bytes)

-- the number of the algorithm whose digest verifies, if one does
abbrev pub integrity_number : Option IntegrityAlgorithm → ValidateError → ℤ
integrity_number (Some algorithm) error = pos (algorithm_number algorithm)
integrity_number None error = refusal_number (refusal_of_verdict error)

-- a number, unless the bytes are not a message
abbrev pub unless_no_message : Option StunParseError → ℤ → ℤ
unless_no_message None number = number
unless_no_message (Some error) number = refusal_number (refusal_of_parse error)

-- the result of verifying under a key
abbrev pub verify_answer : List ℕ → List ℕ → ℤ
verify_answer bytes key =
    unless_no_message (refusal bytes)
    (integrity_number (verified_algorithm bytes key) (integrity_refusal bytes))

-- how many bytes are written, or the number of the error
abbrev pub written_number : Result (List ℕ) Refusal → ℤ
written_number (Ok bytes) = pos (length bytes)
written_number (Err refusal) = refusal_number refusal

-- a call writes these bytes to the front of a buffer, and returns their number; or it fails,
-- returns the number of the error, and leaves the buffer unchanged
pub record Writes (made : Result (List ℕ) Refusal) (before : List ℕ) (result : ℤ) (after : List ℕ)
    : Type 0 where
  pub answer : result ≡ written_number made
  pub written : after ≡ buffer_after made before

-- the same if the buffer has room for them. Otherwise the call fails for that reason
abbrev pub WritesWithin : Result (List ℕ) Refusal → List ℕ → ℤ → List ℕ → Type 0
WritesWithin made before result after =
    Writes (within_room made (length before)) before result after
