-- Short-term authentication (RFC 8489, section 9.1).
use Rattle.std.specs.Prelude.{◌≡◌, ℕ, ◌≤◌, false, List, Option, Some, None, Result, Ok, Err, ⊤}
use Rattle.stun_base.specs.Algorithm.{digest_length}
use Rattle.stun_base.specs.declared.keys.algorithm.IntegrityAlgorithm.{IntegrityAlgorithm}
use Rattle.stun_base.specs.declared.wire.error.ValidateError.{ValidateError}
use Rattle.stun_base.specs.declared.wire.error.StunWriteError.{StunWriteError}
use Rattle.stun_types.specs.Attribute.{attribute_length}
use Rattle.stun_types.specs.Integrity.{verified_algorithm, integrity_refusal}
use Rattle.stun_types.specs.Limits.{max_length}
use Rattle.stun_types.specs.Writing.{has_integrity, length_with, signing_refusal, with_integrity}

-- the bytes of a password, which are its key (section 9.1.1), and the digest that messages are
-- signed with
pub record Secret : Type 0 where
  pub password : List ℕ
  pub algorithm : IntegrityAlgorithm

-- the number of bytes that signing adds
abbrev pub short_term_growth : Option Secret → ℕ
short_term_growth None = 0
short_term_growth (Some secret) = attribute_length (digest_length secret.algorithm)

-- a signed message: with the integrity attribute alone, or unchanged without credentials (section
-- 9.1.2)
abbrev pub short_term_signed : Option Secret → List ℕ → List ℕ
short_term_signed None message = message
short_term_signed (Some secret) message = with_integrity message secret.algorithm secret.password

-- why signing a message in a writer with this much room is refused
abbrev pub short_term_refusal : Option Secret → List ℕ → ℕ → Option StunWriteError
short_term_refusal None message room = None
short_term_refusal (Some secret) message room = signing_refusal message room secret.algorithm

-- the integrity attribute of an algorithm fits after a message in a writer with this much room
pub record HasRoomForDigest (algorithm : IntegrityAlgorithm) (message : List ℕ) (room : ℕ) : Type
    0 where
  pub unsigned : has_integrity message ≡ false
  pub short : length_with message (digest_length algorithm) ≤ max_length
  pub fits : attribute_length (digest_length algorithm) ≤ room

-- nothing prevents the signing of a message in a writer with this much room
abbrev pub IsSignableShortTerm : Option Secret → List ℕ → ℕ → Type 0
IsSignableShortTerm None message room = ⊤
IsSignableShortTerm (Some secret) message room = HasRoomForDigest secret.algorithm message room

-- the algorithm whose digest verifies, or why none does
abbrev pub algorithm_or_refusal : Option IntegrityAlgorithm → ValidateError
    → Result (Option IntegrityAlgorithm) ValidateError
algorithm_or_refusal None refusal = Err refusal
algorithm_or_refusal (Some algorithm) refusal = Ok (Some algorithm)

-- the answer to a message. Its digest is checked under the password (section 9.1.3), or not at all
-- without credentials
abbrev pub short_term_answer : Option Secret → List ℕ
    → Result (Option IntegrityAlgorithm) ValidateError
short_term_answer None message = Ok None
short_term_answer (Some secret) message =
    algorithm_or_refusal (verified_algorithm message secret.password) (integrity_refusal message)
