-- The verdict on bytes under keys.
use Rattle.std.specs.Prelude.{ℕ, List, [], ◌∷◌, ◌++◌, codes, Option, Some, None}
use Rattle.stun_base.specs.declared.wire.error.StunParseError.{StunParseError}
use Rattle.stun_base.specs.declared.wire.error.StunParseError.TheVariants.{Truncated, NotStun}
use Rattle.stun_base.specs.declared.wire.error.StunParseError.TheVariants.{TooLarge}
use Rattle.stun_base.specs.declared.wire.error.StunParseError.TheVariants.{MissingAttribute}
use Rattle.stun_base.specs.declared.wire.error.StunParseError.TheVariants.{InvalidAttributeData}
use Rattle.stun_base.specs.declared.wire.error.ValidateError.{ValidateError}
use Rattle.stun_base.specs.declared.wire.error.ValidateError.TheVariants.{Parse, IntegrityFailed}
use Rattle.stun_base.specs.declared.keys.algorithm.IntegrityAlgorithm.{IntegrityAlgorithm}
use Rattle.stun_types.specs.Message.{refusal}
use Rattle.stun_types.specs.Integrity.{verified_by, integrity_refusal}
use Rattle.stun_cli.specs.declared.verdict.Verdict.{Verdict}
use Rattle.stun_cli.specs.declared.verdict.Verdict.TheVariants.{Valid, OtherDigest, NoIntegrity}
use Rattle.stun_cli.specs.declared.verdict.Verdict.TheVariants.{MalformedIntegrity, NotAMessage}
use Rattle.stun_cli.specs.declared.status.Status.{Status}
use Rattle.stun_cli.specs.declared.status.Status.TheVariants.{Good, Bad}

-- the verdict if no digest verifies: the integrity attribute is missing or malformed, or its digest
-- is wrong
abbrev pub verdict_without_digest : ValidateError → Verdict
verdict_without_digest (Parse (MissingAttribute _)) = NoIntegrity
verdict_without_digest (Parse _) = MalformedIntegrity
verdict_without_digest IntegrityFailed = OtherDigest

-- the verdict on a message: the algorithm whose digest verifies, if one does
abbrev pub verdict_on_integrity : Option IntegrityAlgorithm → ValidateError → Verdict
verdict_on_integrity (Some algorithm) error = Valid algorithm
verdict_on_integrity None error = verdict_without_digest error

-- the verdict on bytes: the reason why they are not a message, or the verdict on the message
abbrev pub verdict_on_refusal : Option StunParseError → Verdict → Verdict
verdict_on_refusal (Some error) verdict = NotAMessage error
verdict_on_refusal None verdict = verdict

-- the verdict on bytes under a key for each algorithm (RFC 8489, section 9.1.1 and 9.2.2)
abbrev pub verdict_of : List ℕ → (IntegrityAlgorithm → List ℕ) → Verdict
verdict_of bytes keys =
    verdict_on_refusal (refusal bytes)
    (verdict_on_integrity (verified_by keys bytes) (integrity_refusal bytes))

-- the text for a refusal
abbrev pub parse_error_text : StunParseError → List ℕ
parse_error_text Truncated = codes "truncated"
parse_error_text NotStun = codes "not stun"
parse_error_text TooLarge = codes "too large"
parse_error_text (MissingAttribute _) = codes "missing attribute"
parse_error_text InvalidAttributeData = codes "malformed attribute"

-- the line for bytes that are not a message
abbrev pub refusal_line : StunParseError → List ℕ
refusal_line error = codes "not a message: " ++ (parse_error_text error ++ 10 ∷ [])

-- the status for a verdict
abbrev pub status_of : Verdict → Status
status_of (Valid _) = Good
status_of verdict = Bad
