-- Which lines are printed: bytes that are not a message are refused in three words alone.
use Rattle.std.proofs.Common.{◌≡◌, ℕ, ◌+◌, ◌<◌, lit<, List, length, Bool, true}
use Rattle.std.proofs.Common.{false, Option, Some, None, refl, sym, subst}
use Rattle.std.proofs.KnownBytes.{Appends-nil}
use Rattle.std.specs.Prelude.{Contains, nat_lt, ◌==◌, if◌then◌else◌}
use Rattle.stun_base.specs.Header.{HEADER_LENGTH, is_stun, length_field}
use Rattle.stun_base.specs.declared.wire.error.StunParseError.TheVariants.{Truncated, NotStun}
use Rattle.stun_base.specs.declared.wire.error.StunParseError.TheVariants.{TooLarge}
use Rattle.stun_base.specs.declared.wire.error.StunParseError.TheVariants.{MissingAttribute}
use Rattle.stun_base.specs.declared.wire.error.StunParseError.TheVariants.{InvalidAttributeData}
use Rattle.stun_base.specs.declared.keys.algorithm.IntegrityAlgorithm.{IntegrityAlgorithm}
use Rattle.stun_base.specs.declared.keys.algorithm.IntegrityAlgorithm.TheVariants.{Sha1, Sha256}
use Rattle.stun_types.specs.Integrity.{deciding_refusal, is_well_formed, verified_algorithm}
use Rattle.stun_types.specs.Integrity.{integrity_refusal, deciding}
use Rattle.stun_types.specs.Message.{either_refusal}
use Rattle.stun_types.specs.Walk.{Member, attributes_length, walk}
use Rattle.stun_cli.specs.declared.verdict.Verdict.{Verdict}
use Rattle.stun_cli.specs.declared.verdict.Verdict.TheVariants.{Valid, OtherDigest, NoIntegrity}
use Rattle.stun_cli.specs.declared.verdict.Verdict.TheVariants.{MalformedIntegrity, NotAMessage}
use Rattle.stun_cli.specs.declared.verdict.Verdict.TheVariants.{BadInput}
use Rattle.stun_cli.specs.Output.{AppendsBeginning}
use Rattle.stun_cli.specs.Verdict.{verdict_on_integrity, verdict_on_refusal, verdict_without_digest}
use Rattle.stun_tool.specs.Verdict.{verdict_under, check_line, printed_lines}

abbrev IsListed : Verdict → Type 0
IsListed verdict = Contains printed_lines (check_line verdict)

without_digest-listed : (well_formed : Bool) (m : Member) → is_well_formed m.1 ≡ well_formed
    → IsListed (verdict_without_digest (deciding_refusal (Some m)))
without_digest-listed true m is = rw is (2, lit< tt, refl)
without_digest-listed false m is = rw is (4, lit< tt, refl)

-- whatever the deciding member is
on_integrity-listed : (standing : Option IntegrityAlgorithm) (deciding : Option Member)
    → IsListed (verdict_on_integrity standing (deciding_refusal deciding))
on_integrity-listed (Some Sha1) deciding = (0, lit< tt, refl)
on_integrity-listed (Some Sha256) deciding = (1, lit< tt, refl)
on_integrity-listed None None = (3, lit< tt, refl)
on_integrity-listed None (Some m) = without_digest-listed (is_well_formed m.1) m refl

-- whichever test refuses the bytes first
on_refusal-listed : (short stun cut long filled : Bool) (verdict : Verdict) → IsListed verdict
    → IsListed (verdict_on_refusal
    (either_refusal (if short then Some Truncated else if stun then None else Some NotStun)
    (if cut then Some Truncated else if long then Some TooLarge else if filled then None
    else Some Truncated))
    verdict)
on_refusal-listed true stun cut long filled verdict listed = (5, lit< tt, refl)
on_refusal-listed false false cut long filled verdict listed = (6, lit< tt, refl)
on_refusal-listed false true true long filled verdict listed = (5, lit< tt, refl)
on_refusal-listed false true false true filled verdict listed = (7, lit< tt, refl)
on_refusal-listed false true false false true verdict listed = listed
on_refusal-listed false true false false false verdict listed = (5, lit< tt, refl)

-- the line of the verdict on any bytes
verdict_under-listed : (bytes password : List ℕ) → IsListed (verdict_under bytes password)
verdict_under-listed bytes password =
    on_refusal-listed (nat_lt (length bytes) HEADER_LENGTH) (is_stun bytes)
    (nat_lt (length bytes) (HEADER_LENGTH + length_field bytes))
    (nat_lt (HEADER_LENGTH + length_field bytes) (length bytes))
    (HEADER_LENGTH + attributes_length (walk bytes) == length bytes)
    (verdict_on_integrity (verified_algorithm bytes password) (integrity_refusal bytes))
    (on_integrity-listed (verified_algorithm bytes password) (deciding bytes))

-- so that verdict has a listed line
pub verdict_listed : (verdict : Verdict) (bytes password : List ℕ)
    → verdict ≡ verdict_under bytes password → Contains printed_lines (check_line verdict)
verdict_listed verdict bytes password is =
    subst IsListed (sym is) (verdict_under-listed bytes password)

-- no line is empty
line-not_empty : (verdict : Verdict) → 0 < length (check_line verdict)
line-not_empty (Valid Sha1) = lit< tt
line-not_empty (Valid Sha256) = lit< tt
line-not_empty OtherDigest = lit< tt
line-not_empty NoIntegrity = lit< tt
line-not_empty MalformedIntegrity = lit< tt
line-not_empty (NotAMessage Truncated) = lit< tt
line-not_empty (NotAMessage NotStun) = lit< tt
line-not_empty (NotAMessage TooLarge) = lit< tt
line-not_empty (NotAMessage (MissingAttribute _)) = lit< tt
line-not_empty (NotAMessage InvalidAttributeData) = lit< tt
line-not_empty BadInput = lit< tt

-- so that a writer to which nothing was written holds a beginning of it
pub nothing_printed : (before : Option (List ℕ)) (verdict : Verdict)
    → AppendsBeginning before before (check_line verdict)
nothing_printed before verdict = (0, line-not_empty verdict, Appends-nil before)
