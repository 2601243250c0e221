-- The line that `verify` prints for each verdict.
use Rattle.std.specs.Prelude.{ℕ, List, [], ◌∷◌, ◌++◌, codes}
use Rattle.stun_base.specs.declared.keys.algorithm.IntegrityAlgorithm.TheVariants.{Sha1, Sha256}
use Rattle.stun_cli.specs.declared.verdict.Verdict.{Verdict}
use Rattle.stun_cli.specs.declared.verdict.Verdict.TheVariants.{Valid, OtherDigest, NoIntegrity}
use Rattle.stun_cli.specs.declared.verdict.Verdict.TheVariants.{MalformedIntegrity, NotAMessage}
use Rattle.stun_cli.specs.declared.verdict.Verdict.TheVariants.{BadInput}
use Rattle.stun_cli.specs.Verdict.{refusal_line}

-- the line for a verdict. The first request of a dialogue and its challenge have no integrity
-- attribute (RFC 8489, section 9.2.3.1), so a message without one is unsigned, and not invalid.
-- `BadInput` is the verdict on an input that does not encode bytes
abbrev pub verify_line : Verdict → List ℕ
verify_line (Valid Sha1) = codes "valid MESSAGE-INTEGRITY" ++ 10 ∷ []
verify_line (Valid Sha256) = codes "valid MESSAGE-INTEGRITY-SHA256" ++ 10 ∷ []
verify_line OtherDigest = codes "invalid: the signature does not match" ++ 10 ∷ []
verify_line NoIntegrity = codes "unsigned" ++ 10 ∷ []
verify_line MalformedIntegrity = codes "invalid: the integrity attribute is malformed" ++ 10 ∷ []
verify_line (NotAMessage error) = refusal_line error
verify_line BadInput = codes "bad input" ++ 10 ∷ []
