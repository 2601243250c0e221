-- The verdict of `check` on an input, and the line for it.
use Rattle.std.specs.Prelude.{ℕ, List, [], ◌∷◌, ◌++◌, codes, Option, Some, None}
use Rattle.stun_base.specs.declared.wire.error.StunParseError.TheVariants.{Truncated}
use Rattle.stun_base.specs.declared.wire.error.StunParseError.TheVariants.{NotStun, TooLarge}
use Rattle.stun_base.specs.declared.keys.algorithm.IntegrityAlgorithm.TheVariants.{Sha1, Sha256}
use Rattle.stun_cli.specs.declared.verdict.Verdict.{Verdict}
use Rattle.stun_cli.specs.declared.verdict.Verdict.TheVariants.{Valid, OtherDigest, NoIntegrity}
use Rattle.stun_cli.specs.declared.verdict.Verdict.TheVariants.{MalformedIntegrity, NotAMessage}
use Rattle.stun_cli.specs.declared.verdict.Verdict.TheVariants.{BadInput}
use Rattle.stun_cli.specs.Verdict.{verdict_of, refusal_line}
use Rattle.stun_tool.specs.Input.{bytes_read}

-- the verdict on bytes under a password, whose bytes are the key for both algorithms (RFC 8489,
-- section 9.1.1)
abbrev pub verdict_under : List ℕ → List ℕ → Verdict
verdict_under bytes password = verdict_of bytes (λ _. password)

-- the verdict on the bytes that an input spells, if it spells any
abbrev pub verdict_of_read : Option (List ℕ) → List ℕ → Verdict
verdict_of_read (Some bytes) password = verdict_under bytes password
verdict_of_read None password = BadInput

-- the verdict on an input
abbrev pub verdict_of_input : List ℕ → List ℕ → Verdict
verdict_of_input input password = verdict_of_read (bytes_read input) password

-- the line for a verdict
abbrev pub check_line : Verdict → List ℕ
check_line (Valid Sha1) = codes "valid MESSAGE-INTEGRITY" ++ 10 ∷ []
check_line (Valid Sha256) = codes "valid MESSAGE-INTEGRITY-SHA256" ++ 10 ∷ []
check_line OtherDigest = codes "invalid" ++ 10 ∷ []
check_line NoIntegrity = codes "no integrity" ++ 10 ∷ []
check_line MalformedIntegrity = codes "malformed integrity" ++ 10 ∷ []
check_line (NotAMessage error) = refusal_line error
check_line BadInput = codes "bad input" ++ 10 ∷ []

-- all lines that can be printed
abbrev pub printed_lines : List (List ℕ)
printed_lines =
    check_line (Valid Sha1) ∷ check_line (Valid Sha256) ∷ check_line OtherDigest
    ∷ check_line NoIntegrity
    ∷ check_line MalformedIntegrity
    ∷ check_line (NotAMessage Truncated) ∷ check_line (NotAMessage NotStun)
    ∷ check_line (NotAMessage TooLarge) ∷ check_line BadInput ∷ []
