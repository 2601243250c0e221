-- How often an input is read, and why reading it fails.
use Rattle.std.specs.Prelude.{◌≡◌, ◌≢◌, ◌<◌, ◌+◌, ◌-◌, ◌^◌, ◌⊎◌, ◌++◌, ⊤, ℕ, List}
use Rattle.std.specs.Prelude.{Bool, true, Option, Result, IfSome, MatchResult, length, min}
use Rattle.std.specs.IoError.{error_kind}
use Rattle.std.specs.declared.io.Error.{Error}
use Rattle.std.specs.declared.io.ErrorKind.TheVariants.{Interrupted}
use Rattle.std.specs.Io.KnownBytes.{Consumes}
use Rattle.stun_cli.specs.declared.failure.Failure.{Failure}
use Rattle.stun_cli.specs.declared.failure.Failure.TheVariants.{Io, Memory, NoEnd}

-- the greatest number of reads of a command
abbrev pub most_tries : ℕ
most_tries = 1048576

-- the number of reads after this many further reads; the count stops at 2 ^ 32 - 1
abbrev pub asked_after : ℕ → ℕ → ℕ
asked_after reads asked = min (asked + reads) (2 ^ 32 - 1)

-- a read failed. A read that was interrupted does not count as failed, because it is repeated
abbrev pub IsFailed : Result ℕ Error → Type 0
IsFailed read = MatchResult read (λ _. ⊥) (λ error. error_kind error ≢ Interrupted)

-- the reason why a reader that had these bytes left is not read to its end: its last read failed,
-- it had more bytes than allowed, or it was read as often as allowed. An allocation may fail at any
-- time
abbrev pub IsReason : Failure → ℕ → Option (List ℕ) → ℕ → ℕ → Bool → Type 0
IsReason Io most given asked asked_now failed = failed ≡ true
IsReason NoEnd most given asked asked_now failed =
    IfSome given (λ input. most < length input) ⊎ (asked_now ≡ asked_after most_tries asked)
IsReason Memory most given asked asked_now failed = ⊤

-- the reason why reading on fails: the last read failed, or the reader was read as often as
-- allowed. An allocation may fail at any time
abbrev pub IsReasonOfReads : Failure → ℕ → ℕ → Bool → Type 0
IsReasonOfReads Io asked asked_now failed = failed ≡ true
IsReasonOfReads NoEnd asked asked_now failed = asked_now ≡ asked_after most_tries asked
IsReasonOfReads Memory asked asked_now failed = ⊤

-- the reason why the rest of a reader is not read: the last read failed, the bytes before and the
-- rest together are more than allowed, or the reader was read as often as allowed, where each byte
-- before counts as a read. An allocation may fail at any time
abbrev pub IsReasonOfRest : Failure → ℕ → List ℕ → Option (List ℕ) → ℕ → ℕ → Bool → Type 0
IsReasonOfRest Io most before given asked asked_now failed = failed ≡ true
IsReasonOfRest NoEnd most before given asked asked_now failed =
    IfSome given (λ rest. most < length before + length rest)
    ⊎ (length before < most_tries → asked_now ≡ asked_after (most_tries - length before) asked)
IsReasonOfRest Memory most before given asked asked_now failed = ⊤

-- the bytes of the reader were appended to those before
pub record IsReadOn (given rest : Option (List ℕ)) (before bytes : List ℕ) : Type 0 where
  pub read : List ℕ
  pub consumed : Consumes given rest read
  pub follows : bytes ≡ before ++ read
