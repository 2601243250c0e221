-- What `verify` prints.
use Rattle.std.specs.Prelude.{◌≡◌, ℕ, List, ◌++◌, Option}
use Rattle.std.specs.Io.KnownBytes.{Appends}
use Rattle.stun_cli.specs.declared.status.Status.{Status}
use Rattle.stun_cli.specs.declared.verdict.Verdict.{Verdict}
use Rattle.stun_cli.specs.Verdict.{status_of}
use Rattle.stun_inspect.specs.Verdict.{verify_line}

-- the line for the verdict is printed, and perhaps notes after it
abbrev pub PrintsWithNotes : Verdict → Option (List ℕ) → Option (List ℕ) → Type 0
PrintsWithNotes verdict before after =
    (notes : List ℕ) × Appends before after (verify_line verdict ++ notes)

-- the same, and the status is that of the verdict
abbrev pub PrintsVerdictAndNotes : Verdict → Status → Option (List ℕ) → Option (List ℕ) → Type 0
PrintsVerdictAndNotes verdict status before after =
    (status ≡ status_of verdict) × PrintsWithNotes verdict before after
