-- What `list` prints.
use Rattle.std.specs.Prelude.{◌≡◌, ℕ, List, Option, Some, None}
use Rattle.std.specs.Io.KnownBytes.{Appends}
use Rattle.stun_base.specs.declared.wire.error.StunParseError.{StunParseError}
use Rattle.stun_cli.specs.Line.{IsLine}
use Rattle.stun_cli.specs.declared.status.Status.{Status}
use Rattle.stun_cli.specs.declared.status.Status.TheVariants.{Good, Bad}
use Rattle.stun_types.specs.Message.{refusal}

-- the status is good for a message, and bad for bytes that are not one
abbrev pub status_of_refusal : Option StunParseError → Status
status_of_refusal None = Good
status_of_refusal (Some error) = Bad

-- one line is printed for these bytes, whether they are a message or not
abbrev pub PrintsListed : List ℕ → Status → Option (List ℕ) → Option (List ℕ) → Type 0
PrintsListed bytes status before after =
    (status ≡ status_of_refusal (refusal bytes)) × (line : List ℕ) × IsLine line
    × Appends before after line
