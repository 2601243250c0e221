-- The counts of what `verify` finds in the messages of an input, and how it ends.
use Rattle.std.specs.Prelude.{◌+◌, ◌-◌, ◌^◌, ℕ, min, nat_lt, ◌==◌, ◌&&◌, if◌then◌else◌}
use Rattle.stun_cli.specs.declared.status.Status.{Status}
use Rattle.stun_cli.specs.declared.status.Status.TheVariants.{Good as Succeeded, Bad}
use Rattle.stun_inspect.specs.declared.found.Found.{Found}
use Rattle.stun_inspect.specs.declared.found.Found.TheVariants.{Good, Invalid, Unsigned}
use Rattle.stun_inspect.specs.declared.found.Found.TheVariants.{NotAMessage}
use Rattle.stun_inspect.specs.declared.tally.Counts.{Counts}

-- one more, up to the greatest number
abbrev pub one_more : ℕ → ℕ
one_more count = min (count + 1) (2 ^ 64 - 1)

-- the counts with one more message, in which this was found
abbrev pub counted : Found → Counts → Counts
counted Good counts = record counts { good = one_more counts.good }
counted Invalid counts = record counts { invalid = one_more counts.invalid }
counted Unsigned counts = record counts { unsigned = one_more counts.unsigned }
counted NotAMessage counts = record counts { not_messages = one_more counts.not_messages }

-- the status: good if at least one signature is valid, no signature is invalid, and there are no
-- bytes that only look like a message. Unsigned messages do not matter
abbrev pub status_of_counts : Counts → Status
status_of_counts counts =
    if nat_lt 0 counts.good && (counts.invalid == 0) && (counts.not_messages == 0) then Succeeded
    else Bad
