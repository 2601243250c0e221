-- A number of 8 bytes: those of the other sizes are found by themselves.
use Rattle.std.proofs.Common.{rules}
use Rattle.stun_c.proofs.number.add_number.Goals as goal

pub returns-in_default : goal.returns-in_default
returns-in_default c = record { answer = search rules; written = search rules }
