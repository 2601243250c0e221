-- What was noted so far, with the attributes that are left, gives the last ones of the message.
use Rattle.std.proofs.Common.{◌≡◌}
use Rattle.stun_types.specs.Visible.{visible}
use Rattle.stun_judging.specs.code.LastAttributes.{last_attributes}
use Rattle.stun_judging.proofs.ReadingLemmas.{noted_from}
use Rattle.stun_judging.proofs.reading.LastAttributes.of.Given as goal

abbrev pub invariant-loop-place : goal.invariant-loop-place
invariant-loop-place l = noted_from l.last l.place-iterator ≡ last_attributes (visible l.message)
