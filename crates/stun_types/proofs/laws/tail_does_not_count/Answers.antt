-- The deciding attribute and all that it signs come before the tail.
use Rattle.stun_types.proofs.TailLemmas.{verified_by-tail}
use Rattle.stun_types.proofs.laws.tail_does_not_count.Goals as goal

pub returns : goal.returns
returns c = verified_by-tail
