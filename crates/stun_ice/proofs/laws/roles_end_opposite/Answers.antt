-- The agents are followed from event to event. The instance computes.
use Rattle.std.proofs.Common.{refl}
use Rattle.stun_ice.proofs.ConflictLemmas.{settles, stay_apart}
use Rattle.stun_ice.proofs.laws.roles_end_opposite.Goals as goal

pub returns-clause-settle : goal.returns-clause-settle
returns-clause-settle c = λ role left right. settles role left right

pub returns-clause-stay : goal.returns-clause-stay
returns-clause-stay c = λ role left right. stay_apart role left right

pub returns-clause-instance : goal.returns-clause-instance
returns-clause-instance c = (refl, refl, refl, refl)
