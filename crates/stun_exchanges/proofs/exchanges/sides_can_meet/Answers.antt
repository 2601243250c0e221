-- A server with one user can meet a client of this user.
use Rattle.stun_exchanges.proofs.InstanceLemmas.{sides_can_meet as can_meet}
use Rattle.stun_exchanges.proofs.exchanges.sides_can_meet.Goals as goal

pub returns : goal.returns
returns c = can_meet
