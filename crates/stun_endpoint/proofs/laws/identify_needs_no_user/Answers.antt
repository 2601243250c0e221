-- Where nobody is waited for, each verdict is the same for all users.
use Rattle.stun_endpoint.proofs.IdentifiedLemmas.{done_for_all}
use Rattle.stun_endpoint.proofs.laws.identify_needs_no_user.Goals as goal

pub returns : goal.returns
returns c = λ s from now bytes outcome. done_for_all s from now bytes outcome
