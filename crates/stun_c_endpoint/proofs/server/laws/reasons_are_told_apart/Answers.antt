-- Each pair of numbers is that of one reason.
use Rattle.stun_c_endpoint.proofs.ReasonLemmas.{reasons_apart}
use Rattle.stun_c_endpoint.proofs.server.laws.reasons_are_told_apart.Goals as goal

pub returns : goal.returns
returns c = λ one other r before why code. reasons_apart one other why code
