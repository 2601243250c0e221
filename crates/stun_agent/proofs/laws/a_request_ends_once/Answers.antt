-- What ends a request takes it out, and its id comes back only with a new one.
use Rattle.stun_agent.proofs.OnceLemmas.{ends_once}
use Rattle.stun_agent.proofs.laws.a_request_ends_once.Goals as goal

pub returns : goal.returns
returns c = λ id calls start none. ends_once id calls start none
