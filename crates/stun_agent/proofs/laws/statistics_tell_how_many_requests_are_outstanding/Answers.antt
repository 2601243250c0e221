-- A request is counted as it is kept and as it ends, so the difference is what is left.
use Rattle.stun_agent.proofs.CountLemmas.{still_tells}
use Rattle.stun_agent.proofs.laws.statistics_tell_how_many_requests_are_outstanding.Goals as goal

pub returns : goal.returns
returns c = λ call agent told. still_tells call agent told
