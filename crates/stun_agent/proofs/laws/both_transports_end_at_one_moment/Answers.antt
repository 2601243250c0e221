-- Over TCP the one wait is the sum of those over UDP.
use Rattle.stun_agent.proofs.ResponseLemmas.{same_end}
use Rattle.stun_agent.proofs.laws.both_transports_end_at_one_moment.Goals as goal

pub returns : goal.returns
returns c = λ settings start. same_end settings start
