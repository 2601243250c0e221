-- `poll` tells the least deadline, and before it nothing is due.
use Rattle.stun_agent.proofs.QuietLemmas.{waits}
use Rattle.stun_agent.proofs.laws.a_poll_tells_how_long_all_is_quiet.Goals as goal

pub returns : goal.returns
returns c = λ now until agent told. waits now until agent told
