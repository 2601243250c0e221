-- The counters of the agent are those of its steps.
use Rattle.stun_proto.proofs.agent_runs.Counting.{runs_count_steps}
use Rattle.stun_proto.proofs.laws.runs_count_steps.Goals as goal

pub returns : goal.returns
returns c = runs_count_steps
