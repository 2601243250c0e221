-- A request is sent at its next prefix sum, since the run wakes up for it.
use Rattle.stun_proto.proofs.agent_runs.Once.{driven_by_plan}
use Rattle.stun_proto.proofs.laws.runs_send_by_plan.Goals as goal

pub returns : goal.returns
returns c = driven_by_plan
