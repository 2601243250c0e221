-- A request that nothing touches keeps its schedule over each step.
use Rattle.stun_proto.proofs.agent_runs.Driven.{driven_keeps_plans}
use Rattle.stun_proto.proofs.laws.runs_keep_plans.Goals as goal

pub returns : goal.returns
returns c = driven_keeps_plans
