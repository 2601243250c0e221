-- No moment is awaited before the one that `poll` has told.
use Rattle.stun_proto.proofs.agent_runs.AgentLoopLemmas.{loops_are_driven, loops_exist}
use Rattle.stun_proto.proofs.agent_runs.AgentLoopLemmas.{loops_send_by_plan}
use Rattle.stun_proto.proofs.laws.loops_are_driven.Goals as goal

pub returns-clause-driven : goal.returns-clause-driven
returns-clause-driven c = loops_are_driven

pub returns-clause-plans : goal.returns-clause-plans
returns-clause-plans c = loops_send_by_plan

pub returns-clause-exist : goal.returns-clause-exist
returns-clause-exist c = loops_exist
