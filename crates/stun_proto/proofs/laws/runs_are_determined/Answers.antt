-- In each state one step is possible.
use Rattle.stun_proto.proofs.agent_runs.RunLemmas.{driven_same, run_determined}
use Rattle.stun_proto.proofs.laws.runs_are_determined.Goals as goal

pub returns-clause-driven : goal.returns-clause-driven
returns-clause-driven c = driven_same

pub returns-clause-throughout : goal.returns-clause-throughout
returns-clause-throughout c = run_determined
