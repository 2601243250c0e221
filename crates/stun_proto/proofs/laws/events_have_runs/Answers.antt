-- Each event has a step, so the events have a run.
use Rattle.stun_proto.proofs.agent_runs.Existence.{events_have_runs}
use Rattle.stun_proto.proofs.laws.events_have_runs.Goals as goal

pub returns : goal.returns
returns c = events_have_runs
