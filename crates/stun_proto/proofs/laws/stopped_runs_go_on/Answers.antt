-- What a stop leaves awaits no moment before the next event's, so nothing is turned twice.
use Rattle.stun_proto.proofs.agent_runs.GoingOn.{runs_end, runs_go_on}
use Rattle.stun_proto.proofs.agent_runs.GoingOn.{runs_have_the_rest, runs_stop_again}
use Rattle.stun_proto.proofs.laws.stopped_runs_go_on.Goals as goal

pub returns-clause-left : goal.returns-clause-left
returns-clause-left c = runs_go_on

pub returns-clause-parts : goal.returns-clause-parts
returns-clause-parts c = runs_have_the_rest

pub returns-clause-again : goal.returns-clause-again
returns-clause-again c = runs_stop_again

pub returns-clause-complete : goal.returns-clause-complete
returns-clause-complete c = runs_end
