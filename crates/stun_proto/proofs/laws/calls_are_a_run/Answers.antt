-- Call by call, replies and servers are those of the run.
use Rattle.stun_proto.proofs.server_runs.ServerLoopLemmas.{built_are_written_so}
use Rattle.stun_proto.proofs.server_runs.ServerLoopLemmas.{calls_are_served, calls_are_validated}
use Rattle.stun_proto.proofs.laws.calls_are_a_run.Goals as goal

pub returns-clause-served : goal.returns-clause-served
returns-clause-served c = calls_are_served

pub returns-clause-validated : goal.returns-clause-validated
returns-clause-validated c = calls_are_validated c.accepted_messages_are_validated.ensures

pub returns-clause-plain : goal.returns-clause-plain
returns-clause-plain c = built_are_written_so
