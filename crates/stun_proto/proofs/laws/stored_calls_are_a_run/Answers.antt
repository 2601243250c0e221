-- Call by call, replies and servers are those of the run of the server that has all users.
use Rattle.stun_proto.proofs.server_runs.DatabaseLemmas.{NamedIsEnough, stored_calls_are_served}
use Rattle.stun_proto.proofs.server_runs.StoredExample.{one_is_stored}
use Rattle.stun_proto.proofs.laws.stored_calls_are_a_run.Goals as goal

enough : (c : goal.After-the_named_user_is_enough) → NamedIsEnough
enough c = record {
  answer = c.the_named_user_is_enough.ensures.answer;
  state = c.the_named_user_is_enough.ensures.state;
}

pub returns-clause-served : goal.returns-clause-served
returns-clause-served c =
    stored_calls_are_served (enough c) c.accepted_messages_are_validated.ensures

pub returns-clause-exist : goal.returns-clause-exist
returns-clause-exist c = one_is_stored
