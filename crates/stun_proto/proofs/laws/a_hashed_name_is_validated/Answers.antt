-- The premises are looked at one by one; no digest is computed.
use Rattle.stun_proto.proofs.meetings.ExampleLemmas.{agrees, is_ready_client}
use Rattle.stun_proto.proofs.server_runs.ServedExample.{MessageLaws, is_served}
use Rattle.stun_proto.proofs.laws.a_hashed_name_is_validated.Goals as goal

pub returns-clause-ready : goal.returns-clause-ready
returns-clause-ready c = is_ready_client

pub returns-clause-validated : goal.returns-clause-validated
returns-clause-validated c =
    λ from words more few.
    agrees from words more c.short_names_are_signed.ensures c.strongest_is_agreed.ensures few

messages : (c : goal.After-sides_add_by_attribute) → MessageLaws
messages c = record {
  bare = c.built_messages_can_be_signed.ensures.bare;
  added = c.additions_are_read_back.ensures.added;
  client = c.sides_add_by_attribute.ensures.client;
}

pub returns-clause-served : goal.returns-clause-served
returns-clause-served c =
    λ from words more few.
    is_served (messages c) c.short_names_are_signed.ensures c.strongest_is_agreed.ensures from words
    more few
