-- A request of the id is built, and signed by the client.
use Rattle.std.proofs.Common.{rules}
use Rattle.stun_proto.proofs.meetings.Typed.{AddingLaws, has_id, has_method}
use Rattle.stun_proto.proofs.meetings.Typed.{if_ok_map, request_added, request_signed}
use Rattle.stun_proto.proofs.replay.negotiation.messages.make_request.Goals as goal

laws : (g : _) (c : goal.After-sign_outgoing_message g) → AddingLaws
laws g c = record {
  added = c.additions_are_read_back.ensures.added;
  server = c.sides_add_by_attribute.ensures.server;
  client = c.sides_add_by_attribute.ensures.client;
  there = c.sides_add_by_attribute.ensures.there;
}

pub returns-clause-answer : goal.returns-clause-answer
returns-clause-answer g c =
    request_signed (laws g c) c.args.id c.args.client.now.state c.in_ok-writer.writer.bytes
    c.sign_outgoing_message.result _ c.in_ok-writer.ensures.bytes
    c.sign_outgoing_message.ensures.answer

pub returns-clause-message : goal.returns-clause-message
returns-clause-message g c =
    if_ok_map c.sign_outgoing_message.result (λ w has. has.is_message)
    (request_added (laws g c) c.args.id c.args.client.now.state c.in_ok-writer.writer.bytes
    c.sign_outgoing_message.result c.in_ok-writer.ensures.bytes c.in_ok-writer.ensures.open
    (request_signed (laws g c) c.args.id c.args.client.now.state c.in_ok-writer.writer.bytes
    c.sign_outgoing_message.result _ c.in_ok-writer.ensures.bytes
    c.sign_outgoing_message.ensures.answer))

pub returns-clause-method : goal.returns-clause-method
returns-clause-method g c =
    if_ok_map c.sign_outgoing_message.result (λ w has. has_method c.args.id _ w.bytes has)
    (request_added (laws g c) c.args.id c.args.client.now.state c.in_ok-writer.writer.bytes
    c.sign_outgoing_message.result c.in_ok-writer.ensures.bytes c.in_ok-writer.ensures.open
    (request_signed (laws g c) c.args.id c.args.client.now.state c.in_ok-writer.writer.bytes
    c.sign_outgoing_message.result _ c.in_ok-writer.ensures.bytes
    c.sign_outgoing_message.ensures.answer))

pub returns-clause-id : goal.returns-clause-id
returns-clause-id g c =
    if_ok_map c.sign_outgoing_message.result
    (λ w has. has_id c.args.id _ w.bytes (search rules) has)
    (request_added (laws g c) c.args.id c.args.client.now.state c.in_ok-writer.writer.bytes
    c.sign_outgoing_message.result c.in_ok-writer.ensures.bytes c.in_ok-writer.ensures.open
    (request_signed (laws g c) c.args.id c.args.client.now.state c.in_ok-writer.writer.bytes
    c.sign_outgoing_message.result _ c.in_ok-writer.ensures.bytes
    c.sign_outgoing_message.ensures.answer))
