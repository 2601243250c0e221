-- A response is signed for its address, and what is added is visible.
use Rattle.std.proofs.Common.{◌≡◌, Bool, subst, OnOk}
use Rattle.stun_auth.specs.ServerSigning.{after_signing}
use Rattle.stun_auth.specs.Validation.{sight}
use Rattle.stun_proto.specs.Negotiation.{server_response}
use Rattle.stun_proto.proofs.meetings.Typed.{AddingLaws, if_ok_map}
use Rattle.stun_proto.proofs.meetings.Typed.{response_signed, server_has_added}
use Rattle.stun_proto.proofs.replay.negotiation.messages.sign.Goals as goal

laws : (g : _) (c : goal.After-sign_outgoing_message g) → AddingLaws
laws g c = record {
  added = c.additions_are_read_back.ensures.added;
  server = c.sides_add_by_attribute.ensures.server;
  client = c.sides_add_by_attribute.ensures.client;
  there = c.sides_add_by_attribute.ensures.there;
}

pub returns-clause-answer : goal.returns-clause-answer
unfolding server_response
returns-clause-answer g c =
    response_signed (laws g c) (sight c.args.server.now c.args.to) c.args.writer.bytes _
    c.sign_outgoing_message.result _ c.requires.response c.sign_outgoing_message.ensures.answer

pub returns-clause-message : goal.returns-clause-message
returns-clause-message g c =
    let s = sight c.args.server.now c.args.to in
    if_ok_map c.sign_outgoing_message.result (λ w has. has.1.is_message)
    (server_has_added (laws g c) c.sign_outgoing_message.result _ s c.args.writer.bytes
    c.requires.open
    (response_signed (laws g c) s c.args.writer.bytes _ c.sign_outgoing_message.result _
    c.requires.response c.sign_outgoing_message.ensures.answer))

pub returns-clause-server : goal.returns-clause-server
returns-clause-server g c =
    subst (λ (b : Bool).
    OnOk c.sign_outgoing_message.result
    (c.sign_outgoing_message.new.self ≡ after_signing c.args.server.now c.args.to b))
    c.requires.response c.sign_outgoing_message.ensures.signed
