-- A success is built, and signed for the address.
use Rattle.std.proofs.Common.{◌≡◌, [], ◌∙◌, ap, subst}
use Rattle.stun_base.specs.Header.{transaction_id_field}
use Rattle.stun_base.specs.MessageType.{type_number}
use Rattle.stun_base.specs.declared.wire.message_type.MessageClass.TheVariants as Class
use Rattle.stun_types.specs.Grammar.{spelled_message}
use Rattle.stun_judging.specs.Additions.{UnlessMemory}
use Rattle.stun_auth.specs.Validation.{sight}
use Rattle.stun_proto.specs.Negotiation.{server_response, success}
use Rattle.stun_proto.specs.code.Signed.{signed_page}
use Rattle.stun_proto.proofs.meetings.Typed.{success_responds}
use Rattle.stun_proto.proofs.replay.negotiation.messages.make_success.Goals as goal

bytes_are : (g : _) (c : goal.After-sign g)
    → c.in_ok-writer.writer.bytes ≡ success (transaction_id_field c.args.request.now)
unfolding success
bytes_are g c =
    c.in_ok-writer.ensures.bytes
    ∙ ap (λ n. spelled_message (type_number Class.Success n)
    (transaction_id_field c.args.request.now) [])
    c.requires

pub sign-requires-clause-open : goal.sign-requires-clause-open
sign-requires-clause-open g c = c.in_ok-writer.ensures.open

pub sign-requires-clause-response : goal.sign-requires-clause-response
unfolding success
sign-requires-clause-response g c =
    success_responds (transaction_id_field c.args.request.now) c.in_ok-writer.writer.bytes
    (c.in_ok-writer.ensures.bytes
    ∙ ap (λ n. spelled_message (type_number Class.Success n)
    (transaction_id_field c.args.request.now) [])
    c.requires)

pub returns-clause-answer : goal.returns-clause-answer
returns-clause-answer g c =
    subst (λ b.
    UnlessMemory c.sign.result
    (signed_page c.sign.result ≡ server_response b (sight c.args.server.now c.args.to)) (Unit {0}))
    (bytes_are g c) c.sign.ensures.answer

pub returns-clause-message : goal.returns-clause-message
returns-clause-message g c = c.sign.ensures.message

pub returns-clause-server : goal.returns-clause-server
returns-clause-server g c = c.sign.ensures.server

pub returns-clause-refused : goal.returns-clause-refused
returns-clause-refused g c = c.sign.ensures.refused
