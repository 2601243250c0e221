-- The client's step is of the message that the bytes are.
use Rattle.std.proofs.Common.{◌≡◌, ◌∙◌, ap, subst, Ok, Err, List, ℕ}
use Rattle.std.specs.Prelude.{IsErr}
use Rattle.stun_auth.specs.ClientStep.{ClientAnswer, ForClientReason, IsResend, client_step}
use Rattle.stun_judging.specs.Reading.{reading_of}
use Rattle.stun_auth.specs.declared.client.answer.LongTermClientAuthErrorReason.{
  LongTermClientAuthErrorReason,
}
use Rattle.stun_proto.proofs.meetings.Heard.{either_client, off_told, off_untold}
use Rattle.stun_proto.proofs.meetings.Heard.{on_told, on_untold, told, untold}
use Rattle.stun_proto.proofs.replay.negotiation.messages.read.Goals as goal

pub parse_message-response-requires : goal.parse_message-response-requires
parse_message-response-requires g c = c.requires

pub returns-in-Ok-clause-answer : goal.returns-in-Ok-clause-answer
returns-in-Ok-clause-answer g c =
    let k = c.args.client.now in
    c.in-Ok.ensures.answer
    ∙ ap (λ m. (client_step k.settings k.state (reading_of m)).answer) c.parse_message-response.ensures

pub returns-in-Ok-clause-client : goal.returns-in-Ok-clause-client
returns-in-Ok-clause-client g c =
    let k = c.args.client.now in
    c.in-Ok.ensures.state
    ∙ ap (λ m. record k { state = (client_step k.settings k.state (reading_of m)).state })
    c.parse_message-response.ensures

pub returns-in-Err-clause-answer : goal.returns-in-Err-clause-answer
returns-in-Err-clause-answer g c =
    let k = c.args.client.now in
    let reason = c.in-Err.error in
    let right : ClientAnswer =
    (client_step k.settings k.state (reading_of c.args.bytes.now)).answer in
    let P : LongTermClientAuthErrorReason → Type 0 =
    λ r. ForClientReason r (c.to_client_refusal.result ≡ Ok (Err r)) (IsErr c.to_client_refusal.result) in
    either_client reason
    (λ given is.
    told c.to_client_refusal.result (Err reason) right given
    (is ∙ ap (λ m. (client_step k.settings k.state (reading_of m)).answer)
    c.parse_message-response.ensures))
    (λ none is. untold c.to_client_refusal.result right none)
    (subst P c.reason.ensures c.to_client_refusal.ensures) c.in-Err.ensures.answer

pub returns-in-Err-clause-client : goal.returns-in-Err-clause-client
returns-in-Err-clause-client g c =
    let k = c.args.client.now in
    let reason = c.in-Err.error in
    let P : LongTermClientAuthErrorReason → Type 0 =
    λ r. ForClientReason r (c.to_client_refusal.result ≡ Ok (Err r)) (IsErr c.to_client_refusal.result) in
    either_client reason
    (λ given is.
    on_told c.to_client_refusal.result (Err reason) _ given
    (is ∙ ap (λ m. record k { state = (client_step k.settings k.state (reading_of m)).state })
    c.parse_message-response.ensures))
    (λ none is. on_untold c.to_client_refusal.result _ none)
    (subst P c.reason.ensures c.to_client_refusal.ensures) c.in-Err.ensures.state

pub returns-in-Err-clause-err : goal.returns-in-Err-clause-err
returns-in-Err-clause-err g c =
    let reason = c.in-Err.error in
    let P : LongTermClientAuthErrorReason → Type 0 =
    λ r. ForClientReason r (c.to_client_refusal.result ≡ Ok (Err r)) (IsErr c.to_client_refusal.result) in
    either_client reason
    (λ given is. off_told c.to_client_refusal.result (Err reason) _ given)
    (λ none is. off_untold c.to_client_refusal.result _ is)
    (subst P c.reason.ensures c.to_client_refusal.ensures) c.in-Err.ensures.state

pub returns-in-Err-clause-memory : goal.returns-in-Err-clause-memory
returns-in-Err-clause-memory g c =
    let k = c.args.client.now in
    let reason = c.in-Err.error in
    let Resends : List ℕ
    → Type 0 = λ m. IsResend (client_step k.settings k.state (reading_of m)).answer in
    let P : LongTermClientAuthErrorReason → Type 0 =
    λ r. ForClientReason r (c.to_client_refusal.result ≡ Ok (Err r)) (IsErr c.to_client_refusal.result) in
    either_client reason
    (λ given is. off_told c.to_client_refusal.result (Err reason) _ given)
    (λ none is.
    off_untold c.to_client_refusal.result _ (subst Resends c.parse_message-response.ensures is))
    (subst P c.reason.ensures c.to_client_refusal.ensures) c.in-Err.ensures.answer
