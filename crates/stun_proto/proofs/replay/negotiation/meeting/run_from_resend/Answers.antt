-- The second request is signed and read; the clause of the call that is made then says what
-- follows.
use Rattle.std.proofs.Common.{◌≡◌, inl, inr, length, arith, refl, sym, ◌∙◌, ap, subst, Ok, Err}
use Rattle.std.proofs.lemmas.List.{take_all}
use Rattle.std.specs.Prelude.{IsOk}
use Rattle.stun_base.specs.Header.{transaction_id_field, type_field}
use Rattle.stun_base.specs.MessageType.{method_of}
use Rattle.stun_types.specs.Message.{IsMessage}
use Rattle.stun_auth.specs.declared.server.reason.LongTermServerValidation.TheVariants.{Validated}
use Rattle.stun_judging.specs.Additions.{page_of}
use Rattle.stun_auth.specs.Client.{ClientSide}
use Rattle.stun_judging.specs.Reading.{reading_of}
use Rattle.stun_auth.specs.Validation.{ServerSeen, after_validation, answer, sight}
use Rattle.stun_proto.specs.code.FirstAnswers.{answer_of}
use Rattle.stun_proto.specs.code.Meetings.{meeting_of}
use Rattle.stun_proto.specs.code.Sides.{IsRun}
use Rattle.stun_proto.specs.Negotiation.{client_request, ending_with, second_answered, second_asked}
use Rattle.stun_proto.specs.Negotiation.{ending_unwritten}
use Rattle.stun_proto.specs.Serving.{after_calls}
use Rattle.stun_proto.specs.Sides.{PassesAccepted, PassesResend, sides}
use Rattle.stun_proto.specs.declared.replay.negotiation.Outcome.TheVariants.{ServerRefused}
use Rattle.stun_proto.proofs.meetings.Runs.{ends, goes_on, not_memory, refused, stops}
use Rattle.stun_proto.proofs.replay.negotiation.meeting.run_from_resend.Goals as goal

pub parse_message-again-requires : goal.parse_message-again-requires
parse_message-again-requires g c = subst IsMessage (sym c.data.ensures) c.in_ok-proven.ensures.message

pub returns-in_err-proven-clause-run : goal.returns-in_err-proven-clause-run
returns-in_err-proven-clause-run g c =
    let k = c.args.client.now in
    let s = c.args.server.now in
    let m = meeting_of k.settings c.args.meeting.now in
    let stays = c.in_err-proven.ensures.stays in
    refused c.from_residual.result c.in_err-proven.field-0.0 (client_request m.second.id k.state)
    (second_asked m k.state s) (PassesResend m k.state s) c.from_residual.ensures.1
    c.in_err-proven.ensures.answer
    (λ x i. ending_unwritten x (sym stays i).state s) (inl (λ i. sides (stays i).state s))

pub returns-in_err-serve-clause-run : goal.returns-in_err-serve-clause-run
returns-in_err-serve-clause-run g c =
    let k = c.args.client.now in
    let s = c.args.server.now in
    let m = meeting_of k.settings c.args.meeting.now in
    let stopped = c.in_err-serve.ensures.stopped in
    stops c.from_residual-in_err-serve.result _ (PassesResend m k.state s)
    c.from_residual-in_err-serve.ensures.1
    (inr (
      page_of c.in_ok-proven.proven.bytes,
      sym c.in_ok-proven.ensures.answer,
      inl (
        c.in_err-serve.field-0.0.done,
        stopped.0,
        λ i. sides (c.in_ok-proven.ensures.stays i).state (stopped.1 i),
      ),
    ))

pub returns-in_err-verdict-clause-run : goal.returns-in_err-verdict-clause-run
returns-in_err-verdict-clause-run g c =
    let k = c.args.client.now in
    let s = c.args.server.now in
    let m = meeting_of k.settings c.args.meeting.now in
    let calls = m.second.before in
    let left = c.in_err-verdict.ensures.err ∙ c.in_ok-serve.ensures.server
    ∙ ap (after_calls s) (sym (take_all (length calls) calls (omega arith))) in
    stops c.from_residual-in_err-verdict.result _ (PassesResend m k.state s)
    c.from_residual-in_err-verdict.ensures.1
    (inr (
      page_of c.in_ok-proven.proven.bytes,
      sym c.in_ok-proven.ensures.answer,
      inl (length calls, omega arith, λ i. sides (c.in_ok-proven.ensures.stays i).state (left i)),
    ))

pub returns-clause-run : goal.returns-clause-run
returns-clause-run g c =
    let k = c.args.client.now in
    let s = c.args.server.now in
    let meeting = c.args.meeting.now in
    let m = meeting_of k.settings meeting in
    let t = after_validation (after_calls s m.second.before) m.from m.second.now m.second.words
    (reading_of c.in_ok-proven.proven.bytes) in
    let read = c.parse_message-again.ensures ∙ c.data.ensures in
    let called = c.in_ok-serve.ensures.server in
    let left = c.in_ok-verdict.ensures.server
    ∙ (λ i. after_validation (called i) m.from m.second.now m.second.words (reading_of (read i))) in
    let told = c.in_ok-verdict.ensures.answer
    ∙ (λ i. answer (sight (called i) m.from) m.second.now m.second.words (reading_of (read i))) in
    let given : answer_of c.in_ok-verdict.verdict ≡ Err c.in-Err.reason =
    ap answer_of c.in-Err.is in
    ends (ServerRefused c.in-Err.reason) (PassesResend m k.state s)
    ((λ i. ending_with (ServerRefused c.in-Err.reason) (c.in_ok-proven.ensures.stays i).state
    (left i))
    ∙ ap (second_answered m k.state t) (sym given ∙ told)
    ∙ ap (second_asked m k.state s) c.in_ok-proven.ensures.answer)

pub run_from_success-requires-clause-method : goal.run_from_success-requires-clause-method
run_from_success-requires-clause-method g c =
    ap (λ b. method_of (type_field b)) (c.parse_message-again.ensures ∙ c.data.ensures)
    ∙ c.in_ok-proven.ensures.method

pub run_from_success-requires-clause-id : goal.run_from_success-requires-clause-id
run_from_success-requires-clause-id g c =
    ap transaction_id_field (c.parse_message-again.ensures ∙ c.data.ensures)
    ∙ c.in_ok-proven.ensures.id

pub returns-in-Ok-clause-run : goal.returns-in-Ok-clause-run
returns-in-Ok-clause-run g c =
    let k = c.args.client.now in
    let s = c.args.server.now in
    let meeting = c.args.meeting.now in
    let m = meeting_of k.settings meeting in
    let t = after_validation (after_calls s m.second.before) m.from m.second.now m.second.words
    (reading_of c.in_ok-proven.proven.bytes) in
    let read = c.parse_message-again.ensures ∙ c.data.ensures in
    let called = c.in_ok-serve.ensures.server in
    let left = c.in_ok-verdict.ensures.server
    ∙ (λ i. after_validation (called i) m.from m.second.now m.second.words (reading_of (read i))) in
    let told = c.in_ok-verdict.ensures.answer
    ∙ (λ i. answer (sight (called i) m.from) m.second.now m.second.words (reading_of (read i))) in
    let r = c.run_from_success.result in
    let a = c.in-Ok.algorithm in
    let given : answer_of c.in_ok-verdict.verdict ≡ Ok (Validated a) = ap answer_of c.in-Ok.is in
    let is = sym given ∙ told in
    goes_on r (PassesResend m k.state s) (PassesAccepted m k.state t)
    (ap (second_answered m k.state t) is
    ∙ ap (second_asked m k.state s) c.in_ok-proven.ensures.answer)
    (λ x later.
    inr (
      page_of c.in_ok-proven.proven.bytes,
      sym c.in_ok-proven.ensures.answer,
      inr (subst (λ o. IsOk o) is refl, later),
    ))
    (subst (λ (p : ClientSide × ServerSeen). let n = meeting_of p.0.settings meeting in
    IsRun r c.run_from_success.new.client.state c.run_from_success.new.server
    (second_answered n p.0.state p.1 (Ok (Validated a))) (PassesAccepted n p.0.state p.1))
    (λ i. (c.in_ok-proven.ensures.stays i, left i)) c.run_from_success.ensures.run)

pub returns-in_err-proven-clause-granted : goal.returns-in_err-proven-clause-granted
returns-in_err-proven-clause-granted g c = λ grants.
    not_memory c.from_residual.result c.in_err-proven.field-0.0 c.from_residual.ensures.1
    (c.in_err-proven.ensures.granted grants)
