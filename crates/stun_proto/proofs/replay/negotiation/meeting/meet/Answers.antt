-- The first request is signed and read; the clause of the call that is made then says what follows.
use Rattle.std.proofs.Common.{inl, inr, sym, ◌∙◌, ap, subst, Err}
use Rattle.stun_base.specs.Header.{transaction_id_field, type_field}
use Rattle.stun_base.specs.MessageType.{method_of}
use Rattle.stun_types.specs.Message.{IsMessage}
use Rattle.stun_auth.specs.declared.server.reason.LongTermServerAuthErrorReason.TheVariants.{
  Unauthorized,
}
use Rattle.stun_judging.specs.Additions.{page_of}
use Rattle.stun_auth.specs.Client.{ClientSide}
use Rattle.stun_judging.specs.Reading.{reading_of}
use Rattle.stun_auth.specs.Validation.{ServerSeen, after_validation, answer, sight}
use Rattle.stun_proto.specs.code.Meetings.{meeting_of}
use Rattle.stun_proto.specs.code.Sides.{IsRun}
use Rattle.stun_proto.specs.Negotiation.{client_request, ending_with, first_answered, first_asked}
use Rattle.stun_proto.specs.Negotiation.{ending_unwritten}
use Rattle.stun_proto.specs.Sides.{Passes, PassesUnauthorized, sides}
use Rattle.stun_proto.proofs.meetings.Runs.{ended_by, ends, first_ends}
use Rattle.stun_proto.proofs.meetings.Runs.{goes_on, not_ended, not_memory, refused, stops}
use Rattle.stun_proto.proofs.replay.negotiation.meeting.meet.Goals as goal

pub parse_message-asked-requires : goal.parse_message-asked-requires
parse_message-asked-requires g c =
    subst IsMessage (sym c.data.ensures) c.in_ok-unproven.ensures.message

pub returns-in_err-unproven-clause-run : goal.returns-in_err-unproven-clause-run
returns-in_err-unproven-clause-run g c =
    let k = c.args.client.now in
    let s = c.args.server.now in
    let m = meeting_of k.settings c.args.meeting.now in
    let stays = c.in_err-unproven.ensures.stays in
    refused c.from_residual.result c.in_err-unproven.field-0.0 (client_request m.first.id k.state)
    (first_asked m k.state s) (Passes m k.state s) c.from_residual.ensures.1
    c.in_err-unproven.ensures.answer
    (λ x i. ending_unwritten x (sym stays i).state s) (inl (λ i. sides (stays i).state s))

pub returns-in_err-answer-clause-run : goal.returns-in_err-answer-clause-run
returns-in_err-answer-clause-run g c =
    let k = c.args.client.now in
    let s = c.args.server.now in
    let m = meeting_of k.settings c.args.meeting.now in
    stops c.from_residual-in_err-answer.result _ (Passes m k.state s)
    c.from_residual-in_err-answer.ensures.1
    (inl (λ i. sides (c.in_ok-unproven.ensures.stays i).state (c.in_err-answer.ensures.err i)))

pub returns-in-Some-clause-run : goal.returns-in-Some-clause-run
returns-in-Some-clause-run g c =
    let k = c.args.client.now in
    let s = c.args.server.now in
    let m = meeting_of k.settings c.args.meeting.now in
    let t = after_validation s m.from m.first.now m.first.words
    (reading_of c.in_ok-unproven.unproven.bytes) in
    let read = c.parse_message-asked.ensures ∙ c.data.ensures in
    let left = c.in_ok-answer.ensures.server
    ∙ (λ i. after_validation s m.from m.first.now m.first.words (reading_of (read i))) in
    let told = c.in_ok-answer.ensures.answer
    ∙ (λ i. answer (sight s m.from) m.first.now m.first.words (reading_of (read i))) in
    ends c.in-Some.outcome (Passes m k.state s)
    ((λ i. ending_with c.in-Some.outcome (c.in_ok-unproven.ensures.stays i).state (left i))
    ∙ ended_by _ _ _ c.in-Some.outcome (sym c.to_first_outcome.ensures ∙ c.in-Some.is)
    (first_ends m k.state t c.in_ok-answer.answer)
    ∙ ap (first_answered m k.state t) told
    ∙ ap (first_asked m k.state s) c.in_ok-unproven.ensures.answer)

pub run_from_challenge-requires-clause-method : goal.run_from_challenge-requires-clause-method
run_from_challenge-requires-clause-method g c =
    ap (λ b. method_of (type_field b)) (c.parse_message-asked.ensures ∙ c.data.ensures)
    ∙ c.in_ok-unproven.ensures.method

pub run_from_challenge-requires-clause-id : goal.run_from_challenge-requires-clause-id
run_from_challenge-requires-clause-id g c =
    ap transaction_id_field (c.parse_message-asked.ensures ∙ c.data.ensures)
    ∙ c.in_ok-unproven.ensures.id

pub returns-clause-run : goal.returns-clause-run
returns-clause-run g c =
    let k = c.args.client.now in
    let s = c.args.server.now in
    let meeting = c.args.meeting.now in
    let m = meeting_of k.settings meeting in
    let t = after_validation s m.from m.first.now m.first.words
    (reading_of c.in_ok-unproven.unproven.bytes) in
    let read = c.parse_message-asked.ensures ∙ c.data.ensures in
    let left = c.in_ok-answer.ensures.server
    ∙ (λ i. after_validation s m.from m.first.now m.first.words (reading_of (read i))) in
    let told = c.in_ok-answer.ensures.answer
    ∙ (λ i. answer (sight s m.from) m.first.now m.first.words (reading_of (read i))) in
    let r = c.run_from_challenge.result in
    let is =
    not_ended _ _ _ (sym c.to_first_outcome.ensures ∙ c.in-None.is)
    (first_ends m k.state t c.in_ok-answer.answer) ∙ told in
    goes_on r (Passes m k.state s) (PassesUnauthorized m k.state t)
    (ap (first_answered m k.state t) is
    ∙ ap (first_asked m k.state s) c.in_ok-unproven.ensures.answer)
    (λ x later.
    inr (
      page_of c.in_ok-unproven.unproven.bytes,
      sym c.in_ok-unproven.ensures.answer,
      sym is,
      later,
    ))
    (subst (λ (p : ClientSide × ServerSeen). let n = meeting_of p.0.settings meeting in
    IsRun r c.run_from_challenge.new.client.state c.run_from_challenge.new.server
    (first_answered n p.0.state p.1 (Err Unauthorized)) (PassesUnauthorized n p.0.state p.1))
    (λ i. (c.in_ok-unproven.ensures.stays i, left i)) c.run_from_challenge.ensures.run)

pub returns-in_err-unproven-clause-granted : goal.returns-in_err-unproven-clause-granted
returns-in_err-unproven-clause-granted g c = λ grants.
    not_memory c.from_residual.result c.in_err-unproven.field-0.0 c.from_residual.ensures.1
    (c.in_err-unproven.ensures.granted grants)
