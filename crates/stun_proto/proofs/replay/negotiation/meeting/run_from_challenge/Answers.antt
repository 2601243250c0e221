-- The challenge is signed and read; the clause of the call that is made then says what follows.
use Rattle.std.proofs.Common.{◌≡◌, inl, inr, length, take, true, arith, sym, ◌∙◌, ap, subst, Err}
use Rattle.std.proofs.lemmas.List.{take_all}
use Rattle.stun_types.specs.Message.{IsMessage}
use Rattle.stun_types.specs.WriteVec.{Written}
use Rattle.stun_judging.specs.Additions.{UnlessMemory, page_of}
use Rattle.stun_auth.specs.Client.{ClientSide}
use Rattle.stun_auth.specs.ClientStep.{IsResend, client_step}
use Rattle.stun_judging.specs.Reading.{UNAUTHORIZED, reading_of}
use Rattle.stun_auth.specs.ServerSigning.{after_signing}
use Rattle.stun_auth.specs.Validation.{ServerSeen, sight}
use Rattle.stun_proto.specs.code.Meetings.{meeting_of}
use Rattle.stun_proto.specs.code.Sides.{IsRun}
use Rattle.stun_proto.specs.Negotiation.{client_request, challenge_answered, challenge_sent}
use Rattle.stun_proto.specs.Negotiation.{ending_with}
use Rattle.stun_proto.specs.Negotiation.{failure, server_response, second_asked, ending_unwritten}
use Rattle.stun_proto.specs.Serving.{after_calls}
use Rattle.stun_proto.specs.Sides.{PassesResend, PassesUnauthorized, sides}
use Rattle.stun_proto.proofs.meetings.Runs.{challenge_ends, ended_by, ends, not_memory}
use Rattle.stun_proto.proofs.meetings.Runs.{goes_on, not_ended, refused, stops}
use Rattle.stun_proto.proofs.replay.negotiation.meeting.run_from_challenge.Goals as goal

pub returns-in_err-failure-clause-run : goal.returns-in_err-failure-clause-run
returns-in_err-failure-clause-run g c =
    let k = c.args.client.now in
    let s = c.args.server.now in
    let m = meeting_of k.settings c.args.meeting.now in
    let reason = c.in_err-failure.field-0.0 in
    let stays = c.in_err-failure.ensures.refused in
    refused c.from_residual.result reason
    (server_response (failure UNAUTHORIZED m.first.id) (sight s m.from))
    (challenge_sent m k.state s)
    (PassesUnauthorized m k.state s) c.from_residual.ensures.1
    (subst (λ n.
    UnlessMemory {V = Written} (Err reason)
    (Err reason ≡ server_response (failure UNAUTHORIZED n) (sight s m.from))
    (Unit {0})) c.requires.id
    c.in_err-failure.ensures.answer)
    (λ x i. ending_unwritten x k.state (sym stays i)) (inl (λ i. sides k.state (stays i)))

pub returns-in_err-serve-clause-run : goal.returns-in_err-serve-clause-run
returns-in_err-serve-clause-run g c =
    let k = c.args.client.now in
    let s = c.args.server.now in
    let m = meeting_of k.settings c.args.meeting.now in
    let signed = c.in_ok-failure.ensures.answer
    ∙ ap (λ n. server_response (failure UNAUTHORIZED n) (sight s m.from)) c.requires.id in
    let stopped = c.in_err-serve.ensures.stopped in
    let done = c.in_err-serve.field-0.0.done in
    let left = stopped.1
    ∙ ap (λ t. after_calls t (take done m.first.before)) c.in_ok-failure.ensures.server in
    stops c.from_residual-in_err-serve.result _ (PassesUnauthorized m k.state s)
    c.from_residual-in_err-serve.ensures.1
    (inr (
      page_of c.in_ok-failure.failure.bytes,
      sym signed,
      inl (done, stopped.0, λ i. sides k.state (left i)),
    ))

pub make_challenge-requires : goal.make_challenge-requires
make_challenge-requires g c = c.requires.method

pub read-requires : goal.read-requires
read-requires g c = subst IsMessage (sym c.data.ensures) c.in_ok-failure.ensures.message

pub returns-in_err-answer-clause-run : goal.returns-in_err-answer-clause-run
returns-in_err-answer-clause-run g c =
    let k = c.args.client.now in
    let s = c.args.server.now in
    let m = meeting_of k.settings c.args.meeting.now in
    let calls = m.first.before in
    let signed = c.in_ok-failure.ensures.answer
    ∙ ap (λ n. server_response (failure UNAUTHORIZED n) (sight s m.from)) c.requires.id in
    let left = c.in_ok-serve.ensures.server
    ∙ (λ i. after_calls (c.in_ok-failure.ensures.server i)
    (sym (take_all (length calls) calls (omega arith)) i)) in
    stops c.from_residual-in_err-answer.result _ (PassesUnauthorized m k.state s)
    c.from_residual-in_err-answer.ensures.1
    (inr (
      page_of c.in_ok-failure.failure.bytes,
      sym signed,
      inl (length calls, omega arith, λ i. sides (c.in_err-answer.ensures.err i).state (left i)),
    ))

pub returns-in-Some-clause-run : goal.returns-in-Some-clause-run
returns-in-Some-clause-run g c =
    let k = c.args.client.now in
    let s = c.args.server.now in
    let meeting = c.args.meeting.now in
    let m = meeting_of k.settings meeting in
    let signed = c.in_ok-failure.ensures.answer
    ∙ ap (λ n. server_response (failure UNAUTHORIZED n) (sight s m.from)) c.requires.id in
    let t = after_calls (after_signing s m.from true) m.first.before in
    let left = c.in_ok-serve.ensures.server
    ∙ ap (λ u. after_calls u m.first.before) c.in_ok-failure.ensures.server in
    let step = client_step k.settings k.state (reading_of c.in_ok-failure.failure.bytes) in
    let taken : c.read.new.client ≡ record k { state = step.state } = c.in_ok-answer.ensures.client
    ∙ ap (λ b. record k { state = (client_step k.settings k.state (reading_of b)).state })
    c.data.ensures in
    let told = c.in_ok-answer.ensures.answer
    ∙ ap (λ b. (client_step k.settings k.state (reading_of b)).answer) c.data.ensures in
    ends c.in-Some.outcome (PassesUnauthorized m k.state s)
    ((λ i. ending_with c.in-Some.outcome (taken i).state (left i))
    ∙ ended_by _ _ _ c.in-Some.outcome (sym c.to_challenge_outcome.ensures ∙ c.in-Some.is)
    (challenge_ends m step.state t c.in_ok-answer.answer)
    ∙ ap (challenge_answered m t step.state) told
    ∙ ap (challenge_sent m k.state s) signed)

pub returns-clause-run : goal.returns-clause-run
returns-clause-run g c =
    let k = c.args.client.now in
    let s = c.args.server.now in
    let meeting = c.args.meeting.now in
    let m = meeting_of k.settings meeting in
    let signed = c.in_ok-failure.ensures.answer
    ∙ ap (λ n. server_response (failure UNAUTHORIZED n) (sight s m.from)) c.requires.id in
    let t = after_calls (after_signing s m.from true) m.first.before in
    let left = c.in_ok-serve.ensures.server
    ∙ ap (λ u. after_calls u m.first.before) c.in_ok-failure.ensures.server in
    let step = client_step k.settings k.state (reading_of c.in_ok-failure.failure.bytes) in
    let taken : c.read.new.client ≡ record k { state = step.state } = c.in_ok-answer.ensures.client
    ∙ ap (λ b. record k { state = (client_step k.settings k.state (reading_of b)).state })
    c.data.ensures in
    let told = c.in_ok-answer.ensures.answer
    ∙ ap (λ b. (client_step k.settings k.state (reading_of b)).answer) c.data.ensures in
    let r = c.run_from_resend.result in
    let again =
    not_ended _ _ _ (sym c.to_challenge_outcome.ensures ∙ c.in-None.is)
    (challenge_ends m step.state t c.in_ok-answer.answer) in
    goes_on r (PassesUnauthorized m k.state s) (PassesResend m step.state t)
    (again.1 ∙ ap (challenge_answered m t step.state) told ∙ ap (challenge_sent m k.state s) signed)
    (λ x later.
    inr (
      page_of c.in_ok-failure.failure.bytes,
      sym signed,
      inr (subst IsResend told again.0, later),
    ))
    (subst (λ (p : ClientSide × ServerSeen). let n = meeting_of p.0.settings meeting in
    IsRun r c.run_from_resend.new.client.state c.run_from_resend.new.server
    (second_asked n p.0.state p.1 (client_request n.second.id p.0.state))
    (PassesResend n p.0.state p.1))
    (λ i. (taken i, left i)) c.run_from_resend.ensures.run)

pub returns-in_err-failure-clause-granted : goal.returns-in_err-failure-clause-granted
returns-in_err-failure-clause-granted g c = λ grants.
    not_memory c.from_residual.result c.in_err-failure.field-0.0 c.from_residual.ensures.1
    (c.in_err-failure.ensures.granted grants)
