-- The success is signed and read.
use Rattle.std.proofs.Common.{◌≡◌, inl, inr, sym, ◌∙◌, ap, subst, Ok, Err}
use Rattle.stun_types.specs.Message.{IsMessage}
use Rattle.stun_types.specs.WriteVec.{Written}
use Rattle.stun_judging.specs.Additions.{UnlessMemory, page_of}
use Rattle.stun_auth.specs.ClientStep.{IsResend, client_step}
use Rattle.stun_judging.specs.Reading.{reading_of}
use Rattle.stun_auth.specs.Validation.{sight}
use Rattle.stun_proto.specs.code.Meetings.{meeting_of}
use Rattle.stun_proto.specs.Negotiation.{ending_with, outcome_of_success, server_response}
use Rattle.stun_proto.specs.Negotiation.{success_sent, success, ending_unwritten}
use Rattle.stun_proto.specs.Sides.{PassesAccepted, sides}
use Rattle.stun_proto.proofs.meetings.Runs.{ends, not_memory, refused, stops}
use Rattle.stun_proto.proofs.replay.negotiation.meeting.run_from_success.Goals as goal

pub returns-in_err-granted-clause-run : goal.returns-in_err-granted-clause-run
returns-in_err-granted-clause-run g c =
    let k = c.args.client.now in
    let s = c.args.server.now in
    let m = meeting_of k.settings c.args.meeting.now in
    let reason = c.in_err-granted.field-0.0 in
    let stays = c.in_err-granted.ensures.refused in
    refused c.from_residual.result reason (server_response (success m.second.id) (sight s m.from))
    (success_sent m c.args.algorithm k.state s)
    (PassesAccepted m k.state s) c.from_residual.ensures.1
    (subst (λ n.
    UnlessMemory {V = Written} (Err reason)
    (Err reason ≡ server_response (success n) (sight s m.from))
    (Unit {0})) c.requires.id c.in_err-granted.ensures.answer)
    (λ x i. ending_unwritten x k.state (sym stays i)) (inl (λ i. sides k.state (stays i)))

pub make_success-requires : goal.make_success-requires
make_success-requires g c = c.requires.method

pub read-requires : goal.read-requires
read-requires g c = subst IsMessage (sym c.data.ensures) c.in_ok-granted.ensures.message

pub returns-in_err-answer-clause-run : goal.returns-in_err-answer-clause-run
returns-in_err-answer-clause-run g c =
    let k = c.args.client.now in
    let s = c.args.server.now in
    let m = meeting_of k.settings c.args.meeting.now in
    let signed = c.in_ok-granted.ensures.answer
    ∙ ap (λ n. server_response (success n) (sight s m.from)) c.requires.id in
    stops c.from_residual-in_err-answer.result _ (PassesAccepted m k.state s)
    c.from_residual-in_err-answer.ensures.1
    (inr (
      page_of c.in_ok-granted.granted.bytes,
      sym signed,
      subst (λ b. IsResend (client_step k.settings k.state (reading_of b)).answer) c.data.ensures
          c.in_err-answer.ensures.memory,
      λ i. sides (c.in_err-answer.ensures.err i).state (c.in_ok-granted.ensures.server i),
    ))

pub returns-clause-run : goal.returns-clause-run
returns-clause-run g c =
    let k = c.args.client.now in
    let s = c.args.server.now in
    let m = meeting_of k.settings c.args.meeting.now in
    let a = c.args.algorithm in
    let step = ap (λ b. client_step k.settings k.state (reading_of b)) c.data.ensures in
    ends c.to_success_outcome.result (PassesAccepted m k.state s)
    (ap (λ o. ending_with o c.read.new.client.state c.make_success.new.server)
    (c.to_success_outcome.ensures ∙ ap (outcome_of_success a) c.in_ok-answer.ensures.answer)
    ∙ (λ i. ending_with
    (outcome_of_success a (client_step k.settings k.state (reading_of c.data.result.now)).answer)
    (c.in_ok-answer.ensures.client i).state (c.in_ok-granted.ensures.server i))
    ∙ (λ i. success_sent m a k.state s
    ((ap Ok (ap page_of c.data.ensures) ∙ c.in_ok-granted.ensures.answer
    ∙ ap (λ n. server_response (success n) (sight s m.from)) c.requires.id) i)))

pub returns-in_err-granted-clause-granted : goal.returns-in_err-granted-clause-granted
returns-in_err-granted-clause-granted g c = λ grants.
    not_memory c.from_residual.result c.in_err-granted.field-0.0 c.from_residual.ensures.1
    (c.in_err-granted.ensures.granted grants)
