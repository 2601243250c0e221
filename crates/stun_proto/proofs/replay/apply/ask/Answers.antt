-- The request is sent or refused, and the step that is kept says which.
use Rattle.std.proofs.Common.{rules, ◌≡◌, ap, subst, refl, sym, ◌∷◌, [], ◌∙◌}
use Rattle.stun_agent.specs.Datagrams.{Datagram}
use Rattle.stun_proto.specs.code.Calls.{Keeps, kept_steps}
use Rattle.std.specs.Option.{option_map_or}
use Rattle.std.specs.Prelude.{Option, Some}
use Rattle.stun_agent.specs.Agent.{request_refusal, after_send_request}
use Rattle.stun_agent.specs.declared.error.StunError.{StunError}
use Rattle.stun_base.specs.Header.{transaction_id_field}
use Rattle.stun_proto.specs.Steps.{Step, Refused, Transmitted}
use Rattle.stun_proto.proofs.agent_runs.Sending.{request_refused, request_accepted, memory_alone}
use Rattle.stun_proto.proofs.replay.apply.ask.Goals as goal

pub returns-in-Err : goal.returns-in-Err
returns-in-Err g c =
    let agent = c.args.agent.now in
    let bytes = c.args.bytes.now in
    let why : request_refusal agent bytes c.args.to ≡ Some c.in-Err.error =
    request_refused _ _ c.in-Err.error (λ same. search rules) c.in-Err.ensures.refused in
    let kept : c.send_request.follows.lender-at-none ≡ agent = search rules in
    record {
      after = kept
          ∙ sym (ap
          (λ (o : Option StunError). option_map_or (λ _. agent) o
          (after_send_request agent bytes c.args.to c.args.now)) why);
      added = c.add-in-Err.ensures.keeps _
          (sym (ap
          (λ (o : Option StunError). option_map_or (λ error. Refused c.args.now error) o
          (Transmitted c.args.now (transaction_id_field bytes) c.args.to bytes)) why));
      broken = tt;
      refused = λ _. refl;
      granted = λ _. refl;
      kept = λ grants. c.add-in-Err.ensures.granted grants refl;
    }

pub returns-in-Ok-clause-added : goal.returns-in-Ok-clause-added
returns-in-Ok-clause-added g c =
    let bytes = c.args.bytes.now in
    let lent =
    ap (λ (d : Datagram). Transmitted c.args.now (transaction_id_field d.0) d.3 d.0)
    c.in-Ok.ensures.sent in
    let step =
    ap (λ (o : Option StunError). option_map_or (λ error. Refused c.args.now error) o
    (Transmitted c.args.now (transaction_id_field bytes) c.args.to bytes))
    (request_accepted _ _ c.in-Ok.transmit c.in-Ok.ensures.refused) in
    subst (λ (s : Step). Keeps (kept_steps c.args.log.now) (s ∷ []) (kept_steps c.add.new.self))
    (lent ∙ sym step) (c.add.ensures.keeps _ c.make_transmitted_step.ensures.step)

pub returns-in-Err-OutOfMemory-clause-refused : goal.returns-in-Err-OutOfMemory-clause-refused
returns-in-Err-OutOfMemory-clause-refused g c =
    λ refused.
    absurd (refused
    (memory_alone _ c.args.agent.now c.args.bytes.now c.args.to c.in-Err-OutOfMemory.field-0
    c.in-Err-OutOfMemory.field-0-is c.in-Err-OutOfMemory.ensures.refused))
