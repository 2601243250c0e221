-- The message is sent or refused, and the step that is kept says which.
use Rattle.std.proofs.Common.{ap, subst, sym, ℕ, List, Bor, ◌∷◌, [], ◌∙◌}
use Rattle.std.specs.declared.net.socket_addr.SocketAddr.{SocketAddr}
use Rattle.stun_base.specs.declared.wire.transport.TransportType.{TransportType}
use Rattle.stun_proto.specs.code.Calls.{Keeps, kept_steps}
use Rattle.std.specs.Option.{option_map_or}
use Rattle.std.specs.Prelude.{Option}
use Rattle.stun_agent.specs.Agent.{after_send}
use Rattle.stun_agent.specs.declared.error.StunError.{StunError}
use Rattle.stun_proto.specs.Steps.{Step, Refused, Sent}
use Rattle.stun_proto.proofs.agent_runs.Sending.{one_refused, one_accepted}
use Rattle.stun_proto.proofs.replay.apply.send.Goals as goal

pub returns-in-Err-clause-after : goal.returns-in-Err-clause-after
returns-in-Err-clause-after g c =
    c.in-Err.ensures.err
    ∙ sym (ap
    (λ (o : Option StunError).
    option_map_or (λ _. c.args.agent.now) o (after_send c.args.bytes.now c.args.agent.now))
    (one_refused _ _ c.in-Err.error c.in-Err.ensures.refused))

pub returns-in-Err-clause-added : goal.returns-in-Err-clause-added
returns-in-Err-clause-added g c =
    let step =
    ap (λ (o : Option StunError).
    option_map_or (λ error. Refused c.args.now error) o
    (Sent c.args.now c.args.to c.args.bytes.now))
    (one_refused _ _ c.in-Err.error c.in-Err.ensures.refused) in
    c.add-in-Err.ensures.keeps _ (sym step)

pub returns-in-Ok-clause-after : goal.returns-in-Ok-clause-after
returns-in-Ok-clause-after g c =
    c.in-Ok.ensures.ok
    ∙ sym (ap
    (λ (o : Option StunError).
    option_map_or (λ _. c.args.agent.now) o (after_send c.args.bytes.now c.args.agent.now))
    (one_accepted _ _ c.in-Ok.transmit c.in-Ok.ensures.refused))

pub returns-in-Ok-clause-added : goal.returns-in-Ok-clause-added
returns-in-Ok-clause-added g c =
    let lent =
    ap (λ (p : Bor (List ℕ) × TransportType × SocketAddr × SocketAddr). Sent c.args.now p.3 p.0.now)
    c.in-Ok.ensures.sent in
    let step =
    ap (λ (o : Option StunError).
    option_map_or (λ error. Refused c.args.now error) o
    (Sent c.args.now c.args.to c.args.bytes.now))
    (one_accepted _ _ c.in-Ok.transmit c.in-Ok.ensures.refused) in
    subst (λ (s : Step). Keeps (kept_steps c.args.log.now) (s ∷ []) (kept_steps c.add.new.self))
    (lent ∙ sym step) (c.add.ensures.keeps _ c.make_sent_step.ensures.step)
