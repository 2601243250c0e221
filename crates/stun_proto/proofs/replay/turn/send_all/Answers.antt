-- Each transmission leaves less to do, and the last poll has none.
use Rattle.std.proofs.Common.{subst, refl, inr, true, false}
use Rattle.stun_proto.specs.code.Calls.{SendsOne, kept_steps}
use Rattle.stun_proto.specs.Run.{sending}
use Rattle.stun_proto.proofs.agent_runs.TurnLemmas.{leads_start, leads_sent}
use Rattle.stun_proto.proofs.agent_runs.TurnLemmas.{moved_sent, sends_all, less_sent}
use Rattle.stun_proto.proofs.replay.turn.send_all.Goals as goal

pub loop-alloc-init : goal.loop-alloc-init
loop-alloc-init g c = record {
  leads = leads_start _ sending _ _;
  moved = inr refl;
  kept = λ _ was. was;
}

pub returns-then-not-send_one-clause-sends : goal.returns-then-not-send_one-clause-sends
returns-then-not-send_one-clause-sends g c =
    let old = c.loop-alloc.agent in
    let new = c.send_one.new.agent in
    let before = kept_steps c.loop-alloc.log in
    let after = kept_steps c.send_one.new.log in
    let none : SendsOne c.args.now old new before after false =
    subst (SendsOne c.args.now old new before after) c.if-not-send_one.true c.send_one.ensures.sends in
    sends_all c.args.now c.args.agent.now old new (kept_steps c.args.log.now) before after
    c.loop-alloc.invariant.leads c.loop-alloc.invariant.moved none

pub loop-alloc-smaller : goal.loop-alloc-smaller
loop-alloc-smaller g c =
    let old = c.loop-alloc.agent in
    let new = c.send_one.new.agent in
    let before = kept_steps c.loop-alloc.log in
    let after = kept_steps c.send_one.new.log in
    less_sent c.args.now old new before after
    (subst (SendsOne c.args.now old new before after) c.if-not-send_one.false c.send_one.ensures.sends)

pub loop-alloc-preserved : goal.loop-alloc-preserved
loop-alloc-preserved g c =
    let first = c.args.agent.now in
    let old = c.loop-alloc.agent in
    let new = c.send_one.new.agent in
    let start = kept_steps c.args.log.now in
    let before = kept_steps c.loop-alloc.log in
    let after = kept_steps c.send_one.new.log in
    let sent : SendsOne c.args.now old new before after true =
    subst (SendsOne c.args.now old new before after) c.if-not-send_one.false c.send_one.ensures.sends in
    record {
      leads = leads_sent c.args.now first old new start before after
          c.loop-alloc.invariant.leads sent;
      moved = moved_sent c.args.now first old new before after c.loop-alloc.invariant.moved sent;
      kept = λ grants was.
          c.send_one.ensures.granted grants (c.loop-alloc.invariant.kept grants was);
    }
