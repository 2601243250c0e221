-- Sending and ending alternate until `poll` tells a later time.
use Rattle.std.proofs.Common.{◌<◌, ◌≤◌, inl, inr, arith}
use Rattle.stun_base.specs.Moments.{last_moment}
use Rattle.stun_agent.specs.Transactions.{wake_up}
use Rattle.stun_proto.proofs.agent_runs.TurnLemmas.{leads_both, leads_again, takes_turn, less_again}
use Rattle.stun_proto.proofs.replay.turn.take_turn.Goals as goal

pub returns-then-as_nanos-clause-turn : goal.returns-then-as_nanos-clause-turn
returns-then-as_nanos-clause-turn g c =
    let over = c.end_all-wait.ensures.ends in
    let waits = over.waits in
    takes_turn _ _ _ _ _
    (leads_both _ _ _ _ _ _ _ _ _ _ c.loop-alloc.invariant.leads c.send_all.ensures.sends over) over.settled
    (inl (omega arith))

pub returns-then-as_nanos-eq18446744073709551615-clause-turn : goal.returns-then-as_nanos-eq18446744073709551615-clause-turn
returns-then-as_nanos-eq18446744073709551615-clause-turn g c =
    let over = c.end_all-wait.ensures.ends in
    takes_turn _ _ _ _ _
    (leads_both _ _ _ _ _ _ _ _ _ _ c.loop-alloc.invariant.leads c.send_all.ensures.sends over) over.settled
    (inr (omega arith))

pub loop-alloc-smaller : goal.loop-alloc-smaller
loop-alloc-smaller g c =
    let early : c.end_all-wait.result ≤ c.args.now = omega arith in
    let less : c.args.now < last_moment = omega arith in
    less_again _ _ _ _ _ _ _ _ c.send_all.ensures.sends c.end_all-wait.ensures.ends early less

pub loop-alloc-preserved : goal.loop-alloc-preserved
loop-alloc-preserved g c =
    let over = c.end_all-wait.ensures.ends in
    let less : c.args.now < last_moment = omega arith in
    let least : c.args.now
    ≤ wake_up c.end_all-wait.new.agent.transport c.args.now c.end_all-wait.new.agent.transactions =
    omega arith in
    let waits = over.waits in
    record {
      leads = leads_again _ _ _ _ _
          (leads_both _ _ _ _ _ _ _ _ _ _ c.loop-alloc.invariant.leads c.send_all.ensures.sends over) over.settled
          (omega arith) less;
      kept = λ grants was.
          c.end_all-wait.ensures.granted grants
          (c.send_all.ensures.granted grants (c.loop-alloc.invariant.kept grants was));
    }
