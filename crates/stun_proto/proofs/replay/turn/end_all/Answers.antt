-- Each request that ends leaves less to do, and the last poll tells until when to wait.
use Rattle.std.proofs.Common.{subst}
use Rattle.std.specs.Prelude.{None}
use Rattle.stun_proto.specs.code.Calls.{EndsOne, kept_steps}
use Rattle.stun_proto.proofs.agent_runs.TurnLemmas.{leads_ended, moved_ended, less_ended}
use Rattle.stun_proto.proofs.replay.turn.end_all.Goals as goal

pub loop-moment-smaller : goal.loop-moment-smaller
loop-moment-smaller g c =
    let old = c.loop-moment.agent in
    let new = c.end_one.new.agent in
    let before = kept_steps c.loop-moment.log in
    let after = kept_steps c.end_one.new.log in
    less_ended c.args.now old new before after
    (subst (EndsOne c.args.now old new before after) c.in-None.is c.end_one.ensures.ends)

pub loop-moment-preserved : goal.loop-moment-preserved
loop-moment-preserved g c =
    let first = c.args.agent.now in
    let old = c.loop-moment.agent in
    let new = c.end_one.new.agent in
    let start = kept_steps c.args.log.now in
    let before = kept_steps c.loop-moment.log in
    let after = kept_steps c.end_one.new.log in
    let over : EndsOne c.args.now old new before after None =
    subst (EndsOne c.args.now old new before after) c.in-None.is c.end_one.ensures.ends in
    record {
      leads = leads_ended c.args.now first old new start before after
          c.loop-moment.invariant.leads over;
      moved = moved_ended c.args.now first old new before after c.loop-moment.invariant.moved over;
      kept = λ grants was.
          c.end_one.ensures.granted grants (c.loop-moment.invariant.kept grants was);
    }
