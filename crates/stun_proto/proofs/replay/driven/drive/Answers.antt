-- Each event leads the run one event further, and at the end it is the whole run.
use Rattle.std.proofs.Common.{◌≡◌, [], drop, sym, arith, refl, ◌∙◌}
use Rattle.std.proofs.lemmas.Bool.{eqb-false, eqb-true}
use Rattle.std.proofs.lemmas.List.{drop_all}
use Rattle.stun_proto.specs.Steps.{steps_of}
use Rattle.stun_proto.proofs.agent_runs.DriveLemmas.{drop_next, nothing_is_driven, run_start}
use Rattle.stun_proto.proofs.agent_runs.DriveLemmas.{run_more, run_stops, run_kept, is_driven}
use Rattle.stun_proto.proofs.agent_runs.Driven.{keep_plans}
use Rattle.stun_proto.proofs.agent_runs.Once.{nothing_is_asked, sends_by_plan}
use Rattle.stun_proto.proofs.replay.driven.drive.Goals as goal

pub loop-moment-init : goal.loop-moment-init
loop-moment-init g c = record {
  counted = refl;
  leads = rw c.new-log.ensures.none (run_start _ _);
  kept = λ _. c.new-log.ensures.kept;
}

pub take_event-requires : goal.take_event-requires
take_event-requires g c = c.loop-moment.invariant.leads.passed

pub loop-moment-preserved : goal.loop-moment-preserved
loop-moment-preserved g c =
    let left =
    drop_next c.args.events.now c.loop-moment.moment-index c.loop-moment-item.result (omega arith)
    c.loop-moment-item.is in
    record {
      counted = omega arith;
      leads =
          rw c.as_nanos.ensures
          (run_more _ _ _ _ _ _ c.loop-moment-item.result.0 c.loop-moment-item.result.1 _ _ _
          (rw left at c.loop-moment.invariant.leads) c.in-Ok.ensures.whole c.in-Ok.ensures.passed);
      kept = λ grants. c.in-Ok.ensures.kept grants (c.loop-moment.invariant.kept grants);
    }

pub returns-then-is_empty-clause-headline : goal.returns-then-is_empty-clause-headline
returns-then-is_empty-clause-headline g c =
    let empty = eqb-true _ 0 (sym c.is_empty.ensures ∙ c.if-is_empty.true) in
    record {
      driven = nothing_is_driven _ _ _ c.new-log.result empty c.new-log.ensures.none;
      by_plan = nothing_is_asked _ c.args.agent.now _ (steps_of c.new-log.result.steps.items) empty;
    }

pub returns-in-Err-clause-stopped : goal.returns-in-Err-clause-stopped
returns-in-Err-clause-stopped g c =
    let left =
    drop_next c.args.events.now c.loop-moment.moment-index c.loop-moment-item.result (omega arith)
    c.loop-moment-item.is in
    let turns = c.in-Err.ensures.broken in
    run_stops _ _ _ _ _ _ _ _ _ turns.0 (rw left at c.loop-moment.invariant.leads) turns.1

pub returns-then-log-clause-stopped : goal.returns-then-log-clause-stopped
returns-then-log-clause-stopped g c =
    let left : drop c.loop-moment.moment-index c.args.events.now ≡ [] =
    drop_all c.loop-moment.moment-index c.args.events.now (omega arith) in
    run_stops _ _ _ _ _ _ _ _ _ c.take_turns.ensures.turns.steps (rw left at c.loop-moment.invariant.leads)
    (rw c.as_nanos-2.ensures at c.take_turns.ensures.turns.turned)

pub returns-clause-run : goal.returns-clause-run
returns-clause-run g c =
    let left : drop c.loop-moment.moment-index c.args.events.now ≡ [] =
    drop_all c.loop-moment.moment-index c.args.events.now (omega arith) in
    is_driven _ _ _ _ _ (eqb-false _ 0 (sym c.is_empty.ensures ∙ c.if-is_empty.false))
    (run_kept _ _ _ _ _ _ _ _ c.take_turns.new.log c.if-log.false
    (rw left at c.loop-moment.invariant.leads) (rw c.as_nanos-2.ensures at c.take_turns.ensures.turns))

pub returns-clause-plans : goal.returns-clause-plans
returns-clause-plans g c =
    let left : drop c.loop-moment.moment-index c.args.events.now ≡ [] =
    drop_all c.loop-moment.moment-index c.args.events.now (omega arith) in
    keep_plans _ _ c.take_turns.new.agent _ (steps_of c.take_turns.new.log.steps.items) (omega arith)
    c.next_awaited-awaited.ensures.kept.ascending c.requires
    (run_kept _ _ _ _ _ _ _ _ c.take_turns.new.log c.if-log.false
    (rw left at c.loop-moment.invariant.leads) (rw c.as_nanos-2.ensures at c.take_turns.ensures.turns))

pub returns-clause-headline : goal.returns-clause-headline
returns-clause-headline g c =
    let left : drop c.loop-moment.moment-index c.args.events.now ≡ [] =
    drop_all c.loop-moment.moment-index c.args.events.now (omega arith) in
    record {
      driven = returns-clause-run g c;
      by_plan =
          sends_by_plan _ _ c.take_turns.new.agent _ (steps_of c.take_turns.new.log.steps.items) (omega arith)
          c.next_awaited-awaited.ensures.kept.ascending c.requires
          (run_kept _ _ _ _ _ _ _ _ c.take_turns.new.log c.if-log.false
          (rw left at c.loop-moment.invariant.leads) (rw c.as_nanos-2.ensures at c.take_turns.ensures.turns));
    }
