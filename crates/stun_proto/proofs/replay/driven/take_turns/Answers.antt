-- Each turn ends before the bound or there, and goes on at the time that `poll` told.
use Rattle.std.proofs.Common.{arith}
use Rattle.stun_proto.proofs.agent_runs.DriveLemmas.{turns_start, turns_none}
use Rattle.stun_proto.proofs.agent_runs.DriveLemmas.{turns_early, turns_late, turns_more}
use Rattle.stun_proto.proofs.replay.driven.take_turns.Goals as goal

pub loop-moment-init : goal.loop-moment-init
loop-moment-init g c = record { leads = turns_start _ _ _ _ c.requires; kept = λ _ was. was }

pub returns-in_default-clause-turns : goal.returns-in_default-clause-turns
returns-in_default-clause-turns g c = turns_none _ _ _ _ _ _ _ c.loop-moment.invariant.leads c.in_default.ensures.least

pub returns-then-nanos-from-clause-turns : goal.returns-then-nanos-from-clause-turns
returns-then-nanos-from-clause-turns g c =
    turns_early _ _ _ c.in-Some.moment _ _ _ _ c.loop-moment.invariant.leads
    c.in-Some.ensures.kept.ascending c.in-Some.ensures.least (omega arith) (omega arith)

pub returns-then-bound-nanos-clause-turns : goal.returns-then-bound-nanos-clause-turns
returns-then-bound-nanos-clause-turns g c =
    turns_late _ _ _ c.in-Some.moment _ _ _ _ c.loop-moment.invariant.leads c.in-Some.ensures.least
    (omega arith)

pub loop-moment-preserved : goal.loop-moment-preserved
loop-moment-preserved g c = record {
  leads = rw c.as_nanos-nanos.ensures
      (turns_more _ _ _ c.in-Some.moment _ _ _ _ _ _ c.loop-moment.invariant.leads
      c.in-Some.ensures.kept.ascending c.in-Some.ensures.least (omega arith) (omega arith)
      c.take_turn.ensures.turn);
  kept = λ grants was.
      c.take_turn.ensures.granted grants (c.loop-moment.invariant.kept grants was);
}
