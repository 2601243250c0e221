use Rattle.std.proofs.Common.{◌-◌}
use Rattle.stun_proto.specs.code.Calls.{IsKept, TurnsLead, kept_steps}
use Rattle.stun_proto.proofs.replay.driven.take_turns.Given as goal

-- the turns go on at the moment that is reached
abbrev pub invariant-loop-moment : goal.invariant-loop-moment
invariant-loop-moment g l = record {
  leads : TurnsLead l.bound l.fn.from l.from l.initial.agent l.agent (kept_steps l.initial.log)
      (kept_steps l.log);
  kept : g.A.Memory.grants → IsKept l.initial.log → IsKept l.log;
}

abbrev pub decreases-loop-moment : goal.decreases-loop-moment
decreases-loop-moment g l = l.bound - l.from
