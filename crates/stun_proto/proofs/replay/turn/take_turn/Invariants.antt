use Rattle.stun_proto.specs.code.Calls.{IsKept, Leads, kept_steps}
use Rattle.stun_proto.specs.Run.{sending}
use Rattle.stun_proto.specs.code.Work.{work}
use Rattle.stun_proto.proofs.replay.turn.take_turn.Given as goal

-- the turn begins again
abbrev pub invariant-loop-alloc : goal.invariant-loop-alloc
invariant-loop-alloc g l = record {
  leads : Leads l.now sending sending l.initial.agent l.agent (kept_steps l.initial.log)
      (kept_steps l.log);
  kept : g.A.Memory.grants → IsKept l.initial.log → IsKept l.log;
}

abbrev pub decreases-loop-alloc : goal.decreases-loop-alloc
decreases-loop-alloc g l = work l.agent.transport l.agent.transactions
