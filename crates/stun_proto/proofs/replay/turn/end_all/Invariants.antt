use Rattle.stun_proto.specs.code.Calls.{IsKept, Leads, kept_steps}
use Rattle.stun_proto.specs.Run.{ending}
use Rattle.stun_proto.specs.code.Work.{work}
use Rattle.stun_proto.proofs.agent_runs.TurnLemmas.{HasMoved}
use Rattle.stun_proto.proofs.replay.turn.end_all.Given as goal

-- the turn goes on in its second phase
abbrev pub invariant-loop-moment : goal.invariant-loop-moment
invariant-loop-moment g l =
    record {
      leads : Leads l.now ending ending l.initial.agent l.agent (kept_steps l.initial.log)
          (kept_steps l.log);
      moved : HasMoved l.initial.agent l.agent;
      kept : g.A.Memory.grants → IsKept l.initial.log → IsKept l.log;
    }

abbrev pub decreases-loop-moment : goal.decreases-loop-moment
decreases-loop-moment g l = work l.agent.transport l.agent.transactions
