use Rattle.std.proofs.Common.{◌≡◌, drop}
use Rattle.stun_proto.specs.code.Calls.{IsKept, RunLeads, kept_steps}
use Rattle.stun_proto.proofs.replay.driven.drive.Given as goal

-- the run goes on with the events that are left
abbrev pub invariant-loop-moment : goal.invariant-loop-moment
invariant-loop-moment g l = record {
  counted : l.done ≡ l.moment-index;
  leads : RunLeads l.initial.agent l.events l.done l.from l.agent (drop l.moment-index l.events)
      (kept_steps l.log);
  kept : g.A.Memory.grants → IsKept l.log;
}
