-- The sum is of the timeouts before the index, each at most the longest there is.
use Rattle.std.proofs.Common.{◌≡◌, ◌≤◌, ◌*◌}
use Rattle.std.specs.Duration.{max_nanos}
use Rattle.stun_agent.specs.Timing.{settings_of, sum_of_timeouts}
use Rattle.stun_agent.proofs.state.rto.RequestRto.sum_timeouts.Given as goal

abbrev pub invariant-loop-i : goal.invariant-loop-i
invariant-loop-i l =
    record {
      value : l.sum ≡ sum_of_timeouts (settings_of l.self) l.i;
      bound : l.sum ≤ l.i * max_nanos;
    }
