-- The sum is of the timeouts before the index, and shorter than the time.
use Rattle.std.proofs.Common.{◌≡◌, ◌≤◌, ◌<◌, ◌*◌, ◌⊎◌}
use Rattle.std.specs.Duration.{max_nanos}
use Rattle.stun_agent.specs.Timing.{settings_of, sum_of_timeouts}
use Rattle.stun_agent.proofs.state.rto.RequestRto.count_timeouts_before.Given as goal

abbrev pub invariant-loop-i : goal.invariant-loop-i
invariant-loop-i l =
    record {
      value : l.passed ≡ sum_of_timeouts (settings_of l.self) l.i;
      bound : l.passed ≤ l.i * max_nanos;
      before : (l.i ≡ 0) ⊎ (sum_of_timeouts (settings_of l.self) l.i < l.time);
      within : l.passed ≤ l.time;
    }
