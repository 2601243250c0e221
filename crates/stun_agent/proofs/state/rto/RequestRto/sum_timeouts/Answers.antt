-- The timeouts are summed until they no longer rise; the rest are alike.
use Rattle.std.proofs.Common.{◌≡◌, ◌≤◌, sym, arith}
use Rattle.std.specs.Duration.{max_nanos}
use Rattle.stun_agent.specs.Timing.{settings_of, timeout}
use Rattle.stun_agent.proofs.TimingLemmas.{sum_of_timeouts-zero, sum_of_timeouts-add_one}
use Rattle.stun_agent.proofs.TimingLemmas.{sum_of_timeouts-split}
use Rattle.stun_agent.proofs.state.rto.RequestRto.sum_timeouts.Goals as goal

pub loop-i-init : goal.loop-i-init
loop-i-init c = record { value = sym (sum_of_timeouts-zero _); bound = omega arith }

pub loop-i-preserved : goal.loop-i-preserved
loop-i-preserved c = record {
  value = rw (
    sum_of_timeouts-add_one (settings_of c.args.self.now) c.loop-i.i,
    c.count_timeout_nanos-sum.ensures.value,
    c.loop-i.invariant.value,
  );
  bound = omega arith;
}

pub returns-clause-value : goal.returns-clause-value
returns-clause-value c =
    let settings = settings_of c.args.self.now in
    let last : c.loop-i.i ≡ c.min-rising.result = omega arith in
    let long : timeout settings 94 ≤ max_nanos =
    rw (← c.count_timeout_nanos.ensures.value) c.count_timeout_nanos.ensures.bound in
    rw (
      c.loop-i.invariant.value,
      last,
      c.count_timeout_nanos.ensures.value,
      ← c.count_repetitions-all.ensures,
    )
    (sum_of_timeouts-split settings c.count_repetitions-all.result c.min-rising.result long
    c.min-rising.ensures)
