-- The timeouts are summed until they no longer rise; how many of the rest there are is a quotient.
use Rattle.std.proofs.Common.{◌≡◌, ◌≤◌, ◌<◌, ◌+◌, ◌-◌, ◌*◌, ◌⊎◌, min, refl, sym, ap, ap₂, ◌∙◌}
use Rattle.std.proofs.Common.{inl, inr, subst, arith}
use Rattle.std.specs.Duration.{max_nanos}
use Rattle.stun_agent.specs.Timing.{settings_of, timeout, sum_of_timeouts, repetitions}
use Rattle.stun_agent.proofs.CutLemmas.{before_is, before_past, sum_past}
use Rattle.stun_agent.proofs.TimingLemmas.{sum_of_timeouts-zero, sum_of_timeouts-add_one}
use Rattle.stun_agent.proofs.state.rto.RequestRto.count_timeouts_before.Goals as goal

pub loop-i-init : goal.loop-i-init
loop-i-init c = record {
  value = sym (sum_of_timeouts-zero _);
  bound = omega arith;
  before = inl refl;
  within = omega arith;
}

pub loop-i-preserved : goal.loop-i-preserved
loop-i-preserved c =
    let settings = settings_of c.args.self.now in
    let value = sum_of_timeouts-add_one settings c.loop-i.i in
    let wait = c.count_timeout_nanos.ensures.value in
    let passed = c.loop-i.invariant.value in
    let less = c.if-next-time.false in
    record {
      value = omega (arith, value, wait, passed);
      bound = omega arith;
      before = inr (omega (arith, value, wait, passed, less));
      within = omega (arith, less);
    }

pub returns-then-next-time-clause-count : goal.returns-then-next-time-clause-count
returns-then-next-time-clause-count c =
    let settings = settings_of c.args.self.now in
    let value = sum_of_timeouts-add_one settings c.loop-i.i in
    let wait = c.count_timeout_nanos.ensures.value in
    let passed = c.loop-i.invariant.value in
    let more = c.if-next-time.true in
    let all = c.count_repetitions-all.ensures in
    let rising = c.min-rising.ensures in
    sym (before_is c.args.time settings c.loop-i.i _ (omega (arith, all, rising))
    c.loop-i.invariant.before (inr (omega (arith, value, wait, passed, more))))

pub returns-clause-count : goal.returns-clause-count
returns-clause-count c =
    let settings = settings_of c.args.self.now in
    let more = c.count_waits_before-more in
    let last : c.loop-i.i ≡ c.min-rising.result = omega arith in
    let total : c.loop-i.passed ≡ sum_of_timeouts settings c.min-rising.result =
    c.loop-i.invariant.value ∙ ap (sum_of_timeouts settings) last in
    let wait = c.count_timeout_nanos-wait.ensures.value in
    let long : timeout settings 94 ≤ max_nanos =
    rw (← wait) c.count_timeout_nanos-wait.ensures.bound in
    let is : c.min-rising.result ≡ min (repetitions settings) 94 =
    omega (arith, c.count_repetitions-all.ensures, c.min-rising.ensures) in
    let few : more.result ≤ repetitions settings - c.min-rising.result =
    omega (arith, c.count_repetitions-all.ensures, more.ensures.most) in
    sym (before_past c.args.time settings _ _ more.result long is few
    (subst (λ k. (k ≡ 0) ⊎ (sum_of_timeouts settings k < c.args.time)) last
    c.loop-i.invariant.before)
    (subst (λ p. p ≤ c.args.time) total c.loop-i.invariant.within)
    (subst (λ p. (more.result ≡ 0) ⊎ (more.result * timeout settings 94 < c.args.time - p)) total
    (subst (λ w. (more.result ≡ 0) ⊎ (more.result * w < c.args.time - c.loop-i.passed)) wait
    more.ensures.fit))
    (subst (λ k. (more.result ≡ k) ⊎ (c.args.time - sum_of_timeouts settings c.min-rising.result
    ≤ more.result * timeout settings 94 + timeout settings 94))
    (ap (λ n. n - c.min-rising.result) c.count_repetitions-all.ensures)
    (subst (λ p. (more.result ≡ c.count_repetitions-all.result - c.min-rising.result)
    ⊎ (c.args.time - p ≤ more.result * timeout settings 94 + timeout settings 94)) total
    (subst (λ w. (more.result ≡ c.count_repetitions-all.result - c.min-rising.result)
    ⊎ (c.args.time - c.loop-i.passed ≤ more.result * w + w)) wait more.ensures.next))))

pub returns-clause-sum : goal.returns-clause-sum
returns-clause-sum c =
    let settings = settings_of c.args.self.now in
    let more = c.count_waits_before-more in
    let last : c.loop-i.i ≡ c.min-rising.result = omega arith in
    let total : c.loop-i.passed ≡ sum_of_timeouts settings c.min-rising.result =
    c.loop-i.invariant.value ∙ ap (sum_of_timeouts settings) last in
    let wait = c.count_timeout_nanos-wait.ensures.value in
    let long : timeout settings 94 ≤ max_nanos =
    rw (← wait) c.count_timeout_nanos-wait.ensures.bound in
    let is : c.min-rising.result ≡ min (repetitions settings) 94 =
    omega (arith, c.count_repetitions-all.ensures, c.min-rising.ensures) in
    let few : more.result ≤ repetitions settings - c.min-rising.result =
    omega (arith, c.count_repetitions-all.ensures, more.ensures.most) in
    ap₂ (λ p w. p + more.result * w) total wait
    ∙ sym (sum_past c.args.time settings _ _ more.result long is few)

pub returns-clause-within : goal.returns-clause-within
returns-clause-within c =
    let within = c.loop-i.invariant.within in
    elim c.count_waits_before-more.ensures.fit [
      | inl none ↦ rw none (omega (arith, within))
      | inr less ↦ omega (arith, within, less)
    ]
