-- The plan is cut if it is longer than the time.
use Rattle.std.proofs.Common.{◌≡◌, ◌≤◌, ◌<◌, ◌-◌, sym, ap, ◌∙◌, arith}
use Rattle.std.specs.Duration.{as_nanos}
use Rattle.stun_agent.specs.Timing.{settings_of, plan_length, timeouts_before, repetitions}
use Rattle.stun_agent.proofs.CutLemmas.{whole, cut_is}
use Rattle.stun_agent.proofs.state.rto.RequestRto.within.Goals as goal

pub returns-then-sum_timeouts-count_nanos : goal.returns-then-sum_timeouts-count_nanos
returns-then-sum_timeouts-count_nanos c =
    let settings = settings_of c.args.self.now in
    let short : plan_length settings ≤ as_nanos c.args.time =
    omega (
      arith,
      c.sum_timeouts.ensures.value,
      c.count_nanos.ensures.value,
      c.count_nanos-end.ensures.value,
      c.if-sum_timeouts-count_nanos.true,
    ) in
    sym (whole (as_nanos c.args.time) settings short)

pub returns : goal.returns
returns c =
    let settings = settings_of c.args.self.now in
    let end = c.count_nanos-end.ensures.value in
    let long : as_nanos c.args.time < plan_length settings =
    omega (
      arith,
      c.sum_timeouts.ensures.value,
      c.count_nanos.ensures.value,
      end,
      c.if-sum_timeouts-count_nanos.false,
    ) in
    cut_is (as_nanos c.args.time) settings long _ _
    (c.count_timeouts_before-count.ensures.count
    ∙ ap (λ t. timeouts_before t settings (repetitions settings)) end)
    (c.from_nanos_u128.ensures
    ∙ omega (arith, end, c.count_timeouts_before-count.ensures.sum))
