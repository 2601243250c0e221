-- Doubling is a shift; where it would pass the longest wait, that is the timeout.
use Rattle.stun_agent.proofs.TimingLemmas.{timeout_by_shift, timeout_past_maximum}
use Rattle.stun_agent.proofs.state.rto.RequestRto.count_timeout_nanos.Goals as goal

pub returns-then-initial-max-clause-value : goal.returns-then-initial-max-clause-value
returns-then-initial-max-clause-value c =
    rw (
      c.min-doublings.ensures,
      ← c.count_nanos-initial.ensures.value,
      ← c.count_nanos-max.ensures.value,
    )
    (timeout_by_shift _ _ _ c.count_nanos-max.ensures.bound
    (rw c.min-doublings.ensures at c.if-initial-max.true))

pub returns-else-initial-max-clause-value : goal.returns-else-initial-max-clause-value
returns-else-initial-max-clause-value c =
    rw (← c.count_nanos-initial.ensures.value, ← c.count_nanos-max.ensures.value)
    (timeout_past_maximum _ _ _ (rw c.min-doublings.ensures at c.if-initial-max.false))
