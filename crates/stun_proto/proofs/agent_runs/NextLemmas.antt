-- The next awaited moment, and that a turn leaves none up to its own.
use Rattle.std.proofs.Common.{ℕ, ◌≡◌, ◌+◌, ◌<◌, ◌≤◌, ◌⊎◌, inl, inr, arith, List, sym}
use Rattle.std.specs.Prelude.{Some, None}
use Rattle.stun_base.specs.Moments.{moment_after}
use Rattle.stun_agent.specs.Agent.{Agent}
use Rattle.stun_agent.specs.Transactions.{Transaction, IsAscending, an_hour, awaited_moment}
use Rattle.stun_agent.specs.Transactions.{next_awaited, wake_up}
use Rattle.stun_agent.proofs.Ascending.{fold-min-le}
use Rattle.stun_proto.proofs.agent_runs.AwaitsLemmas.{Awaits, least_in, least_le, least_some}
use Rattle.stun_proto.specs.Steps.{Step}
use Rattle.stun_proto.specs.code.Calls.{HasPassed}
use Rattle.stun_proto.specs.Run.{IsAwaited, IsNext, Phase, Turn, sends, rests, ends, again, stops}

-- ---- the least awaited moment of an agent
pub next_le : (a : Agent) (n other : ℕ) → Some n ≡ next_awaited a.transport a.transactions
    → IsAwaited a other → n ≤ other
next_le a n other f (k, v, found, live, is) = let least =
    least_le a.transport a.transactions None n k v found live (sym f) in omega (least, is, arith)

pub next_none : (a : Agent) (other : ℕ) → None ≡ next_awaited a.transport a.transactions
    → IsAwaited a other → ⊥
next_none a other f (k, v, found, live, is) =
    least_some a.transport a.transactions None k v found live (sym f)

pub next_is_awaited : (a : Agent) (n : ℕ) → IsAscending a.transactions
    → Some n ≡ next_awaited a.transport a.transactions → IsAwaited a n
next_is_awaited a n s f = by (least_in a.transport a.transactions None n s (sym f))
  where
    by : (None ≡ Some n) ⊎ Awaits a.transport a.transactions n → IsAwaited a n
    by (inl absent) = cc
    by (inr found) = found

pub next_is : (a : Agent) (from n : ℕ) → IsAscending a.transactions
    → Some n ≡ next_awaited a.transport a.transactions → from ≤ n → IsNext a from n
next_is a from n s f late =
    record {
      awaited_then = next_is_awaited a n s f;
      late = late;
      least = λ other awaits _. next_le a n other f awaits;
    }

-- ---- what a turn leaves
pub turn_passes : (now : ℕ) {phase : Phase} {a b : Agent} {steps : List Step}
    → Turn now phase a steps b → HasPassed (now + 1) b
turn_passes now (sends e f t) = turn_passes now t
turn_passes now (rests f t) = turn_passes now t
turn_passes now (ends e f t) = turn_passes now t
turn_passes now (again f w less t) = turn_passes now t
turn_passes now (stops {a} f (inl before)) = inr (later now a before)
  where
    later : (now : ℕ) (a : Agent) → now < wake_up a.transport now a.transactions → (m : ℕ)
        → IsAwaited a m → now + 1 ≤ m
    later now a before m (k, v, found, live, is) =
        let least =
        fold-min-le (λ (e : ℕ × Transaction). awaited_moment a.transport e.1) a.transactions
        (moment_after now an_hour) k v found in
        omega (least, is, before, arith)
turn_passes now (stops f (inr last)) = inl (omega arith)
