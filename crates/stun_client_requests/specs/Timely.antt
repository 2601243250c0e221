-- When the requests of a client are sent for the last time, and when they end, by one plan for all
-- messages of a request (RFC 8489, sections 6.2.1 and 6.2.2).
use Rattle.std.specs.Prelude.{◌≡◌, ◌<◌, ◌≤◌, ◌==◌, ℕ, Bool, false, max, if◌then◌else◌, Option}
use Rattle.std.specs.Prelude.{Some}
use Rattle.std.specs.Option.{IfSome, IsSome}
use Rattle.stun_base.specs.Moments.{moment_after}
use Rattle.stun_base.specs.declared.wire.transport.TransportType.TheVariants.{Tcp}
use Rattle.stun_agent.specs.Tables.{Attached, datum_at}
use Rattle.stun_agent.specs.Timing.{Settings, final_wait}
use Rattle.stun_agent.specs.Transactions.{IsAscending, Transaction, Transactions}
use Rattle.stun_agent.specs.Transactions.{at as transaction_at}
use Rattle.stun_agent.specs.declared.state.transaction.Sending.TheVariants.{Repeats}
use Rattle.stun_client_requests.specs.Laws.{IsRequests}
use Rattle.stun_client_requests.specs.Requests.{RequestsSeen, polled}
use Rattle.stun_client_requests.specs.declared.requests.Polled.{Polled}
use Rattle.stun_client_requests.specs.declared.requests.Polled.TheVariants.{Ended, TimedOut}
use Rattle.stun_client_requests.specs.declared.requests.Polled.TheVariants.{Transmit, Wait}
use Rattle.stun_client_requests.specs.declared.requests.Request.{Request}

-- a request has a timer that follows this plan, and its message was sent for the last time at or
-- before this time
pub record HasTimer (plan : Settings) (bound id : ℕ) (all : Transactions) : Type 0 where
  pub timer : Transaction
  pub there : transaction_at id all ≡ Some timer
  pub planned : timer.settings ≡ plan
  pub goes_on : timer.sending ≡ Repeats
  pub early : timer.last ≤ bound

-- each outstanding request has such a timer, which follows the request's plan, and each timer
-- belongs to an outstanding request
pub record AreTimely {D : Type 0} (plan : Request D → Settings) (bound : Request D → ℕ)
    (timers : Transactions) (all : Attached (Request D)) : Type 0 where
  pub ordered : IsAscending timers
  pub timed : (id : ℕ) (q : Request D) → datum_at id all ≡ Some q
      → HasTimer (plan q) (bound q) id timers
  pub owned : (id : ℕ) (t : Transaction) → transaction_at id timers ≡ Some t
      → IsSome (datum_at id all)

abbrev pub IsTimely : {D E : Type 0} → (Request D → Settings) → (Request D → ℕ) → RequestsSeen D E
    → Type 0
IsTimely plan bound r = AreTimely plan bound r.table.requests r.table.attached

-- whether a poll names the request with this number, to be sent
abbrev pub is_named : {D E : Type 0} → Polled D E → ℕ → Bool
is_named (Transmit number) other = number == other
is_named (Ended number end) other = false
is_named (TimedOut number datum) other = false
is_named (Wait until) other = false

-- after a poll has returned this, the times at or before which the requests were sent for the last
-- time
abbrev pub bound_after : {D E : Type 0} → ℕ → Polled D E → (Request D → ℕ) → Request D → ℕ
bound_after now told bound q = if is_named told q.number then max now (bound q) else bound q

-- the end of a request has not come yet, and the wait ends no later than that
pub record IsInTime (now end : ℕ) (until : Option ℕ) : Type 0 where
  pub early : now < end
  pub awaited : IfSome until (λ moment. moment ≤ end)

-- each poll preserves `IsTimely`, whether it says to send a request or not
abbrev pub PollsKeepTime : Type 0 → Type 0 → Type 0
PollsKeepTime D E = (plan : Request D → Settings) (bound : Request D → ℕ) (now : ℕ)
    (r : RequestsSeen D E)
    → IsRequests r → IsTimely plan bound r
    → IsTimely plan (bound_after now (polled now r).0 bound) (polled now r).1

-- if a poll says to wait, then for each outstanding request a whole plan has not passed since it
-- was sent for the last time, and the wait ends no later than the end of that plan
abbrev pub WaitsInTime : Type 0 → Type 0 → Type 0
WaitsInTime D E = (plan : Request D → Settings) (bound : Request D → ℕ) (now : ℕ) (until : Option ℕ)
    (r after : RequestsSeen D E) (id : ℕ) (q : Request D)
    → IsTimely plan bound r → polled now r ≡ (Wait until, after)
    → datum_at id after.table.attached ≡ Some q
    → IsInTime now (moment_after (bound q) (final_wait Tcp (plan q))) until
