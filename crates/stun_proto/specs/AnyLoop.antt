-- An agent in whatever loop its user has: a sequence of calls, each at a time of its own (RFC 8489,
-- section 6.2.1).
use Rattle.std.specs.Prelude.{ℕ, ◌≡◌, ◌+◌, ◌*◌, ◌<◌, ◌≤◌, suc, if◌then◌else◌, nat_lt, List, [], ◌∷◌}
use Rattle.std.specs.Prelude.{◌++◌, Some, None}
use Rattle.std.specs.List.{AllByRecursion}
use Rattle.std.specs.Global.{Vec}
use Rattle.std.specs.declared.net.socket_addr.SocketAddr.{SocketAddr}
use Rattle.stun_base.specs.Header.{transaction_id_field}
use Rattle.stun_base.specs.Moments.{last_moment, moment_after}
use Rattle.stun_base.specs.declared.wire.transport.TransportType.{TransportType}
use Rattle.stun_agent.specs.Agent.{Agent, request_refusal, sent_by_poll, after_poll_transmit}
use Rattle.stun_agent.specs.Agent.{ended_by_poll, after_poll}
use Rattle.stun_agent.specs.Timing.{Settings, final_wait, planned_end, slots, timeout}
use Rattle.stun_agent.specs.Transactions.{IsAscending, Transaction}
use Rattle.stun_proto.specs.declared.replay.event.AgentEvent.{AgentEvent}
use Rattle.stun_proto.specs.declared.replay.event.AgentEvent.TheVariants.{SendRequest}
use Rattle.stun_proto.specs.Run.{IsAwaited, after_event, end_step, steps_of_event}
use Rattle.stun_proto.specs.Run.{transmission_step}
use Rattle.stun_proto.specs.Schedule.{IsAimedAt, transmission}
use Rattle.stun_proto.specs.Steps.{Step, Transmitted, TimedOut, steps_to_end}

-- ---- the loop
-- A call at a time, where the call before it was at `from`. Times do not go back, and none is the
-- last representable one, 584 years on. No time that a request awaits is more than `late`
-- nanoseconds ago
pub record IsCall (late from now : ℕ) (a : Agent) : Type 0 where
  pub no_earlier : from ≤ now
  pub less : now < last_moment
  pub punctual : (moment : ℕ) → IsAwaited a moment → now ≤ moment + late

-- the calls that change neither requests nor transport, such as `forget_validated_peer`,
-- `send_data`, `stats_mut`, and all that only read
pub record IsBeside (a b : Agent) : Type 0 where
  pub same_transport : b.transport ≡ a.transport
  pub same_requests : b.transactions ≡ a.transactions

-- Any calls, in any order: an event; `poll_transmit`, which returns bytes to send or `None`;
-- `poll`, which returns an end or the time to wait until; and the calls of `IsBeside`. They begin
-- after a call at `from` and end with one at `last`
pub data Calls (late : ℕ) :
    ℕ → Agent → List (ℕ × AgentEvent) → List Step → ℕ → Agent → Type 0 where
  rest : {a : Agent} {from : ℕ} → Calls late from a [] [] from a
  event : {a b : Agent} {from last : ℕ} {events : List (ℕ × AgentEvent)} {more : List Step}
      (now : ℕ) (e : AgentEvent) → IsCall late from now a
      → Calls late now (after_event now e a) events more last b
      → Calls late from a ((now, e) ∷ events) (steps_of_event now e a ++ more) last b
  transmits : {a b : Agent} {from last : ℕ} {events : List (ℕ × AgentEvent)} {more : List Step}
      (now : ℕ) (e : ℕ × Transaction) → IsCall late from now a → sent_by_poll now a ≡ Some e
      → Calls late now (after_poll_transmit now a) events more last b
      → Calls late from a events (transmission_step now e ∷ more) last b
  transmits_none : {a b : Agent} {from last : ℕ} {events : List (ℕ × AgentEvent)}
      {more : List Step} (now : ℕ) → IsCall late from now a → sent_by_poll now a ≡ None
      → Calls late now (after_poll_transmit now a) events more last b
      → Calls late from a events more last b
  ends : {a b : Agent} {from last : ℕ} {events : List (ℕ × AgentEvent)} {more : List Step}
      (now : ℕ) (e : ℕ × Transaction) → IsCall late from now a → ended_by_poll now a ≡ Some e
      → Calls late now (after_poll now a) events more last b
      → Calls late from a events (end_step now e ∷ more) last b
  ends_none : {a b : Agent} {from last : ℕ} {events : List (ℕ × AgentEvent)} {more : List Step}
      (now : ℕ) → IsCall late from now a → ended_by_poll now a ≡ None
      → Calls late now (after_poll now a) events more last b
      → Calls late from a events more last b
  beside : {a b c : Agent} {from last : ℕ} {events : List (ℕ × AgentEvent)} {more : List Step}
      (now : ℕ) → IsCall late from now a → IsBeside a b
      → Calls late now b events more last c
      → Calls late from a events more last c

-- ---- a request in it
-- the time at which it is due, after k timeouts, the last of which passed at `before`: for a
-- retransmission, or to time out
abbrev pub next_due : TransportType → Settings → ℕ → ℕ → ℕ
next_due transport settings k before =
    moment_after before
    (if nat_lt k (slots transport settings) then timeout settings k
    else final_wait transport settings)

-- `now` is `due` or later, by at most `late`
pub record IsLate (late due now : ℕ) : Type 0 where
  pub no_earlier : due ≤ now
  pub no_later : now ≤ due + late

-- The steps of a request that is first sent at `start`, after k timeouts, the last of which passed
-- at `before`, up to its end. The last call is at `last`. Each step comes once the request is due,
-- at most `late` nanoseconds after that. Compared with the plan of the request, transmission k,
-- counted from 0, is late by at most k times as much, and the timeout by at most once more than the
-- last transmission. As long as a step is missing, the last call is at most `late` nanoseconds past
-- the time at which the request is due
pub data InTime (late id : ℕ) (transport : TransportType) (settings : Settings) (bytes : List ℕ)
    (to : SocketAddr) (start last : ℕ) : ℕ → ℕ → List Step → Type 0 where
  awaits : {k before : ℕ} → last ≤ next_due transport settings k before + late
      → InTime late id transport settings bytes to start last k before []
  sends : {k before : ℕ} {steps : List Step} (now : ℕ) → k < slots transport settings
      → IsLate late (next_due transport settings k before) now
      → IsLate (suc k * late) (transmission start settings (suc k)) now
      → InTime late id transport settings bytes to start last (suc k) now steps
      → InTime late id transport settings bytes to start last k before
      (Transmitted now id to bytes ∷ steps)
  times_out : {k before : ℕ} (now : ℕ) → k ≡ slots transport settings
      → IsLate late (next_due transport settings k before) now
      → IsLate (suc k * late) (planned_end transport settings start) now
      → InTime late id transport settings bytes to start last k before (TimedOut now id ∷ [])

-- ---- the laws
-- A request that an agent accepts at `start`, and at which no later event is aimed: in every
-- sequence of calls that follows, its steps are in time
abbrev pub CallsSendInTime : Type 0
CallsSendInTime =
    (late last start : ℕ) (a b : Agent) (bytes : Vec ℕ) (to : SocketAddr)
    (later : List (ℕ × AgentEvent)) (steps : List Step) → start < last_moment
    → IsAscending a.transactions → request_refusal a bytes.items to ≡ None
    → AllByRecursion (λ e. IsAimedAt (transaction_id_field bytes.items) to e.1 → ⊥) later
    → Calls late start (after_event start (SendRequest bytes to) a) later steps last b
    → let id = transaction_id_field bytes.items in
    InTime late id a.transport a.settings bytes.items to start last 0 start
    (steps_to_end id steps)

-- what a user calls: an event, `poll_transmit`, or `poll`
pub data Called : Type 0 where
  handed : AgentEvent → Called
  poll_transmit : Called
  poll : Called

abbrev pub events_called : List (ℕ × Called) → List (ℕ × AgentEvent)
events_called [] = []
events_called ((now, handed e) ∷ calls) = (now, e) ∷ events_called calls
events_called ((now, poll_transmit) ∷ calls) = events_called calls
events_called ((now, poll) ∷ calls) = events_called calls

abbrev pub AreNoEarlier : ℕ → List (ℕ × Called) → Type 0
AreNoEarlier from [] = Unit {0}
AreNoEarlier from (c ∷ calls) = (from ≤ c.0) × (c.0 < last_moment) × AreNoEarlier c.0 calls

-- for every sequence of calls at times that do not go back, there are such calls, however late
abbrev pub CallsExist : Type 0
CallsExist =
    (from : ℕ) (a : Agent) (calls : List (ℕ × Called)) → AreNoEarlier from calls
    → (late last : ℕ) × (steps : List Step) × (b : Agent)
    × Calls late from a (events_called calls) steps last b
