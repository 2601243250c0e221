-- An agent that its user polls in a loop of whole turns, over a simulated clock (RFC 8489, section
-- 6.2.1).
use Rattle.std.specs.Prelude.{ℕ, ◌≡◌, ◌+◌, ◌<◌, ◌≤◌, List, []}
use Rattle.std.specs.Prelude.{◌∷◌, ◌++◌, filter_map, Option, Some, None}
use Rattle.std.specs.List.{AllByRecursion}
use Rattle.std.specs.Option.{option_map}
use Rattle.stun_base.specs.Moments.{last_moment}
use Rattle.stun_agent.specs.Agent.{Agent}
use Rattle.stun_agent.specs.Transactions.{wake_up}
use Rattle.stun_proto.specs.declared.replay.event.AgentEvent.{AgentEvent}
use Rattle.stun_proto.specs.Headline.{SendsByPlan}
use Rattle.stun_proto.specs.Run.{IsDriven, Turn, sending, after_event, steps_of_event}
use Rattle.stun_proto.specs.RunLaws.{requester}
use Rattle.stun_proto.specs.Steps.{Step}

-- ---- the loop
-- what comes at one time of a loop: an event, or nothing but the time
abbrev pub Comings : Type 0
Comings = List (ℕ × Option AgentEvent)

-- the time until which `poll` says to wait
abbrev pub wait_of : ℕ → Agent → ℕ
wait_of now agent = wake_up agent.transport now agent.transactions

-- A loop over an agent. At each of its times the agent either receives an event and a turn follows,
-- or a turn alone is taken. A turn is `poll_transmit` until it returns `None`, then `poll` until it
-- returns `WaitUntil`. What comes at one time is passed to the agent before a turn alone. Times do
-- not go back, and none is the last representable one, 584 years on. Each is at most `late`
-- nanoseconds after the one that the last `poll` said to wait until. A loop begins with a time that
-- nothing comes before, a time to wait until, and an agent. It ends with a time to wait until and
-- an agent
pub data Loop (late : ℕ) : ℕ → ℕ → Agent → Comings → List Step → ℕ → Agent → Type 0 where
  rest : {a : Agent} {from wait : ℕ} → Loop late from wait a [] [] wait a
  handed : {a b c : Agent} {from wait last : ℕ} {comings : Comings} {turned more : List Step}
      (now : ℕ) (e : AgentEvent) → from ≤ now → now ≤ wait + late → now < last_moment
      → Turn now sending (after_event now e a) turned b
      → Loop late now (wait_of now b) b comings more last c
      → Loop late from wait a ((now, Some e) ∷ comings)
      (steps_of_event now e a ++ (turned ++ more)) last c
  polled : {a b c : Agent} {from wait last : ℕ} {comings : Comings} {turned more : List Step}
      (now : ℕ) → from ≤ now → now ≤ wait + late → now < last_moment
      → Turn now sending a turned b
      → Loop late (now + 1) (wait_of now b) b comings more last c
      → Loop late from wait a ((now, None) ∷ comings) (turned ++ more) last c

-- the events that the agent receives
abbrev pub events_in : Comings → List (ℕ × AgentEvent)
events_in comings = filter_map (λ c. option_map (λ e. (c.0, e)) c.1) comings

-- the earliest time that may follow a time of a loop, with its event or without one
abbrev pub next_from : ℕ → Option AgentEvent → ℕ
next_from now None = now + 1
next_from now (Some e) = now

abbrev pub AreInTurn : ℕ → Comings → Type 0
AreInTurn from [] = Unit {0}
AreInTurn from (c ∷ comings) =
    (from ≤ c.0) × (c.0 < last_moment) × AreInTurn (next_from c.0 c.1) comings

-- for whatever comes at such times there is a loop, on time or late
abbrev pub LoopsExist : Type 0
LoopsExist =
    (from wait : ℕ) (a : Agent) (comings : Comings) → AreInTurn from comings
    → (late last : ℕ) × (steps : List Step) × (b : Agent)
    × Loop late from wait a comings steps last b

-- ---- on time
-- no time of the loop is past `until`, and the next one that `poll` has returned is
pub record RunsUntil (until : ℕ) (comings : Comings) (last : ℕ) : Type 0 where
  pub is_moment : until ≤ last_moment
  pub within : AllByRecursion (λ c. c.0 ≤ until) comings
  pub no_more : until < last

-- An agent with no request outstanding, in a loop that is never late, makes the steps of `drive`
-- with the same events. It is then the same agent
abbrev pub LoopsAreDriven : Type 0
LoopsAreDriven =
    (until from wait last : ℕ) (a b : Agent) (comings : Comings) (steps : List Step)
    → a.transactions ≡ [] → RunsUntil until comings last
    → Loop 0 from wait a comings steps last b
    → IsDriven until a (events_in comings) steps b

-- so the third sentence applies to it
abbrev pub LoopsSendByPlan : Type 0
LoopsSendByPlan =
    (until from wait last : ℕ) (a b : Agent) (comings : Comings) (steps : List Step)
    → a.transactions ≡ [] → RunsUntil until comings last
    → Loop 0 from wait a comings steps last b
    → SendsByPlan until (requester a) (events_in comings) steps
