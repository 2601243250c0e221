-- One call of a turn, with the step that it adds.
use Rattle.std.specs.Prelude.{ℕ, ◌≡◌, ◌≤◌, Bool, true, false, if◌then◌else◌, List}
use Rattle.std.specs.Prelude.{[], ◌∷◌, ◌++◌, length, Option, Some, None, ◌<◌, ◌⊎◌}
use Rattle.stun_agent.specs.Agent.{Agent, sent_by_poll, after_poll_transmit}
use Rattle.stun_agent.specs.Agent.{ended_by_poll, after_poll}
use Rattle.stun_agent.specs.Transactions.{Transaction, wake_up}
use Rattle.stun_proto.specs.code.Work.{work, IsIdle}
use Rattle.stun_base.specs.Moments.{last_moment}
use Rattle.stun_proto.specs.declared.replay.event.AgentEvent.{AgentEvent}
use Rattle.stun_proto.specs.declared.replay.step_log.StepLog.{StepLog}
use Rattle.stun_proto.specs.Steps.{Step, steps_of}
use Rattle.stun_proto.specs.Run.{transmission_step, end_step, Phase, sending, ending, Turn}
use Rattle.stun_proto.specs.Run.{Turns, Run, IsAwaited, after_event, steps_of_event}

-- the steps of a log, unless they are lost
abbrev pub kept_steps : {A : Type 0} → StepLog A → Option (List Step)
kept_steps log = if log.is_lost then None else Some (steps_of log.steps.items)

-- the steps of a log are not lost
abbrev pub IsKept : {A : Type 0} → StepLog A → Type 0
IsKept log = log.is_lost ≡ false

-- the earlier steps and these: all of them, or they are lost
abbrev pub Keeps : Option (List Step) → List Step → Option (List Step) → Type 0
Keeps before steps None = Unit {0}
Keeps None steps (Some after) = ⊥
Keeps (Some before) steps (Some after) = after ≡ before ++ steps

-- a transmission, if one is due
abbrev pub SendsOne : ℕ → Agent → Agent → Option (List Step) → Option (List Step) → Bool → Type 0
SendsOne now old new before after true =
    (e : ℕ × Transaction) × (sent_by_poll now old ≡ Some e) × (new ≡ after_poll_transmit now old)
    × Keeps before (transmission_step now e ∷ []) after
SendsOne now old new before after false =
    (sent_by_poll now old ≡ None) × (new ≡ after_poll_transmit now old) × (after ≡ before)

-- an end, if one is due, and otherwise the time to wait until
abbrev pub EndsOne : ℕ → Agent → Agent → Option (List Step) → Option (List Step) → Option ℕ → Type 0
EndsOne now old new before after None =
    (e : ℕ × Transaction) × (ended_by_poll now old ≡ Some e) × (new ≡ after_poll now old)
    × Keeps before (end_step now e ∷ []) after
EndsOne now old new before after (Some moment) =
    (ended_by_poll now old ≡ None) × (moment ≡ wake_up old.transport now old.transactions)
    × (new ≡ old) × (after ≡ before)

-- some calls of a turn were made, and added their steps: the turn continues from `new` in phase q
pub record Leads (now : ℕ) (p q : Phase) (old new : Agent)
    (before after : Option (List Step)) : Type 0 where
  pub steps : List Step
  pub added : Keeps before steps after
  pub goes_on : (more : List Step) (b : Agent) → Turn now q new more b
      → Turn now p old (steps ++ more) b

-- less is left to do
abbrev pub HasWorked : Agent → Agent → Type 0
HasWorked old new = work new.transport new.transactions < work old.transport old.transactions

-- all transmissions of a time
pub record SendsAll (now : ℕ) (old new : Agent) (before after : Option (List Step)) : Type 0 where
  pub leads : Leads now sending ending old new before after
  pub progress : HasWorked old new ⊎ ((new ≡ old) × IsIdle new.transport now new.transactions)

-- all ends of a time, and the time to wait until
pub record EndsAll (now : ℕ) (old new : Agent) (before after : Option (List Step)) (wait : ℕ) : Type
    0 where
  pub leads : Leads now ending ending old new before after
  pub progress : HasWorked old new ⊎ (new ≡ old)
  pub settled : ended_by_poll now new ≡ None
  pub waits : wait ≡ wake_up new.transport now new.transactions

-- a whole turn
pub record TakesTurn (now : ℕ) (old new : Agent) (before after : Option (List Step)) : Type 0 where
  pub steps : List Step
  pub added : Keeps before steps after
  pub turned : Turn now sending old steps new

-- no time below this one is awaited any more, or it is past the last time
abbrev pub HasPassed : ℕ → Agent → Type 0
HasPassed from a = (last_moment < from) ⊎ ((moment : ℕ) → IsAwaited a moment → from ≤ moment)

-- the turns at awaited times
pub record TakesTurns (bound from : ℕ) (old new : Agent) (before after : Option (List Step)) : Type
    0 where
  pub steps : List Step
  pub added : Keeps before steps after
  pub turned : Turns bound from old steps new

-- some of these turns were taken, and added their steps
pub record TurnsLead (bound from at : ℕ) (old new : Agent)
    (before after : Option (List Step)) : Type 0 where
  pub steps : List Step
  pub added : Keeps before steps after
  pub goes_on : (more : List Step) (b : Agent) → Turns bound at new more b
      → Turns bound from old (steps ++ more) b
  pub passed : HasPassed at new

-- an event
pub record TakesEvent (moment : ℕ) (event : AgentEvent) (old new : Agent)
    (before after : Option (List Step)) : Type 0 where
  pub changed : new ≡ after_event moment event old
  pub added : Keeps before (steps_of_event moment event old) after

-- the turns before an event, the event, and the turn at its time
pub record TakesWhole (from moment : ℕ) (event : AgentEvent) (old new : Agent)
    (before after : Option (List Step)) : Type 0 where
  pub between : Agent
  pub earlier : List Step
  pub later : List Step
  pub added : Keeps before (earlier ++ (steps_of_event moment event between ++ later)) after
  pub turned : Turns moment from old earlier between
  pub turned_then : Turn moment sending (after_event moment event between) later new

-- the first `done` events of a run were taken, and the others are left
pub record RunLeads (old : Agent) (events : List (ℕ × AgentEvent)) (done from : ℕ) (new : Agent)
    (left : List (ℕ × AgentEvent)) (after : Option (List Step)) : Type 0 where
  pub complete : List (ℕ × AgentEvent)
  pub steps : List Step
  pub divided : events ≡ complete ++ left
  pub counted : length complete ≡ done
  pub added : Keeps (Some []) steps after
  pub goes_on : (bound : ℕ) (later : List (ℕ × AgentEvent)) (more : List Step) (b : Agent)
      → Run bound from new later more b → Run bound 0 old (complete ++ later) (steps ++ more) b
  pub passed : HasPassed from new
