-- A run that stops because an allocation failed, and how it is continued.
use Rattle.std.specs.Prelude.{ℕ, ◌≡◌, ◌+◌, ◌<◌, ◌≤◌, List, [], ◌∷◌, ◌++◌, length, drop}
use Rattle.std.specs.List.{AllByRecursion}
use Rattle.stun_base.specs.Moments.{last_moment}
use Rattle.stun_agent.specs.Agent.{Agent}
use Rattle.stun_proto.specs.declared.replay.event.AgentEvent.{AgentEvent}
use Rattle.stun_proto.specs.Run.{Run, IsDriven}
use Rattle.stun_proto.specs.Steps.{Step}

-- the turns of the awaited times below this one have been taken: up to the next event's time, or up
-- to `until` if no event is left
abbrev pub next_bound : ℕ → List (ℕ × AgentEvent) → ℕ
next_bound until [] = until + 1
next_bound until (e ∷ es) = e.0

-- the first `done` events were taken and the others are left. The agent is exactly the one that
-- these have led to, with the turns before the next one; the steps are lost
pub record HasStopped (until done : ℕ) (a : Agent) (events : List (ℕ × AgentEvent))
    (b : Agent) : Type 0 where
  pub complete : List (ℕ × AgentEvent)
  pub left : List (ℕ × AgentEvent)
  pub lost : List Step
  pub divided : events ≡ complete ++ left
  pub counted : length complete ≡ done
  pub taken : Run (next_bound until left) 0 a complete lost b

-- ---- continuing
-- The agent as it was left is driven over the events that are left. This makes the later steps of
-- the whole run, those after the lost ones, and ends with its agent
abbrev pub StoppedRunsGoOn : Type 0
StoppedRunsGoOn =
    (until done : ℕ) (a b c : Agent) (events : List (ℕ × AgentEvent)) (more : List Step)
    (stopped : HasStopped until done a events b)
    → done < length events → IsDriven until b (drop done events) more c
    → IsDriven until a events (stopped.lost ++ more) c

-- and each whole run has these two parts: the lost steps, and those that are made from there on
abbrev pub StoppedRunsHaveTheRest : Type 0
StoppedRunsHaveTheRest =
    (until done : ℕ) (a b c : Agent) (events : List (ℕ × AgentEvent)) (steps : List Step)
    (stopped : HasStopped until done a events b)
    → done < length events → IsDriven until a events steps c → (more : List Step)
    × (steps ≡ stopped.lost ++ more) × IsDriven until b (drop done events) more c

-- if no event is past the last time, a run that stops again has stopped in the whole run, after
-- this many more events
abbrev pub StoppedRunsStopAgain : Type 0
StoppedRunsStopAgain = (until done further : ℕ) (a b c : Agent) (events : List (ℕ × AgentEvent))
    → AllByRecursion (λ e. e.0 ≤ last_moment) events
    → HasStopped until done a events b → done < length events
    → HasStopped until further b (drop done events) c → HasStopped until (done + further) a events c

-- if no event is left, the agent is the one that the whole run ends with, and all its steps are
-- lost
abbrev pub StoppedRunsEnd : Type 0
StoppedRunsEnd =
    (until : ℕ) (a b : Agent) (events : List (ℕ × AgentEvent))
    (stopped : HasStopped until (length events) a events b)
    → 0 < length events → IsDriven until a events stopped.lost b
