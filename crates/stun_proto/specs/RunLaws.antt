-- Laws of runs, whoever makes the calls: there is exactly one run of each list of events, and each
-- request keeps its plan.
use Rattle.std.specs.Prelude.{ℕ, ◌≡◌, ◌≤◌, List, ◌∷◌, ◌++◌, filter, None}
use Rattle.std.specs.List.{AllByRecursion}
use Rattle.std.specs.Global.{Vec}
use Rattle.std.specs.declared.net.socket_addr.SocketAddr.{SocketAddr}
use Rattle.stun_base.specs.Header.{transaction_id_field}
use Rattle.stun_base.specs.Moments.{last_moment}
use Rattle.stun_agent.specs.Agent.{Agent, request_refusal}
use Rattle.stun_agent.specs.Timing.{planned_end}
use Rattle.stun_agent.specs.Transactions.{IsAscending}
use Rattle.stun_proto.specs.declared.replay.event.AgentEvent.{AgentEvent}
use Rattle.stun_proto.specs.declared.replay.event.AgentEvent.TheVariants.{SendRequest}
use Rattle.stun_proto.specs.Run.{Run, IsDriven}
use Rattle.stun_proto.specs.Schedule.{Requester, Asks, AreInOrder, IsUndisturbed, plan, steps_until}
use Rattle.stun_proto.specs.Steps.{Step, is_of, steps_to_end}

-- what an agent's requests depend on
abbrev pub requester : Agent → Requester
requester a =
    record {
      transport = a.transport;
      remote_addr = a.remote_addr;
      settings = a.settings;
      outstanding = a.transactions;
    }

-- The steps of a run from a request on, which reaches this agent after these steps. Let the agent
-- accept the request, and let nothing disturb it. Then the steps of its transaction are its plan up
-- to its first end, as far as the run reaches. These are all steps of its ID if no later event asks
-- for the ID
pub record GoesByPlan (until : ℕ) (agent : Agent) (later : List (ℕ × AgentEvent)) (start : ℕ)
    (bytes : List ℕ) (to : SocketAddr) (before steps : List Step) : Type 0 where
  pub after : List Step
  pub divided : steps ≡ before ++ after
  pub keeps : request_refusal agent bytes to ≡ None
      → IsUndisturbed (transaction_id_field bytes) to
      (planned_end agent.transport agent.settings start) later
      → steps_to_end (transaction_id_field bytes) after
      ≡ steps_until until
      (plan agent.transport start agent.settings (transaction_id_field bytes) to bytes)
  pub once : request_refusal agent bytes to ≡ None
      → IsUndisturbed (transaction_id_field bytes) to
      (planned_end agent.transport agent.settings start) later
      → AllByRecursion (λ e. Asks (transaction_id_field bytes) e.1 → ⊥) later
      → filter (is_of (transaction_id_field bytes)) after
      ≡ steps_until until
      (plan agent.transport start agent.settings (transaction_id_field bytes) to bytes)

-- A request of a run: the earlier events have a run up to its time. Whatever agent and steps that
-- run ends with, from there the request follows its plan
pub record KeepsItsPlan (until : ℕ) (a : Agent) (earlier later : List (ℕ × AgentEvent)) (start : ℕ)
    (bytes : List ℕ) (to : SocketAddr) (steps : List Step) : Type 0 where
  pub comes : (agent : Agent) × (before : List Step) × Run start 0 a earlier before agent
  pub goes_on : (agent : Agent) (before : List Step) → Run start 0 a earlier before agent
      → GoesByPlan until agent later start bytes to before steps

-- and so does each request of a run, wherever it is among the events
abbrev pub KeepPlans : ℕ → Agent → List (ℕ × AgentEvent) → List Step → Type 0
KeepPlans until a events steps =
    (earlier later : List (ℕ × AgentEvent)) (start : ℕ) (bytes : Vec ℕ) (to : SocketAddr)
    → events ≡ earlier ++ (start, SendRequest bytes to) ∷ later
    → KeepsItsPlan until a earlier later start bytes.items to steps

-- events have at most one run: its steps and the agent after it are determined
abbrev pub IsDetermined : Type 0
IsDetermined = (until : ℕ) (a b c : Agent) (events : List (ℕ × AgentEvent)) (steps more : List Step)
    → IsDriven until a events steps b → IsDriven until a events more c
    → (steps ≡ more) × (b ≡ c)

-- the same from every time on and up to every bound, also for a run whose bound is below its events
abbrev pub IsDeterminedThroughout : Type 0
IsDeterminedThroughout =
    (bound from : ℕ) (a b c : Agent) (events : List (ℕ × AgentEvent)) (steps more : List Step)
    → Run bound from a events steps b → Run bound from a events more c
    → (steps ≡ more) × (b ≡ c)

-- events have a run
abbrev pub HasRun : ℕ → Agent → List (ℕ × AgentEvent) → Type 0
HasRun until a events = (steps : List Step) × (b : Agent) × IsDriven until a events steps b

-- each list of events in order has one
abbrev pub EventsHaveRuns : Type 0
EventsHaveRuns = (until : ℕ) (a : Agent) (events : List (ℕ × AgentEvent)) → until ≤ last_moment
    → IsAscending a.transactions → AreInOrder until 0 events → HasRun until a events
