-- A driven run: which calls are made of an agent, when, and what they answer (RFC 8489, section
-- 6.2.1).
use Rattle.std.specs.Prelude.{ℕ, ◌≡◌, ◌+◌, ◌<◌, ◌≤◌, ◌⊎◌, false}
use Rattle.std.specs.Prelude.{if◌then◌else◌, List, [], ◌∷◌, ◌++◌, Some, None}
use Rattle.std.specs.Duration.{as_nanos}
use Rattle.std.specs.Option.{option_map_or}
use Rattle.std.specs.declared.net.socket_addr.SocketAddr.{SocketAddr}
use Rattle.stun_base.specs.Header.{transaction_id_field}
use Rattle.stun_base.specs.Moments.{last_moment}
use Rattle.stun_types.specs.Message.{refusal}
use Rattle.stun_agent.specs.Agent.{Agent, with_transactions, with_validated, sending_refusal}
use Rattle.stun_agent.specs.Agent.{after_send, request_refusal, after_send_request}
use Rattle.stun_agent.specs.Agent.{takes_message, after_message, ended_by_poll, after_poll}
use Rattle.stun_agent.specs.Agent.{sent_by_poll, after_poll_transmit}
use Rattle.stun_agent.specs.Transactions.{Transaction, at, with_change_at, with_cancellation}
use Rattle.stun_agent.specs.Transactions.{without_retransmissions}
use Rattle.stun_agent.specs.Transactions.{with_settings, wake_up, awaited_moment, is_cancelled}
use Rattle.stun_agent.specs.Transactions.{repeats}
use Rattle.stun_agent.specs.declared.error.StunError.TheVariants.{ParseError}
use Rattle.stun_proto.specs.declared.replay.event.AgentEvent.{AgentEvent}
use Rattle.stun_proto.specs.declared.replay.event.AgentEvent.TheVariants.{Send, SendRequest}
use Rattle.stun_proto.specs.declared.replay.event.AgentEvent.TheVariants.{Receive, Cancel}
use Rattle.stun_proto.specs.declared.replay.event.AgentEvent.TheVariants.{CancelRetransmissions}
use Rattle.stun_proto.specs.declared.replay.event.AgentEvent.TheVariants.{Configure, ValidatePeer}
use Rattle.stun_proto.specs.Steps.{Step, Transmitted, Sent, Received, Refused, TimedOut, Cancelled}

-- ---- steps
abbrev pub transmission_step : ℕ → ℕ × Transaction → Step
transmission_step now e = Transmitted now e.0 e.1.to e.1.bytes

abbrev pub end_step : ℕ → ℕ × Transaction → Step
end_step now e = if repeats e.1.sending then TimedOut now e.0 else Cancelled now e.0

-- ---- events
-- the agent once the request of an ID is changed, if there is one
abbrev pub after_change : (Transaction → Transaction) → ℕ → Agent → Agent
after_change f id agent = with_transactions agent (with_change_at f id agent.transactions)

-- a message is sent, which awaits no answer
abbrev pub after_sending : List ℕ → SocketAddr → Agent → Agent
after_sending bytes to agent =
    option_map_or (λ _. agent) (sending_refusal agent bytes to) (after_send bytes agent)

abbrev pub step_of_sending : ℕ → List ℕ → SocketAddr → Agent → Step
step_of_sending now bytes to agent =
    option_map_or (λ error. Refused now error) (sending_refusal agent bytes to) (Sent now to bytes)

-- a request is sent
abbrev pub after_asking : ℕ → List ℕ → SocketAddr → Agent → Agent
after_asking now bytes to agent =
    option_map_or (λ _. agent) (request_refusal agent bytes to)
    (after_send_request agent bytes to now)

abbrev pub step_of_asking : ℕ → List ℕ → SocketAddr → Agent → Step
step_of_asking now bytes to agent =
    option_map_or (λ error. Refused now error) (request_refusal agent bytes to)
    (Transmitted now (transaction_id_field bytes) to bytes)

-- bytes are received
abbrev pub after_receiving : ℕ → List ℕ → SocketAddr → Agent → Agent
after_receiving now bytes from agent =
    option_map_or (λ _. agent) (refusal bytes) (after_message (Some now) bytes from agent)

abbrev pub step_of_receiving : ℕ → List ℕ → SocketAddr → Agent → Step
step_of_receiving now bytes from agent =
    option_map_or (λ error. Refused now (ParseError error)) (refusal bytes)
    (Received now (takes_message bytes from agent))

-- the agent after an event. An event that is refused changes nothing
abbrev pub after_event : ℕ → AgentEvent → Agent → Agent
after_event now (Send bytes to) agent = after_sending bytes.items to agent
after_event now (SendRequest bytes to) agent = after_asking now bytes.items to agent
after_event now (Receive bytes from) agent = after_receiving now bytes.items from agent
after_event now (Cancel id) agent = after_change with_cancellation id agent
after_event now (CancelRetransmissions id) agent = after_change without_retransmissions id agent
after_event now (Configure id initial retransmits last max) agent =
    after_change
    (with_settings
    (record {
      initial = as_nanos initial;
      maximum = as_nanos max;
      transmissions = retransmits;
      last_wait = as_nanos last;
    }))
    id agent
after_event now (ValidatePeer address) agent = with_validated address agent

-- the step of an event, if it has one
abbrev pub steps_of_event : ℕ → AgentEvent → Agent → List Step
steps_of_event now (Send bytes to) agent = step_of_sending now bytes.items to agent ∷ []
steps_of_event now (SendRequest bytes to) agent = step_of_asking now bytes.items to agent ∷ []
steps_of_event now (Receive bytes from) agent = step_of_receiving now bytes.items from agent ∷ []
steps_of_event now (Cancel id) agent = []
steps_of_event now (CancelRetransmissions id) agent = []
steps_of_event now (Configure id initial retransmits last max) agent = []
steps_of_event now (ValidatePeer address) agent = []

-- ---- one turn at a time
-- transmissions until there are none, then ends until there are none, and again while the next time
-- is this one
pub data Phase : Type 0 where
  sending : Phase
  ending : Phase

pub data Turn (now : ℕ) : Phase → Agent → List Step → Agent → Type 0 where
  sends : {a b : Agent} {steps : List Step} (e : ℕ × Transaction) → sent_by_poll now a ≡ Some e
      → Turn now sending (after_poll_transmit now a) steps b
      → Turn now sending a (transmission_step now e ∷ steps) b
  rests : {a b : Agent} {steps : List Step} → sent_by_poll now a ≡ None
      → Turn now ending (after_poll_transmit now a) steps b → Turn now sending a steps b
  ends : {a b : Agent} {steps : List Step} (e : ℕ × Transaction) → ended_by_poll now a ≡ Some e
      → Turn now ending (after_poll now a) steps b → Turn now ending a (end_step now e ∷ steps) b
  again : {a b : Agent} {steps : List Step} → ended_by_poll now a ≡ None
      → wake_up a.transport now a.transactions ≡ now → now < last_moment
      → Turn now sending a steps b → Turn now ending a steps b
  stops : {a : Agent} → ended_by_poll now a ≡ None
      → (now < wake_up a.transport now a.transactions) ⊎ (now ≡ last_moment)
      → Turn now ending a [] a

-- ---- the turns at awaited times
-- a transaction that is not canceled awaits this time
abbrev pub IsAwaited : Agent → ℕ → Type 0
IsAwaited a moment =
    (id : ℕ) × (t : Transaction) × (at id a.transactions ≡ Some t)
    × (is_cancelled t.sending ≡ false) × (awaited_moment a.transport t ≡ moment)

-- the least of the awaited times from `from` on
pub record IsNext (a : Agent) (from moment : ℕ) : Type 0 where
  pub awaited_then : IsAwaited a moment
  pub late : from ≤ moment
  pub least : (other : ℕ) → IsAwaited a other → from ≤ other → moment ≤ other

-- a turn at each awaited time from `from` on and below `bound`, in their order
pub data Turns (bound : ℕ) : ℕ → Agent → List Step → Agent → Type 0 where
  turn : {a b c : Agent} {steps more : List Step} {from : ℕ} (moment : ℕ) → IsNext a from moment
      → moment < bound
      → Turn moment sending a steps b → Turns bound (moment + 1) b more c
      → Turns bound from a (steps ++ more) c
  none : {a : Agent} {from : ℕ}
      → ((moment : ℕ) → IsAwaited a moment → from ≤ moment → bound ≤ moment)
      → Turns bound from a [] a

-- ---- a run up to a bound
-- before an event come the turns of the awaited times below its own, then the event and a turn.
-- After the last event come the turns of the awaited times below the bound
pub data Run (bound : ℕ) : ℕ → Agent → List (ℕ × AgentEvent) → List Step → Agent → Type 0 where
  done : {a b : Agent} {from : ℕ} {steps : List Step} → Turns bound from a steps b
      → Run bound from a [] steps b
  event : {a b c d : Agent} {from : ℕ} {rest : List (ℕ × AgentEvent)}
      {before after more : List Step} (moment : ℕ) (e : AgentEvent)
      → Turns moment from a before b → Turn moment sending (after_event moment e b) after c
      → Run bound (moment + 1) c rest more d
      → Run bound from a ((moment, e) ∷ rest)
      (before ++ (steps_of_event moment e b ++ (after ++ more))) d

-- the run up to a time. Without events nothing happens
abbrev pub IsDriven : ℕ → Agent → List (ℕ × AgentEvent) → List Step → Agent → Type 0
IsDriven until a [] steps b = (steps ≡ []) × (b ≡ a)
IsDriven until a (e ∷ es) steps b = Run (until + 1) 0 a (e ∷ es) steps b
