-- Calls of an agent, one by one. A call that is refused, or whose allocation fails, leaves the
-- agent unchanged.
use Rattle.std.specs.Prelude.{ℕ, ◌+◌, Bool, false, ◌&&◌, max, if◌then◌else◌, List, [], ◌∷◌, Option}
use Rattle.std.specs.Option.{option_map_or, is_some, is_none}
use Rattle.std.specs.declared.net.socket_addr.SocketAddr.{SocketAddr}
use Rattle.std.specs.Ordering.{nat_cmp}
use Rattle.std.specs.BTreeMap.{is_at}
use Rattle.stun_base.specs.Header.{transaction_id_field}
use Rattle.stun_base.specs.declared.wire.message_type.MessageClass.{MessageClass}
use Rattle.stun_base.specs.declared.wire.message_type.MessageClass.TheVariants.{Request, Indication}
use Rattle.stun_base.specs.declared.wire.message_type.MessageClass.TheVariants.{Success, Error}
use Rattle.stun_base.specs.MessageType.{class_in}
use Rattle.stun_agent.specs.Agent.{Agent, with_transactions, with_validated, without_validated}
use Rattle.stun_agent.specs.Agent.{sending_refusal, after_send, request_refusal}
use Rattle.stun_agent.specs.Agent.{after_send_request, answered_request, after_message}
use Rattle.stun_agent.specs.Agent.{ended_by_poll}
use Rattle.stun_agent.specs.Agent.{after_poll, sent_by_poll, after_poll_transmit}
use Rattle.stun_agent.specs.Timing.{Settings}
use Rattle.stun_agent.specs.Transactions.{at, with_change_at, without_retransmissions}
use Rattle.stun_agent.specs.Transactions.{with_cancellation, with_settings}

-- a call: it sends a message or a request, handles a message that arrived, validates or forgets an
-- address, polls for a transmission or for an end, or changes a request
pub data AgentCall : Type 0 where
  send : List ℕ → SocketAddr → AgentCall
  send_request : List ℕ → SocketAddr → ℕ → AgentCall
  receive : Option ℕ → List ℕ → SocketAddr → AgentCall
  validate : SocketAddr → AgentCall
  forget : SocketAddr → AgentCall
  poll : ℕ → AgentCall
  poll_transmit : ℕ → AgentCall
  cancel_retransmissions : ℕ → AgentCall
  cancel : ℕ → AgentCall
  configure : ℕ → Settings → AgentCall

-- the agent after a call
abbrev pub after_agent_call : AgentCall → Agent → Agent
after_agent_call (send bytes to) agent =
    if is_some (sending_refusal agent bytes to) then agent else after_send bytes agent
after_agent_call (send_request bytes to now) agent =
    if is_some (request_refusal agent bytes to) then agent
    else after_send_request agent bytes to now
after_agent_call (receive moment bytes from) agent = after_message moment bytes from agent
after_agent_call (validate address) agent = with_validated address agent
after_agent_call (forget address) agent = without_validated address agent
after_agent_call (poll now) agent = after_poll now agent
after_agent_call (poll_transmit now) agent = after_poll_transmit now agent
after_agent_call (cancel_retransmissions id) agent =
    with_transactions agent (with_change_at without_retransmissions id agent.transactions)
after_agent_call (cancel id) agent =
    with_transactions agent (with_change_at with_cancellation id agent.transactions)
after_agent_call (configure id settings) agent =
    with_transactions agent (with_change_at (with_settings settings) id agent.transactions)

-- the agent after calls, one after the other
abbrev pub after_agent_calls : List AgentCall → Agent → Agent
after_agent_calls [] agent = agent
after_agent_calls (call ∷ calls) agent = after_agent_calls calls (after_agent_call call agent)

-- ---- one transaction
-- whether a number is the ID
abbrev pub is_id : ℕ → ℕ → Bool
is_id id other = is_at (nat_cmp id) other

-- a request of the transaction is outstanding
abbrev pub is_outstanding : ℕ → Agent → Bool
is_outstanding id agent = is_some (at id agent.transactions)

-- a call sends a request of the transaction for the first time
abbrev pub begins : ℕ → AgentCall → Agent → Bool
begins id (send_request bytes to now) agent =
    is_none (request_refusal agent bytes to) && is_id id (transaction_id_field bytes)
begins id (send bytes to) agent = false
begins id (receive moment bytes from) agent = false
begins id (validate address) agent = false
begins id (forget address) agent = false
begins id (poll now) agent = false
begins id (poll_transmit now) agent = false
begins id (cancel_retransmissions other) agent = false
begins id (cancel other) agent = false
begins id (configure other settings) agent = false

-- a message of a class ends the request of the transaction, because it is its response
abbrev pub takes_request : MessageClass → ℕ → List ℕ → SocketAddr → Agent → Bool
takes_request Request id bytes from agent = false
takes_request Indication id bytes from agent = false
takes_request Success id bytes from agent =
    is_id id (transaction_id_field bytes) && is_some (answered_request bytes from agent)
takes_request Error id bytes from agent =
    is_id id (transaction_id_field bytes) && is_some (answered_request bytes from agent)

-- a call ends the transaction: by a response that arrives, or by a poll, as timed out or canceled
abbrev pub ends : ℕ → AgentCall → Agent → Bool
ends id (receive moment bytes from) agent = takes_request (class_in bytes) id bytes from agent
ends id (poll now) agent = option_map_or (λ e. is_id id e.0) (ended_by_poll now agent) false
ends id (send bytes to) agent = false
ends id (send_request bytes to now) agent = false
ends id (validate address) agent = false
ends id (forget address) agent = false
ends id (poll_transmit now) agent = false
ends id (cancel_retransmissions other) agent = false
ends id (cancel other) agent = false
ends id (configure other settings) agent = false

-- a call retransmits the request of the transaction
abbrev pub repeats_request : ℕ → AgentCall → Agent → Bool
repeats_request id (poll_transmit now) agent =
    option_map_or (λ e. is_id id e.0) (sent_by_poll now agent) false
repeats_request id (send bytes to) agent = false
repeats_request id (send_request bytes to now) agent = false
repeats_request id (receive moment bytes from) agent = false
repeats_request id (validate address) agent = false
repeats_request id (forget address) agent = false
repeats_request id (poll now) agent = false
repeats_request id (cancel_retransmissions other) agent = false
repeats_request id (cancel other) agent = false
repeats_request id (configure other settings) agent = false

-- 1 if this is true, and otherwise 0
abbrev pub one_if : Bool → ℕ
one_if b = if b then 1 else 0

-- how many of the calls satisfy this predicate for the transaction
abbrev pub count : (ℕ → AgentCall → Agent → Bool) → ℕ → List AgentCall → Agent → ℕ
count happens id [] agent = 0
count happens id (call ∷ calls) agent =
    one_if (happens id call agent) + count happens id calls (after_agent_call call agent)

-- how many transmissions the settings of the transaction allow
abbrev pub transmissions_allowed : ℕ → Agent → ℕ
transmissions_allowed id agent =
    option_map_or (λ t. t.settings.transmissions) (at id agent.transactions) 0

-- how often the request of an outstanding transaction is retransmitted, until the transaction ends
abbrev pub repetitions_until_end : ℕ → List AgentCall → Agent → ℕ
repetitions_until_end id [] agent = 0
repetitions_until_end id (call ∷ calls) agent =
    one_if (repeats_request id call agent)
    + (if is_outstanding id (after_agent_call call agent)
    then repetitions_until_end id calls (after_agent_call call agent) else 0)

-- the most transmissions that its settings ever allow, until it ends
abbrev pub most_transmissions_allowed : ℕ → List AgentCall → Agent → ℕ
most_transmissions_allowed id [] agent = transmissions_allowed id agent
most_transmissions_allowed id (call ∷ calls) agent =
    max (transmissions_allowed id agent)
    (if is_outstanding id (after_agent_call call agent)
    then most_transmissions_allowed id calls (after_agent_call call agent) else 0)
