-- The schedule of a request: the plan that it keeps if nothing disturbs it, and what disturbs it
-- (RFC 8489, sections 6.2.1 and 6.2.2).
use Rattle.std.specs.Prelude.{ℕ, ◌≡◌, ◌+◌, ◌≤◌, nat_le, List, []}
use Rattle.std.specs.Prelude.{◌∷◌, ◌++◌, map, filter, Option, None}
use Rattle.std.specs.List.{AllByRecursion, range_with_len}
use Rattle.std.specs.declared.net.socket_addr.SocketAddr.{SocketAddr}
use Rattle.stun_base.specs.Header.{transaction_id_field}
use Rattle.stun_base.specs.MessageType.{IsResponse, class_in}
use Rattle.stun_base.specs.Moments.{moment_after}
use Rattle.stun_base.specs.declared.wire.transport.TransportType.{TransportType}
use Rattle.stun_types.specs.Message.{refusal}
use Rattle.stun_agent.specs.Timing.{Settings, planned_end, sum_of_timeouts, slots}
use Rattle.stun_agent.specs.Transactions.{Transactions}
use Rattle.stun_proto.specs.declared.replay.event.AgentEvent.{AgentEvent}
use Rattle.stun_proto.specs.declared.replay.event.AgentEvent.TheVariants.{Send, SendRequest}
use Rattle.stun_proto.specs.declared.replay.event.AgentEvent.TheVariants.{Receive, Cancel}
use Rattle.stun_proto.specs.declared.replay.event.AgentEvent.TheVariants.{CancelRetransmissions}
use Rattle.stun_proto.specs.declared.replay.event.AgentEvent.TheVariants.{Configure, ValidatePeer}
use Rattle.stun_proto.specs.Steps.{Step, Transmitted, TimedOut, moment_of}

-- ---- the agent that sends requests
-- the parts of an agent that its requests depend on: the transport, the only address that it may
-- send to, if it is restricted to one, the settings of new requests, and the outstanding requests
pub record Requester : Type 0 where
  pub transport : TransportType
  pub remote_addr : Option SocketAddr
  pub settings : Settings
  pub outstanding : Transactions

-- ---- the plan
-- the time of transmission k, counted from 0: the first transmission was at `start`, and the first
-- k timeouts have passed since
abbrev pub transmission : ℕ → Settings → ℕ → ℕ
transmission start settings k = moment_after start (sum_of_timeouts settings k)

-- the steps of a request that is first sent at `start`: a transmission at the start and at the end
-- of each timeout, and then the end of the request
abbrev pub plan : TransportType → ℕ → Settings → ℕ → SocketAddr → List ℕ → List Step
plan transport start settings id to bytes =
    map (λ k. Transmitted (transmission start settings k) id to bytes)
    (range_with_len 0 (slots transport settings + 1))
    ++ TimedOut (planned_end transport settings start) id ∷ []

-- the steps up to a time
abbrev pub steps_until : ℕ → List Step → List Step
steps_until until steps = filter (λ s. nat_le (moment_of s) until) steps

-- ---- what disturbs it
-- the event asks the agent to send a request with this ID
abbrev pub Asks : ℕ → AgentEvent → Type 0
Asks id (Send bytes to) = ⊥
Asks id (SendRequest bytes to) = transaction_id_field bytes.items ≡ id
Asks id (Receive bytes from) = ⊥
Asks id (Cancel other) = ⊥
Asks id (CancelRetransmissions other) = ⊥
Asks id (Configure other initial retransmits last max) = ⊥
Asks id (ValidatePeer address) = ⊥

-- the event ends, cancels or changes the request with this ID, which went to this address: it is a
-- response with this ID from this address, or a call that names the request
abbrev pub IsAimedAt : ℕ → SocketAddr → AgentEvent → Type 0
IsAimedAt id peer (Send bytes to) = ⊥
IsAimedAt id peer (SendRequest bytes to) = ⊥
IsAimedAt id peer (Receive bytes from) =
    (refusal bytes.items ≡ None) × IsResponse (class_in bytes.items)
    × (transaction_id_field bytes.items ≡ id) × (from ≡ peer)
IsAimedAt id peer (Cancel other) = other ≡ id
IsAimedAt id peer (CancelRetransmissions other) = other ≡ id
IsAimedAt id peer (Configure other initial retransmits last max) = other ≡ id
IsAimedAt id peer (ValidatePeer address) = ⊥

-- up to the time `last`, no event is aimed at the request with this ID to this address, whatever
-- responses arrive from other addresses
abbrev pub IsUndisturbed : ℕ → SocketAddr → ℕ → List (ℕ × AgentEvent) → Type 0
IsUndisturbed id peer last events =
    AllByRecursion (λ e. e.0 ≤ last → IsAimedAt id peer e.1 → ⊥) events

-- from this time on, the times of the events never go back, and none is later than `until`
abbrev pub AreInOrder : ℕ → ℕ → List (ℕ × AgentEvent) → Type 0
AreInOrder until from [] = Unit {0}
AreInOrder until from (e ∷ es) = (from ≤ e.0) × (e.0 ≤ until) × AreInOrder until e.0 es
