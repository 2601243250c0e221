-- An agent, and how each call changes it (RFC 8489, sections 6.2 and 6.3).
use Rattle.std.specs.Prelude.{ℕ, Bool, true, false, not, List, []}
use Rattle.std.specs.Prelude.{length, if◌then◌else◌, Option, Some, None}
use Rattle.std.specs.Option.{option_map_or, option_map, option_or, is_some}
use Rattle.std.specs.declared.net.socket_addr.SocketAddr.{SocketAddr}
use Rattle.stun_base.specs.declared.wire.message_type.MessageClass.{MessageClass}
use Rattle.stun_base.specs.declared.wire.message_type.MessageClass.TheVariants.{Request, Indication}
use Rattle.stun_base.specs.declared.wire.message_type.MessageClass.TheVariants.{Success, Error}
use Rattle.stun_base.specs.declared.wire.transport.TransportType.{TransportType}
use Rattle.stun_base.specs.Address.{same_address}
use Rattle.stun_base.specs.Header.{transaction_id_field, header_refusal}
use Rattle.stun_base.specs.MessageType.{class_in, is_request}
use Rattle.stun_types.specs.Integrity.{deciding_algorithm}
use Rattle.stun_agent.specs.declared.agent.StunAgentPollRet.{StunAgentPollRet}
use Rattle.stun_agent.specs.declared.agent.StunAgentPollRet.TheVariants.{TransactionTimedOut}
use Rattle.stun_agent.specs.declared.agent.StunAgentPollRet.TheVariants.{TransactionCancelled}
use Rattle.stun_agent.specs.declared.agent.StunAgentPollRet.TheVariants.{WaitUntil}
use Rattle.stun_agent.specs.declared.error.StunError.{StunError}
use Rattle.stun_agent.specs.declared.error.StunError.TheVariants.{AlreadyInProgress}
use Rattle.stun_agent.specs.declared.error.StunError.TheVariants.{ProtocolViolation, ParseError}
use Rattle.stun_agent.specs.Datagrams.{Datagram}
use Rattle.stun_agent.specs.Peers.{Peers, with_peer, without_peer}
use Rattle.stun_agent.specs.Statistics.{Statistics, Tally, new_statistics, statistics_after}
use Rattle.stun_agent.specs.Statistics.{request_sent}
use Rattle.stun_agent.specs.Statistics.{request_sent_again, response_sent, indication_sent}
use Rattle.stun_agent.specs.Statistics.{request_received, response_received, indication_received}
use Rattle.stun_agent.specs.Statistics.{request_timed_out as one_timed_out}
use Rattle.stun_agent.specs.Statistics.{request_cancelled as one_cancelled}
use Rattle.stun_agent.specs.Timing.{Settings, default_settings}
use Rattle.stun_agent.specs.Transactions.{Transaction, Transactions, repeats}
use Rattle.stun_agent.specs.Transactions.{new_transaction, at, with, without, first_over}
use Rattle.stun_agent.specs.Transactions.{wake_up, next_sent, after_slots, round_trip}

-- an agent. It counts messages if it has statistics
pub record Agent : Type 0 where
  pub transport : TransportType
  pub local_addr : SocketAddr
  pub remote_addr : Option SocketAddr
  pub settings : Settings
  pub transactions : Transactions
  pub peers : Peers
  pub statistics : Option Statistics

-- an agent that has sent nothing: no fixed peer, the default settings, and nothing is counted
abbrev pub new_agent : TransportType → SocketAddr → Agent
new_agent transport local_addr = record {
  transport = transport;
  local_addr = local_addr;
  remote_addr = None;
  settings = default_settings;
  transactions = [];
  peers = [];
  statistics = None;
}

-- the statistics, if they are kept from the start
abbrev pub statistics_if : Bool → Option Statistics
statistics_if wanted = if wanted then Some new_statistics else None

-- the agent with other transactions
abbrev pub with_transactions : Agent → Transactions → Agent
with_transactions agent all = record agent { transactions = all }

-- the agent after an address is validated
abbrev pub with_validated : SocketAddr → Agent → Agent
with_validated address agent = record agent { peers = with_peer address agent.peers }

-- the agent after an address is forgotten
abbrev pub without_validated : SocketAddr → Agent → Agent
without_validated address agent = record agent { peers = without_peer address agent.peers }

-- the agent after a tally is counted
abbrev pub with_tally : Tally → Agent → Agent
with_tally tally agent =
    record agent { statistics = option_map (statistics_after tally) agent.statistics }

-- ---- messages
-- what sending a message of a class counts
abbrev pub sending_tally : MessageClass → ℕ → Tally
sending_tally Request count = request_sent count
sending_tally Indication count = indication_sent count
sending_tally Success count = response_sent count
sending_tally Error count = response_sent count

-- ---- sending
-- the agent has a fixed peer, and this is another address
abbrev pub is_elsewhere : Agent → SocketAddr → Bool
is_elsewhere agent to = option_map_or (λ peer. not (same_address to peer)) agent.remote_addr false

-- the reason why nothing can be sent to an address, if there is one
abbrev pub address_refusal : Agent → SocketAddr → Option StunError
address_refusal agent to = if is_elsewhere agent to then Some ProtocolViolation else None

-- the reason why bytes are neither an indication nor a response: the first that applies
abbrev pub class_refusal : List ℕ → Option StunError
class_refusal bytes =
    option_map_or (λ error. Some (ParseError error)) (header_refusal bytes)
    (if is_request (class_in bytes) then Some ProtocolViolation else None)

-- the reason why bytes are not sent as an indication or a response: the first that applies
abbrev pub sending_refusal : Agent → List ℕ → SocketAddr → Option StunError
sending_refusal agent bytes to = option_or (class_refusal bytes) (address_refusal agent to)

-- the agent after it has sent an indication or a response
abbrev pub after_send : List ℕ → Agent → Agent
after_send bytes agent = with_tally (sending_tally (class_in bytes) (length bytes)) agent

-- the reason why bytes are not sent as a request: the first that applies
abbrev pub request_refusal : Agent → List ℕ → SocketAddr → Option StunError
request_refusal agent bytes to =
    option_map_or (λ error. Some (ParseError error)) (header_refusal bytes)
    (if is_request (class_in bytes) then
    (if is_elsewhere agent to then Some ProtocolViolation else
    (if is_some (at (transaction_id_field bytes) agent.transactions) then Some AlreadyInProgress
    else None))
    else Some ProtocolViolation)

-- the transaction of a request
abbrev pub request_of : Agent → List ℕ → SocketAddr → ℕ → Transaction
request_of agent bytes to now =
    new_transaction bytes to (deciding_algorithm bytes) agent.settings now

-- the agent after it has sent a request, which is then outstanding
abbrev pub after_send_request : Agent → List ℕ → SocketAddr → ℕ → Agent
after_send_request agent bytes to now =
    with_tally (request_sent (length bytes))
    (with_transactions agent
    (with (transaction_id_field bytes) (request_of agent bytes to now) agent.transactions))

-- the datagram of a transaction: bytes, transport, sender and receiver
abbrev pub datagram_of : Agent → Transaction → Datagram
datagram_of agent t = (t.bytes, agent.transport, agent.local_addr, t.to)

-- ---- receiving
-- the transaction, if there is one and its request was sent to this address
abbrev pub went_to : SocketAddr → Option Transaction → Option Transaction
went_to address None = None
went_to address (Some t) = if same_address address t.to then Some t else None

-- the outstanding request that a response answers: the request with the same transaction ID, if it
-- was sent to the sender of the response
abbrev pub answered_request : List ℕ → SocketAddr → Agent → Option Transaction
answered_request bytes from agent =
    went_to from (at (transaction_id_field bytes) agent.transactions)

-- the agent after a response: the request that it answers ends, and its sender is validated. If the
-- response answers no request, nothing changes
abbrev pub after_response : Option ℕ → List ℕ → SocketAddr → Agent → Agent
after_response moment bytes from agent =
    option_map_or
    (λ t. with_tally (response_received (length bytes) (round_trip moment t))
    (with_validated from
    (with_transactions agent (without (transaction_id_field bytes) agent.transactions))))
    (answered_request bytes from agent)
    agent

-- whether a message is accepted, by its class: a response only if it answers an outstanding request
abbrev pub takes_by_class : MessageClass → List ℕ → SocketAddr → Agent → Bool
takes_by_class Request bytes from agent = true
takes_by_class Indication bytes from agent = true
takes_by_class Success bytes from agent = is_some (answered_request bytes from agent)
takes_by_class Error bytes from agent = is_some (answered_request bytes from agent)

-- the agent after a message, by its class
abbrev pub after_class : MessageClass → Option ℕ → List ℕ → SocketAddr → Agent → Agent
after_class Request moment bytes from agent =
    with_tally (request_received (length bytes)) (with_validated from agent)
after_class Indication moment bytes from agent =
    with_tally (indication_received (length bytes)) (with_validated from agent)
after_class Success moment bytes from agent = after_response moment bytes from agent
after_class Error moment bytes from agent = after_response moment bytes from agent

-- whether a message is accepted
abbrev pub takes_message : List ℕ → SocketAddr → Agent → Bool
takes_message bytes from agent = takes_by_class (class_in bytes) bytes from agent

-- the agent after a message
abbrev pub after_message : Option ℕ → List ℕ → SocketAddr → Agent → Agent
after_message moment bytes from agent = after_class (class_in bytes) moment bytes from agent

-- ---- ends
-- how a transaction ends without a response: as canceled if its user has canceled it or its
-- retransmissions, and otherwise as timed out
abbrev pub end_of : ℕ × Transaction → StunAgentPollRet
end_of e = if repeats e.1.sending then TransactionTimedOut e.0 else TransactionCancelled e.0

-- what the end of a transaction counts
abbrev pub tally_of_end : Transaction → Tally
tally_of_end t = if repeats t.sending then one_timed_out else one_cancelled

-- the transaction that ends at a poll: the one with the least ID among those that are over
abbrev pub ended_by_poll : ℕ → Agent → Option (ℕ × Transaction)
ended_by_poll now agent = first_over agent.transport now agent.transactions

-- the result of a poll: how a transaction ended, or the time to wait until
abbrev pub poll_answer : ℕ → Agent → StunAgentPollRet
poll_answer now agent =
    option_map_or end_of (ended_by_poll now agent)
    (WaitUntil (wake_up agent.transport now agent.transactions))

-- the agent after a poll
abbrev pub after_poll : ℕ → Agent → Agent
after_poll now agent =
    option_map_or
    (λ e. with_tally (tally_of_end e.1) (with_transactions agent (without e.0 agent.transactions)))
    (ended_by_poll now agent) agent

-- ---- retransmission
-- the transaction whose request is retransmitted: the one with the least ID among those that are
-- due and repeat
abbrev pub sent_by_poll : ℕ → Agent → Option (ℕ × Transaction)
sent_by_poll now agent = next_sent agent.transport now agent.transactions

-- the agent after a transmission is counted, if there was one
abbrev pub tally_of_sent : Option (ℕ × Transaction) → Agent → Agent
tally_of_sent sent agent =
    option_map_or (λ e. with_tally (request_sent_again (length e.1.bytes)) agent) sent agent

-- the agent after a poll for transmissions
abbrev pub after_poll_transmit : ℕ → Agent → Agent
after_poll_transmit now agent =
    tally_of_sent (sent_by_poll now agent)
    (with_transactions agent
    (after_slots agent.transport now (option_map (λ e. e.0) (sent_by_poll now agent))
    agent.transactions))
