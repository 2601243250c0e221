-- What calls add to the statistics of an agent: one tally for each call, which depends on what the
-- agent was before it (RFC 8489, section 6.2).
use Rattle.std.specs.Prelude.{ℕ, ◌≡◌, if◌then◌else◌, List, [], ◌∷◌, length, Option, Some, None}
use Rattle.std.specs.Option.{option_map_or, is_some}
use Rattle.std.specs.declared.net.socket_addr.SocketAddr.{SocketAddr}
use Rattle.stun_base.specs.declared.wire.message_type.MessageClass.{MessageClass}
use Rattle.stun_base.specs.declared.wire.message_type.MessageClass.TheVariants.{Request, Indication}
use Rattle.stun_base.specs.declared.wire.message_type.MessageClass.TheVariants.{Success, Error}
use Rattle.stun_base.specs.MessageType.{class_in}
use Rattle.stun_agent.specs.Agent.{Agent, sending_refusal, sending_tally, request_refusal}
use Rattle.stun_agent.specs.Agent.{answered_request, ended_by_poll, tally_of_end, sent_by_poll}
use Rattle.stun_agent.specs.Statistics.{Tally, no_tally, request_sent, request_sent_again}
use Rattle.stun_agent.specs.Statistics.{request_received, response_received}
use Rattle.stun_agent.specs.Statistics.{indication_received, new_statistics, statistics_after}
use Rattle.stun_agent.specs.Statistics.{total}
use Rattle.stun_agent.specs.Calls.{AgentCall, send, send_request, receive, validate}
use Rattle.stun_agent.specs.Calls.{forget, poll, poll_transmit, cancel_retransmissions}
use Rattle.stun_agent.specs.Calls.{cancel, configure, after_agent_call, after_agent_calls}
use Rattle.stun_agent.specs.Transactions.{round_trip}

-- a response counts if it is accepted
abbrev pub tally_of_response : Option ℕ → List ℕ → SocketAddr → Agent → Tally
tally_of_response moment bytes from agent =
    option_map_or (λ t. response_received (length bytes) (round_trip moment t))
    (answered_request bytes from agent) no_tally

-- what a message that arrives adds, by its class
abbrev pub tally_of_message : MessageClass → Option ℕ → List ℕ → SocketAddr → Agent → Tally
tally_of_message Request moment bytes from agent = request_received (length bytes)
tally_of_message Indication moment bytes from agent = indication_received (length bytes)
tally_of_message Success moment bytes from agent = tally_of_response moment bytes from agent
tally_of_message Error moment bytes from agent = tally_of_response moment bytes from agent

-- what one call adds. A refused call adds nothing
abbrev pub tally_of : AgentCall → Agent → Tally
tally_of (send bytes to) agent =
    if is_some (sending_refusal agent bytes to) then no_tally
    else sending_tally (class_in bytes) (length bytes)
tally_of (send_request bytes to now) agent =
    if is_some (request_refusal agent bytes to) then no_tally else request_sent (length bytes)
tally_of (receive moment bytes from) agent =
    tally_of_message (class_in bytes) moment bytes from agent
tally_of (validate address) agent = no_tally
tally_of (forget address) agent = no_tally
tally_of (poll now) agent = option_map_or (λ e. tally_of_end e.1) (ended_by_poll now agent) no_tally
tally_of (poll_transmit now) agent =
    option_map_or (λ e. request_sent_again (length e.1.bytes)) (sent_by_poll now agent) no_tally
tally_of (cancel_retransmissions id) agent = no_tally
tally_of (cancel id) agent = no_tally
tally_of (configure id settings) agent = no_tally

-- the tallies of calls, one after the other
abbrev pub tallies : List AgentCall → Agent → List Tally
tallies [] agent = []
tallies (call ∷ calls) agent = tally_of call agent ∷ tallies calls (after_agent_call call agent)

-- for every sequence of calls from the start of counting: each counter is the sum over the tallies
-- of the calls, capped once at the end, and the round trips are those of the tallies
abbrev pub CountsCalls : Type 0
CountsCalls =
    (calls : List AgentCall) (agent : Agent) → agent.statistics ≡ Some new_statistics
    → (after_agent_calls calls agent).statistics
    ≡ Some (statistics_after (total (tallies calls agent)) new_statistics)

-- an agent without statistics never gets any
abbrev pub CountsNothing : Type 0
CountsNothing = (calls : List AgentCall) (agent : Agent) → agent.statistics ≡ None
    → (after_agent_calls calls agent).statistics ≡ None
