-- Calls count their tallies in turn, since each changes the statistics by its own tally alone.
use Rattle.std.proofs.Common.{ℕ, ◌≡◌, cond, List, [], ◌∷◌, length, refl, ap, ◌∙◌, sym}
use Rattle.std.specs.Prelude.{Option, Some, None}
use Rattle.std.specs.Option.{option_map, option_map_or, is_some}
use Rattle.std.specs.declared.net.socket_addr.SocketAddr.{SocketAddr}
use Rattle.stun_base.specs.Header.{transaction_id_field}
use Rattle.stun_base.specs.declared.wire.message_type.MessageClass.{MessageClass}
use Rattle.stun_base.specs.declared.wire.message_type.MessageClass.TheVariants.{Request, Indication}
use Rattle.stun_base.specs.declared.wire.message_type.MessageClass.TheVariants.{Success, Error}
use Rattle.stun_base.specs.MessageType.{class_in}
use Rattle.stun_agent.specs.declared.error.StunError.{StunError}
use Rattle.stun_agent.specs.Agent.{Agent, with_tally, with_validated, with_transactions}
use Rattle.stun_agent.specs.Agent.{tally_of_end, tally_of_sent, sending_tally, sending_refusal}
use Rattle.stun_agent.specs.Agent.{after_send, request_refusal, after_send_request}
use Rattle.stun_agent.specs.Agent.{answered_request}
use Rattle.stun_agent.specs.Agent.{after_class, ended_by_poll, sent_by_poll}
use Rattle.stun_agent.specs.Statistics.{Statistics, Tally, no_tally, statistics_after}
use Rattle.stun_agent.specs.Statistics.{counted_in_turn, total, new_statistics}
use Rattle.stun_agent.specs.Statistics.{request_sent, request_sent_again, response_received}
use Rattle.stun_agent.specs.Calls.{AgentCall, send, send_request, receive, validate}
use Rattle.stun_agent.specs.Calls.{forget, poll, poll_transmit, cancel_retransmissions}
use Rattle.stun_agent.specs.Calls.{cancel, configure, after_agent_call, after_agent_calls}
use Rattle.stun_agent.specs.Transactions.{Transaction, without, after_slots, round_trip}
use Rattle.stun_agent.specs.Transcript.{tally_of_message, tally_of, tallies}
use Rattle.stun_agent.proofs.StatisticsLemmas.{statistics_after-statistics_after-nothing}
use Rattle.stun_agent.proofs.StatisticsLemmas.{counted_in_turn-new}

-- statistics in which no counter is past its greatest number
abbrev AreCapped : Statistics → Type 0
AreCapped s = statistics_after no_tally s ≡ s

-- what is counted of a tally, and that nothing is counted where nothing was
record Adds (tally : Tally) (before after : Option Statistics) : Type 0 where
  some : (s : Statistics) → AreCapped s → before ≡ Some s → after ≡ Some (statistics_after tally s)
  none : before ≡ None → after ≡ None

adds_nothing : (o : Option Statistics) → Adds no_tally o o
adds_nothing o = record { some = λ s capped is. is ∙ ap Some (sym capped); none = λ is. is }

adds_tally : (tally : Tally) (o : Option Statistics)
    → Adds tally o (option_map (statistics_after tally) o)
adds_tally tally o =
    record {
      some = λ s capped is. ap (option_map (statistics_after tally)) is;
      none = λ is. ap (option_map (statistics_after tally)) is;
    }

adds_send : (bytes : List ℕ) (a : Agent) (r : Option StunError)
    → Adds (cond (is_some r) no_tally (sending_tally (class_in bytes) (length bytes))) a.statistics
    (cond (is_some r) a (after_send bytes a)).statistics
adds_send bytes a (Some error) = adds_nothing a.statistics
adds_send bytes a None = adds_tally (sending_tally (class_in bytes) (length bytes)) a.statistics

adds_request : (bytes : List ℕ) (to : SocketAddr) (now : ℕ) (a : Agent) (r : Option StunError)
    → Adds (cond (is_some r) no_tally (request_sent (length bytes))) a.statistics
    (cond (is_some r) a (after_send_request a bytes to now)).statistics
adds_request bytes to now a (Some error) = adds_nothing a.statistics
adds_request bytes to now a None = adds_tally (request_sent (length bytes)) a.statistics

adds_response : (moment : Option ℕ) (bytes : List ℕ) (from : SocketAddr) (a : Agent)
    (found : Option Transaction)
    → Adds (option_map_or (λ t. response_received (length bytes) (round_trip moment t)) found
    no_tally) a.statistics
    (option_map_or
    (λ t. with_tally (response_received (length bytes) (round_trip moment t))
    (with_validated from
    (with_transactions a (without (transaction_id_field bytes) a.transactions))))
    found a).statistics
adds_response moment bytes from a None = adds_nothing a.statistics
adds_response moment bytes from a (Some t) =
    adds_tally (response_received (length bytes) (round_trip moment t)) a.statistics

adds_message : (class : MessageClass) (moment : Option ℕ) (bytes : List ℕ) (from : SocketAddr)
    (a : Agent)
    → Adds (tally_of_message class moment bytes from a) a.statistics
    (after_class class moment bytes from a).statistics
adds_message Request moment bytes from a =
    adds_tally (tally_of_message Request moment bytes from a) a.statistics
adds_message Indication moment bytes from a =
    adds_tally (tally_of_message Indication moment bytes from a) a.statistics
adds_message Success moment bytes from a =
    adds_response moment bytes from a (answered_request bytes from a)
adds_message Error moment bytes from a =
    adds_response moment bytes from a (answered_request bytes from a)

adds_end : (a : Agent) (found : Option (ℕ × Transaction))
    → Adds (option_map_or (λ e. tally_of_end e.1) found no_tally) a.statistics
    (option_map_or
    (λ e. with_tally (tally_of_end e.1) (with_transactions a (without e.0 a.transactions))) found
    a).statistics
adds_end a None = adds_nothing a.statistics
adds_end a (Some e) = adds_tally (tally_of_end e.1) a.statistics

adds_transmission : (now : ℕ) (a : Agent) (found : Option (ℕ × Transaction))
    → Adds (option_map_or (λ e. request_sent_again (length e.1.bytes)) found no_tally) a.statistics
    (tally_of_sent found
    (with_transactions a
    (after_slots a.transport now (option_map (λ e. e.0) found) a.transactions))).statistics
adds_transmission now a None = adds_nothing a.statistics
adds_transmission now a (Some e) = adds_tally (request_sent_again (length e.1.bytes)) a.statistics

adds_call : (call : AgentCall) (a : Agent)
    → Adds (tally_of call a) a.statistics (after_agent_call call a).statistics
adds_call (send bytes to) a = adds_send bytes a (sending_refusal a bytes to)
adds_call (send_request bytes to now) a = adds_request bytes to now a (request_refusal a bytes to)
adds_call (receive moment bytes from) a = adds_message (class_in bytes) moment bytes from a
adds_call (validate address) a = adds_nothing a.statistics
adds_call (forget address) a = adds_nothing a.statistics
adds_call (poll now) a = adds_end a (ended_by_poll now a)
adds_call (poll_transmit now) a = adds_transmission now a (sent_by_poll now a)
adds_call (cancel_retransmissions id) a = adds_nothing a.statistics
adds_call (cancel id) a = adds_nothing a.statistics
adds_call (configure id settings) a = adds_nothing a.statistics

counts_in_turn : (calls : List AgentCall) (a : Agent) (s : Statistics) → AreCapped s
    → a.statistics ≡ Some s
    → (after_agent_calls calls a).statistics ≡ Some (counted_in_turn (tallies calls a) s)
counts_in_turn [] a s capped is = is
counts_in_turn (call ∷ calls) a s capped is =
    counts_in_turn calls (after_agent_call call a) (statistics_after (tally_of call a) s)
    (statistics_after-statistics_after-nothing (tally_of call a) s)
    ((adds_call call a).some s capped is)

pub counts_calls : (calls : List AgentCall) (a : Agent) → a.statistics ≡ Some new_statistics
    → (after_agent_calls calls a).statistics
    ≡ Some (statistics_after (total (tallies calls a)) new_statistics)
counts_calls calls a is =
    counts_in_turn calls a new_statistics refl is ∙ ap Some (counted_in_turn-new (tallies calls a))

pub counts_nothing : (calls : List AgentCall) (a : Agent) → a.statistics ≡ None
    → (after_agent_calls calls a).statistics ≡ None
counts_nothing [] a is = is
counts_nothing (call ∷ calls) a is =
    counts_nothing calls (after_agent_call call a) ((adds_call call a).none is)
