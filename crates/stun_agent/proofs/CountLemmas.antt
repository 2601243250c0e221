-- The statistics tell how many requests are outstanding, after each call as before it.
use Rattle.std.proofs.Common.{ℕ, ◌≡◌, ◌+◌, Bool, true, false, cond}
use Rattle.std.proofs.Common.{List, length, sym, subst, refl, arith}
use Rattle.std.specs.Prelude.{Option, Some, None, IfSome}
use Rattle.std.specs.Option.{option_map, option_map_or, option_or, is_some}
use Rattle.std.specs.declared.net.socket_addr.SocketAddr.{SocketAddr}
use Rattle.std.proofs.lemmas.List.{length-map}
use Rattle.stun_base.specs.Header.{transaction_id_field, header_refusal}
use Rattle.stun_base.specs.declared.wire.error.StunParseError.{StunParseError}
use Rattle.stun_base.specs.declared.wire.message_type.MessageClass.{MessageClass}
use Rattle.stun_base.specs.declared.wire.message_type.MessageClass.TheVariants.{Request, Indication}
use Rattle.stun_base.specs.declared.wire.message_type.MessageClass.TheVariants.{Success, Error}
use Rattle.stun_agent.specs.declared.error.StunError.{StunError}
use Rattle.stun_agent.specs.declared.error.StunError.TheVariants.{ProtocolViolation, ParseError}
use Rattle.stun_base.specs.MessageType.{class_in, is_request}
use Rattle.stun_agent.specs.Agent.{Agent, with_tally, with_validated, with_transactions}
use Rattle.stun_agent.specs.Agent.{tally_of_end, tally_of_sent, sending_tally, address_refusal}
use Rattle.stun_agent.specs.Agent.{class_refusal, sending_refusal, after_send, request_refusal}
use Rattle.stun_agent.specs.Agent.{request_of, after_send_request, answered_request, after_class}
use Rattle.stun_agent.specs.Agent.{after_response, ended_by_poll, sent_by_poll, after_poll}
use Rattle.stun_agent.specs.Statistics.{Statistics, Tally, statistics_after, LeavesOutstanding}
use Rattle.stun_agent.specs.Statistics.{IsNotFull}
use Rattle.stun_agent.specs.Statistics.{request_sent, request_sent_again, request_received}
use Rattle.stun_agent.specs.Statistics.{indication_received, response_received}
use Rattle.stun_agent.specs.Calls.{AgentCall, send, send_request, receive, validate}
use Rattle.stun_agent.specs.Calls.{forget, poll, poll_transmit, cancel_retransmissions}
use Rattle.stun_agent.specs.Calls.{cancel, configure, after_agent_call}
use Rattle.stun_agent.specs.Transactions.{Transaction, repeats, is_over, without}
use Rattle.stun_agent.specs.Transactions.{with_change_at, without_retransmissions}
use Rattle.stun_agent.specs.Transactions.{with_cancellation, with_settings}
use Rattle.stun_agent.specs.Transactions.{slot_passed, after_slots, round_trip}
use Rattle.stun_agent.proofs.AnswerLemmas.{answered_there}
use Rattle.stun_agent.proofs.LookupLemmas.{length-with, length-without, length-with_change_at}
use Rattle.stun_agent.proofs.LookupLemmas.{found_there}
use Rattle.stun_agent.proofs.OnceLemmas.{not_refused_is_new}
use Rattle.stun_agent.proofs.StatisticsLemmas.{LeavesOutstanding-statistics_after}

-- so many are outstanding by the statistics, if there are any
abbrev Tells : Option Statistics → ℕ → Type 0
Tells stats n = IfSome stats (λ s. LeavesOutstanding s n)

-- the same while no counter is full
abbrev StillTells : Option Statistics → ℕ → Type 0
StillTells stats n = IfSome stats (λ s. IsNotFull s → LeavesOutstanding s n)

tallied_tells : (tally : Tally) (stats : Option Statistics) (before after : ℕ)
    → before + tally.requests_sent
    ≡ after + (tally.responses_received + tally.timed_out + tally.cancelled)
    → Tells stats before → StillTells (option_map (statistics_after tally) stats) after
tallied_tells tally None before after moved h = tt
tallied_tells tally (Some s) before after moved h =
    λ free. LeavesOutstanding-statistics_after tally s before after h free moved

untouched_tells : (stats : Option Statistics) (before after : ℕ) → after ≡ before
    → Tells stats before → StillTells stats after
untouched_tells None before after same h = tt
untouched_tells (Some s) before after same h = λ free. subst (LeavesOutstanding s) (sym same) h

-- a message that is sent as no request
sent_class : (class : MessageClass) (count : ℕ) (stats : Option Statistics) (n : ℕ)
    → is_request class ≡ false → Tells stats n
    → StillTells (option_map (statistics_after (sending_tally class count)) stats) n
sent_class Request count stats n other h = cc
sent_class Indication count stats n other h =
    tallied_tells (sending_tally Indication count) stats n n (omega arith) h
sent_class Success count stats n other h =
    tallied_tells (sending_tally Success count) stats n n (omega arith) h
sent_class Error count stats n other h =
    tallied_tells (sending_tally Error count) stats n n (omega arith) h

first_none : {X : Type 0} (o p : Option X) → option_or o p ≡ None → o ≡ None
first_none None p h = refl
first_none (Some x) p h = cc

sent_is_other : (bytes : List ℕ) → class_refusal bytes ≡ None → is_request (class_in bytes) ≡ false
sent_is_other bytes h = by (header_refusal bytes) h
  where
    by_class : (b : Bool) → cond b (Some ProtocolViolation) None ≡ None → b ≡ false
    by_class true h = cc
    by_class false h = refl

    by : (refused : Option StunParseError)
        → option_map_or (λ error. Some (ParseError error)) refused
        (cond (is_request (class_in bytes)) (Some ProtocolViolation) None) ≡ None
        → is_request (class_in bytes) ≡ false
    by (Some error) h = cc
    by None h = by_class (is_request (class_in bytes)) h

tells_send : (bytes : List ℕ) (to : SocketAddr) (a : Agent)
    → Tells a.statistics (length a.transactions)
    → StillTells (cond (is_some (sending_refusal a bytes to)) a (after_send bytes a)).statistics
    (length (cond (is_some (sending_refusal a bytes to)) a (after_send bytes a)).transactions)
tells_send bytes to a h = by (sending_refusal a bytes to) refl
  where
    by : (r : Option StunError) → sending_refusal a bytes to ≡ r
        → StillTells (cond (is_some r) a (after_send bytes a)).statistics
        (length (cond (is_some r) a (after_send bytes a)).transactions)
    by (Some error) is = untouched_tells a.statistics _ _ refl h
    by None is =
        sent_class (class_in bytes) (length bytes) a.statistics (length a.transactions)
        (sent_is_other bytes (first_none (class_refusal bytes) (address_refusal a to) is)) h

one_more : (n m : ℕ) → m ≡ n + 1 → n + 1 ≡ m + (0 + 0 + 0)
one_more n m h = omega (arith, h)

tells_request : (bytes : List ℕ) (to : SocketAddr) (now : ℕ) (a : Agent)
    → Tells a.statistics (length a.transactions)
    → StillTells
    (cond (is_some (request_refusal a bytes to)) a (after_send_request a bytes to now)).statistics
    (length (cond (is_some (request_refusal a bytes to)) a
    (after_send_request a bytes to now)).transactions)
tells_request bytes to now a h = by (request_refusal a bytes to) refl
  where
    by : (r : Option StunError) → request_refusal a bytes to ≡ r
        → StillTells (cond (is_some r) a (after_send_request a bytes to now)).statistics
        (length (cond (is_some r) a (after_send_request a bytes to now)).transactions)
    by (Some error) is = untouched_tells a.statistics _ _ refl h
    by None is =
        tallied_tells (request_sent (length bytes)) a.statistics (length a.transactions) _
        (one_more _ _
        (length-with (transaction_id_field bytes) (request_of a bytes to now) a.transactions
        (not_refused_is_new a bytes to is))) h

one_less : (n m : ℕ) → m + 1 ≡ n → n + 0 ≡ m + (1 + 0 + 0)
one_less n m h = omega (arith, h)

tells_response : (moment : Option ℕ) (bytes : List ℕ) (from : SocketAddr) (a : Agent)
    → Tells a.statistics (length a.transactions)
    → StillTells (after_response moment bytes from a).statistics
    (length (after_response moment bytes from a).transactions)
tells_response moment bytes from a h = by (answered_request bytes from a) refl
  where
    by : (found : Option Transaction) → answered_request bytes from a ≡ found
        → let left = option_map_or
        (λ t. with_tally (response_received (length bytes) (round_trip moment t))
        (with_validated from
        (with_transactions a (without (transaction_id_field bytes) a.transactions))))
        found a in StillTells left.statistics (length left.transactions)
    by None is = untouched_tells a.statistics _ _ refl h
    by (Some t) is =
        tallied_tells (response_received (length bytes) (round_trip moment t)) a.statistics
        (length a.transactions) _
        (one_less _ _
        (length-without (transaction_id_field bytes) a.transactions t
        (answered_there bytes from a t is))) h

tells_class : (class : MessageClass) (moment : Option ℕ) (bytes : List ℕ) (from : SocketAddr)
    (a : Agent) → Tells a.statistics (length a.transactions)
    → StillTells (after_class class moment bytes from a).statistics
    (length (after_class class moment bytes from a).transactions)
tells_class Request moment bytes from a h =
    tallied_tells (request_received (length bytes)) a.statistics _ (length a.transactions)
    (omega arith) h
tells_class Indication moment bytes from a h =
    tallied_tells (indication_received (length bytes)) a.statistics _ (length a.transactions)
    (omega arith) h
tells_class Success moment bytes from a h = tells_response moment bytes from a h
tells_class Error moment bytes from a h = tells_response moment bytes from a h

ended_less : (b : Bool) (t : Transaction) (n m : ℕ) → repeats t.sending ≡ b → m + 1 ≡ n
    → n + (tally_of_end t).requests_sent
    ≡ m + ((tally_of_end t).responses_received + (tally_of_end t).timed_out
    + (tally_of_end t).cancelled)
ended_less true t n m is h = rw is (omega (arith, h))
ended_less false t n m is h = rw is (omega (arith, h))

tells_poll : (now : ℕ) (a : Agent) → Tells a.statistics (length a.transactions)
    → StillTells (after_poll now a).statistics (length (after_poll now a).transactions)
tells_poll now a h = by (ended_by_poll now a) refl
  where
    by : (found : Option (ℕ × Transaction)) → ended_by_poll now a ≡ found
        → let left =
        option_map_or
        (λ e. with_tally (tally_of_end e.1) (with_transactions a (without e.0 a.transactions)))
        found
        a in StillTells left.statistics (length left.transactions)
    by None is = untouched_tells a.statistics _ _ refl h
    by (Some e) is =
        let there =
        found_there (λ (x : ℕ × Transaction). is_over a.transport now x.1) a.transactions e is in
        tallied_tells (tally_of_end e.1) a.statistics (length a.transactions) _
        (ended_less (repeats e.1.sending) e.1 _ _ refl
        (length-without e.0 a.transactions there.0 there.1)) h

tells_transmit : (now : ℕ) (a : Agent) (found : Option (ℕ × Transaction))
    → Tells a.statistics (length a.transactions)
    → let left =
    tally_of_sent found
    (with_transactions a
    (after_slots a.transport now (option_map (λ e. e.0) found) a.transactions)) in
    StillTells left.statistics (length left.transactions)
tells_transmit now a None h = untouched_tells a.statistics _ _ (length-map a.transactions _) h
tells_transmit now a (Some e) h =
    tallied_tells (request_sent_again (length e.1.bytes)) a.statistics (length a.transactions) _
    (omega (
      arith,
      length-map {B = ℕ × Transaction} a.transactions
          (λ x. (x.0, slot_passed a.transport now (Some e.0) x)),
    )) h

tells_changed : (f : Transaction → Transaction) (id : ℕ) (a : Agent)
    → Tells a.statistics (length a.transactions)
    → StillTells a.statistics (length (with_change_at f id a.transactions))
tells_changed f id a h =
    untouched_tells a.statistics _ _ (length-with_change_at f id a.transactions) h

pub still_tells : (call : AgentCall) (a : Agent) → Tells a.statistics (length a.transactions)
    → StillTells (after_agent_call call a).statistics
    (length (after_agent_call call a).transactions)
still_tells (send bytes to) a h = tells_send bytes to a h
still_tells (send_request bytes to now) a h = tells_request bytes to now a h
still_tells (receive moment bytes from) a h = tells_class (class_in bytes) moment bytes from a h
still_tells (validate address) a h = untouched_tells a.statistics _ _ refl h
still_tells (forget address) a h = untouched_tells a.statistics _ _ refl h
still_tells (poll now) a h = tells_poll now a h
still_tells (poll_transmit now) a h = tells_transmit now a (sent_by_poll now a) h
still_tells (cancel_retransmissions id) a h = tells_changed without_retransmissions id a h
still_tells (cancel id) a h = tells_changed with_cancellation id a h
still_tells (configure id settings) a h = tells_changed (with_settings settings) id a h
