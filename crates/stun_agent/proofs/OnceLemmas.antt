-- Each call keeps the ids ascending, and balances what begins, what ends and what is outstanding.
use Rattle.std.proofs.Common.{ℕ, ◌≡◌, ◌+◌, Bool, true, false, cond, List, []}
use Rattle.std.proofs.Common.{◌∷◌, length, ap, sym, subst, refl, ◌∙◌, arith}
use Rattle.std.specs.Prelude.{Option, Some, None, ◌&&◌}
use Rattle.std.specs.Option.{option_map, option_map_or, is_some, is_none}
use Rattle.std.specs.declared.net.socket_addr.SocketAddr.{SocketAddr}
use Rattle.std.specs.List.Sorted.{IsStrictlySortedBy}
use Rattle.std.specs.Map.{set_value}
use Rattle.std.specs.Ordering.{nat_cmp}
use Rattle.std.specs.BTreeMap.{is_at}
use Rattle.stun_base.specs.Header.{transaction_id_field, header_refusal}
use Rattle.stun_base.specs.declared.wire.error.StunParseError.{StunParseError}
use Rattle.stun_base.specs.declared.wire.message_type.MessageClass.{MessageClass}
use Rattle.stun_base.specs.declared.wire.message_type.MessageClass.TheVariants.{Request, Indication}
use Rattle.stun_base.specs.declared.wire.message_type.MessageClass.TheVariants.{Success, Error}
use Rattle.stun_agent.specs.declared.error.StunError.{StunError}
use Rattle.stun_agent.specs.declared.error.StunError.TheVariants.{AlreadyInProgress}
use Rattle.stun_agent.specs.declared.error.StunError.TheVariants.{ProtocolViolation, ParseError}
use Rattle.stun_base.specs.MessageType.{class_in, is_request}
use Rattle.stun_agent.specs.Agent.{Agent, with_tally, with_validated, with_transactions}
use Rattle.stun_agent.specs.Agent.{tally_of_end, tally_of_sent, is_elsewhere}
use Rattle.stun_agent.specs.Agent.{sending_refusal, after_send, request_refusal}
use Rattle.stun_agent.specs.Agent.{request_of, after_send_request, answered_request, after_class}
use Rattle.stun_agent.specs.Agent.{after_response, ended_by_poll, sent_by_poll, after_poll}
use Rattle.stun_agent.specs.Statistics.{response_received}
use Rattle.stun_agent.specs.Calls.{AgentCall, send, send_request, receive, validate, forget}
use Rattle.stun_agent.specs.Calls.{poll, poll_transmit, cancel_retransmissions, cancel}
use Rattle.stun_agent.specs.Calls.{configure, after_agent_call, after_agent_calls, is_id}
use Rattle.stun_agent.specs.Calls.{is_outstanding, begins, ends, takes_request, one_if, count}
use Rattle.stun_agent.specs.Transactions.{Transaction, Transactions, IsAscending, at, with}
use Rattle.stun_agent.specs.Transactions.{without, with_change_at, without_retransmissions}
use Rattle.stun_agent.specs.Transactions.{with_cancellation, with_settings}
use Rattle.stun_agent.specs.Transactions.{is_over, slot_passed, after_slots, round_trip}
use Rattle.stun_agent.proofs.Ascending.{IsAscending-map, IsAscending-set_value, IsAscending-remove}
use Rattle.stun_agent.proofs.Ascending.{IsAscending-insert, lookup-remove_other}
use Rattle.stun_agent.proofs.Ascending.{lookup-insert_other, lookup-insert_same}
use Rattle.stun_agent.proofs.AnswerLemmas.{answered_there}
use Rattle.stun_agent.proofs.EntryLemmas.{same_key, lookup_found, lookup-map}
use Rattle.stun_agent.proofs.LookupLemmas.{at-without}
use Rattle.stun_agent.proofs.LookupLemmas.{is_some-option_map, is_some-with_change_at}

pub ascending_none : IsAscending []
unfolding IsStrictlySortedBy
ascending_none = tt

-- ---- the ids ascend
pub ascending_changed : (f : Transaction → Transaction) (id : ℕ) (all : Transactions)
    → IsAscending all → IsAscending (with_change_at f id all)
ascending_changed f id all s = by (at id all)
  where
    by : (found : Option Transaction)
        → IsAscending (option_map_or (λ t. set_value (is_at (nat_cmp id)) all (f t)) found all)
    by None = s
    by (Some t) = IsAscending-set_value (is_at (nat_cmp id)) all (f t) s

ascending_response : (moment : Option ℕ) (bytes : List ℕ) (from : SocketAddr) (a : Agent)
    → IsAscending a.transactions → IsAscending (after_response moment bytes from a).transactions
ascending_response moment bytes from a s = by (answered_request bytes from a)
  where
    by : (found : Option Transaction)
        → IsAscending (option_map_or
        (λ t. with_tally (response_received (length bytes) (round_trip moment t))
        (with_validated from
        (with_transactions a (without (transaction_id_field bytes) a.transactions))))
        found a).transactions
    by None = s
    by (Some t) = IsAscending-remove (is_at (nat_cmp (transaction_id_field bytes))) a.transactions s

ascending_class : (class : MessageClass) (moment : Option ℕ) (bytes : List ℕ) (from : SocketAddr)
    (a : Agent) → IsAscending a.transactions
    → IsAscending (after_class class moment bytes from a).transactions
ascending_class Request moment bytes from a s = s
ascending_class Indication moment bytes from a s = s
ascending_class Success moment bytes from a s = ascending_response moment bytes from a s
ascending_class Error moment bytes from a s = ascending_response moment bytes from a s

ascending_poll : (now : ℕ) (a : Agent) → IsAscending a.transactions
    → IsAscending (after_poll now a).transactions
ascending_poll now a s = by (ended_by_poll now a)
  where
    by : (found : Option (ℕ × Transaction))
        → IsAscending
        (option_map_or
        (λ e. with_tally (tally_of_end e.1) (with_transactions a (without e.0 a.transactions)))
        found
        a).transactions
    by None = s
    by (Some e) = IsAscending-remove (is_at (nat_cmp e.0)) a.transactions s

ascending_slots : (now : ℕ) (a : Agent) (found : Option (ℕ × Transaction))
    → IsAscending a.transactions
    → IsAscending
    (tally_of_sent found
    (with_transactions a
    (after_slots a.transport now (option_map (λ e. e.0) found) a.transactions))).transactions
ascending_slots now a None s = IsAscending-map (slot_passed a.transport now None) a.transactions s
ascending_slots now a (Some e) s =
    IsAscending-map (slot_passed a.transport now (Some e.0)) a.transactions s

ascending_if : (b : Bool) (x y : Agent) → IsAscending x.transactions → IsAscending y.transactions
    → IsAscending (cond b x y).transactions
ascending_if true x y p q = p
ascending_if false x y p q = q

pub ascending_call : (call : AgentCall) (a : Agent) → IsAscending a.transactions
    → IsAscending (after_agent_call call a).transactions
ascending_call (send bytes to) a s =
    ascending_if (is_some (sending_refusal a bytes to)) a (after_send bytes a) s s
ascending_call (send_request bytes to now) a s =
    ascending_if (is_some (request_refusal a bytes to)) a (after_send_request a bytes to now) s
    (IsAscending-insert a.transactions (transaction_id_field bytes) (request_of a bytes to now) s)
ascending_call (receive moment bytes from) a s =
    ascending_class (class_in bytes) moment bytes from a s
ascending_call (validate address) a s = s
ascending_call (forget address) a s = s
ascending_call (poll now) a s = ascending_poll now a s
ascending_call (poll_transmit now) a s = ascending_slots now a (sent_by_poll now a) s
ascending_call (cancel_retransmissions id) a s =
    ascending_changed without_retransmissions id a.transactions s
ascending_call (cancel id) a s = ascending_changed with_cancellation id a.transactions s
ascending_call (configure id settings) a s =
    ascending_changed (with_settings settings) id a.transactions s

pub ascending_calls : (calls : List AgentCall) (a : Agent) → IsAscending a.transactions
    → IsAscending (after_agent_calls calls a).transactions
ascending_calls [] a s = s
ascending_calls (call ∷ calls) a s =
    ascending_calls calls (after_agent_call call a) (ascending_call call a s)

-- ---- what begins and what ends
-- a request that is not refused is not outstanding
pub not_refused_is_new : (a : Agent) (bytes : List ℕ) (to : SocketAddr)
    → request_refusal a bytes to ≡ None → at (transaction_id_field bytes) a.transactions ≡ None
not_refused_is_new a bytes to h = by_header (header_refusal bytes) h
  where
    by_place : (o : Option Transaction) → cond (is_some o) (Some AlreadyInProgress) None ≡ None
        → o ≡ None
    by_place None h = refl
    by_place (Some t) h = cc

    by_address : (b : Bool)
        → cond b (Some ProtocolViolation)
        (cond (is_some (at (transaction_id_field bytes) a.transactions)) (Some AlreadyInProgress)
        None) ≡ None
        → at (transaction_id_field bytes) a.transactions ≡ None
    by_address true h = cc
    by_address false h = by_place (at (transaction_id_field bytes) a.transactions) h

    by_class : (b : Bool)
        → cond b
        (cond (is_elsewhere a to) (Some ProtocolViolation)
        (cond (is_some (at (transaction_id_field bytes) a.transactions)) (Some AlreadyInProgress)
        None)) (Some ProtocolViolation) ≡ None
        → at (transaction_id_field bytes) a.transactions ≡ None
    by_class true h = by_address (is_elsewhere a to) h
    by_class false h = cc

    by_header : (refused : Option StunParseError)
        → option_map_or (λ error. Some (ParseError error)) refused
        (cond (is_request (class_in bytes))
        (cond (is_elsewhere a to) (Some ProtocolViolation)
        (cond (is_some (at (transaction_id_field bytes) a.transactions)) (Some AlreadyInProgress)
        None)) (Some ProtocolViolation))
        ≡ None
        → at (transaction_id_field bytes) a.transactions ≡ None
    by_header (Some error) h = cc
    by_header None h = by_class (is_request (class_in bytes)) h

-- what a call balances
abbrev IsBalanced : ℕ → Bool → Bool → Transactions → Transactions → Type 0
IsBalanced id begun ended before after =
    one_if begun + one_if (is_some (at id before))
    ≡ one_if ended + one_if (is_some (at id after))

balanced_request : (id : ℕ) (a : Agent) (bytes : List ℕ) (to : SocketAddr) (now : ℕ)
    → IsBalanced id (is_none (request_refusal a bytes to) && is_id id (transaction_id_field bytes))
    false a.transactions
    (cond (is_some (request_refusal a bytes to)) a (after_send_request a bytes to now)).transactions
balanced_request id a bytes to now = by (request_refusal a bytes to) refl
  where
    fresh : request_refusal a bytes to ≡ None → (b : Bool)
        → is_id id (transaction_id_field bytes) ≡ b
        → IsBalanced id b false a.transactions
        (with (transaction_id_field bytes) (request_of a bytes to now) a.transactions)
    fresh is true same =
        let key : transaction_id_field bytes ≡ id = same_key id (transaction_id_field bytes) same in
        let none : at id a.transactions ≡ None =
        subst (λ k. at k a.transactions ≡ None) key (not_refused_is_new a bytes to is) in
        let here : at id
        (with (transaction_id_field bytes) (request_of a bytes to now) a.transactions)
        ≡ Some (request_of a bytes to now) =
        subst (λ k. at id (with k (request_of a bytes to now) a.transactions)
        ≡ Some (request_of a bytes to now)) (sym key)
        (lookup-insert_same id (request_of a bytes to now) a.transactions) in
        ap (λ (o : Option Transaction). 1 + one_if (is_some o)) none
        ∙ sym (ap (λ (o : Option Transaction). 0 + one_if (is_some o)) here)
    fresh is false apart =
        sym (ap (λ (o : Option Transaction). 0 + one_if (is_some o))
        (lookup-insert_other id (transaction_id_field bytes) (request_of a bytes to now)
        a.transactions apart))

    by : (r : Option StunError) → request_refusal a bytes to ≡ r
        → IsBalanced id (is_none r && is_id id (transaction_id_field bytes)) false a.transactions
        (cond (is_some r) a (after_send_request a bytes to now)).transactions
    by (Some error) is = refl
    by None is = fresh is (is_id id (transaction_id_field bytes)) refl

balanced_without : (id other : ℕ) (all : Transactions) (t : Transaction) → IsAscending all
    → at other all ≡ Some t → IsBalanced id false (is_id id other) all (without other all)
balanced_without id other all t s there = by (is_id id other) refl
  where
    by : (b : Bool) → is_id id other ≡ b → IsBalanced id false b all (without other all)
    by true same =
        let key : other ≡ id = same_key id other same in
        let here : at id all ≡ Some t = subst (λ k. at k all ≡ Some t) key there in
        let gone : at id (without other all) ≡ None =
        subst (λ k. at id (without k all) ≡ None) (sym key) (at-without id all s) in
        ap (λ (o : Option Transaction). 0 + one_if (is_some o)) here
        ∙ sym (ap (λ (o : Option Transaction). 1 + one_if (is_some o)) gone)
    by false apart =
        sym (ap (λ (o : Option Transaction). 0 + one_if (is_some o))
        (lookup-remove_other id other all apart))

balanced_response : (id : ℕ) (moment : Option ℕ) (bytes : List ℕ) (from : SocketAddr) (a : Agent)
    → IsAscending a.transactions
    → IsBalanced id false
    (is_id id (transaction_id_field bytes) && is_some (answered_request bytes from a))
    a.transactions (after_response moment bytes from a).transactions
balanced_response id moment bytes from a s = by (answered_request bytes from a) refl
  where
    known : (t : Transaction) → answered_request bytes from a ≡ Some t
        → (is_id id (transaction_id_field bytes) && is_some (answered_request bytes from a))
        ≡ is_id id (transaction_id_field bytes)
    known t there = test (is_id id (transaction_id_field bytes)) refl
      where
        test : (b : Bool) → is_id id (transaction_id_field bytes) ≡ b
            → (b && is_some (answered_request bytes from a)) ≡ b
        test true same = ap is_some there
        test false apart = refl

    unknown : answered_request bytes from a ≡ None
        → (is_id id (transaction_id_field bytes) && is_some (answered_request bytes from a)) ≡ false
    unknown none = test (is_id id (transaction_id_field bytes)) refl
      where
        test : (b : Bool) → is_id id (transaction_id_field bytes) ≡ b
            → (b && is_some (answered_request bytes from a)) ≡ false
        test true same = ap is_some none
        test false apart = refl

    by : (found : Option Transaction) → answered_request bytes from a ≡ found
        → IsBalanced id false
        (is_id id (transaction_id_field bytes) && is_some (answered_request bytes from a))
        a.transactions
        (option_map_or
        (λ t. with_tally (response_received (length bytes) (round_trip moment t))
        (with_validated from
        (with_transactions a (without (transaction_id_field bytes) a.transactions))))
        found a).transactions
    by None is = sym (ap (λ b. one_if b + one_if (is_some (at id a.transactions))) (unknown is))
    by (Some t) is =
        balanced_without id (transaction_id_field bytes) a.transactions t s
        (answered_there bytes from a t is)
        ∙ sym (ap
        (λ b. one_if b
        + one_if (is_some (at id (without (transaction_id_field bytes) a.transactions))))
        (known t is))

balanced_class : (class : MessageClass) (id : ℕ) (moment : Option ℕ) (bytes : List ℕ)
    (from : SocketAddr) (a : Agent) → IsAscending a.transactions
    → IsBalanced id false (takes_request class id bytes from a) a.transactions
    (after_class class moment bytes from a).transactions
balanced_class Request id moment bytes from a s = refl
balanced_class Indication id moment bytes from a s = refl
balanced_class Success id moment bytes from a s = balanced_response id moment bytes from a s
balanced_class Error id moment bytes from a s = balanced_response id moment bytes from a s

balanced_poll : (id now : ℕ) (a : Agent) → IsAscending a.transactions
    → IsBalanced id false (option_map_or (λ e. is_id id e.0) (ended_by_poll now a) false)
    a.transactions (after_poll now a).transactions
balanced_poll id now a s = by (ended_by_poll now a) refl
  where
    by : (found : Option (ℕ × Transaction)) → ended_by_poll now a ≡ found
        → IsBalanced id false (option_map_or (λ e. is_id id e.0) found false) a.transactions
        (option_map_or
        (λ e. with_tally (tally_of_end e.1) (with_transactions a (without e.0 a.transactions)))
        found
        a).transactions
    by None is = refl
    by (Some e) is =
        balanced_without id e.0 a.transactions e.1 s
        (lookup_found (λ (x : ℕ × Transaction). is_over a.transport now x.1) a.transactions e.0
        e.1 s is)

balanced_slots : (id now : ℕ) (a : Agent) (found : Option (ℕ × Transaction))
    → IsBalanced id false false a.transactions
    (tally_of_sent found
    (with_transactions a
    (after_slots a.transport now (option_map (λ e. e.0) found) a.transactions))).transactions
balanced_slots id now a None =
    sym (ap (λ b. 0 + one_if b)
    (ap is_some (lookup-map (slot_passed a.transport now None) id a.transactions)
    ∙ is_some-option_map _ (at id a.transactions)))
balanced_slots id now a (Some e) =
    sym (ap (λ b. 0 + one_if b)
    (ap is_some (lookup-map (slot_passed a.transport now (Some e.0)) id a.transactions)
    ∙ is_some-option_map _ (at id a.transactions)))

balanced_changed : (f : Transaction → Transaction) (id other : ℕ) (all : Transactions)
    → IsBalanced id false false all (with_change_at f other all)
balanced_changed f id other all =
    sym (ap (λ b. 0 + one_if b) (is_some-with_change_at f id other all))

balanced_send : (b : Bool) (id : ℕ) (bytes : List ℕ) (a : Agent)
    → IsBalanced id false false a.transactions (cond b a (after_send bytes a)).transactions
balanced_send true id bytes a = refl
balanced_send false id bytes a = refl

pub balanced_call : (id : ℕ) (call : AgentCall) (a : Agent) → IsAscending a.transactions
    → IsBalanced id (begins id call a) (ends id call a) a.transactions
    (after_agent_call call a).transactions
balanced_call id (send bytes to) a s =
    balanced_send (is_some (sending_refusal a bytes to)) id bytes a
balanced_call id (send_request bytes to now) a s = balanced_request id a bytes to now
balanced_call id (receive moment bytes from) a s =
    balanced_class (class_in bytes) id moment bytes from a s
balanced_call id (validate address) a s = refl
balanced_call id (forget address) a s = refl
balanced_call id (poll now) a s = balanced_poll id now a s
balanced_call id (poll_transmit now) a s = balanced_slots id now a (sent_by_poll now a)
balanced_call id (cancel_retransmissions other) a s =
    balanced_changed without_retransmissions id other a.transactions
balanced_call id (cancel other) a s = balanced_changed with_cancellation id other a.transactions
balanced_call id (configure other settings) a s =
    balanced_changed (with_settings settings) id other a.transactions

summed : (b o e p x y z : ℕ) → b + o ≡ e + p → x + p ≡ y + z → (b + x) + o ≡ (e + y) + z
summed b o e p x y z h k = omega (arith, h, k)

pub balanced_calls : (id : ℕ) (calls : List AgentCall) (a : Agent) → IsAscending a.transactions
    → count begins id calls a + one_if (is_outstanding id a)
    ≡ count ends id calls a + one_if (is_outstanding id (after_agent_calls calls a))
balanced_calls id [] a s = refl
balanced_calls id (call ∷ calls) a s =
    summed _ _ _ _ _ _ _ (balanced_call id call a s)
    (balanced_calls id calls (after_agent_call call a) (ascending_call call a s))

from_nothing : (x y o : ℕ) → x + o ≡ y → o ≡ 0 → x ≡ y
from_nothing x y o h k = omega (arith, h, k)

pub ends_once : (id : ℕ) (calls : List AgentCall) (start : Agent) → start.transactions ≡ []
    → count begins id calls start
    ≡ count ends id calls start + one_if (is_outstanding id (after_agent_calls calls start))
ends_once id calls start none =
    from_nothing _ _ _ (balanced_calls id calls start (subst IsAscending (sym none) ascending_none))
    (ap (λ (all : Transactions). one_if (is_some (at id all))) none)
