-- How often a request is retransmitted: each time uses up a timeout of its settings.
use Rattle.std.proofs.Common.{ℕ, ◌≡◌, ◌+◌, ◌-◌, ◌≤◌, Bool, true, false, cond, List}
use Rattle.std.proofs.Common.{[], ◌∷◌, length, max, ap, sym, subst, refl, ◌∙◌, arith}
use Rattle.std.specs.Prelude.{Option, Some, None, IfSome, ◌&&◌, nat_le}
use Rattle.std.specs.Option.{option_map, option_map_or, is_some}
use Rattle.std.specs.declared.net.socket_addr.SocketAddr.{SocketAddr}
use Rattle.std.proofs.lemmas.Bool.{le-leb}
use Rattle.stun_base.specs.Header.{transaction_id_field}
use Rattle.stun_base.specs.declared.wire.message_type.MessageClass.{MessageClass}
use Rattle.stun_base.specs.declared.wire.message_type.MessageClass.TheVariants.{Request, Indication}
use Rattle.stun_base.specs.declared.wire.message_type.MessageClass.TheVariants.{Success, Error}
use Rattle.stun_base.specs.declared.wire.transport.TransportType.{TransportType}
use Rattle.stun_base.specs.declared.wire.transport.TransportType.TheVariants.{Udp, Tcp}
use Rattle.stun_agent.specs.declared.error.StunError.{StunError}
use Rattle.stun_base.specs.MessageType.{class_in}
use Rattle.stun_agent.specs.Agent.{Agent, with_tally, with_validated, with_transactions}
use Rattle.stun_agent.specs.Agent.{tally_of_end}
use Rattle.stun_agent.specs.Agent.{tally_of_sent, sending_refusal, after_send, request_refusal}
use Rattle.stun_agent.specs.Agent.{request_of, after_send_request, answered_request, after_class}
use Rattle.stun_agent.specs.Agent.{after_response, ended_by_poll, sent_by_poll, after_poll}
use Rattle.stun_agent.specs.Statistics.{response_received}
use Rattle.stun_agent.specs.Calls.{AgentCall, send, send_request, receive, validate}
use Rattle.stun_agent.specs.Calls.{forget, poll, poll_transmit, cancel_retransmissions}
use Rattle.stun_agent.specs.Calls.{cancel, configure, after_agent_call, after_agent_calls}
use Rattle.stun_agent.specs.Calls.{is_id, repeats_request, one_if, transmissions_allowed}
use Rattle.stun_agent.specs.Calls.{repetitions_until_end, most_transmissions_allowed}
use Rattle.stun_agent.specs.Timing.{slots}
use Rattle.stun_agent.specs.Transactions.{Transaction, Transactions, IsAscending, at, with, without}
use Rattle.stun_agent.specs.Transactions.{with_change_at, without_retransmissions}
use Rattle.stun_agent.specs.Transactions.{with_cancellation, with_settings, repeats, is_due}
use Rattle.stun_agent.specs.Transactions.{slot_passed, after_slot, after_slots, round_trip}
use Rattle.stun_agent.proofs.Ascending.{lookup-remove_other}
use Rattle.stun_agent.proofs.Ascending.{lookup-insert_other, lookup-insert_same}
use Rattle.stun_agent.proofs.EntryLemmas.{same_key, lookup_found, lookup-map}
use Rattle.stun_agent.proofs.LookupLemmas.{at-without, at-with_change_at}
use Rattle.stun_agent.proofs.LookupLemmas.{at-changed_other}
use Rattle.stun_agent.proofs.OnceLemmas.{ascending_none, ascending_call}
use Rattle.stun_agent.proofs.OnceLemmas.{ascending_calls, not_refused_is_new}
use Rattle.stun_agent.proofs.QuietLemmas.{due_slots, sent_is_due}

-- ---- the transport stays
transport_if : (b : Bool) (x y : Agent) (transport : TransportType) → x.transport ≡ transport
    → y.transport ≡ transport → (cond b x y).transport ≡ transport
transport_if true x y transport p q = p
transport_if false x y transport p q = q

transport_class : (class : MessageClass) (moment : Option ℕ) (bytes : List ℕ) (from : SocketAddr)
    (a : Agent) → (after_class class moment bytes from a).transport ≡ a.transport
transport_class class moment bytes from a = by class
  where
    response : (found : Option Transaction)
        → (option_map_or
        (λ t. with_tally (response_received (length bytes) (round_trip moment t))
        (with_validated from
        (with_transactions a (without (transaction_id_field bytes) a.transactions))))
        found a).transport
        ≡ a.transport
    response None = refl
    response (Some t) = refl

    by : (c : MessageClass) → (after_class c moment bytes from a).transport ≡ a.transport
    by Request = refl
    by Indication = refl
    by Success = response (answered_request bytes from a)
    by Error = response (answered_request bytes from a)

transport_poll : (a : Agent) (found : Option (ℕ × Transaction))
    → (option_map_or
    (λ e. with_tally (tally_of_end e.1) (with_transactions a (without e.0 a.transactions))) found
    a).transport ≡ a.transport
transport_poll a None = refl
transport_poll a (Some e) = refl

transport_sent : (a : Agent) (found : Option (ℕ × Transaction))
    → (tally_of_sent found a).transport ≡ a.transport
transport_sent a None = refl
transport_sent a (Some e) = refl

pub transport_call : (call : AgentCall) (a : Agent)
    → (after_agent_call call a).transport ≡ a.transport
transport_call (send bytes to) a =
    transport_if (is_some (sending_refusal a bytes to)) a (after_send bytes a) a.transport refl refl
transport_call (send_request bytes to now) a =
    transport_if (is_some (request_refusal a bytes to)) a (after_send_request a bytes to now)
    a.transport refl refl
transport_call (receive moment bytes from) a = transport_class (class_in bytes) moment bytes from a
transport_call (validate address) a = refl
transport_call (forget address) a = refl
transport_call (poll now) a = transport_poll a (ended_by_poll now a)
transport_call (poll_transmit now) a =
    transport_sent
    (with_transactions a
    (after_slots a.transport now (option_map (λ e. e.0) (sent_by_poll now a)) a.transactions))
    (sent_by_poll now a)
transport_call (cancel_retransmissions id) a = refl
transport_call (cancel id) a = refl
transport_call (configure id settings) a = refl

transport_calls : (calls : List AgentCall) (a : Agent)
    → (after_agent_calls calls a).transport ≡ a.transport
transport_calls [] a = refl
transport_calls (call ∷ calls) a =
    transport_calls calls (after_agent_call call a) ∙ transport_call call a

-- ---- one call
-- what a call does to the slot of a transaction, and what is left of that
record TakesSlot (transport : TransportType) (t : Transaction) (repeated : Bool)
    (after : Option Transaction) : Type 0 where
  within : t.slot + one_if repeated ≤ max t.slot (slots transport t.settings)
  rises : IfSome after
      (λ u. (t.slot + one_if repeated ≤ u.slot)
      × (u.slot ≤ max t.slot (slots transport t.settings)))

stays : (transport : TransportType) (t u : Transaction) (after : Option Transaction)
    → after ≡ Some u → u.slot ≡ t.slot → TakesSlot transport t false after
stays transport t u after is same =
    subst (TakesSlot transport t false) (sym is)
    (record { within = omega arith; rises = (omega arith, omega arith) })

gone : (transport : TransportType) (t : Transaction) (after : Option Transaction) → after ≡ None
    → TakesSlot transport t false after
gone transport t after is =
    subst (TakesSlot transport t false) (sym is) (record { within = omega arith; rises = tt })

slot_without : (transport : TransportType) (id other : ℕ) (all : Transactions) (t : Transaction)
    → IsAscending all → at id all ≡ Some t → TakesSlot transport t false (at id (without other all))
slot_without transport id other all t s there = by (is_id id other) refl
  where
    by : (b : Bool) → is_id id other ≡ b → TakesSlot transport t false (at id (without other all))
    by true same =
        gone transport t _
        (subst (λ k. at id (without k all) ≡ None) (sym (same_key id other same))
        (at-without id all s))
    by false apart = stays transport t t _ (lookup-remove_other id other all apart ∙ there) refl

slot_changed : (f : Transaction → Transaction) (transport : TransportType) (id other : ℕ)
    (all : Transactions) (t : Transaction) → (f t).slot ≡ t.slot → at id all ≡ Some t
    → TakesSlot transport t false (at id (with_change_at f other all))
slot_changed f transport id other all t same there = by (is_id id other) refl
  where
    by : (b : Bool) → is_id id other ≡ b
        → TakesSlot transport t false (at id (with_change_at f other all))
    by true is =
        stays transport t (f t) _
        (subst (λ k. at id (with_change_at f k all) ≡ Some (f t)) (sym (same_key id other is))
        (at-with_change_at f id all ∙ ap (option_map f) there)) same
    by false apart = stays transport t t _ (at-changed_other f id other all apart ∙ there) refl

slot_request : (id : ℕ) (a : Agent) (bytes : List ℕ) (to : SocketAddr) (now : ℕ) (t : Transaction)
    → at id a.transactions ≡ Some t
    → TakesSlot a.transport t false
    (at id (cond (is_some (request_refusal a bytes to)) a
    (after_send_request a bytes to now)).transactions)
slot_request id a bytes to now t there = by (request_refusal a bytes to) refl
  where
    fresh : request_refusal a bytes to ≡ None → (b : Bool)
        → is_id id (transaction_id_field bytes) ≡ b
        → TakesSlot a.transport t false
        (at id (with (transaction_id_field bytes) (request_of a bytes to now) a.transactions))
    fresh is true same =
        let none : at id a.transactions ≡ None =
        subst (λ k. at k a.transactions ≡ None) (same_key id (transaction_id_field bytes) same)
        (not_refused_is_new a bytes to is) in
        cc
    fresh is false apart =
        stays a.transport t t _
        (lookup-insert_other id (transaction_id_field bytes) (request_of a bytes to now)
        a.transactions apart ∙ there) refl

    by : (r : Option StunError) → request_refusal a bytes to ≡ r
        → TakesSlot a.transport t false
        (at id (cond (is_some r) a (after_send_request a bytes to now)).transactions)
    by (Some error) is = stays a.transport t t _ there refl
    by None is = fresh is (is_id id (transaction_id_field bytes)) refl

slot_response : (id : ℕ) (moment : Option ℕ) (bytes : List ℕ) (from : SocketAddr) (a : Agent)
    (t : Transaction) → IsAscending a.transactions → at id a.transactions ≡ Some t
    → TakesSlot a.transport t false (at id (after_response moment bytes from a).transactions)
slot_response id moment bytes from a t s there = by (answered_request bytes from a)
  where
    by : (found : Option Transaction)
        → TakesSlot a.transport t false (at id (option_map_or
        (λ u. with_tally (response_received (length bytes) (round_trip moment u))
        (with_validated from
        (with_transactions a (without (transaction_id_field bytes) a.transactions))))
        found a).transactions)
    by None = stays a.transport t t _ there refl
    by (Some u) = slot_without a.transport id (transaction_id_field bytes) a.transactions t s there

slot_class : (class : MessageClass) (id : ℕ) (moment : Option ℕ) (bytes : List ℕ)
    (from : SocketAddr) (a : Agent) (t : Transaction) → IsAscending a.transactions
    → at id a.transactions ≡ Some t
    → TakesSlot a.transport t false (at id (after_class class moment bytes from a).transactions)
slot_class Request id moment bytes from a t s there = stays a.transport t t _ there refl
slot_class Indication id moment bytes from a t s there = stays a.transport t t _ there refl
slot_class Success id moment bytes from a t s there = slot_response id moment bytes from a t s there
slot_class Error id moment bytes from a t s there = slot_response id moment bytes from a t s there

slot_poll : (id now : ℕ) (a : Agent) (t : Transaction) → IsAscending a.transactions
    → at id a.transactions ≡ Some t
    → TakesSlot a.transport t false (at id (after_poll now a).transactions)
slot_poll id now a t s there = by (ended_by_poll now a)
  where
    by : (found : Option (ℕ × Transaction))
        → TakesSlot a.transport t false
        (at id (option_map_or
        (λ e. with_tally (tally_of_end e.1) (with_transactions a (without e.0 a.transactions)))
        found
        a).transactions)
    by None = stays a.transport t t _ there refl
    by (Some e) = slot_without a.transport id e.0 a.transactions t s there

-- a passed slot, whether the request is sent or not
slot_due : (transport : TransportType) (now : ℕ) (t : Transaction) (repeated reached due : Bool)
    → is_due transport now t ≡ due → (repeated ≡ true → (reached && due) ≡ true)
    → TakesSlot transport t repeated (Some (cond (reached && due) (after_slot now t) t))
slot_due transport now t true true true is h = let less =
    due_slots transport now t is in
    record { within = omega arith; rises = (omega arith, omega arith) }
slot_due transport now t false true true is h = let less =
    due_slots transport now t is in
    record { within = omega arith; rises = (omega arith, omega arith) }
slot_due transport now t true true false is h = let no : false ≡ true = h refl in cc
slot_due transport now t true false due is h = let no : false ≡ true = h refl in cc
slot_due transport now t false true false is h =
    record { within = omega arith; rises = (omega arith, omega arith) }
slot_due transport now t false false due is h =
    record { within = omega arith; rises = (omega arith, omega arith) }

slot_transmit : (id now : ℕ) (a : Agent) (t : Transaction) → IsAscending a.transactions
    → at id a.transactions ≡ Some t
    → TakesSlot a.transport t (option_map_or (λ e. is_id id e.0) (sent_by_poll now a) false)
    (at id (tally_of_sent (sent_by_poll now a)
    (with_transactions a
    (after_slots a.transport now (option_map (λ e. e.0) (sent_by_poll now a))
    a.transactions))).transactions)
slot_transmit id now a t s there = by (sent_by_poll now a) refl
  where
    passed : (sent : Option ℕ) → at id (after_slots a.transport now sent a.transactions)
        ≡ Some (slot_passed a.transport now sent (id, t))
    passed sent = lookup-map (slot_passed a.transport now sent) id a.transactions
        ∙ ap (option_map (λ v. slot_passed a.transport now sent (id, v))) there

    sent_due : (e : ℕ × Transaction) → sent_by_poll now a ≡ Some e → is_id id e.0 ≡ true
        → (nat_le id e.0 && is_due a.transport now t) ≡ true
    sent_due e is same =
        let key : e.0 ≡ id = same_key id e.0 same in
        let found =
        lookup_found (λ (x : ℕ × Transaction). is_due a.transport now x.1 && repeats x.1.sending)
        a.transactions e.0 e.1 s is in
        let own : Some e.1 ≡ Some t = sym (subst (λ k. at k a.transactions ≡ Some e.1) key found)
        ∙ there in
        let value : e.1 ≡ t = ap (λ (o : Option Transaction). option_map_or (λ x. x) o t) own in
        let due : is_due a.transport now t ≡ true =
        subst (λ u. is_due a.transport now u ≡ true) value (sent_is_due now a e is) in
        let reached : nat_le id e.0 ≡ true = le-leb id e.0 (omega arith) in
        ap (λ b. b && is_due a.transport now t) reached ∙ due

    by : (found : Option (ℕ × Transaction)) → sent_by_poll now a ≡ found
        → TakesSlot a.transport t (option_map_or (λ e. is_id id e.0) found false)
        (at id (tally_of_sent found
        (with_transactions a
        (after_slots a.transport now (option_map (λ e. e.0) found) a.transactions))).transactions)
    by None is =
        subst (TakesSlot a.transport t false) (sym (passed None))
        (slot_due a.transport now t false true (is_due a.transport now t) refl
        (λ h. absurd (let no : false ≡ true = h in cc)))
    by (Some e) is =
        subst (TakesSlot a.transport t (is_id id e.0)) (sym (passed (Some e.0)))
        (slot_due a.transport now t (is_id id e.0) (nat_le id e.0) (is_due a.transport now t) refl
        (sent_due e is))

slot_send : (b : Bool) (id : ℕ) (bytes : List ℕ) (a : Agent) (t : Transaction)
    → at id a.transactions ≡ Some t
    → TakesSlot a.transport t false (at id (cond b a (after_send bytes a)).transactions)
slot_send true id bytes a t there = stays a.transport t t _ there refl
slot_send false id bytes a t there = stays a.transport t t _ there refl

slot_call : (id : ℕ) (call : AgentCall) (a : Agent) (t : Transaction) → IsAscending a.transactions
    → at id a.transactions ≡ Some t
    → TakesSlot a.transport t (repeats_request id call a)
    (at id (after_agent_call call a).transactions)
slot_call id (send bytes to) a t s there =
    slot_send (is_some (sending_refusal a bytes to)) id bytes a t there
slot_call id (send_request bytes to now) a t s there = slot_request id a bytes to now t there
slot_call id (receive moment bytes from) a t s there =
    slot_class (class_in bytes) id moment bytes from a t s there
slot_call id (validate address) a t s there = stays a.transport t t _ there refl
slot_call id (forget address) a t s there = stays a.transport t t _ there refl
slot_call id (poll now) a t s there = slot_poll id now a t s there
slot_call id (poll_transmit now) a t s there = slot_transmit id now a t s there
slot_call id (cancel_retransmissions other) a t s there =
    slot_changed without_retransmissions a.transport id other a.transactions t refl there
slot_call id (cancel other) a t s there =
    slot_changed with_cancellation a.transport id other a.transactions t refl there
slot_call id (configure other settings) a t s there =
    slot_changed (with_settings settings) a.transport id other a.transactions t refl there

-- ---- all calls
slots_within : (transport : TransportType) (t : Transaction)
    → slots transport t.settings ≤ max 1 t.settings.transmissions - 1
slots_within Udp t = omega arith
slots_within Tcp t = omega arith

bounded : (id : ℕ) (calls : List AgentCall) (a : Agent) (t : Transaction)
    → IsAscending a.transactions → at id a.transactions ≡ Some t
    → t.slot + repetitions_until_end id calls a
    ≤ max t.slot (max 1 (most_transmissions_allowed id calls a) - 1)
bounded id [] a t s there = omega arith
bounded id (call ∷ calls) a t s there =
    let slot = slot_call id call a t s there in
    let few = slots_within a.transport t in
    let own : transmissions_allowed id a ≡ t.settings.transmissions =
    ap (λ (o : Option Transaction). option_map_or (λ u. u.settings.transmissions) o 0) there in
    by (at id (after_agent_call call a).transactions) refl slot.rises slot.within few own
    (bounded id calls (after_agent_call call a))
  where
    by : (after : Option Transaction) → at id (after_agent_call call a).transactions ≡ after
        → IfSome after
        (λ u. (t.slot + one_if (repeats_request id call a) ≤ u.slot)
        × (u.slot ≤ max t.slot (slots a.transport t.settings)))
        → t.slot + one_if (repeats_request id call a) ≤ max t.slot (slots a.transport t.settings)
        → slots a.transport t.settings ≤ max 1 t.settings.transmissions - 1
        → transmissions_allowed id a ≡ t.settings.transmissions
        → ((u : Transaction) → IsAscending (after_agent_call call a).transactions
        → at id (after_agent_call call a).transactions ≡ Some u
        → u.slot + repetitions_until_end id calls (after_agent_call call a)
        ≤ max u.slot (max 1 (most_transmissions_allowed id calls (after_agent_call call a)) - 1))
        → t.slot
        + (one_if (repeats_request id call a)
        + cond (is_some after) (repetitions_until_end id calls (after_agent_call call a)) 0)
        ≤ max t.slot
        (max 1 (max (transmissions_allowed id a)
        (cond (is_some after) (most_transmissions_allowed id calls (after_agent_call call a)) 0))
        - 1)
    by None is rises within few own rest = omega (arith, within, few, own)
    by (Some u) is rises within few own rest = let more = rest u (ascending_call call a s) is in
        omega (arith, rises.0, rises.1, few, own, more)

-- over a transport that loses nothing there are no slots, so nothing is retransmitted
once_over_tcp : (id : ℕ) (calls : List AgentCall) (a : Agent) (t : Transaction)
    → IsAscending a.transactions → at id a.transactions ≡ Some t → a.transport ≡ Tcp
    → repetitions_until_end id calls a ≡ 0
once_over_tcp id [] a t s there tcp = refl
once_over_tcp id (call ∷ calls) a t s there tcp =
    let slot = slot_call id call a t s there in
    let none : slots a.transport t.settings ≡ 0 =
    ap (λ transport. slots transport t.settings) tcp in
    let here : one_if (repeats_request id call a) ≡ 0 = omega (arith, slot.within, none) in
    by (at id (after_agent_call call a).transactions) refl here
    (once_over_tcp id calls (after_agent_call call a))
  where
    by : (after : Option Transaction) → at id (after_agent_call call a).transactions ≡ after
        → one_if (repeats_request id call a) ≡ 0
        → ((u : Transaction) → IsAscending (after_agent_call call a).transactions
        → at id (after_agent_call call a).transactions ≡ Some u
        → (after_agent_call call a).transport ≡ Tcp
        → repetitions_until_end id calls (after_agent_call call a) ≡ 0)
        → one_if (repeats_request id call a)
        + cond (is_some after) (repetitions_until_end id calls (after_agent_call call a)) 0 ≡ 0
    by None is here rest = omega (arith, here)
    by (Some u) is here rest =
        let more = rest u (ascending_call call a s) is (transport_call call a ∙ tcp) in
        omega (arith, here, more)

first_too : (r m : ℕ) → 0 + r ≤ max 0 (max 1 m - 1) → 1 + r ≤ max 1 m
first_too r m h = omega arith

-- from an accepted request on
pub transmitted_at_most : (earlier later : List AgentCall) (start : Agent) (bytes : List ℕ)
    (to : SocketAddr) (now : ℕ) → start.transactions ≡ []
    → request_refusal (after_agent_calls earlier start) bytes to ≡ None
    → (1 + repetitions_until_end (transaction_id_field bytes) later
    (after_send_request (after_agent_calls earlier start) bytes to now)
    ≤ max 1 (most_transmissions_allowed (transaction_id_field bytes) later
    (after_send_request (after_agent_calls earlier start) bytes to now)))
    × (start.transport ≡ Tcp
    → repetitions_until_end (transaction_id_field bytes) later
    (after_send_request (after_agent_calls earlier start) bytes to now) ≡ 0)
transmitted_at_most earlier later start bytes to now none accepted =
    let before = after_agent_calls earlier start in
    let begun = after_send_request before bytes to now in
    let ascending : IsAscending before.transactions =
    ascending_calls earlier start (subst IsAscending (sym none) ascending_none) in
    let goes_on : IsAscending begun.transactions =
    subst (λ (r : Option StunError). IsAscending (cond (is_some r) before begun).transactions)
    accepted (ascending_call (send_request bytes to now) before ascending) in
    let there : at (transaction_id_field bytes) begun.transactions
    ≡ Some (request_of before bytes to now) =
    lookup-insert_same (transaction_id_field bytes) (request_of before bytes to now)
    before.transactions in (
      first_too _ _
          (bounded (transaction_id_field bytes) later begun (request_of before bytes to now) goes_on
          there),
      λ tcp. once_over_tcp (transaction_id_field bytes) later begun (request_of before bytes to now)
          goes_on there (transport_calls earlier start ∙ tcp),
    )
