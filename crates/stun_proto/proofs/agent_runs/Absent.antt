-- No request of an id is outstanding: each call leaves it so, and each event but the one that asks
-- for such a request.
use Rattle.std.proofs.Common.{ℕ, ◌≡◌, List, subst, ap, sym, refl, ◌∙◌}
use Rattle.std.specs.Prelude.{Option, Some, None}
use Rattle.std.specs.Duration.{as_nanos}
use Rattle.std.specs.Map.{set_value}
use Rattle.std.specs.Option.{option_map, option_map_or}
use Rattle.std.specs.Ordering.{nat_cmp}
use Rattle.std.specs.BTreeMap.{is_at}
use Rattle.std.specs.declared.net.socket_addr.SocketAddr.{SocketAddr}
use Rattle.stun_base.specs.Header.{transaction_id_field}
use Rattle.stun_base.specs.declared.wire.error.StunParseError.{StunParseError}
use Rattle.stun_base.specs.declared.wire.message_type.MessageClass.{MessageClass}
use Rattle.stun_base.specs.declared.wire.message_type.MessageClass.TheVariants.{Request, Indication}
use Rattle.stun_base.specs.declared.wire.message_type.MessageClass.TheVariants.{Success, Error}
use Rattle.stun_types.specs.Message.{refusal}
use Rattle.stun_base.specs.MessageType.{class_in}
use Rattle.stun_agent.specs.Agent.{Agent, answered_request, sending_refusal, after_send}
use Rattle.stun_agent.specs.Agent.{request_refusal}
use Rattle.stun_agent.specs.Agent.{request_of, after_send_request, after_class, sent_by_poll}
use Rattle.stun_agent.specs.Agent.{after_poll_transmit, ended_by_poll, after_poll}
use Rattle.stun_agent.specs.Transactions.{IsAscending, Transaction, at, without, with_cancellation}
use Rattle.stun_agent.specs.Transactions.{without_retransmissions, with_settings, slot_passed}
use Rattle.stun_agent.specs.declared.error.StunError.{StunError}
use Rattle.stun_agent.proofs.AnswerLemmas.{answered_there}
use Rattle.stun_agent.proofs.LookupLemmas.{lookup-map, at-without}
use Rattle.stun_proto.specs.declared.replay.event.AgentEvent.{AgentEvent}
use Rattle.stun_proto.specs.declared.replay.event.AgentEvent.TheVariants.{Send, SendRequest}
use Rattle.stun_proto.specs.declared.replay.event.AgentEvent.TheVariants.{Receive, Cancel}
use Rattle.stun_proto.specs.declared.replay.event.AgentEvent.TheVariants.{CancelRetransmissions}
use Rattle.stun_proto.specs.declared.replay.event.AgentEvent.TheVariants.{Configure, ValidatePeer}
use Rattle.stun_proto.specs.Run.{after_change, after_event}
use Rattle.stun_proto.specs.Schedule.{Asks}
use Rattle.stun_proto.proofs.agent_runs.AfterCalls.{transmit_transactions, poll_transactions}
use Rattle.stun_proto.proofs.agent_runs.AfterCalls.{response_taken}
use Rattle.stun_agent.proofs.Ascending.{IsAscending-map, IsAscending-remove, lookup-remove_other}
use Rattle.stun_agent.proofs.Ascending.{lookup-set_other, lookup-insert_other}
use Rattle.stun_agent.proofs.EntryLemmas.{lookup_found}
use Rattle.stun_proto.proofs.agent_runs.OneTransaction.{off_key}

module _ (id : ℕ) where
  -- no request of the id is outstanding
  abbrev pub IsAbsent : Agent → Type 0
  IsAbsent a = at id a.transactions ≡ None

  -- another request is there
  pub apart : (a : Agent) (j : ℕ) (t : Transaction) → at j a.transactions ≡ Some t → IsAbsent a
      → j ≡ id → ⊥
  apart a j t there absent same = let clash : Some t ≡ None = sym there
      ∙ ap (λ q. at q a.transactions) same ∙ absent in cc

  -- ---- what calls leave
  pub sent_there : (now : ℕ) (a : Agent) (e : ℕ × Transaction) → IsAscending a.transactions
      → sent_by_poll now a ≡ Some e → at e.0 a.transactions ≡ Some e.1
  sent_there now a e s f = lookup_found _ a.transactions e.0 e.1 s f

  pub ended_there : (now : ℕ) (a : Agent) (e : ℕ × Transaction) → IsAscending a.transactions
      → ended_by_poll now a ≡ Some e → at e.0 a.transactions ≡ Some e.1
  ended_there now a e s f = lookup_found _ a.transactions e.0 e.1 s f

  pub transmit_absent : (now : ℕ) (a : Agent) → IsAbsent a → IsAbsent (after_poll_transmit now a)
  transmit_absent now a absent =
      ap (at id) (transmit_transactions now a)
      ∙ lookup-map (slot_passed a.transport now (option_map (λ x. x.0) (sent_by_poll now a))) id
      a.transactions
      ∙ ap (option_map
      (λ v. slot_passed a.transport now (option_map (λ x. x.0) (sent_by_poll now a)) (id, v)))
      absent

  pub transmit_ascends : (now : ℕ) (a : Agent) → IsAscending a.transactions
      → IsAscending (after_poll_transmit now a).transactions
  transmit_ascends now a s =
      subst IsAscending (sym (transmit_transactions now a))
      (IsAscending-map (slot_passed a.transport now (option_map (λ x. x.0) (sent_by_poll now a)))
      a.transactions s)

  pub poll_absent : (now : ℕ) (a : Agent) (e : ℕ × Transaction) → ended_by_poll now a ≡ Some e
      → (e.0 ≡ id → ⊥) → IsAbsent a → IsAbsent (after_poll now a)
  poll_absent now a e f other absent = ap (at id) (poll_transactions now a e f)
      ∙ lookup-remove_other id e.0 a.transactions (off_key id e.0 other) ∙ absent

  -- the one that ends is gone
  pub poll_gone : (now : ℕ) (a : Agent) (e : ℕ × Transaction) → IsAscending a.transactions
      → ended_by_poll now a ≡ Some e → e.0 ≡ id → IsAbsent (after_poll now a)
  poll_gone now a e s f same = ap (at id) (poll_transactions now a e f)
      ∙ ap (λ j. at id (without j a.transactions)) same ∙ at-without id a.transactions s

  pub poll_ascends : (now : ℕ) (a : Agent) (e : ℕ × Transaction) → IsAscending a.transactions
      → ended_by_poll now a ≡ Some e → IsAscending (after_poll now a).transactions
  poll_ascends now a e s f =
      subst IsAscending (sym (poll_transactions now a e f))
      (IsAscending-remove (is_at (nat_cmp e.0)) a.transactions s)

  -- ---- what events leave
  change_absent : (f : Transaction → Transaction) (j : ℕ) (a : Agent) → IsAbsent a
      → IsAbsent (after_change f j a)
  change_absent f j a absent = by (at j a.transactions) refl
    where
      by : (o : Option Transaction) → at j a.transactions ≡ o
          → at id (option_map_or (λ t. set_value (is_at (nat_cmp j)) a.transactions (f t)) o
          a.transactions) ≡ None
      by None is = absent
      by (Some t) is =
          lookup-set_other id j (f t) a.transactions (off_key id j (apart a j t is absent)) ∙ absent

  response_absent : (moment : Option ℕ) (bs : List ℕ) (from : SocketAddr) (a : Agent) → IsAbsent a
      → IsAbsent (response_taken moment bs from a (answered_request bs from a))
  response_absent moment bs from a absent = by (answered_request bs from a) refl
    where
      by : (o : Option Transaction) → answered_request bs from a ≡ o
          → IsAbsent (response_taken moment bs from a o)
      by None is = absent
      by (Some t) is =
          lookup-remove_other id (transaction_id_field bs) a.transactions
          (off_key id (transaction_id_field bs)
          (apart a (transaction_id_field bs) t (answered_there bs from a t is) absent))
          ∙ absent

  class_absent : (class : MessageClass) (now : ℕ) (bs : List ℕ) (from : SocketAddr) (a : Agent)
      → IsAbsent a → IsAbsent (after_class class (Some now) bs from a)
  class_absent Request now bs from a absent = absent
  class_absent Indication now bs from a absent = absent
  class_absent Success now bs from a absent = response_absent (Some now) bs from a absent
  class_absent Error now bs from a absent = response_absent (Some now) bs from a absent

  pub event_absent : (now : ℕ) (e : AgentEvent) (a : Agent) → (Asks id e → ⊥) → IsAbsent a
      → IsAbsent (after_event now e a)
  event_absent now (Send bs target) a other absent = by (sending_refusal a bs.items target)
    where
      by : (o : Option StunError) → IsAbsent (option_map_or (λ _. a) o (after_send bs.items a))
      by None = absent
      by (Some error) = absent
  event_absent now (SendRequest bs target) a other absent = by (request_refusal a bs.items target)
    where
      by : (o : Option StunError)
          → IsAbsent (option_map_or (λ _. a) o (after_send_request a bs.items target now))
      by None =
          lookup-insert_other id (transaction_id_field bs.items) (request_of a bs.items target now)
          a.transactions (off_key id (transaction_id_field bs.items) other) ∙ absent
      by (Some error) = absent
  event_absent now (Receive bs from) a other absent = by (refusal bs.items)
    where
      by : (o : Option StunParseError)
          → IsAbsent
          (option_map_or (λ _. a) o (after_class (class_in bs.items) (Some now) bs.items from a))
      by None = class_absent (class_in bs.items) now bs.items from a absent
      by (Some error) = absent
  event_absent now (Cancel j) a other absent = change_absent with_cancellation j a absent
  event_absent now (CancelRetransmissions j) a other absent =
      change_absent without_retransmissions j a absent
  event_absent now (Configure j initial retransmits last max) a other absent =
      change_absent
      (with_settings
      (record {
        initial = as_nanos initial;
        maximum = as_nanos max;
        transmissions = retransmits;
        last_wait = as_nanos last;
      })) j a absent
  event_absent now (ValidatePeer address) a other absent = absent
