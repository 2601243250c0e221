-- An event that is not aimed at an outstanding request leaves it as it was, and makes none of its
-- steps.
use Rattle.std.proofs.Common.{ℕ, ◌≡◌, cond, List, ◌∷◌, ◌++◌, ap, sym, refl, ◌∙◌}
use Rattle.std.specs.Prelude.{Option, Some, None}
use Rattle.std.specs.Option.{option_map_or}
use Rattle.std.specs.Duration.{as_nanos}
use Rattle.std.specs.Ordering.{nat_cmp}
use Rattle.std.specs.BTreeMap.{is_at}
use Rattle.std.specs.Map.{set_value}
use Rattle.std.specs.declared.net.socket_addr.SocketAddr.{SocketAddr}
use Rattle.std.proofs.lemmas.Bool.{ne_eqb}
use Rattle.stun_base.specs.Header.{transaction_id_field}
use Rattle.stun_base.specs.MessageType.{IsResponse, class_in}
use Rattle.stun_base.specs.declared.wire.error.StunParseError.{StunParseError}
use Rattle.stun_base.specs.declared.wire.message_type.MessageClass.{MessageClass}
use Rattle.stun_base.specs.declared.wire.message_type.MessageClass.TheVariants.{Request, Indication}
use Rattle.stun_base.specs.declared.wire.message_type.MessageClass.TheVariants.{Success, Error}
use Rattle.stun_base.specs.declared.wire.transport.TransportType.{TransportType}
use Rattle.stun_types.specs.Message.{refusal}
use Rattle.stun_agent.specs.Agent.{Agent, with_transactions, answered_request, sending_refusal}
use Rattle.stun_agent.specs.Agent.{after_send}
use Rattle.stun_agent.specs.Agent.{request_refusal, request_of, after_send_request, takes_message}
use Rattle.stun_agent.specs.Agent.{after_class, after_response}
use Rattle.stun_agent.specs.Transactions.{Transaction, at, with_cancellation}
use Rattle.stun_agent.specs.Transactions.{without_retransmissions, with_settings}
use Rattle.stun_agent.specs.declared.error.StunError.{StunError}
use Rattle.stun_agent.specs.declared.error.StunError.TheVariants.{ParseError}
use Rattle.stun_agent.proofs.AnswerLemmas.{elsewhere_unanswered}
use Rattle.stun_agent.proofs.Ascending.{IsAscending-remove, IsAscending-set_value}
use Rattle.stun_agent.proofs.Ascending.{IsAscending-insert, lookup-remove_other, lookup-set_other}
use Rattle.stun_agent.proofs.Ascending.{lookup-insert_other}
use Rattle.stun_proto.specs.declared.replay.event.AgentEvent.{AgentEvent}
use Rattle.stun_proto.specs.declared.replay.event.AgentEvent.TheVariants.{Send, SendRequest}
use Rattle.stun_proto.specs.declared.replay.event.AgentEvent.TheVariants.{Receive, Cancel}
use Rattle.stun_proto.specs.declared.replay.event.AgentEvent.TheVariants.{CancelRetransmissions}
use Rattle.stun_proto.specs.declared.replay.event.AgentEvent.TheVariants.{Configure, ValidatePeer}
use Rattle.stun_proto.specs.Run.{after_change, after_event, steps_of_event}
use Rattle.stun_proto.specs.Schedule.{IsAimedAt}
use Rattle.stun_proto.specs.Steps.{Step, Transmitted, Sent, Received, Refused, steps_to_end}
use Rattle.stun_proto.proofs.agent_runs.AfterCalls.{response_taken}
use Rattle.stun_proto.proofs.agent_runs.OneTransaction.{off_key}
use Rattle.stun_proto.proofs.agent_runs.Outstanding.{Outstanding, fresh_request}

module _ (id : ℕ) (transport : TransportType) (s : Transaction) (a : Agent)
    (out : Outstanding id transport s a) where
  keeps_change : (f : Transaction → Transaction) (j : ℕ) → (j ≡ id → ⊥)
      → Outstanding id transport s (after_change f j a)
  keeps_change f j apart = by (at j a.transactions)
    where
      by : (o : Option Transaction)
          → Outstanding id transport s
          (with_transactions a
          (option_map_or (λ t. set_value (is_at (nat_cmp j)) a.transactions (f t)) o
          a.transactions))
      by None = record {
        same_transport = out.same_transport;
        ascends = out.ascends;
        stands = out.stands;
        sounds = out.sounds;
      }
      by (Some t) = record {
        same_transport = out.same_transport;
        ascends = IsAscending-set_value (is_at (nat_cmp j)) a.transactions (f t) out.ascends;
        stands = lookup-set_other id j (f t) a.transactions (off_key id j apart) ∙ out.stands;
        sounds = out.sounds;
      }

  -- an absent id is another one
  absent_key : (j : ℕ) → at j a.transactions ≡ None → j ≡ id → ⊥
  absent_key j absent same =
      let clash : Some s ≡ None =
      sym out.stands ∙ ap (λ q. at q a.transactions) (sym same) ∙ absent in cc

  keeps_request : (now : ℕ) (bytes : List ℕ) (target : SocketAddr)
      → request_refusal a bytes target ≡ None
      → Outstanding id transport s (after_send_request a bytes target now)
  keeps_request now bytes target accepted = record {
    same_transport = out.same_transport;
    ascends =
        IsAscending-insert a.transactions (transaction_id_field bytes)
        (request_of a bytes target now) out.ascends;
    stands =
        lookup-insert_other id (transaction_id_field bytes) (request_of a bytes target now)
        a.transactions
        (off_key id (transaction_id_field bytes)
        (absent_key (transaction_id_field bytes) (fresh_request a bytes target accepted)))
        ∙ out.stands;
    sounds = out.sounds;
  }

  keeps_response : (moment : Option ℕ) (bytes : List ℕ) (from : SocketAddr)
      → (transaction_id_field bytes ≡ id → from ≡ s.to → ⊥)
      → Outstanding id transport s (after_response moment bytes from a)
  keeps_response moment bytes from off = by (answered_request bytes from a) refl
    where
      -- a response of the id that is taken comes from the address
      apart : (t : Transaction) → answered_request bytes from a ≡ Some t
          → transaction_id_field bytes ≡ id
          → ⊥
      apart t is same =
          let none : answered_request bytes from a ≡ None =
          elsewhere_unanswered bytes from a s
          (ap (λ q. at q a.transactions) same ∙ out.stands) (off same) in
          let clash : Some t ≡ None = sym is ∙ none in cc

      by : (o : Option Transaction) → answered_request bytes from a ≡ o
          → Outstanding id transport s (response_taken moment bytes from a o)
      by None is = out
      by (Some t) is = record {
        same_transport = out.same_transport;
        ascends =
            IsAscending-remove (is_at (nat_cmp (transaction_id_field bytes))) a.transactions
            out.ascends;
        stands =
            lookup-remove_other id (transaction_id_field bytes) a.transactions
            (off_key id (transaction_id_field bytes) (apart t is)) ∙ out.stands;
        sounds = out.sounds;
      }

  keeps_class : (class : MessageClass) (now : ℕ) (bytes : List ℕ) (from : SocketAddr)
      → (IsResponse class → transaction_id_field bytes ≡ id → from ≡ s.to → ⊥)
      → Outstanding id transport s (after_class class (Some now) bytes from a)
  keeps_class Request now bytes from off = record {
    same_transport = out.same_transport;
    ascends = out.ascends;
    stands = out.stands;
    sounds = out.sounds;
  }
  keeps_class Indication now bytes from off = record {
    same_transport = out.same_transport;
    ascends = out.ascends;
    stands = out.stands;
    sounds = out.sounds;
  }
  keeps_class Success now bytes from off = keeps_response (Some now) bytes from (off refl)
  keeps_class Error now bytes from off = keeps_response (Some now) bytes from (off refl)

  pub keeps_event : (now : ℕ) (e : AgentEvent) → (IsAimedAt id s.to e → ⊥)
      → Outstanding id transport s (after_event now e a)
  keeps_event now (Send bytes target) off = by (sending_refusal a bytes.items target)
    where
      by : (o : Option StunError)
          → Outstanding id transport s (option_map_or (λ _. a) o (after_send bytes.items a))
      by None = record {
        same_transport = out.same_transport;
        ascends = out.ascends;
        stands = out.stands;
        sounds = out.sounds;
      }
      by (Some error) = out
  keeps_event now (SendRequest bytes target) off =
      by (request_refusal a bytes.items target) refl
    where
      by : (o : Option StunError) → request_refusal a bytes.items target ≡ o
          → Outstanding id transport s
          (option_map_or (λ _. a) o (after_send_request a bytes.items target now))
      by None is = keeps_request now bytes.items target is
      by (Some error) is = out
  keeps_event now (Receive bytes from) off = by (refusal bytes.items) refl
    where
      by : (o : Option StunParseError) → refusal bytes.items ≡ o
          → Outstanding id transport s
          (option_map_or (λ _. a) o
          (after_class (class_in bytes.items) (Some now) bytes.items from a))
      by None is =
          keeps_class (class_in bytes.items) now bytes.items from
          (λ response same there. off (is, response, same, there))
      by (Some error) is = out
  keeps_event now (Cancel j) off = keeps_change with_cancellation j off
  keeps_event now (CancelRetransmissions j) off = keeps_change without_retransmissions j off
  keeps_event now (Configure j initial retransmits last max) off =
      keeps_change
      (with_settings
      (record {
        initial = as_nanos initial;
        maximum = as_nanos max;
        transmissions = retransmits;
        last_wait = as_nanos last;
      })) j off
  keeps_event now (ValidatePeer address) off = record {
    same_transport = out.same_transport;
    ascends = out.ascends;
    stands = out.stands;
    sounds = out.sounds;
  }

  -- no event makes a step of it
  pub own_event : (now : ℕ) (e : AgentEvent) (more : List Step)
      → steps_to_end id (steps_of_event now e a ++ more) ≡ steps_to_end id more
  unfolding steps_to_end
  own_event now (Send bytes target) more = by (sending_refusal a bytes.items target)
    where
      by : (o : Option StunError)
          → steps_to_end id
          (option_map_or (λ error. Refused now error) o (Sent now target bytes.items) ∷ more)
          ≡ steps_to_end id more
      by None = refl
      by (Some error) = refl
  own_event now (SendRequest bytes target) more = by (request_refusal a bytes.items target) refl
    where
      by : (o : Option StunError) → request_refusal a bytes.items target ≡ o
          → steps_to_end id
          (option_map_or (λ error. Refused now error) o
          (Transmitted now (transaction_id_field bytes.items) target bytes.items) ∷ more)
          ≡ steps_to_end id more
      by None is =
          let apart =
          absent_key (transaction_id_field bytes.items) (fresh_request a bytes.items target is) in
          ap (λ c.
          cond c
          (Transmitted now (transaction_id_field bytes.items) target bytes.items
          ∷ steps_to_end id more)
          (steps_to_end id more))
          (ne_eqb id (transaction_id_field bytes.items) (λ h. apart (sym h)))
      by (Some error) is = refl
  own_event now (Receive bytes from) more = by (refusal bytes.items)
    where
      by : (o : Option StunParseError)
          → steps_to_end id
          (option_map_or (λ error. Refused now (ParseError error)) o
          (Received now (takes_message bytes.items from a)) ∷ more) ≡ steps_to_end id more
      by None = refl
      by (Some error) = refl
  own_event now (Cancel j) more = refl
  own_event now (CancelRetransmissions j) more = refl
  own_event now (Configure j initial retransmits last max) more = refl
  own_event now (ValidatePeer address) more = refl
