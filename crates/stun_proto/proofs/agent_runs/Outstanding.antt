-- A request that is outstanding and still retransmitted, in an agent: what each call of a turn
-- leaves of it.
use Rattle.std.proofs.Common.{ℕ, ◌≡◌, ◌<◌, ◌≤◌, Bool, true, false, not, ◌&&◌, ◌||◌, cond, List, map}
use Rattle.std.proofs.Common.{min, subst, ap, sym, refl, ◌∙◌}
use Rattle.std.specs.Prelude.{Option, Some, None, fold, nat_le}
use Rattle.std.specs.Option.{option_map, option_map_or, is_some}
use Rattle.std.specs.Ordering.{nat_cmp}
use Rattle.std.specs.BTreeMap.{is_at}
use Rattle.std.specs.declared.net.socket_addr.SocketAddr.{SocketAddr}
use Rattle.std.proofs.lemmas.Bool.{ltb-true, ltb-false, leb-true}
use borrow.Author.Tests.{not-true}
use Rattle.stun_base.specs.Header.{header_refusal, transaction_id_field}
use Rattle.stun_base.specs.MessageType.{class_in, is_request}
use Rattle.stun_base.specs.Moments.{moment_after}
use Rattle.stun_base.specs.declared.wire.error.StunParseError.{StunParseError}
use Rattle.stun_base.specs.declared.wire.transport.TransportType.{TransportType}
use Rattle.stun_agent.specs.Agent.{Agent, is_elsewhere, request_refusal, request_of}
use Rattle.stun_agent.specs.Agent.{after_send_request, sent_by_poll, after_poll_transmit}
use Rattle.stun_agent.specs.Agent.{ended_by_poll, after_poll}
use Rattle.stun_agent.specs.Timing.{slots}
use Rattle.stun_agent.specs.Transactions.{IsAscending, Transaction, at, next_sent, first_over}
use Rattle.stun_agent.specs.Transactions.{an_hour, is_due, is_over, is_cancelled, awaited_moment}
use Rattle.stun_agent.specs.Transactions.{has_slots, after_slot, after_slots, slot_passed, repeats}
use Rattle.stun_agent.specs.declared.error.StunError.TheVariants.{AlreadyInProgress}
use Rattle.stun_agent.specs.declared.error.StunError.TheVariants.{ProtocolViolation, ParseError}
use Rattle.stun_agent.specs.declared.state.transaction.Sending.{Sending}
use Rattle.stun_agent.specs.declared.state.transaction.Sending.TheVariants.{Repeats, Silent}
use Rattle.stun_agent.specs.declared.state.transaction.Sending.TheVariants.{Cancelled}
use Rattle.stun_agent.proofs.Ascending.{IsAscending-map, IsAscending-remove, IsAscending-insert}
use Rattle.stun_agent.proofs.Ascending.{lookup-remove_other, lookup-insert_same, fold-min-le}
use Rattle.stun_proto.proofs.agent_runs.AfterCalls.{transmit_transport, transmit_transactions}
use Rattle.stun_proto.proofs.agent_runs.AfterCalls.{poll_transport, poll_transactions}
use Rattle.stun_proto.proofs.agent_runs.OneTransaction.{sent_same, sent_other, sent_none, over_same}
use Rattle.stun_proto.proofs.agent_runs.OneTransaction.{over_none}
use Rattle.stun_proto.proofs.Tests.{both}

-- the agent has this request under this id
pub record Outstanding (id : ℕ) (transport : TransportType) (s : Transaction)
    (a : Agent) : Type 0 where
  pub same_transport : a.transport ≡ transport
  pub ascends : IsAscending a.transactions
  pub stands : at id a.transactions ≡ Some s
  pub sounds : repeats s.sending ≡ true

-- ---- a request that is accepted
-- there is no request of its id yet
pub fresh_request : (a : Agent) (bytes : List ℕ) (to : SocketAddr)
    → request_refusal a bytes to ≡ None → at (transaction_id_field bytes) a.transactions ≡ None
fresh_request a bytes to h =
    by (header_refusal bytes) (is_request (class_in bytes)) (is_elsewhere a to)
    (at (transaction_id_field bytes) a.transactions) h
  where
    by : (o : Option StunParseError) (r e : Bool) (t : Option Transaction)
        → option_map_or (λ error. Some (ParseError error)) o
        (cond r (cond e (Some ProtocolViolation) (cond (is_some t) (Some AlreadyInProgress) None))
        (Some ProtocolViolation)) ≡ None
        → t ≡ None
    by (Some error) r e t h = cc
    by None false e t h = cc
    by None true true t h = cc
    by None true false (Some t) h = cc
    by None true false None h = refl

-- then there is
pub is_outstanding : (a : Agent) (bytes : List ℕ) (to : SocketAddr) (now : ℕ)
    → IsAscending a.transactions
    → Outstanding (transaction_id_field bytes) a.transport (request_of a bytes to now)
    (after_send_request a bytes to now)
is_outstanding a bytes to now ascends =
    record {
      same_transport = refl;
      ascends =
          IsAscending-insert a.transactions (transaction_id_field bytes)
          (request_of a bytes to now) ascends;
      stands =
          lookup-insert_same (transaction_id_field bytes) (request_of a bytes to now)
          a.transactions;
      sounds = refl;
    }

-- ---- what is due, and what is over
-- a request that is due has slots left, and its moment has come
due_then : (transport : TransportType) (now : ℕ) (s : Transaction) → repeats s.sending ≡ true
    → is_due transport now s ≡ true
    → (s.slot < slots transport s.settings) × (awaited_moment transport s ≤ now)
due_then transport now s sounds due =
    let tests = both (has_slots transport s) (nat_le (awaited_moment transport s) now)
    (both (not (is_cancelled s.sending))
    (has_slots transport s && nat_le (awaited_moment transport s) now) due).1 in (
      ltb-true s.slot (slots transport s.settings) tests.0,
      leb-true (awaited_moment transport s) now tests.1,
    )

-- one that is over has none, and its moment has come
over_then : (transport : TransportType) (now : ℕ) (s : Transaction) → repeats s.sending ≡ true
    → is_over transport now s ≡ true
    → (slots transport s.settings ≤ s.slot) × (awaited_moment transport s ≤ now)
over_then transport now s sounds over =
    let tests = both (not (has_slots transport s)) (nat_le (awaited_moment transport s) now)
    (by s.sending sounds over) in (
      ltb-false s.slot (slots transport s.settings) (not-true (has_slots transport s) tests.0),
      leb-true (awaited_moment transport s) now tests.1,
    )
  where
    by : {b : Bool} (w : Sending) → repeats w ≡ true → (is_cancelled w || b) ≡ true → b ≡ true
    by Repeats sounds over = over
    by Silent sounds over = cc
    by Cancelled sounds over = cc

-- ---- what the calls of a turn leave of it
module _ (id : ℕ) (transport : TransportType) (s : Transaction) (now : ℕ) (a : Agent)
    (out : Outstanding id transport s a) where
  after_transmit : (sent : Option (ℕ × Transaction)) (t : Transaction) → sent_by_poll now a ≡ sent
      → repeats t.sending ≡ true
      → at id (after_slots transport now (option_map (λ x. x.0) sent) a.transactions) ≡ Some t
      → Outstanding id transport t (after_poll_transmit now a)
  after_transmit sent t f sounds h = record {
    same_transport = transmit_transport now a ∙ out.same_transport;
    ascends =
        subst IsAscending (sym (transmit_transactions now a))
        (IsAscending-map
        (slot_passed a.transport now (option_map (λ x. x.0) (sent_by_poll now a))) a.transactions
        out.ascends);
    stands =
        ap (at id) (transmit_transactions now a)
        ∙ ap (λ s. at id (after_slots a.transport now s a.transactions))
        (ap (option_map (λ (x : ℕ × Transaction). x.0)) f)
        ∙ ap (λ tr. at id (after_slots tr now (option_map (λ x. x.0) sent) a.transactions))
        out.same_transport ∙ h;
    sounds = sounds;
  }

  -- it is sent: it was due, and one slot more has passed
  pub record IsSent (w : Transaction) : Type 0 where
    pub same : w ≡ s
    pub has_slot : s.slot < slots transport s.settings
    pub has_come : awaited_moment transport s ≤ now
    pub goes_on : Outstanding id transport (after_slot now s) (after_poll_transmit now a)

  pub sent_itself : (e : ℕ × Transaction) → sent_by_poll now a ≡ Some e → e.0 ≡ id → IsSent e.1
  sent_itself e f key =
      let same_entry : e ≡ (id, e.1) = λ i. (key i, e.1) in
      let mine : sent_by_poll now a ≡ Some (id, e.1) = f ∙ ap Some same_entry in
      let found : next_sent transport now a.transactions ≡ Some (id, e.1) =
      subst (λ tr. next_sent tr now a.transactions ≡ Some (id, e.1)) out.same_transport mine in
      let r = sent_same transport now id a.transactions s out.ascends out.stands out.sounds e.1
      found in
      let due = due_then transport now s out.sounds r.1 in
      record {
        same = r.0;
        has_slot = due.0;
        has_come = due.1;
        goes_on = after_transmit (Some (id, e.1)) (after_slot now s) mine out.sounds r.2;
      }

  -- another one is
  pub sent_another : (e : ℕ × Transaction) → sent_by_poll now a ≡ Some e
      → is_at (nat_cmp id) e.0 ≡ false → Outstanding id transport s (after_poll_transmit now a)
  sent_another e f apart =
      let found : next_sent transport now a.transactions ≡ Some e =
      subst (λ tr. next_sent tr now a.transactions ≡ Some e) out.same_transport f in
      after_transmit (Some e) s f out.sounds
      (sent_other transport now id a.transactions s out.ascends out.stands out.sounds e.0 e.1 found
      apart)

  -- none is: it is not due
  pub sent_nothing : sent_by_poll now a ≡ None
      → (is_due transport now s ≡ false) × Outstanding id transport s (after_poll_transmit now a)
  sent_nothing f =
      let found : next_sent transport now a.transactions ≡ None =
      subst (λ tr. next_sent tr now a.transactions ≡ None) out.same_transport f in
      let r = sent_none transport now id a.transactions s out.ascends out.stands out.sounds found in
      (r.0, after_transmit None s f out.sounds r.1)

  -- it ends: it has no slot left, and its moment has come
  pub record IsEnded (w : Transaction) : Type 0 where
    pub same : w ≡ s
    pub no_slot : slots transport s.settings ≤ s.slot
    pub has_come : awaited_moment transport s ≤ now

  pub ended_itself : (e : ℕ × Transaction) → ended_by_poll now a ≡ Some e → e.0 ≡ id → IsEnded e.1
  ended_itself e f key =
      let same_entry : e ≡ (id, e.1) = λ i. (key i, e.1) in
      let found : first_over transport now a.transactions ≡ Some (id, e.1) =
      subst (λ tr. first_over tr now a.transactions ≡ Some (id, e.1)) out.same_transport
      (f ∙ ap Some same_entry) in
      let r = over_same transport now id a.transactions s out.ascends out.stands out.sounds e.1
      found in
      let over = over_then transport now s out.sounds r.1 in
      record { same = r.0; no_slot = over.0; has_come = over.1 }

  -- another one does
  pub ended_another : (e : ℕ × Transaction) → ended_by_poll now a ≡ Some e
      → is_at (nat_cmp id) e.0 ≡ false → Outstanding id transport s (after_poll now a)
  ended_another e f apart = record {
    same_transport = poll_transport now a e f ∙ out.same_transport;
    ascends =
        subst IsAscending (sym (poll_transactions now a e f))
        (IsAscending-remove (is_at (nat_cmp e.0)) a.transactions out.ascends);
    stands =
        ap (at id) (poll_transactions now a e f)
        ∙ lookup-remove_other id e.0 a.transactions apart ∙ out.stands;
    sounds = out.sounds;
  }

  -- none does: it is not over
  pub ended_nothing : ended_by_poll now a ≡ None → is_over transport now s ≡ false
  ended_nothing f =
      let found : first_over transport now a.transactions ≡ None =
      subst (λ tr. first_over tr now a.transactions ≡ None) out.same_transport f in
      over_none transport now id a.transactions s out.ascends out.stands out.sounds found

  -- the moment to wait until is no later than the one that it awaits
  pub least_is : fold min (moment_after now an_hour)
      (map (λ (e : ℕ × Transaction). awaited_moment a.transport e.1) a.transactions)
      ≤ awaited_moment transport s
  least_is =
      subst (λ tr. fold min (moment_after now an_hour)
      (map (λ (e : ℕ × Transaction). awaited_moment a.transport e.1) a.transactions)
      ≤ awaited_moment tr s)
      out.same_transport
      (fold-min-le (λ (e : ℕ × Transaction). awaited_moment a.transport e.1) a.transactions
      (moment_after now an_hour) id s out.stands)
