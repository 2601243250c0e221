-- A run up to one of its events, and what it keeps.
use Rattle.std.proofs.Common.{ℕ, ◌≡◌, ◌+◌, ◌<◌, ◌≤◌, ◌⊎◌, inl, inr, arith, List, []}
use Rattle.std.proofs.Common.{◌∷◌, ◌++◌, subst, ap, sym, refl, ◌∙◌, append_assoc}
use Rattle.std.specs.Prelude.{Option, Some, None}
use Rattle.std.specs.Duration.{as_nanos}
use Rattle.std.specs.Option.{option_map, option_map_or}
use Rattle.std.specs.Ordering.{nat_cmp}
use Rattle.std.specs.BTreeMap.{is_at}
use Rattle.std.specs.Map.{set_value}
use Rattle.std.specs.declared.net.socket_addr.SocketAddr.{SocketAddr}
use Rattle.stun_base.specs.Header.{transaction_id_field}
use Rattle.stun_base.specs.Moments.{last_moment}
use Rattle.stun_base.specs.declared.wire.error.StunParseError.{StunParseError}
use Rattle.stun_base.specs.declared.wire.message_type.MessageClass.{MessageClass}
use Rattle.stun_base.specs.declared.wire.message_type.MessageClass.TheVariants.{Request, Indication}
use Rattle.stun_base.specs.declared.wire.message_type.MessageClass.TheVariants.{Success, Error}
use Rattle.stun_types.specs.Message.{refusal}
use Rattle.stun_base.specs.MessageType.{class_in}
use Rattle.stun_agent.specs.Agent.{Agent, answered_request, sending_refusal, after_send}
use Rattle.stun_agent.specs.Agent.{request_refusal}
use Rattle.stun_agent.specs.Agent.{request_of, after_send_request, after_class, sent_by_poll}
use Rattle.stun_agent.specs.Transactions.{IsAscending, Transaction, at, with_cancellation}
use Rattle.stun_agent.specs.Transactions.{without_retransmissions, with_settings, slot_passed}
use Rattle.stun_agent.specs.declared.error.StunError.{StunError}
use Rattle.stun_proto.specs.declared.replay.event.AgentEvent.{AgentEvent}
use Rattle.stun_proto.specs.declared.replay.event.AgentEvent.TheVariants.{Send, SendRequest}
use Rattle.stun_proto.specs.declared.replay.event.AgentEvent.TheVariants.{Receive, Cancel}
use Rattle.stun_proto.specs.declared.replay.event.AgentEvent.TheVariants.{CancelRetransmissions}
use Rattle.stun_proto.specs.declared.replay.event.AgentEvent.TheVariants.{Configure, ValidatePeer}
use Rattle.stun_proto.specs.Run.{transmission_step, end_step, IsNext, Phase, sending, Turn, sends}
use Rattle.stun_proto.specs.Run.{rests, ends, again, stops, Turns, turn, none, Run, done}
use Rattle.stun_proto.specs.Run.{event, after_change, after_event, steps_of_event}
use Rattle.stun_proto.specs.RunLaws.{IsDetermined, IsDeterminedThroughout}
use Rattle.stun_proto.specs.Schedule.{AreInOrder}
use Rattle.stun_proto.specs.Steps.{Step}
use Rattle.stun_proto.proofs.agent_runs.AfterCalls.{transmit_transactions, poll_transactions}
use Rattle.stun_proto.proofs.agent_runs.AfterCalls.{response_taken}
use Rattle.stun_agent.proofs.Ascending.{IsAscending-map, IsAscending-remove}
use Rattle.stun_agent.proofs.Ascending.{IsAscending-set_value, IsAscending-insert}

-- ---- the ids still ascend
pub turn_ascends : (now : ℕ) {phase : Phase} {a b : Agent} {steps : List Step}
    → Turn now phase a steps b → IsAscending a.transactions → IsAscending b.transactions
turn_ascends now {a = a} (sends e f t) s =
    turn_ascends now t
    (subst IsAscending (sym (transmit_transactions now a))
    (IsAscending-map (slot_passed a.transport now (option_map (λ x. x.0) (sent_by_poll now a)))
    a.transactions s))
turn_ascends now {a = a} (rests f t) s =
    turn_ascends now t
    (subst IsAscending (sym (transmit_transactions now a))
    (IsAscending-map (slot_passed a.transport now (option_map (λ x. x.0) (sent_by_poll now a)))
    a.transactions s))
turn_ascends now {a = a} (ends e f t) s =
    turn_ascends now t
    (subst IsAscending (sym (poll_transactions now a e f))
    (IsAscending-remove (is_at (nat_cmp e.0)) a.transactions s))
turn_ascends now (again f w less t) s = turn_ascends now t s
turn_ascends now (stops f late) s = s

pub turns_ascends : {bound from : ℕ} {a b : Agent} {steps : List Step} → Turns bound from a steps b
    → IsAscending a.transactions → IsAscending b.transactions
turns_ascends (turn moment next less t rest) s = turns_ascends rest (turn_ascends moment t s)
turns_ascends (none h) s = s

change_ascends : (f : Transaction → Transaction) (j : ℕ) (a : Agent) → IsAscending a.transactions
    → IsAscending (after_change f j a).transactions
change_ascends f j a s = by (at j a.transactions)
  where
    by : (o : Option Transaction)
        → IsAscending
        (option_map_or (λ t. set_value (is_at (nat_cmp j)) a.transactions (f t)) o a.transactions)
    by None = s
    by (Some t) = IsAscending-set_value (is_at (nat_cmp j)) a.transactions (f t) s

response_ascends : (now : ℕ) (bs : List ℕ) (from : SocketAddr) (a : Agent)
    → IsAscending a.transactions
    → IsAscending (response_taken (Some now) bs from a (answered_request bs from a)).transactions
response_ascends now bs from a s = by (answered_request bs from a)
  where
    by : (o : Option Transaction) → IsAscending (response_taken (Some now) bs from a o).transactions
    by None = s
    by (Some t) = IsAscending-remove (is_at (nat_cmp (transaction_id_field bs))) a.transactions s

class_ascends : (class : MessageClass) (now : ℕ) (bs : List ℕ) (from : SocketAddr) (a : Agent)
    → IsAscending a.transactions → IsAscending (after_class class (Some now) bs from a).transactions
class_ascends Request now bs from a s = s
class_ascends Indication now bs from a s = s
class_ascends Success now bs from a s = response_ascends now bs from a s
class_ascends Error now bs from a s = response_ascends now bs from a s

pub event_ascends : (now : ℕ) (e : AgentEvent) (a : Agent) → IsAscending a.transactions
    → IsAscending (after_event now e a).transactions
event_ascends now (Send bs target) a s = by (sending_refusal a bs.items target)
  where
    by : (o : Option StunError)
        → IsAscending (option_map_or (λ _. a) o (after_send bs.items a)).transactions
    by None = s
    by (Some error) = s
event_ascends now (SendRequest bs target) a s = by (request_refusal a bs.items target)
  where
    by : (o : Option StunError)
        → IsAscending
        (option_map_or (λ _. a) o (after_send_request a bs.items target now)).transactions
    by None =
        IsAscending-insert a.transactions (transaction_id_field bs.items)
        (request_of a bs.items target now) s
    by (Some error) = s
event_ascends now (Receive bs from) a s = by (refusal bs.items)
  where
    by : (o : Option StunParseError)
        → IsAscending
        (option_map_or (λ _. a) o
        (after_class (class_in bs.items) (Some now) bs.items from a)).transactions
    by None = class_ascends (class_in bs.items) now bs.items from a s
    by (Some error) = s
event_ascends now (Cancel j) a s = change_ascends with_cancellation j a s
event_ascends now (CancelRetransmissions j) a s = change_ascends without_retransmissions j a s
event_ascends now (Configure j initial retransmits last max) a s =
    change_ascends
    (with_settings
    (record {
      initial = as_nanos initial;
      maximum = as_nanos max;
      transmissions = retransmits;
      last_wait = as_nanos last;
    })) j a s
event_ascends now (ValidatePeer address) a s = s

pub run_ascends : {bound from : ℕ} {a b : Agent} {events : List (ℕ × AgentEvent)}
    {steps : List Step} → Run bound from a events steps b → IsAscending a.transactions
    → IsAscending b.transactions
run_ascends (done t) s = turns_ascends t s
run_ascends (event {b = b} moment e ts t rest) s =
    run_ascends rest (turn_ascends moment t (event_ascends moment e b (turns_ascends ts s)))

-- ---- a run comes to its event
pub record ComesTo (bound from : ℕ) (a : Agent) (earlier later : List (ℕ × AgentEvent)) (start : ℕ)
    (e : AgentEvent) (steps : List Step) (b : Agent) : Type 0 where
  pub agent : Agent
  pub next : Agent
  pub before : List Step
  pub at_once : List Step
  pub rest : List Step
  pub divided : steps ≡ before ++ (steps_of_event start e agent ++ (at_once ++ rest))
  pub comes : Run start from a earlier before agent
  pub turned : Turn start sending (after_event start e agent) at_once next
  pub goes_on : Run bound (start + 1) next later rest b

pub comes_to : (start : ℕ) (e : AgentEvent) {bound from : ℕ} {a b : Agent} {steps : List Step}
    (earlier later : List (ℕ × AgentEvent))
    → Run bound from a (earlier ++ (start, e) ∷ later) steps b
    → ComesTo bound from a earlier later start e steps b
comes_to start e [] later
    (event {b = b} {c = c} {before = before} {after = after} {more = more} moment x ts t rest) =
    record {
      agent = b;
      next = c;
      before = before;
      at_once = after;
      rest = more;
      divided = refl;
      comes = done ts;
      turned = t;
      goes_on = rest;
    }
comes_to start e {from = from} {a = a} {steps = steps} (x ∷ xs) later
    (event {b = b} {c = c} {before = before} {after = after} {more = more} moment y ts t rest) =
    let r = comes_to start e {from = moment + 1} {a = c} {steps = more} xs later rest in
    let own_steps = steps_of_event moment y b in
    record {
      agent = r.agent;
      next = r.next;
      before = before ++ (own_steps ++ (after ++ r.before));
      at_once = r.at_once;
      rest = r.rest;
      divided =
          ap (λ ss. before ++ (own_steps ++ (after ++ ss))) r.divided
          ∙ sym (append_assoc before (own_steps ++ (after ++ r.before))
          (steps_of_event start e r.agent ++ (r.at_once ++ r.rest))
          ∙ ap (λ ss. before ++ ss)
          (append_assoc own_steps (after ++ r.before)
          (steps_of_event start e r.agent ++ (r.at_once ++ r.rest))
          ∙ ap (λ ss. own_steps ++ ss)
          (append_assoc after r.before (steps_of_event start e r.agent ++ (r.at_once ++ r.rest)))));
      comes = event moment y ts t r.comes;
      turned = r.turned;
      goes_on = r.goes_on;
    }

pub in_order_then : (until from : ℕ) (earlier later : List (ℕ × AgentEvent)) (e : ℕ × AgentEvent)
    → AreInOrder until from (earlier ++ e ∷ later) → (e.0 ≤ until) × AreInOrder until e.0 later
in_order_then until from [] later e order = (order.1, order.2)
in_order_then until from (x ∷ xs) later e order = in_order_then until x.0 xs later e order.2

-- ---- there is one run
same_found : (e d : ℕ × Transaction) (o : Option (ℕ × Transaction)) → o ≡ Some e → o ≡ Some d
    → e ≡ d
same_found e d o f g = ap (λ p. option_map_or (λ x. x) p e) (sym f ∙ g)

not_both : (e : ℕ × Transaction) (o : Option (ℕ × Transaction)) → o ≡ Some e → o ≡ None → ⊥
not_both e o f g = let clash : Some e ≡ None = sym f ∙ g in cc

not_again : (now wake : ℕ) → wake ≡ now → now < last_moment → (now < wake) ⊎ (now ≡ last_moment) → ⊥
not_again now wake w less (inl before) = omega (arith, w, before)
not_again now wake w less (inr last) = omega (arith, less, last)

pub turn_same : (now : ℕ) {phase : Phase} {a b c : Agent} {steps more : List Step}
    → Turn now phase a steps b → Turn now phase a more c → (steps ≡ more) × (b ≡ c)
turn_same now (sends e f t) (sends d g u) = let same = same_found e d _ f g in let r =
    turn_same now t u in (λ i. transmission_step now (same i) ∷ r.0 i, r.1)
turn_same now (sends e f t) (rests g u) = absurd (not_both e _ f g)
turn_same now (rests f t) (sends d g u) = absurd (not_both d _ g f)
turn_same now (rests f t) (rests g u) = turn_same now t u
turn_same now (ends e f t) (ends d g u) = let same = same_found e d _ f g in let r =
    turn_same now t u in (λ i. end_step now (same i) ∷ r.0 i, r.1)
turn_same now (ends e f t) (again g w less u) = absurd (not_both e _ f g)
turn_same now (ends e f t) (stops g late) = absurd (not_both e _ f g)
turn_same now (again f w less t) (ends d g u) = absurd (not_both d _ g f)
turn_same now (again f w less t) (again g x more u) = turn_same now t u
turn_same now (again f w less t) (stops g late) = absurd (not_again now _ w less late)
turn_same now (stops f late) (ends d g u) = absurd (not_both d _ g f)
turn_same now (stops f late) (again g w less u) = absurd (not_again now _ w less late)
turn_same now (stops f late) (stops g late') = (refl, refl)

next_same : (a : Agent) (from m n : ℕ) → IsNext a from m → IsNext a from n → m ≡ n
next_same a from m n first second =
    let one = first.least n second.awaited_then second.late in let other =
    second.least m first.awaited_then first.late in omega arith

pub turns_same : {bound from : ℕ} {a b c : Agent} {steps more : List Step}
    → Turns bound from a steps b → Turns bound from a more c → (steps ≡ more) × (b ≡ c)
turns_same {bound} {from} {a} {c = c} (turn m first less t rest)
    (turn {b = b} {steps = here} {more = there} n second less' u later) =
    let same = next_same a from m n first second in
    let r = turn_same m t (subst (λ x. Turn x sending a here b) (sym same) u) in
    let q = turns_same rest
    (subst (λ x. Turns bound (m + 1) x there c) (sym r.1)
    (subst (λ x. Turns bound (x + 1) b there c) (sym same) later)) in
    (λ i. r.0 i ++ q.0 i, q.1)
turns_same (turn m first less t rest) (none h) =
    absurd (let past = h m first.awaited_then first.late in omega arith)
turns_same (none h) (turn m first less t rest) =
    absurd (let past = h m first.awaited_then first.late in omega arith)
turns_same (none h) (none g) = (refl, refl)

pub run_same : {bound from : ℕ} {a b c : Agent} {events : List (ℕ × AgentEvent)}
    {steps more : List Step} → Run bound from a events steps b → Run bound from a events more c
    → (steps ≡ more) × (b ≡ c)
run_same (done t) (done u) = turns_same t u
run_same {bound} {c = d} (event {b = b} {rest = left} {before = before} m e ts t rest)
    (event {b = b'} {c = c'} {before = before'} {after = after'} {more = more'} n e' us u later) =
    let r = turns_same ts us in
    let q = turn_same m t (subst (λ x. Turn m sending (after_event m e x) after' c') (sym r.1) u) in
    let s = run_same rest (subst (λ x. Run bound (m + 1) x left more' d) (sym q.1) later) in
    (λ i. r.0 i ++ (steps_of_event m e (r.1 i) ++ (q.0 i ++ s.0 i)), s.1)

pub driven_same : IsDetermined
driven_same until a b c [] steps more (none_done, same) (none_done', same') =
    (none_done ∙ sym none_done', same ∙ sym same')
driven_same until a b c (e ∷ es) steps more r q = run_same r q

pub run_determined : IsDeterminedThroughout
run_determined bound from a b c events steps more r q = run_same r q
