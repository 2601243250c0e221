-- A loop that is never late makes a driven run: until the moment that it is told to wait until, no
-- moment is awaited.
use Rattle.std.proofs.Common.{ℕ, zero, suc, ◌≡◌, ◌+◌, ◌<◌, ◌≤◌, ◌⊎◌, inl, inr, arith, Bool}
use Rattle.std.proofs.Common.{true, false, not, ◌||◌, ◌&&◌, cond, List, [], ◌∷◌, ◌++◌, map}
use Rattle.std.proofs.Common.{max, min, subst, ap, sym, refl, ◌∙◌, append_assoc}
use Rattle.std.specs.Prelude.{Some, None, find, fold, nat_le}
use Rattle.std.specs.Option.{option_map}
use Rattle.std.specs.List.{AllByRecursion}
use Rattle.std.specs.List.Sorted.{IsStrictlySortedBy}
use Rattle.std.specs.Map.{lookup, keys_of}
use Rattle.std.specs.Ordering.{nat_cmp}
use Rattle.std.specs.BTreeMap.{is_at}
use Rattle.std.proofs.lemmas.Bool.{lt-leb}
use Rattle.std.proofs.lemmas.Map.Entries.{lookup_head}
use Rattle.std.proofs.lemmas.Map.Keys.{sorted_tail}
use Rattle.stun_base.specs.Moments.{last_moment, moment_after}
use Rattle.stun_base.specs.declared.wire.transport.TransportType.{TransportType}
use Rattle.stun_agent.specs.Agent.{Agent, after_poll_transmit, sent_by_poll}
use Rattle.stun_agent.specs.Agent.{tally_of_sent, with_transactions}
use Rattle.stun_agent.specs.Transactions.{IsAscending, Transaction, Transactions}
use Rattle.stun_agent.specs.Transactions.{after_slot, after_slots, an_hour, at, awaited_moment}
use Rattle.stun_agent.specs.Transactions.{has_slots, is_cancelled, is_due, is_over, repeats}
use Rattle.stun_proto.proofs.agent_runs.AwaitsLemmas.{Awaits, awaits_tail}
use Rattle.stun_agent.proofs.EntryLemmas.{own_key}
use Rattle.stun_proto.specs.declared.replay.event.AgentEvent.{AgentEvent}
use Rattle.stun_proto.specs.AgentLoop.{AreInTurn, Comings, Loop, LoopsAreDriven, LoopsExist}
use Rattle.stun_proto.specs.AgentLoop.{LoopsSendByPlan, events_in, handed, polled, rest, wait_of}
use Rattle.stun_proto.specs.Run.{IsAwaited, IsDriven, IsNext, Phase, Run, Turn}
use Rattle.stun_proto.specs.Run.{again, done, ends, event, none, rests, sending}
use Rattle.stun_proto.specs.Run.{sends, stops, turn, after_event, steps_of_event}
use Rattle.stun_proto.specs.Schedule.{AreInOrder}
use Rattle.stun_proto.specs.Steps.{Step}
use Rattle.stun_proto.proofs.agent_runs.Existence.{has_turn}
use Rattle.stun_proto.proofs.agent_runs.Once.{driven_by_plan}
use Rattle.stun_proto.proofs.agent_runs.RunLemmas.{event_ascends, turn_ascends}

-- ---- what a turn leaves
module _ (transport : TransportType) where
  -- none is canceled, and each awaits this moment at the earliest
  abbrev Waits : ℕ → Transactions → Type 0
  Waits moment es = AllByRecursion
      (λ e. (is_cancelled e.1.sending ≡ false) × (moment ≤ awaited_moment transport e.1)) es

  waits_less : (m n : ℕ) (es : Transactions) → n ≤ m → Waits m es → Waits n es
  waits_less m n [] le w = tt
  waits_less m n (e ∷ es) le w = let late = w.0.1 in
      ((w.0.0, omega arith), waits_less m n es le w.1)

  -- this moment is awaited, or each awaits a later one
  found_or_later : (m : ℕ) (es : Transactions) → IsAscending es → Waits m es
      → Awaits transport es m ⊎ Waits (m + 1) es
  found_or_later m [] s w = inr tt
  found_or_later m (e ∷ es) s w = by (order m (awaited_moment transport e.1) w.0.1)
      (found_or_later m es (sorted_tail nat_cmp e.0 (keys_of es) s) w.1)
    where
      order : (x y : ℕ) → x ≤ y → (x ≡ y) ⊎ (x + 1 ≤ y)
      order zero zero le = inl refl
      order zero (suc y) le = inr (omega arith)
      order (suc x) zero le = absurd (omega arith)
      order (suc x) (suc y) le = then (order x y (omega arith))
        where
          then : (x ≡ y) ⊎ (x + 1 ≤ y) → (suc x ≡ suc y) ⊎ (suc x + 1 ≤ suc y)
          then (inl same) = inl (ap suc same)
          then (inr less) = inr (omega arith)

      by : (m ≡ awaited_moment transport e.1) ⊎ (m + 1 ≤ awaited_moment transport e.1)
          → Awaits transport es m ⊎ Waits (m + 1) es
          → Awaits transport (e ∷ es) m ⊎ Waits (m + 1) (e ∷ es)
      by (inl same) others = inl
          (e.0, e.1, lookup_head (is_at (nat_cmp e.0)) e es (own_key e.0), w.0.0, sym same)
      by (inr less) (inl found) = inl (awaits_tail transport e es m s found)
      by (inr less) (inr later) = inr ((w.0.0, less), later)

  -- what awaits this moment is looked up
  awaited_le : (m k : ℕ) (v : Transaction) (es : Transactions) → Waits m es
      → lookup (is_at (nat_cmp k)) es ≡ Some v → m ≤ awaited_moment transport v
  awaited_le m k v [] w f = cc
  awaited_le m k v (e ∷ es) w f = by (is_at (nat_cmp k) e.0) f (awaited_le m k v es w.1)
    where
      by : (b : Bool) → cond b (Some e.1) (lookup (is_at (nat_cmp k)) es) ≡ Some v
          → (lookup (is_at (nat_cmp k)) es ≡ Some v → m ≤ awaited_moment transport v)
          → m ≤ awaited_moment transport v
      by true f others =
          let same : e.1 ≡ v = cc in subst (λ t. m ≤ awaited_moment transport t) same w.0.1
      by false f others = others f

  -- the least of their moments
  waits_of_fold : (now c : ℕ) (es : Transactions)
      → find (λ (e : ℕ × Transaction). is_over transport now e.1) es ≡ None
      → (m : ℕ) → m ≤ fold min c (map (λ (e : ℕ × Transaction). awaited_moment transport e.1) es)
      → Waits m es
  waits_of_fold now c [] f m le = tt
  waits_of_fold now c (e ∷ es) f m le =
      by (is_over transport now e.1) refl f
      (λ f. waits_of_fold now (min c (awaited_moment transport e.1)) es f m le)
    where
      lesser : (xs : List ℕ) (d : ℕ) → fold min d xs ≤ d
      lesser [] d = omega arith
      lesser (x ∷ xs) d = omega (arith, lesser xs (min d x))

      live : (b o : Bool) → (b || o) ≡ false → b ≡ false
      live true o h = cc
      live false o h = refl

      by : (b : Bool) → is_over transport now e.1 ≡ b
          → cond b (Some e) (find (λ (x : ℕ × Transaction). is_over transport now x.1) es) ≡ None
          → (find (λ (x : ℕ × Transaction). is_over transport now x.1) es ≡ None → Waits m es)
          → Waits m (e ∷ es)
      by true is f others = cc
      by false is f others =
          let bound = lesser (map (λ (x : ℕ × Transaction). awaited_moment transport x.1) es)
          (min c (awaited_moment transport e.1)) in
          ((live (is_cancelled e.1.sending) _ is, omega (arith, bound, le)), others f)

  -- ---- before that moment nothing is due
  late_test : (m n : ℕ) → m < n → nat_le n m ≡ false
  late_test m n h = lt-leb n m h

  not_due : (now : ℕ) (t : Transaction) → now < awaited_moment transport t
      → is_due transport now t ≡ false
  not_due now t h = by (is_cancelled t.sending) (has_slots transport t)
      (nat_le (awaited_moment transport t) now) (late_test now (awaited_moment transport t) h)
    where
      by : (c s l : Bool) → l ≡ false → (not c && (s && l)) ≡ false
      by true s l h = refl
      by false true l h = h
      by false false l h = refl

  not_over : (now : ℕ) (t : Transaction) → is_cancelled t.sending ≡ false
      → now < awaited_moment transport t → is_over transport now t ≡ false
  not_over now t live h = by (is_cancelled t.sending) (has_slots transport t)
      (nat_le (awaited_moment transport t) now) live (late_test now (awaited_moment transport t) h)
    where
      by : (c s l : Bool) → c ≡ false → l ≡ false → (c || (not s && l)) ≡ false
      by true s l live h = cc
      by false true l live h = refl
      by false false l live h = h

  none_sent : (now : ℕ) (es : Transactions) → Waits (now + 1) es
      → find (λ (e : ℕ × Transaction). is_due transport now e.1 && repeats e.1.sending) es ≡ None
  none_sent now [] w = refl
  none_sent now (e ∷ es) w =
      let late = w.0.1 in
      ap (λ b. cond (b && repeats e.1.sending) (Some e)
      (find (λ (x : ℕ × Transaction). is_due transport now x.1 && repeats x.1.sending) es))
      (not_due now e.1 (omega arith))
      ∙ none_sent now es w.1

  none_over : (now : ℕ) (es : Transactions) → Waits (now + 1) es
      → find (λ (e : ℕ × Transaction). is_over transport now e.1) es ≡ None
  none_over now [] w = refl
  none_over now (e ∷ es) w =
      let late = w.0.1 in
      ap (λ b. cond b (Some e) (find (λ (x : ℕ × Transaction). is_over transport now x.1) es))
      (not_over now e.1 w.0.0 (omega arith)) ∙ none_over now es w.1

  none_passed : (now : ℕ) (es : Transactions) → Waits (now + 1) es
      → after_slots transport now None es ≡ es
  none_passed now [] w = refl
  none_passed now (e ∷ es) w =
      let late = w.0.1 in
      ap (λ b. (e.0, cond b (after_slot now e.1) e.1) ∷ after_slots transport now None es)
      (not_due now e.1 (omega arith)) ∙ ap (λ xs. e ∷ xs) (none_passed now es w.1)

-- no moment below this one is awaited
nothing_before : (m : ℕ) (a : Agent) → Waits a.transport m a.transactions → (moment : ℕ)
    → IsAwaited a moment → m ≤ moment
nothing_before m a w moment (k, v, found, live, is) = let late = awaited_le a.transport m k v
    a.transactions w found in omega (arith, late, is)

-- what a turn leaves waits as `poll` has told
turn_waits : (now : ℕ) → now < last_moment → {phase : Phase} {a b : Agent} {steps : List Step}
    → Turn now phase a steps b
    → (now < wait_of now b) × Waits b.transport (wait_of now b) b.transactions
turn_waits now less (sends e f t) = turn_waits now less t
turn_waits now less (rests f t) = turn_waits now less t
turn_waits now less (ends e f t) = turn_waits now less t
turn_waits now less (again f w before t) = turn_waits now less t
turn_waits now less (stops {a} f (inl before)) = (
  before,
  waits_of_fold a.transport now (moment_after now an_hour) a.transactions f
      (wait_of now a) (at_fold now
      (fold min (moment_after now an_hour)
      (map (λ (e : ℕ × Transaction). awaited_moment a.transport e.1) a.transactions)) before),
)
  where
    at_fold : (n f : ℕ) → n < max n f → max n f ≤ f
    at_fold n f h = omega arith
turn_waits now less (stops f (inr last)) = absurd (omega (arith, less, last))

-- ---- a turn before anything is due
nothing_sent : (now : ℕ) (a : Agent) → sent_by_poll now a ≡ None
    → after_slots a.transport now None a.transactions ≡ a.transactions
    → after_poll_transmit now a ≡ a
nothing_sent now a f same =
    ap (λ o. tally_of_sent o
    (with_transactions a (after_slots a.transport now
    (option_map (λ (e : ℕ × Transaction). e.0) o) a.transactions))) f
    ∙ ap (with_transactions a) same

turn_idle : (now : ℕ) {phase : Phase} {a b : Agent} {steps : List Step} → Turn now phase a steps b
    → Waits a.transport (now + 1) a.transactions → (steps ≡ []) × (b ≡ a)
turn_idle now {a = a} (sends e f t) w = let clash : Some e
    ≡ None = sym f ∙ none_sent a.transport now a.transactions w in cc
turn_idle now {a = a} (rests f t) w =
    let same = nothing_sent now a f (none_passed a.transport now a.transactions w) in
    let r = turn_idle now t (subst (λ x. Waits x.transport (now + 1) x.transactions) (sym same) w)
    in
    (r.0, r.1 ∙ same)
turn_idle now {a = a} (ends e f t) w = let clash : Some e
    ≡ None = sym f ∙ none_over a.transport now a.transactions w in cc
turn_idle now (again f wake less t) w = turn_idle now t w
turn_idle now (stops f late) w = (refl, refl)

-- ---- a turn at an awaited moment comes first in a run
turn_first : (until now g : ℕ) (a : Agent) (turned : List Step) → IsNext a g now → now ≤ until
    → {b c : Agent} {events : List (ℕ × AgentEvent)} {more : List Step}
    → Turn now sending a turned b
    → AreInOrder until (now + 1) events → Run (until + 1) (now + 1) b events more c
    → Run (until + 1) g a events (turned ++ more) c
turn_first until now g a turned next within t order (done ts) = done
    (turn now next (omega arith) t ts)
turn_first until now g a turned next within {c = d} t order
    (event {b = b} {rest = left} {before = before} {after = after} {more = more} moment e ts u r) =
    subst (λ ss. Run (until + 1) g a ((moment, e) ∷ left) ss d)
    (append_assoc turned before (steps_of_event moment e b ++ (after ++ more)))
    (event moment e (turn now next (omega (arith, order.0)) t ts) u r)

-- ---- the loop
order_less : (until from before : ℕ) (events : List (ℕ × AgentEvent)) → before ≤ from
    → AreInOrder until from events → AreInOrder until before events
order_less until from before [] le order = tt
order_less until from before (e ∷ es) le order = (omega (arith, order.0), order.1, order.2)

pub loop_order : (until : ℕ) {late from wait last : ℕ} {a b : Agent} {comings : Comings}
    {steps : List Step} → Loop late from wait a comings steps last b
    → AllByRecursion (λ c. c.0 ≤ until) comings → AreInOrder until from (events_in comings)
loop_order until rest within = tt
loop_order until (handed now e low early less t loop) within =
    (low, within.0, loop_order until loop within.1)
loop_order until {from = from} (polled {comings = comings} now low early less t loop) within =
    order_less until (now + 1) from (events_in comings) (omega (arith, low))
    (loop_order until loop within.1)

loop_runs : (until : ℕ) {from wait last : ℕ} {a b : Agent} {comings : Comings} {steps : List Step}
    → Loop 0 from wait a comings steps last b
    → AllByRecursion (λ c. c.0 ≤ until) comings → until < last → IsAscending a.transactions
    → Waits a.transport wait a.transactions
    → (g : ℕ) → ((moment : ℕ) → IsAwaited a moment → g ≤ moment)
    → Run (until + 1) g a (events_in comings) steps b
loop_runs until {wait = wait} {a = a} rest within over s w g later =
    done (none (λ moment awaits _. let first = nothing_before wait a w moment awaits in omega
    (arith, first, over)))
loop_runs until {wait = wait} {a = a} (handed {b = b} now e low early less t loop) within over s w g
    later =
    let waits = turn_waits now less t in
    event now e (none (λ moment awaits _. let first = nothing_before wait a w moment awaits in omega
    (arith, first, early))) t
    (loop_runs until loop within.1 over (turn_ascends now t (event_ascends now e a s)) waits.1
    (now + 1)
    (λ moment awaits. let first = nothing_before (wait_of now b) b waits.1 moment awaits in omega
    (arith, first, waits.0)))
loop_runs until {wait = wait} {a = a}
    (polled {b = b} {c = c} {comings = comings} {turned = turned} {more = more} now low early less t
    loop) within over s w g later =
    let waits = turn_waits now less t in
    by
    (λ h after. loop_runs until loop within.1 over (turn_ascends now t s) waits.1 h after)
    (λ moment awaits. let first = nothing_before (wait_of now b) b waits.1 moment awaits in omega
    (arith, first, waits.0))
    (found_or_later a.transport now a.transactions s
    (waits_less a.transport wait now a.transactions (omega (arith, early)) w))
  where
    by : ((h : ℕ) → ((moment : ℕ) → IsAwaited b moment → h ≤ moment) → Run (until + 1) h b
        (events_in comings) more c) → ((moment : ℕ) → IsAwaited b moment → now + 1 ≤ moment)
        → Awaits a.transport a.transactions now ⊎ Waits a.transport (now + 1) a.transactions
        → Run (until + 1) g a (events_in comings) (turned ++ more) c
    by go passed (inl found) =
        turn_first until now g a turned
        (record {
          awaited_then = found;
          late = later now found;
          least = λ other awaits _. let first
              = nothing_before wait a w other awaits in omega (arith, first, early);
        })
        within.0 t (loop_order until loop within.1) (go (now + 1) passed)
    by go passed (inr idle) =
        let r = turn_idle now t idle in
        subst (λ ss. Run (until + 1) g a (events_in comings) (ss ++ more) c) (sym r.0)
        (subst (λ x. Run (until + 1) g x (events_in comings) more c) r.1
        (go g (λ moment awaits. later moment (subst (λ x. IsAwaited x moment) r.1 awaits))))

-- ---- there is a loop
-- one that is later than it needs to be
later_loop : {late from wait last : ℕ} {a b : Agent} {comings : Comings} {steps : List Step}
    → Loop late from wait a comings steps last b → (more : ℕ) → late ≤ more
    → Loop more from wait a comings steps last b
later_loop rest more le = rest
later_loop (handed now e low early less t loop) more le =
    handed now e low (omega (arith, early, le)) less t (later_loop loop more le)
later_loop (polled now low early less t loop) more le =
    polled now low (omega (arith, early, le)) less t (later_loop loop more le)

record HasLoop (from wait : ℕ) (a : Agent) (comings : Comings) : Type 0 where
  pub late : ℕ
  pub last : ℕ
  pub steps : List Step
  pub after : Agent
  pub loop : Loop late from wait a comings steps last after

has_loop : (from wait : ℕ) (a : Agent) (comings : Comings) → AreInTurn from comings
    → HasLoop from wait a comings
has_loop from wait a [] order =
    record { late = 0; last = wait; steps = []; after = a; loop = rest }
has_loop from wait a ((now, Some e) ∷ comings) (low, less, order) =
    let t = has_turn now (omega (arith, less)) (after_event now e a) in
    let r = has_loop now (wait_of now t.after) t.after comings order in
    record {
      late = now + r.late;
      last = r.last;
      steps = steps_of_event now e a ++ (t.steps ++ r.steps);
      after = r.after;
      loop =
          handed now e low (omega arith) less t.turned
          (later_loop r.loop (now + r.late) (omega arith));
    }
has_loop from wait a ((now, None) ∷ comings) (low, less, order) =
    let t = has_turn now (omega (arith, less)) a in
    let r = has_loop (now + 1) (wait_of now t.after) t.after comings order in
    record {
      late = now + r.late;
      last = r.last;
      steps = t.steps ++ r.steps;
      after = r.after;
      loop =
          polled now low (omega arith) less t.turned
          (later_loop r.loop (now + r.late) (omega arith));
    }

pub loops_exist : LoopsExist
loops_exist from wait a comings order =
    let r = has_loop from wait a comings order in
    (r.late, r.last, r.steps, r.after, r.loop)

-- ---- the law
none_waits : (a : Agent) → a.transactions ≡ [] → (moment : ℕ) → IsAwaited a moment → ⊥
none_waits a empty moment (k, v, found, live, is) = let clash : Some v
    ≡ None = sym found ∙ ap (at k) empty in cc

by_events : (until : ℕ) (a : Agent) → a.transactions ≡ []
    → {b : Agent} {steps : List Step} (events : List (ℕ × AgentEvent))
    → Run (until + 1) 0 a events steps b → IsDriven until a events steps b
by_events until a empty [] (done (none h)) = (refl, refl)
by_events until a empty [] (done (turn moment next less t ts)) = absurd
    (none_waits a empty moment next.awaited_then)
by_events until a empty (e ∷ es) r = r

ascends_none : (all : Transactions) → all ≡ [] → IsAscending all
unfolding IsStrictlySortedBy
ascends_none all empty = subst IsAscending (sym empty) tt

pub loops_are_driven : LoopsAreDriven
loops_are_driven until from wait last a b comings steps empty runs loop =
    by_events until a empty (events_in comings)
    (loop_runs until loop runs.within runs.no_more (ascends_none a.transactions empty)
    (subst (Waits a.transport wait) (sym empty) tt) 0 (λ moment awaits. omega arith))

pub loops_send_by_plan : LoopsSendByPlan
loops_send_by_plan until from wait last a b comings steps empty runs loop =
    driven_by_plan until a b (events_in comings) steps runs.is_moment
    (ascends_none a.transactions empty)
    (order_less until from 0 (events_in comings) (omega arith) (loop_order until loop runs.within))
    (loops_are_driven until from wait last a b comings steps empty runs loop)
