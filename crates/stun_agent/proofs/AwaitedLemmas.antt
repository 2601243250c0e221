-- What requests await tells which of them are due or over, and when.
use Rattle.std.proofs.Common.{ℕ, ◌≡◌, ◌≤◌, ◌+◌, arith, min}
use Rattle.std.proofs.Common.{Bool, true, false, not, ◌&&◌, ◌||◌, cond, List, [], ◌∷◌, ◌++◌, map}
use Rattle.std.proofs.Common.{ap, ap₂, sym, refl, ◌∙◌}
use Rattle.std.specs.Prelude.{Option, Some, None, find, filter, fold, nat_le}
use Rattle.std.specs.Option.{option_map_or, is_some}
use Rattle.std.proofs.Math.Bool.{or_assoc, or_comm, or-false}
use Rattle.std.proofs.lemmas.List.Sums.{sum_by-cons}
use Rattle.stun_base.specs.declared.wire.transport.TransportType.{TransportType}
use Rattle.stun_agent.specs.declared.state.tree.Link.{Link}
use Rattle.stun_agent.specs.declared.state.tree.Link.TheVariants.{Empty, Leaf, Fork'}
use Rattle.stun_agent.specs.Deadlines.{is_early, early_requests}
use Rattle.std.specs.Ordering.{nat_cmp, is_eq, match_ordering}
use Rattle.std.specs.declared.cmp.Ordering.{Ordering}
use Rattle.std.specs.declared.cmp.Ordering.TheVariants.{Less, Equal, Greater}
use Rattle.std.specs.BTreeMap.{is_at}
use Rattle.stun_agent.specs.Transactions.{Transaction, Transactions, at, with, without, sooner}
use Rattle.stun_agent.specs.Transactions.{has_slots, is_cancelled, is_due, is_over, awaited_moment}
use Rattle.stun_agent.specs.Transactions.{awaited_moments, next_awaited, first_over}
use Rattle.stun_agent.specs.code.Awaited.{Awaited, nothing, slot_at, end_at, cancelled_one}
use Rattle.stun_agent.specs.code.Awaited.{awaited_by, lesser, joined, awaited_of, has_come}
use Rattle.stun_agent.specs.code.Awaited.{some_due, some_over, first_awaited}
use Rattle.stun_agent.specs.code.Tree.{items, told, IsTimed}
use Rattle.stun_agent.proofs.FoundLemmas.{none_is}

-- ---- the lesser of two moments
lesser_none : (a : Option ℕ) → lesser None a ≡ a
lesser_none None = refl
lesser_none (Some m) = refl

lesser_lesser : (a b c : Option ℕ) → lesser (lesser a b) c ≡ lesser a (lesser b c)
lesser_lesser a b None = refl
lesser_lesser a None (Some n) = refl
lesser_lesser None (Some m) (Some n) = refl
lesser_lesser (Some l) (Some m) (Some n) = ap Some (omega arith)

lesser_turned : (a b : Option ℕ) → lesser a b ≡ lesser b a
lesser_turned None None = refl
lesser_turned None (Some m) = refl
lesser_turned (Some l) None = refl
lesser_turned (Some l) (Some m) = ap Some (omega arith)

lesser_of_four : (a b c d : Option ℕ)
    → lesser (lesser a b) (lesser c d) ≡ lesser (lesser a c) (lesser b d)
lesser_of_four a b c d = lesser_lesser a b (lesser c d)
    ∙ ap (lesser a)
    (sym (lesser_lesser b c d) ∙ ap (λ x. lesser x d) (lesser_turned b c) ∙ lesser_lesser c b d)
    ∙ sym (lesser_lesser a c (lesser b d))

-- ---- these and those
pub nothing_joined : (a : Awaited) → joined nothing a ≡ a
nothing_joined a =
    λ i. record {
      slot = lesser_none a.slot i;
      end = lesser_none a.end i;
      cancelled = a.cancelled;
    }

pub joined_nothing : (a : Awaited) → joined a nothing ≡ a
joined_nothing a =
    λ i. record { slot = a.slot; end = a.end; cancelled = or-false a.cancelled i }

pub joined_turned : (a b : Awaited) → joined a b ≡ joined b a
joined_turned a b =
    λ i. record {
      slot = lesser_turned a.slot b.slot i;
      end = lesser_turned a.end b.end i;
      cancelled = or_comm a.cancelled b.cancelled i;
    }

pub joined_joined : (a b c : Awaited) → joined (joined a b) c ≡ joined a (joined b c)
joined_joined a b c =
    λ i. record {
      slot = lesser_lesser a.slot b.slot c.slot i;
      end = lesser_lesser a.end b.end c.end i;
      cancelled = or_assoc a.cancelled b.cancelled c.cancelled i;
    }

pub awaited_of-append : (transport : TransportType) (xs ys : Transactions)
    → awaited_of transport (xs ++ ys)
    ≡ joined (awaited_of transport xs) (awaited_of transport ys)
awaited_of-append transport [] ys = sym (nothing_joined (awaited_of transport ys))
awaited_of-append transport (e ∷ xs) ys =
    ap (joined (awaited_by transport e.1)) (awaited_of-append transport xs ys)
    ∙ sym (joined_joined (awaited_by transport e.1) (awaited_of transport xs)
    (awaited_of transport ys))

-- what a link tells is what those below it await
pub told_is : {A D : Type 0} (transport : TransportType) (l : Link A D) → IsTimed transport l
    → told l ≡ awaited_of transport (items l)
told_is transport Empty timed = refl
told_is transport (Leaf awaited leaf) timed =
    timed ∙ sym (joined_nothing (awaited_by transport leaf.value.entry.1))
told_is transport (Fork' awaited p a b c d) timed = timed.0

-- what the parts of a fork tell is what all of them await
pub awaited_of-four : (transport : TransportType) (a b c d : Transactions)
    → joined
    (joined (joined (awaited_of transport a) (awaited_of transport b)) (awaited_of transport c))
    (awaited_of transport d)
    ≡ awaited_of transport (a ++ (b ++ (c ++ d)))
awaited_of-four transport a b c d =
    joined_joined (joined (awaited_of transport a) (awaited_of transport b))
    (awaited_of transport c) (awaited_of transport d)
    ∙ joined_joined (awaited_of transport a) (awaited_of transport b)
    (joined (awaited_of transport c) (awaited_of transport d))
    ∙ sym (awaited_of-append transport a (b ++ (c ++ d))
    ∙ ap (joined (awaited_of transport a)) (awaited_of-append transport b (c ++ d)
    ∙ ap (joined (awaited_of transport b)) (awaited_of-append transport c d)))

-- one more is joined to what the others await
pub awaited_of-with : (transport : TransportType) (id : ℕ) (t : Transaction) (es : Transactions)
    → at id es ≡ None
    → joined (awaited_of transport es) (awaited_by transport t)
    ≡ awaited_of transport (with id t es)
awaited_of-with transport id t [] absent =
    joined_turned nothing (awaited_by transport t)
awaited_of-with transport id t (e ∷ es) absent =
    by (nat_cmp id e.0) absent (awaited_of-with transport id t es)
  where
    by : (r : Ordering) → cond (is_eq r) (Some e.1) (at id es) ≡ None
        → (at id es ≡ None → joined (awaited_of transport es) (awaited_by transport t)
        ≡ awaited_of transport (with id t es))
        → joined (awaited_of transport (e ∷ es)) (awaited_by transport t)
        ≡ awaited_of transport
        (match_ordering r ((id, t) ∷ e ∷ es) ((e.0, t) ∷ es) (e ∷ with id t es))
    by Less absent rest =
        joined_turned (awaited_of transport (e ∷ es)) (awaited_by transport t)
    by Equal absent rest = cc
    by Greater absent rest =
        joined_joined (awaited_by transport e.1) (awaited_of transport es)
        (awaited_by transport t)
        ∙ ap (joined (awaited_by transport e.1)) (rest absent)

-- all of them await what the others do, and what the one at an id does
pub awaited_of-without : (transport : TransportType) (id : ℕ) (t : Transaction) (es : Transactions)
    → at id es ≡ Some t
    → awaited_of transport es
    ≡ joined (awaited_of transport (without id es)) (awaited_by transport t)
awaited_of-without transport id t [] there = cc
awaited_of-without transport id t (e ∷ es) there =
    by (is_at (nat_cmp id) e.0) there (awaited_of-without transport id t es)
  where
    by : (b : Bool) → cond b (Some e.1) (at id es) ≡ Some t
        → (at id es ≡ Some t → awaited_of transport es
        ≡ joined (awaited_of transport (without id es)) (awaited_by transport t))
        → awaited_of transport (e ∷ es)
        ≡ joined (awaited_of transport (cond b es (e ∷ without id es))) (awaited_by transport t)
    by true there rest =
        let same : e.1 ≡ t = ap (λ o. option_map_or (λ x. x) o t) there in
        ap (λ x. joined (awaited_by transport x) (awaited_of transport es)) same
        ∙ joined_turned (awaited_by transport t) (awaited_of transport es)
    by false there rest =
        ap (joined (awaited_by transport e.1)) (rest there)
        ∙ sym (joined_joined (awaited_by transport e.1) (awaited_of transport (without id es))
        (awaited_by transport t))

-- ---- what is due, and what is over
come_lesser : (now : ℕ) (a b : Option ℕ)
    → has_come now (lesser a b) ≡ (has_come now a || has_come now b)
come_lesser now a None = sym (or-false (has_come now a))
come_lesser now None (Some m) = refl
come_lesser now (Some l) (Some m) = grind arith

due_joined : (now : ℕ) (a b : Awaited)
    → some_due now (joined a b) ≡ (some_due now a || some_due now b)
due_joined now a b = come_lesser now a.slot b.slot

over_joined : (now : ℕ) (a b : Awaited)
    → some_over now (joined a b) ≡ (some_over now a || some_over now b)
over_joined now a b =
    ap (λ x. (a.cancelled || b.cancelled) || x) (come_lesser now a.end b.end)
    ∙ by a.cancelled b.cancelled (has_come now a.end) (has_come now b.end)
  where
    by : (c d x y : Bool) → ((c || d) || (x || y)) ≡ ((c || x) || (d || y))
    by true d x y = refl
    by false true true y = refl
    by false true false y = refl
    by false false x y = refl

pub due_one : (transport : TransportType) (now : ℕ) (t : Transaction)
    → some_due now (awaited_by transport t) ≡ is_due transport now t
due_one transport now t =
    by (is_cancelled t.sending) (has_slots transport t) (awaited_moment transport t)
  where
    by : (c s : Bool) (m : ℕ)
        → some_due now (cond c cancelled_one (cond s (slot_at m) (end_at m)))
        ≡ (not c && (s && nat_le m now))
    by true s m = refl
    by false true m = refl
    by false false m = refl

pub over_one : (transport : TransportType) (now : ℕ) (t : Transaction)
    → some_over now (awaited_by transport t) ≡ is_over transport now t
over_one transport now t =
    by (is_cancelled t.sending) (has_slots transport t) (awaited_moment transport t)
  where
    by : (c s : Bool) (m : ℕ)
        → some_over now (cond c cancelled_one (cond s (slot_at m) (end_at m)))
        ≡ (c || (not s && nat_le m now))
    by true s m = refl
    by false true m = refl
    by false false m = refl

found_first : {X : Type 0} (p : X → Bool) (x : X) (xs : List X)
    → is_some (find p (x ∷ xs)) ≡ (p x || is_some (find p xs))
found_first {X} p x xs = by (p x)
  where
    by : (b : Bool) → is_some (cond b (Some x) (find p xs)) ≡ (b || is_some (find p xs))
    by true = refl
    by false = refl

pub due_is : (transport : TransportType) (now : ℕ) (es : Transactions)
    → some_due now (awaited_of transport es) ≡ is_some (find (λ e. is_due transport now e.1) es)
due_is transport now [] = refl
due_is transport now (e ∷ es) =
    due_joined now (awaited_by transport e.1) (awaited_of transport es)
    ∙ ap₂ (λ a b. a || b) (due_one transport now e.1) (due_is transport now es)
    ∙ sym (found_first (λ (x : ℕ × Transaction). is_due transport now x.1) e es)

pub over_is : (transport : TransportType) (now : ℕ) (es : Transactions)
    → some_over now (awaited_of transport es) ≡ is_some (first_over transport now es)
over_is transport now [] = refl
over_is transport now (e ∷ es) =
    over_joined now (awaited_by transport e.1) (awaited_of transport es)
    ∙ ap₂ (λ a b. a || b) (over_one transport now e.1) (over_is transport now es)
    ∙ sym (found_first (λ (x : ℕ × Transaction). is_over transport now x.1) e es)

pub none_first : {X : Type 0} (p : X → Bool) (x : X) (xs : List X)
    → is_some (find p (x ∷ xs)) ≡ false → (p x ≡ false) × (is_some (find p xs) ≡ false)
none_first {X} p x xs h = by (p x) refl h
  where
    by : (b : Bool) → p x ≡ b → is_some (cond b (Some x) (find p xs)) ≡ false
        → (p x ≡ false) × (is_some (find p xs) ≡ false)
    by true is h = cc
    by false is h = (is, h)

-- ---- the first moment
first_joined : (a b : Awaited)
    → first_awaited (joined a b) ≡ lesser (first_awaited a) (first_awaited b)
first_joined a b = lesser_of_four a.slot b.slot a.end b.end

-- that of one, unless it is canceled
first_one : (transport : TransportType) (t : Transaction)
    → first_awaited (awaited_by transport t)
    ≡ cond (is_cancelled t.sending) None (Some (awaited_moment transport t))
first_one transport t =
    by (is_cancelled t.sending) (has_slots transport t) (awaited_moment transport t)
  where
    by : (c s : Bool) (m : ℕ)
        → first_awaited (cond c cancelled_one (cond s (slot_at m) (end_at m)))
        ≡ cond c None (Some m)
    by true s m = refl
    by false true m = refl
    by false false m = refl

first_with : (transport : TransportType) (e : ℕ × Transaction) (es : Transactions)
    → first_awaited (awaited_of transport (e ∷ es))
    ≡ lesser (cond (is_cancelled e.1.sending) None (Some (awaited_moment transport e.1)))
    (first_awaited (awaited_of transport es))
first_with transport e es =
    first_joined (awaited_by transport e.1) (awaited_of transport es)
    ∙ ap (λ o. lesser o (first_awaited (awaited_of transport es))) (first_one transport e.1)

first_from : (transport : TransportType) (es : Transactions) (c : Option ℕ)
    → fold sooner c (awaited_moments transport es)
    ≡ lesser c (first_awaited (awaited_of transport es))
first_from transport [] c = refl
first_from transport (e ∷ es) c =
    by (is_cancelled e.1.sending) (first_from transport es)
    ∙ ap (lesser c) (sym (first_with transport e es))
  where
    by : (b : Bool)
        → ((c : Option ℕ) → fold sooner c (awaited_moments transport es)
        ≡ lesser c (first_awaited (awaited_of transport es)))
        → fold sooner c
        (map (λ (x : ℕ × Transaction). awaited_moment transport x.1)
        (cond (not b) (e ∷ filter (λ x. not (is_cancelled x.1.sending)) es)
        (filter (λ x. not (is_cancelled x.1.sending)) es)))
        ≡ lesser c
        (lesser (cond b None (Some (awaited_moment transport e.1)))
        (first_awaited (awaited_of transport es)))
    by true rest =
        rest c ∙ ap (lesser c) (sym (lesser_none (first_awaited (awaited_of transport es))))
    by false rest =
        rest (sooner c (awaited_moment transport e.1))
        ∙ lesser_lesser c (Some (awaited_moment transport e.1))
        (first_awaited (awaited_of transport es))

pub next_awaited_is : (transport : TransportType) (all : Transactions)
    → next_awaited transport all ≡ first_awaited (awaited_of transport all)
next_awaited_is transport all =
    first_from transport all None ∙ lesser_none (first_awaited (awaited_of transport all))

least_with : (m hour : ℕ) (o : Option ℕ)
    → option_map_or (λ x. min x (min hour m)) o (min hour m)
    ≡ option_map_or (λ x. min x hour) (lesser (Some m) o) hour
least_with m hour None = omega arith
least_with m hour (Some x) = omega arith

pub wake_up_is : (transport : TransportType) (now hour : ℕ) (all : Transactions)
    → first_over transport now all ≡ None
    → fold min hour (map (λ e. awaited_moment transport e.1) all)
    ≡ option_map_or (λ m. min m hour) (first_awaited (awaited_of transport all)) hour
wake_up_is transport now hour [] h = refl
wake_up_is transport now hour (e ∷ es) h =
    let m = awaited_moment transport e.1 in
    let first = first_awaited (awaited_of transport es) in
    let parts = none_first (λ (x : ℕ × Transaction). is_over transport now x.1) e es (ap is_some h) in
    let live = not_cancelled (is_cancelled e.1.sending)
    (not (has_slots transport e.1) && nat_le m now) parts.0 in
    wake_up_is transport now (min hour m) es (none_is (first_over transport now es) parts.1)
    ∙ least_with m hour first
    ∙ ap (λ o. option_map_or (λ x. min x hour) o hour)
    (ap (λ c. lesser (cond c None (Some m)) first) (sym live) ∙ sym (first_with transport e es))
  where
    not_cancelled : (c b : Bool) → (c || b) ≡ false → c ≡ false
    not_cancelled true b h = h
    not_cancelled false b h = refl

-- ---- one of them
pub over_early : (transport : TransportType) (now : ℕ) (all : Transactions)
    (e : ℕ × Transaction) → first_over transport now all ≡ Some e
    → 1 ≤ early_requests transport now all
over_early transport now [] e h = cc
over_early transport now (x ∷ xs) e h =
    by (is_over transport now x.1) refl h (over_early transport now xs e)
    (sum_by-cons (λ (y : ℕ × Transaction). cond (is_early transport now y.1) 1 0) x xs)
  where
    early : (c s b : Bool) → (c || (not s && b)) ≡ true → (c || b) ≡ true
    early true s b h = refl
    early false true b h = cc
    early false false b h = h

    by : (b : Bool) → is_over transport now x.1 ≡ b
        → cond b (Some x) (first_over transport now xs) ≡ Some e
        → (first_over transport now xs ≡ Some e → 1 ≤ early_requests transport now xs)
        → early_requests transport now (x ∷ xs)
        ≡ cond (is_early transport now x.1) 1 0 + early_requests transport now xs
        → 1 ≤ early_requests transport now (x ∷ xs)
    by true is h rest count =
        let one : ◌≡◌ {A = ℕ} (cond (is_early transport now x.1) 1 0) 1 =
        ap (λ b. cond b 1 0)
        (early (is_cancelled x.1.sending) (has_slots transport x.1)
        (nat_le (awaited_moment transport x.1) now) is) in
        omega (arith, count, one)
    by false is h rest count = let more = rest h in omega (arith, count, more)
