-- What always holds of the indices by number stays so over each change.
use Rattle.std.proofs.Common.{[]}
use Rattle.std.proofs.Common.{◌≡◌, ◌∙◌, ◌<◌, ◌≤◌, ◌+◌, ◌-◌, ℕ, Bool, true, false, List, ◌∷◌}
use Rattle.std.proofs.Common.{Option}
use Rattle.std.proofs.Common.{Some, None, ap, arith, cond, length, refl, subst, sym}
use Rattle.std.specs.BTreeMap.{insert_entry, is_at}
use Rattle.std.specs.BTreeSet.{insert_key}
use Rattle.std.specs.BinaryHeap.{IsUpperBound}
use Rattle.std.specs.Set.{remove_key}
use Rattle.std.specs.Cmp.{nat_cmp_is, ranked}
use Rattle.std.specs.List.{AllByRecursion, count_by, list_any}
use Rattle.std.specs.List.Sorted.{IsPermutation, IsStrictlySortedBy}
use Rattle.std.specs.Map.{keys_of, lookup, remove_entry, values_of}
use Rattle.std.specs.Option.{option_map, option_map_or, unwrap_or}
use Rattle.std.specs.Ordering.{is_eq, is_lt, match_ordering, nat_cmp}
use Rattle.std.specs.Prelude.{◌==◌, ◌||◌, find, not}
use Rattle.std.specs.declared.cmp.Ordering.{Ordering}
use Rattle.std.specs.declared.cmp.Ordering.TheVariants.{Less, Equal, Greater}
use Rattle.std.specs.declared.cmp.Reverse.{Reverse}
use Rattle.std.proofs.lemmas.Bool.{eqb-false, eqb-true}
use Rattle.std.proofs.lemmas.Cmp.{nat_cmp_total}
use Rattle.std.proofs.lemmas.List.Sorted.{sum_by-IsPermutation}
use Rattle.std.proofs.lemmas.List.Sums.{sum_by-cons}
use Rattle.std.proofs.lemmas.Map.Entries.{sum_by-insert_entry, sum_by-remove_entry}
use Rattle.std.proofs.lemmas.Map.Keys.{sorted_head, sorted_tail}
use Rattle.stun_client_requests.specs.Numbers.{AllKnown, IsAt}
use Rattle.stun_client_requests.specs.Numbers.{is_ended, is_outstanding, known_at}
use Rattle.stun_client_requests.specs.code.Indices.{has_ended, is_open, later, times}

abbrev pub Ascend : {X : Type 0} → List (ℕ × X) → Type 0
Ascend es = IsStrictlySortedBy nat_cmp (keys_of es)

-- whether the entry with a number passes
abbrev pub passes_at : {X : Type 0} → (X → Bool) → ℕ → List (ℕ × X) → Bool
passes_at p n es = option_map_or p (lookup (is_at (nat_cmp n)) es) false

-- the number of the first entry that passes
abbrev pub first_by : {X : Type 0} → (X → Bool) → List (ℕ × X) → Option ℕ
first_by p es = option_map (λ e. e.0) (find (λ e. p e.1) es)

-- the entry with this number passes, and none below it, or none passes
abbrev pub IsFirst : {X : Type 0} → (X → Bool) → List (ℕ × X) → Option ℕ → Type 0
IsFirst p es None = (m : ℕ) → passes_at p m es ≡ false
IsFirst p es (Some n) =
    (passes_at p n es ≡ true) × ((m : ℕ) → m < n → passes_at p m es ≡ false)

-- ---- a number among keys

pub own_key : (k : ℕ) → is_at (nat_cmp k) k ≡ true
own_key k = sym (ap is_eq (nat_cmp_is k k Equal refl))

pub same_key : (k x : ℕ) → is_at (nat_cmp k) x ≡ true → x ≡ k
same_key k x h = by (nat_cmp k x) refl h
  where
    by : (r : Ordering) → nat_cmp k x ≡ r → is_eq r ≡ true → x ≡ k
    by Less is h = cc
    by Equal is h = sym (ranked k x Equal (sym is))
    by Greater is h = cc

-- what holds of each key holds of the one that is looked up
pub lookup_among : {X : Type 0} (P : ℕ → Type 0) (es : List (ℕ × X)) (k : ℕ) (v : X)
    → AllByRecursion P (keys_of es) → lookup (is_at (nat_cmp k)) es ≡ Some v → P k
lookup_among P [] k v a h = cc
lookup_among {X} P (e ∷ es) k v a h = by (is_at (nat_cmp k) e.0) refl h (lookup_among P es k v a.1)
  where
    by : (b : Bool) → is_at (nat_cmp k) e.0 ≡ b → cond b (Some e.1) (lookup (is_at (nat_cmp k)) es)
        ≡ Some v → (lookup (is_at (nat_cmp k)) es ≡ Some v → P k) → P k
    by true is h rest = subst P (same_key k e.0 is) a.0
    by false is h rest = rest h

-- ---- the first that passes

pub apart : (k x : ℕ) → (k ≡ x → ⊥) → is_at (nat_cmp k) x ≡ false
apart k x differ = by (is_at (nat_cmp k) x) refl
  where
    by : (b : Bool) → is_at (nat_cmp k) x ≡ b → b ≡ false
    by true is = absurd (differ (sym (same_key k x is)))
    by false is = refl

pub first_is : {X : Type 0} (p : X → Bool) (es : List (ℕ × X)) → Ascend es
    → IsFirst p es (first_by p es)
first_is p [] s = λ m. refl
first_is {X} p (e ∷ es) s =
    by (p e.1) refl (first_is p es (sorted_tail nat_cmp e.0 (keys_of es) s))
  where
    later : (n : ℕ) → passes_at p n es ≡ true → e.0 < n
    later n passes = found (lookup (is_at (nat_cmp n)) es) refl passes
      where
        found : (o : Option X) → lookup (is_at (nat_cmp n)) es ≡ o → option_map_or p o false ≡ true
            → e.0 < n
        found None is passes = cc
        found (Some v) is passes =
            ranked e.0 n Less (sym (lookup_among (λ y. nat_cmp e.0 y ≡ Less) es n v
            (sorted_head nat_cmp e.0 (keys_of es) s) is))

    other : (m : ℕ) → (m ≡ e.0 → ⊥) → passes_at p m (e ∷ es) ≡ passes_at p m es
    other m differ =
        ap (λ b. option_map_or p (cond b (Some e.1) (lookup (is_at (nat_cmp m)) es)) false)
        (apart m e.0 differ)

    low : (m : ℕ) → m < e.0 → passes_at p m (e ∷ es) ≡ false
    low m below = other m (λ same. omega arith) ∙ rest (passes_at p m es) refl
      where
        rest : (b : Bool) → passes_at p m es ≡ b → b ≡ false
        rest true is = let above : e.0 < m = later m is in absurd (omega arith)
        rest false is = refl

    over : (o : Option ℕ) → p e.1 ≡ false → IsFirst p es o → IsFirst p (e ∷ es) o
    over o fails first = by o first
      where
        head : (m : ℕ) → passes_at p m es ≡ false → passes_at p m (e ∷ es) ≡ false
        head m none = at (is_at (nat_cmp m) e.0)
          where
            at : (b : Bool)
                → option_map_or p (cond b (Some e.1) (lookup (is_at (nat_cmp m)) es)) false ≡ false
            at true = fails
            at false = none

        by : (o : Option ℕ) → IsFirst p es o → IsFirst p (e ∷ es) o
        by None none = λ m. head m (none m)
        by (Some n) first =
            let above : e.0 < n = later n first.0 in (
              other n (λ same. omega arith) ∙ first.0,
              λ m below. head m (first.1 m below),
            )

    by : (b : Bool) → p e.1 ≡ b → IsFirst p es (first_by p es)
        → IsFirst p (e ∷ es) (option_map (λ x. x.0) (cond b (Some e) (find (λ x. p x.1) es)))
    by true is first = (
      ap (λ b. option_map_or p (cond b (Some e.1) (lookup (is_at (nat_cmp e.0)) es)) false)
          (own_key e.0) ∙ is,
      low,
    )
    by false is first = over (first_by p es) is first

pub one_first : {X : Type 0} (p : X → Bool) (es : List (ℕ × X)) (a b : Option ℕ) → IsFirst p es a
    → IsFirst p es b → a ≡ b
one_first p es None None a b = refl
one_first p es None (Some m) a b = let fails = a m in let yes = b.0 in cc
one_first p es (Some n) None a b = let fails = b n in let yes = a.0 in cc
one_first p es (Some n) (Some m) a b = by (nat_cmp n m) refl
  where
    by : (r : Ordering) → nat_cmp n m ≡ r → Some n ≡ Some m
    by Less is = let fails = b.1 n (ranked n m Less (sym is)) in let yes = a.0 in cc
    by Equal is = ap Some (ranked n m Equal (sym is))
    by Greater is = let fails = a.1 m (ranked n m Greater (sym is)) in let yes = b.0 in cc

-- ---- a change at one number

pub tested : {X : Type 0} (p : X → Bool) (n : ℕ) (w : Option X) (old new : List (ℕ × X))
    → IsAt n w old new → (q : ℕ) → passes_at p q new
    ≡ cond (is_at (nat_cmp n) q) (option_map_or p w false) (passes_at p q old)
tested p n w old new at q =
    ap (λ o. option_map_or p o false) (at q) ∙ by (is_at (nat_cmp n) q)
  where
    by : (b : Bool) → option_map_or p (cond b w (lookup (is_at (nat_cmp q)) old)) false
        ≡ cond b (option_map_or p w false) (passes_at p q old)
    by true = refl
    by false = refl

pub still : {X : Type 0} (p : X → Bool) (n : ℕ) (w : Option X) (old new : List (ℕ × X))
    → IsAt n w old new → option_map_or p w false ≡ passes_at p n old
    → (q : ℕ) → passes_at p q new ≡ passes_at p q old
still p n w old new at same q = tested p n w old new at q ∙ by (is_at (nat_cmp n) q) refl
  where
    by : (b : Bool) → is_at (nat_cmp n) q ≡ b
        → cond b (option_map_or p w false) (passes_at p q old) ≡ passes_at p q old
    by true is = same ∙ ap (λ k. passes_at p k old) (sym (same_key n q is))
    by false is = refl

-- ---- how many are outstanding

abbrev pub unit : Bool → ℕ
unit b = cond b 1 0

weighed : {X : Type 0} (p : X → Bool) (o : Option X)
    → unwrap_or (option_map (λ x. unit (p x)) o) 0 ≡ unit (option_map_or p o false)
weighed p None = refl
weighed p (Some x) = refl

pub count_put : {E : Type 0} (n : ℕ) (w : _) (known : AllKnown E) → Ascend known
    → count_by is_outstanding (values_of (insert_entry nat_cmp known n w))
    + unit (is_open known n)
    ≡ count_by is_outstanding (values_of known) + unit (is_outstanding w)
count_put n w known s =
    ap (λ k. count_by is_outstanding (values_of (insert_entry nat_cmp known n w)) + k)
    (sym (weighed is_outstanding (known_at n known)))
    ∙ sum_by-insert_entry (λ x. unit (is_outstanding x)) nat_cmp_total known n w s

pub count_removed : {E : Type 0} (n : ℕ) (known : AllKnown E)
    → count_by is_outstanding (values_of (remove_entry (is_at (nat_cmp n)) known))
    + unit (is_open known n)
    ≡ count_by is_outstanding (values_of known)
count_removed n known =
    ap (λ k. count_by is_outstanding (values_of (remove_entry (is_at (nat_cmp n)) known)) + k)
    (sym (weighed is_outstanding (known_at n known)))
    ∙ sum_by-remove_entry (λ x. unit (is_outstanding x)) (is_at (nat_cmp n)) known

-- ---- the heap

abbrev pub Lists : {E : Type 0} → AllKnown E → List (Reverse ℕ) → Type 0
Lists known items = (q : ℕ) → times q items ≡ unit (has_ended known q)

pub listed_still : {E : Type 0} (known new : AllKnown E) (items same : List (Reverse ℕ))
    → Lists known items → same ≡ items → ((q : ℕ) → has_ended new q ≡ has_ended known q)
    → Lists new same
listed_still known new items same lists is kept q =
    ap (λ xs. times q xs) is ∙ lists q ∙ ap unit (sym (kept q))

pub eqb-same : (n : ℕ) → (n == n) ≡ true
eqb-same n = by (n == n) refl
  where
    by : (b : Bool) → (n == n) ≡ b → b ≡ true
    by true is = refl
    by false is = absurd (eqb-false n n is refl)

pub listed_more : {E : Type 0} (known new : AllKnown E) (n : ℕ) (x : Reverse ℕ)
    (items more : List (Reverse ℕ)) → Lists known items → x.0 ≡ n → IsPermutation (x ∷ items) more
    → ((q : ℕ) → has_ended new q ≡ cond (is_at (nat_cmp n) q) true (has_ended known q))
    → has_ended known n ≡ false → Lists new more
listed_more known new n x items more lists here moved after none q =
    sum_by-IsPermutation (λ y. unit (y.0 == q)) (x ∷ items) more moved
    ∙ sum_by-cons (λ y. unit (y.0 == q)) x items
    ∙ by (x.0 == q) refl
  where
    by : (b : Bool) → (x.0 == q) ≡ b
        → unit (x.0 == q) + times q items ≡ unit (has_ended new q)
    by true is =
        let same : n ≡ q = sym here ∙ eqb-true x.0 q is in
        let ended : has_ended new q ≡ true =
        subst (λ k. has_ended new k ≡ true) same
        (after n ∙ ap (λ b. cond b true (has_ended known n)) (own_key n)) in
        let nothing : times q items ≡ 0 =
        subst (λ k. times k items ≡ 0) same (lists n ∙ ap unit none) in
        let one : unit (x.0 == q) ≡ 1 = ap unit is in
        let now : unit (has_ended new q) ≡ 1 = ap unit ended in
        omega arith
    by false is =
        let other : has_ended new q ≡ has_ended known q =
        after q ∙ ap (λ b. cond b true (has_ended known q))
        (apart n q (λ e. eqb-false x.0 q is (here ∙ e))) in
        let had = lists q in
        let one : unit (x.0 == q) ≡ 0 = ap unit is in
        let now : unit (has_ended new q) ≡ unit (has_ended known q) =
        ap unit other in
        omega arith

-- how often a number was in a heap from which one was taken
taken : (x : Reverse ℕ) (items rest : List (Reverse ℕ)) (q : ℕ) → IsPermutation items (x ∷ rest)
    → times q items ≡ unit (x.0 == q) + times q rest
taken x items rest q moved =
    sym (sum_by-IsPermutation (λ y. unit (y.0 == q)) items (x ∷ rest) moved)
    ∙ sum_by-cons (λ y. unit (y.0 == q)) x rest

pub taken_ended : {E : Type 0} (known : AllKnown E) (x : Reverse ℕ) (items rest : List (Reverse ℕ))
    → Lists known items → IsPermutation items (x ∷ rest) → has_ended known x.0 ≡ true
taken_ended known x items rest lists moved = by (has_ended known x.0) refl
  where
    by : (b : Bool) → has_ended known x.0 ≡ b → b ≡ true
    by true is = refl
    by false is =
        let total = taken x items rest x.0 moved in
        let one : unit (x.0 == x.0) ≡ 1 = ap unit (eqb-same x.0) in
        let had = lists x.0 in
        let none : unit (has_ended known x.0) ≡ 0 = ap unit is in
        absurd (omega arith)

pub listed_less : {E : Type 0} (known new : AllKnown E) (x : Reverse ℕ)
    (items rest : List (Reverse ℕ)) → Lists known items → IsPermutation items (x ∷ rest)
    → ((q : ℕ) → has_ended new q ≡ cond (is_at (nat_cmp x.0) q) false (has_ended known q))
    → Lists new rest
listed_less known new x items rest lists moved after q = by (x.0 == q) refl
  where
    total : unit (has_ended known q) ≡ unit (x.0 == q) + times q rest
    total = sym (lists q) ∙ taken x items rest q moved

    most : (b : Bool) → unit b ≤ 1
    most true = omega arith
    most false = omega arith

    by : (b : Bool) → (x.0 == q) ≡ b → times q rest ≡ unit (has_ended new q)
    by true is =
        let same : x.0 ≡ q = eqb-true x.0 q is in
        let gone : has_ended new q ≡ false =
        subst (λ k. has_ended new k ≡ false) same
        (after x.0 ∙ ap (λ b. cond b false (has_ended known x.0)) (own_key x.0)) in
        let one : unit (x.0 == q) ≡ 1 = ap unit is in
        let now : unit (has_ended new q) ≡ 0 = ap unit gone in
        let sum = total in
        let few = most (has_ended known q) in
        omega arith
    by false is =
        let other : has_ended new q ≡ has_ended known q =
        after q ∙ ap (λ b. cond b false (has_ended known q)) (apart x.0 q (eqb-false x.0 q is)) in
        let one : unit (x.0 == q) ≡ 0 = ap unit is in
        let now : unit (has_ended new q) ≡ unit (has_ended known q) =
        ap unit other in
        let sum = total in
        omega arith

-- no number in a heap is below the one that comes first
no_less : (x : Reverse ℕ) (items : List (Reverse ℕ)) (q : ℕ) → IsUpperBound later x items
    → 1 ≤ times q items → q < x.0 → ⊥
no_less x [] q all some low = absurd (omega arith)
no_less x (y ∷ ys) q all some low = by (y.0 == q) refl (λ left. no_less x ys q all.1 left low)
  where
    by : (b : Bool) → (y.0 == q) ≡ b → (1 ≤ times q ys → ⊥) → ⊥
    by true is rest =
        let below : y.0 < x.0 = subst (λ k. k < x.0) (sym (eqb-true y.0 q is)) low in
        let less : is_lt (nat_cmp y.0 x.0) ≡ true = ap is_lt (sym (nat_cmp_is y.0 x.0 Less
        below)) in
        let not_less = all.0 in
        cc
    by false is rest =
        let one : unit (y.0 == q) ≡ 0 = ap unit is in
        let sum : times q (y ∷ ys) ≡ unit (y.0 == q) + times q ys =
        sum_by-cons (λ z. unit (z.0 == q)) y ys in
        rest (omega arith)

pub first_popped : {E : Type 0} (known : AllKnown E) (x : Reverse ℕ) (items rest : List (Reverse ℕ))
    → Ascend known → Lists known items → IsPermutation items (x ∷ rest) → IsUpperBound later x items
    → first_by is_ended known ≡ Some x.0
first_popped known x items rest s lists moved least =
    one_first is_ended known (first_by is_ended known) (Some x.0) (first_is is_ended known s)
    (taken_ended known x items rest lists moved, λ m low. by m low (has_ended known m) refl)
  where
    by : (m : ℕ) → m < x.0 → (b : Bool) → has_ended known m ≡ b → b ≡ false
    by m low true is =
        let had = lists m in
        let one : unit (has_ended known m) ≡ 1 = ap unit is in
        absurd (no_less x items m least (omega arith) low)
    by m low false is = refl

pub none_popped : {E : Type 0} (known : AllKnown E) (items : List (Reverse ℕ)) → Ascend known
    → Lists known items → length items ≡ 0 → first_by is_ended known ≡ None
none_popped {E} known [] s lists empty =
    one_first is_ended known (first_by is_ended known) None (first_is is_ended known s)
    (λ m. by m (has_ended known m) refl)
  where
    by : (m : ℕ) (b : Bool) → has_ended known m ≡ b → b ≡ false
    by m true is =
        let had = lists m in
        let one : unit (has_ended known m) ≡ 1 = ap unit is in
        absurd (omega arith)
    by m false is = refl
none_popped known (x ∷ items) s lists empty = absurd (omega arith)

-- ---- the numbers whose bytes were not handed out

pub take_back : (n : ℕ) (ks : List ℕ) → list_any (is_at (nat_cmp n)) ks ≡ false
    → remove_key (is_at (nat_cmp n)) (insert_key nat_cmp ks n) ≡ ks
take_back n [] none = ap (λ b. cond b [] (n ∷ [])) (own_key n)
take_back n (x ∷ xs) none = by (nat_cmp n x) refl none (take_back n xs)
  where
    at : ℕ → Bool
    at = is_at (nat_cmp n)

    by : (r : Ordering) → nat_cmp n x ≡ r
        → (at x || list_any at xs) ≡ false
        → (list_any at xs ≡ false → remove_key at (insert_key nat_cmp xs n) ≡ xs)
        → remove_key at
        (match_ordering r (n ∷ x ∷ xs) (x ∷ xs) (x ∷ insert_key nat_cmp xs n)) ≡ x ∷ xs
    by Less is none rest = ap (λ b. cond b (x ∷ xs) (n ∷ remove_key at (x ∷ xs))) (own_key n)
    by Equal is none rest =
        let hit : at x ≡ true = ap is_eq is in
        let some : (at x || list_any at xs) ≡ true = ap (λ b. b || list_any at xs) hit in
        cc
    by Greater is none rest =
        let miss : at x ≡ false = ap is_eq is in
        ap (λ b. cond b (insert_key nat_cmp xs n) (x ∷ remove_key at (insert_key nat_cmp xs n)))
        miss
        ∙ ap (λ ys. x ∷ ys)
        (rest (sym (ap (λ b. b || list_any at xs) miss) ∙ none))

pub take_out : {X : Type 0} (n : ℕ) (w : X) (es : List (ℕ × X))
    → lookup (is_at (nat_cmp n)) es ≡ None
    → remove_entry (is_at (nat_cmp n)) (insert_entry nat_cmp es n w) ≡ es
take_out n w [] none = ap (λ b. cond b [] ((n, w) ∷ [])) (own_key n)
take_out n w (e ∷ es) none = by (nat_cmp n e.0) refl none (take_out n w es)
  where
    at : ℕ → Bool
    at = is_at (nat_cmp n)

    by : (r : Ordering) → nat_cmp n e.0 ≡ r → lookup at (e ∷ es) ≡ None
        → (lookup at es ≡ None → remove_entry at (insert_entry nat_cmp es n w) ≡ es)
        → remove_entry at
        (match_ordering r ((n, w) ∷ e ∷ es) ((e.0, w) ∷ es) (e ∷ insert_entry nat_cmp es n w))
        ≡ e ∷ es
    by Less is none rest =
        ap (λ b. cond b (e ∷ es) ((n, w) ∷ remove_entry at (e ∷ es))) (own_key n)
    by Equal is none rest =
        let hit : at e.0 ≡ true = ap is_eq is in
        let some : lookup at (e ∷ es) ≡ Some e.1 =
        ap (λ b. cond b (Some e.1) (lookup at es)) hit in
        cc
    by Greater is none rest =
        let miss : at e.0 ≡ false = ap is_eq is in
        ap (λ b. cond b (insert_entry nat_cmp es n w)
        (e ∷ remove_entry at (insert_entry nat_cmp es n w))) miss
        ∙ ap (λ ys. e ∷ ys)
        (rest (sym (ap (λ b. cond b (Some e.1) (lookup at es)) miss) ∙ none))

abbrev pub HasKeys : {E : Type 0} → AllKnown E → List ℕ → Type 0
HasKeys known unsent = (q : ℕ) → list_any (is_at (nat_cmp q)) unsent ≡ true → is_open known q ≡ true

pub keys_put : {E : Type 0} (n : ℕ) (known new : AllKnown E) (ks more : List ℕ) → HasKeys known ks
    → ((q : ℕ) → is_open new q ≡ cond (is_at (nat_cmp n) q) true (is_open known q))
    → ((q : ℕ) → list_any (is_at (nat_cmp q)) more
    ≡ cond (is_at (nat_cmp n) q) true (list_any (is_at (nat_cmp q)) ks))
    → HasKeys new more
keys_put n known new ks more has after now q there =
    after q ∙ by (is_at (nat_cmp n) q) (sym (now q) ∙ there)
  where
    by : (b : Bool) → cond b true (list_any (is_at (nat_cmp q)) ks) ≡ true
        → cond b true (is_open known q) ≡ true
    by true hit = refl
    by false hit = has q hit

pub keys_out : {E : Type 0} (n : ℕ) (known new : AllKnown E) (ks fewer : List ℕ) → HasKeys known ks
    → ((q : ℕ) → is_open new q ≡ cond (is_at (nat_cmp n) q) false (is_open known q))
    → ((q : ℕ) → list_any (is_at (nat_cmp q)) fewer
    ≡ cond (is_at (nat_cmp n) q) false (list_any (is_at (nat_cmp q)) ks))
    → HasKeys new fewer
keys_out n known new ks fewer has after now q there =
    after q ∙ by (is_at (nat_cmp n) q) (sym (now q) ∙ there)
  where
    by : (b : Bool) → cond b false (list_any (is_at (nat_cmp q)) ks) ≡ true
        → cond b false (is_open known q) ≡ true
    by true hit = cc
    by false hit = has q hit
