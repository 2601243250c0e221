-- Entries under ascending numbers, and numbers in order: what a change leaves.
use Rattle.std.proofs.Common.{◌≡◌, ◌∙◌, ◌⊎◌, ◌<◌, ℕ, Bool, true, false, List, [], ◌∷◌, Option, Some}
use Rattle.std.proofs.Common.{ap, arith, cond, inl, inr, refl, subst, sym}
use Rattle.std.specs.BTreeMap.{is_at}
use Rattle.std.specs.BTreeSet.{insert_key}
use Rattle.std.specs.Cmp.{nat_cmp_is, ranked}
use Rattle.std.specs.List.{AllByRecursion, list_any}
use Rattle.std.specs.List.Sorted.{IsStrictlySortedBy}
use Rattle.std.specs.Map.{keys_of, lookup, set_value}
use Rattle.std.specs.Ordering.{is_eq, match_ordering, nat_cmp}
use Rattle.std.specs.Prelude.{◌||◌, find}
use Rattle.std.specs.Set.{remove_key}
use Rattle.std.specs.declared.cmp.Ordering.{Ordering}
use Rattle.std.specs.declared.cmp.Ordering.TheVariants.{Less, Equal, Greater}
use Rattle.std.proofs.lemmas.Map.Keys.{sorted_head, sorted_tail}
use Rattle.stun_agent.proofs.Ascending.{lookup-set_other}
use Rattle.stun_client_requests.specs.Numbers.{IsAt}
use Rattle.stun_client_requests.proofs.NumberLemmas.{Ascend, apart, lookup_among, own_key, same_key}
use Rattle.stun_client_requests.proofs.RequestLemmas.{differs, set_same}
use Rattle.stun_client_calls.proofs.TurnLemmas.{some_is}

-- ---- entries

-- what is at a key after a change at one key: what was put there, or what was there before
pub at_split : {X : Type 0} (n : ℕ) (w : Option X) (old new : List (ℕ × X)) → IsAt n w old new
    → (q : ℕ) (o : Option X) → lookup (is_at (nat_cmp q)) new ≡ o
    → ((q ≡ n) × (w ≡ o)) ⊎ ((is_at (nat_cmp n) q ≡ false) × (lookup (is_at (nat_cmp q)) old ≡ o))
at_split {X} n w old new at q o there = by (is_at (nat_cmp n) q) refl (sym (at q) ∙ there)
  where
    by : (b : Bool) → is_at (nat_cmp n) q ≡ b → cond b w (lookup (is_at (nat_cmp q)) old) ≡ o
        → ((q ≡ n) × (w ≡ o))
        ⊎ ((is_at (nat_cmp n) q ≡ false) × (lookup (is_at (nat_cmp q)) old ≡ o))
    by true is here = inl (same_key n q is, here)
    by false is here = inr (is, here)

-- what is at another key is as before
pub at_other : {X : Type 0} (n : ℕ) (w : Option X) (old new : List (ℕ × X)) → IsAt n w old new
    → (q : ℕ) → is_at (nat_cmp n) q ≡ false
    → lookup (is_at (nat_cmp q)) new ≡ lookup (is_at (nat_cmp q)) old
at_other n w old new at q off = at q ∙ ap (λ b. cond b w (lookup (is_at (nat_cmp q)) old)) off

-- and at its own key it is what was put there
pub at_own : {X : Type 0} (n : ℕ) (w : Option X) (old new : List (ℕ × X)) → IsAt n w old new
    → lookup (is_at (nat_cmp n)) new ≡ w
at_own n w old new at = at n ∙ ap (λ b. cond b w (lookup (is_at (nat_cmp n)) old)) (own_key n)

pub at_set : {X : Type 0} (n : ℕ) (x w : X) (es : List (ℕ × X))
    → lookup (is_at (nat_cmp n)) es ≡ Some x
    → IsAt n (Some w) es (set_value (is_at (nat_cmp n)) es w)
at_set {X} n x w es there q = by (is_at (nat_cmp n) q) refl
  where
    by : (b : Bool) → is_at (nat_cmp n) q ≡ b
        → lookup (is_at (nat_cmp q)) (set_value (is_at (nat_cmp n)) es w)
        ≡ cond b (Some w) (lookup (is_at (nat_cmp q)) es)
    by true is =
        subst (λ k. lookup (is_at (nat_cmp k)) (set_value (is_at (nat_cmp n)) es w) ≡ Some w)
        (sym (same_key n q is)) (set_same n x w es there)
    by false is = lookup-set_other q n w es (differs n q is)

-- what a search finds is under its key
pub find_there : {X : Type 0} (p : ℕ × X → Bool) (es : List (ℕ × X)) (e : ℕ × X) → Ascend es
    → find p es ≡ Some e → lookup (is_at (nat_cmp e.0)) es ≡ Some e.1
find_there p [] e s h = cc
find_there {X} p (x ∷ xs) e s h =
    by (p x) h (find_there p xs e (sorted_tail nat_cmp x.0 (keys_of xs) s))
  where
    by : (b : Bool) → cond b (Some x) (find p xs) ≡ Some e
        → (find p xs ≡ Some e → lookup (is_at (nat_cmp e.0)) xs ≡ Some e.1)
        → lookup (is_at (nat_cmp e.0)) (x ∷ xs) ≡ Some e.1
    by true h rest =
        subst (λ (y : ℕ × X). lookup (is_at (nat_cmp y.0)) (x ∷ xs) ≡ Some y.1) (some_is x e h)
        (ap (λ b. cond b (Some x.1) (lookup (is_at (nat_cmp x.0)) xs)) (own_key x.0))
    by false h rest =
        let found = rest h in
        let above : nat_cmp x.0 e.0 ≡ Less =
        lookup_among (λ y. nat_cmp x.0 y ≡ Less) xs e.0 e.1
        (sorted_head nat_cmp x.0 (keys_of xs) s) found in
        let low : x.0 < e.0 = ranked x.0 e.0 Less (sym above) in
        ap (λ b. cond b (Some x.1) (lookup (is_at (nat_cmp e.0)) xs))
        (apart e.0 x.0 (λ same. omega (arith, same, low)))
        ∙ found

-- what holds of each entry under its key holds of all
pub all_by : {X : Type 0} (P : ℕ × X → Type 0) (es : List (ℕ × X)) → Ascend es
    → ((k : ℕ) (x : X) → lookup (is_at (nat_cmp k)) es ≡ Some x → P (k, x)) → AllByRecursion P es
all_by P [] s each = tt
all_by {X} P (e ∷ es) s each = (
  each e.0 e.1 (ap (λ b. cond b (Some e.1) (lookup (is_at (nat_cmp e.0)) es)) (own_key e.0)),
  all_by P es (sorted_tail nat_cmp e.0 (keys_of es) s) (λ k x there. each k x (later k x there)),
)
  where
    later : (k : ℕ) (x : X) → lookup (is_at (nat_cmp k)) es ≡ Some x
        → lookup (is_at (nat_cmp k)) (e ∷ es) ≡ Some x
    later k x there =
        let above : nat_cmp e.0 k ≡ Less =
        lookup_among (λ y. nat_cmp e.0 y ≡ Less) es k x
        (sorted_head nat_cmp e.0 (keys_of es) s) there in
        let low : e.0 < k = ranked e.0 k Less (sym above) in
        ap (λ b. cond b (Some e.1) (lookup (is_at (nat_cmp k)) es))
        (apart k e.0 (λ same. omega (arith, same, low)))
        ∙ there

-- ---- numbers in order

abbrev pub among : ℕ → List ℕ → Bool
among q ks = list_any (is_at (nat_cmp q)) ks

-- a number that comes in, or was among them
pub among_insert : (q n : ℕ) (ks : List ℕ) → among q (insert_key nat_cmp ks n) ≡ true
    → (q ≡ n) ⊎ (among q ks ≡ true)
among_insert q n [] hit = first (is_at (nat_cmp q) n) refl hit
  where
    first : (b : Bool) → is_at (nat_cmp q) n ≡ b → (b || false) ≡ true
        → (q ≡ n) ⊎ (false ≡ true)
    first true is hit = inl (sym (same_key q n is))
    first false is hit = cc
among_insert q n (x ∷ xs) hit = by (nat_cmp n x) refl hit (among_insert q n xs)
  where
    first : (b : Bool) → is_at (nat_cmp q) n ≡ b → (b || among q (x ∷ xs)) ≡ true
        → (q ≡ n) ⊎ (among q (x ∷ xs) ≡ true)
    first true is hit = inl (sym (same_key q n is))
    first false is hit = inr hit

    after : (b : Bool) → (b || among q (insert_key nat_cmp xs n)) ≡ true
        → (among q (insert_key nat_cmp xs n) ≡ true → (q ≡ n) ⊎ (among q xs ≡ true))
        → (q ≡ n) ⊎ ((b || among q xs) ≡ true)
    after true hit rest = inr refl
    after false hit rest = rest hit

    by : (r : Ordering) → nat_cmp n x ≡ r
        → among q (match_ordering r (n ∷ x ∷ xs) (x ∷ xs) (x ∷ insert_key nat_cmp xs n)) ≡ true
        → (among q (insert_key nat_cmp xs n) ≡ true → (q ≡ n) ⊎ (among q xs ≡ true))
        → (q ≡ n) ⊎ (among q (x ∷ xs) ≡ true)
    by Less is hit rest = first (is_at (nat_cmp q) n) refl hit
    by Equal is hit rest = inr hit
    by Greater is hit rest = after (is_at (nat_cmp q) x) hit rest

-- a number is not among greater ones
not_among : (q : ℕ) (ks : List ℕ) → AllByRecursion (λ y. nat_cmp q y ≡ Less) ks
    → among q ks ≡ true → ⊥
not_among q [] all hit = cc
not_among q (x ∷ xs) all hit = by (is_at (nat_cmp q) x) refl hit (not_among q xs all.1)
  where
    by : (b : Bool) → is_at (nat_cmp q) x ≡ b → (b || among q xs) ≡ true
        → (among q xs ≡ true → ⊥) → ⊥
    by true is hit rest = let off : is_at (nat_cmp q) x ≡ false = ap is_eq all.0 in cc
    by false is hit rest = rest hit

-- a number that is left is another one, and was among them
pub among_remove : (q n : ℕ) (ks : List ℕ) → IsStrictlySortedBy nat_cmp ks
    → among q (remove_key (is_at (nat_cmp n)) ks) ≡ true
    → (is_at (nat_cmp n) q ≡ false) × (among q ks ≡ true)
among_remove q n [] s hit = cc
among_remove q n (x ∷ xs) s hit =
    by (is_at (nat_cmp n) x) refl hit (among_remove q n xs (sorted_tail nat_cmp x xs s))
  where
    head : is_at (nat_cmp n) x ≡ true → among q xs ≡ true → is_at (nat_cmp n) q ≡ false
    head is hit = apart n q (λ same. not_among q xs
        (subst (λ k. AllByRecursion (λ y. nat_cmp k y ≡ Less) xs) (same_key n x is ∙ same)
        (sorted_head nat_cmp x xs s)) hit)

    later : among q xs ≡ true → (b : Bool) → (b || among q xs) ≡ true
    later hit true = refl
    later hit false = hit

    own : is_at (nat_cmp n) x ≡ false → is_at (nat_cmp q) x ≡ true → is_at (nat_cmp n) q ≡ false
    own is here = subst (λ k. is_at (nat_cmp n) k ≡ false) (same_key q x here) is

    inside : is_at (nat_cmp n) x ≡ false → (b : Bool) → is_at (nat_cmp q) x ≡ b
        → (b || among q (remove_key (is_at (nat_cmp n)) xs)) ≡ true
        → (among q (remove_key (is_at (nat_cmp n)) xs) ≡ true
        → (is_at (nat_cmp n) q ≡ false) × (among q xs ≡ true))
        → (is_at (nat_cmp n) q ≡ false) × ((b || among q xs) ≡ true)
    inside is true here hit rest = (own is here, refl)
    inside is false here hit rest = rest hit

    by : (b : Bool) → is_at (nat_cmp n) x ≡ b
        → among q (cond b xs (x ∷ remove_key (is_at (nat_cmp n)) xs)) ≡ true
        → (among q (remove_key (is_at (nat_cmp n)) xs) ≡ true
        → (is_at (nat_cmp n) q ≡ false) × (among q xs ≡ true))
        → (is_at (nat_cmp n) q ≡ false) × (among q (x ∷ xs) ≡ true)
    by true is hit rest = (head is hit, later hit (is_at (nat_cmp q) x))
    by false is hit rest = inside is (is_at (nat_cmp q) x) refl hit rest

-- the order stays

all_left : (P : ℕ → Type 0) (test : ℕ → Bool) (ks : List ℕ) → AllByRecursion P ks
    → AllByRecursion P (remove_key test ks)
all_left P test [] a = tt
all_left P test (x ∷ xs) a = by (test x) (all_left P test xs a.1)
  where
    by : (b : Bool) → AllByRecursion P (remove_key test xs)
        → AllByRecursion P (cond b xs (x ∷ remove_key test xs))
    by true rest = a.1
    by false rest = (a.0, rest)

pub ordered_remove : (test : ℕ → Bool) (ks : List ℕ) → IsStrictlySortedBy nat_cmp ks
    → IsStrictlySortedBy nat_cmp (remove_key test ks)
unfolding IsStrictlySortedBy
ordered_remove test [] s = tt
ordered_remove test (x ∷ xs) s = by (test x) (ordered_remove test xs s.1)
  where
    by : (b : Bool) → IsStrictlySortedBy nat_cmp (remove_key test xs)
        → IsStrictlySortedBy nat_cmp (cond b xs (x ∷ remove_key test xs))
    by true rest = s.1
    by false rest = (all_left (λ y. nat_cmp x y ≡ Less) test xs s.0, rest)

all_with : (P : ℕ → Type 0) (ks : List ℕ) (n : ℕ) → P n → AllByRecursion P ks
    → AllByRecursion P (insert_key nat_cmp ks n)
all_with P [] n h a = (h, tt)
all_with P (x ∷ xs) n h a = by (nat_cmp n x) (all_with P xs n h a.1)
  where
    by : (r : Ordering) → AllByRecursion P (insert_key nat_cmp xs n)
        → AllByRecursion P
        (match_ordering r (n ∷ x ∷ xs) (x ∷ xs) (x ∷ insert_key nat_cmp xs n))
    by Less rest = (h, a)
    by Equal rest = a
    by Greater rest = (a.0, rest)

all_below : (j k : ℕ) (ks : List ℕ) → j < k → AllByRecursion (λ y. nat_cmp k y ≡ Less) ks
    → AllByRecursion (λ y. nat_cmp j y ≡ Less) ks
all_below j k [] h a = tt
all_below j k (x ∷ xs) h a =
    let next : k < x = ranked k x Less (sym a.0) in
    (sym (nat_cmp_is j x Less (omega arith)), all_below j k xs h a.1)

pub ordered_insert : (ks : List ℕ) (n : ℕ) → IsStrictlySortedBy nat_cmp ks
    → IsStrictlySortedBy nat_cmp (insert_key nat_cmp ks n)
unfolding IsStrictlySortedBy
ordered_insert [] n s = (tt, tt)
ordered_insert (x ∷ xs) n s = by (nat_cmp n x) refl (ordered_insert xs n s.1)
  where
    by : (r : Ordering) → nat_cmp n x ≡ r → IsStrictlySortedBy nat_cmp (insert_key nat_cmp xs n)
        → IsStrictlySortedBy nat_cmp
        (match_ordering r (n ∷ x ∷ xs) (x ∷ xs) (x ∷ insert_key nat_cmp xs n))
    by Less is rest = ((is, all_below n x xs (ranked n x Less (sym is)) s.0), s)
    by Equal is rest = s
    by Greater is rest = (
      all_with (λ y. nat_cmp x y ≡ Less) xs n
          (sym (nat_cmp_is x n Less (ranked n x Greater (sym is)))) s.0,
      rest,
    )

pub no_keys : IsStrictlySortedBy nat_cmp []
unfolding IsStrictlySortedBy
no_keys = tt
