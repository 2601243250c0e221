-- How often a number is among the numbers of the requests whose bytes were not handed out.
use Rattle.std.proofs.Common.{◌≡◌, ◌∙◌, ◌+◌, ◌∷◌, [], ℕ, Bool, true, false, List, Some, None, ap}
use Rattle.std.proofs.Common.{arith, cond, refl, subst, sym}
use Rattle.std.specs.BTreeMap.{is_at}
use Rattle.std.specs.BTreeSet.{insert_key}
use Rattle.std.specs.Cmp.{ranked}
use Rattle.std.specs.List.{list_any}
use Rattle.std.specs.Ordering.{match_ordering, nat_cmp}
use Rattle.std.specs.Prelude.{◌==◌, ◌||◌}
use Rattle.std.specs.Set.{remove_key}
use Rattle.std.specs.declared.cmp.Ordering.{Ordering}
use Rattle.std.specs.declared.cmp.Ordering.TheVariants.{Less, Equal, Greater}
use Rattle.std.proofs.lemmas.Bool.{eq-eqb, ne_eqb}
use Rattle.stun_client_requests.specs.Numbers.{first_in, others_in}
use Rattle.stun_client_requests.proofs.NumberLemmas.{own_key, same_key}

abbrev pub one_if : Bool → ℕ
one_if b = cond b 1 0

abbrev pub times : ℕ → List ℕ → ℕ
times n [] = 0
times n (x ∷ xs) = one_if (x == n) + times n xs

-- ---- the first one

pub times_none : (n : ℕ) (xs : List ℕ) → first_in xs ≡ None → times n xs ≡ 0
times_none n [] none = refl
times_none n (x ∷ xs) none = cc

pub times_first : (n m : ℕ) (xs : List ℕ) → first_in xs ≡ Some m
    → times n xs ≡ one_if (m == n) + times n (others_in xs)
times_first n m [] first = cc
times_first n m (x ∷ xs) first = ap (λ k. one_if (k == n) + times n xs) (some_is x m first)
  where
    some_is : (x m : ℕ) → Some x ≡ Some m → x ≡ m
    some_is x m e = cc

-- ---- changes

pub times_insert_other : (n k : ℕ) (xs : List ℕ) → (k ≡ n → ⊥)
    → times n (insert_key nat_cmp xs k) ≡ times n xs
times_insert_other n k [] differ =
    let off : one_if (k == n) ≡ 0 = ap one_if (ne_eqb k n differ) in omega (arith, off)
times_insert_other n k (x ∷ xs) differ = by (nat_cmp k x) (times_insert_other n k xs differ)
  where
    by : (o : Ordering) → times n (insert_key nat_cmp xs k) ≡ times n xs
        → times n (match_ordering o (k ∷ x ∷ xs) (x ∷ xs) (x ∷ insert_key nat_cmp xs k))
        ≡ times n (x ∷ xs)
    by Less rest =
        let off : one_if (k == n) ≡ 0 = ap one_if (ne_eqb k n differ) in omega (arith, off)
    by Equal rest = refl
    by Greater rest = ap (λ t. one_if (x == n) + t) rest

pub times_insert_own : (n : ℕ) (xs : List ℕ) → times n xs ≡ 0
    → times n (insert_key nat_cmp xs n) ≡ 1
times_insert_own n [] none =
    let one : one_if (n == n) ≡ 1 = ap one_if (eq-eqb n n refl) in omega (arith, one)
times_insert_own n (x ∷ xs) none = by (nat_cmp n x) refl (times_insert_own n xs fewer)
  where
    fewer : times n xs ≡ 0
    fewer = omega (arith, none)

    first : one_if (x == n) ≡ 0
    first = omega (arith, none)

    by : (o : Ordering) → nat_cmp n x ≡ o → times n (insert_key nat_cmp xs n) ≡ 1
        → times n (match_ordering o (n ∷ x ∷ xs) (x ∷ xs) (x ∷ insert_key nat_cmp xs n)) ≡ 1
    by Less is rest =
        let one : one_if (n == n) ≡ 1 = ap one_if (eq-eqb n n refl) in omega (arith, one, none)
    by Equal is rest =
        let same : x ≡ n = sym (ranked n x Equal (sym is)) in
        let one : one_if (x == n) ≡ 1 = ap one_if (eq-eqb x n same) in
        absurd (omega (arith, one, first))
    by Greater is rest = omega (arith, rest, first)

pub times_remove_other : (n k : ℕ) (xs : List ℕ) → (k ≡ n → ⊥)
    → times n (remove_key (is_at (nat_cmp k)) xs) ≡ times n xs
times_remove_other n k [] differ = refl
times_remove_other n k (x ∷ xs) differ =
    by (is_at (nat_cmp k) x) refl (times_remove_other n k xs differ)
  where
    by : (b : Bool) → is_at (nat_cmp k) x ≡ b
        → times n (remove_key (is_at (nat_cmp k)) xs) ≡ times n xs
        → times n (cond b xs (x ∷ remove_key (is_at (nat_cmp k)) xs)) ≡ times n (x ∷ xs)
    by true is rest =
        let same : x ≡ k = same_key k x is in
        let off : one_if (x == n) ≡ 0 = ap one_if (ne_eqb x n (λ e. differ (sym same ∙ e))) in
        omega (arith, off)
    by false is rest = ap (λ t. one_if (x == n) + t) rest

pub times_remove_none : (n : ℕ) (test : ℕ → Bool) (xs : List ℕ) → times n xs ≡ 0
    → times n (remove_key test xs) ≡ 0
times_remove_none n test [] none = refl
times_remove_none n test (x ∷ xs) none = by (test x) (times_remove_none n test xs fewer)
  where
    fewer : times n xs ≡ 0
    fewer = omega (arith, none)

    first : one_if (x == n) ≡ 0
    first = omega (arith, none)

    by : (b : Bool) → times n (remove_key test xs) ≡ 0
        → times n (cond b xs (x ∷ remove_key test xs)) ≡ 0
    by true rest = fewer
    by false rest = omega (arith, rest, first)

-- a number that is not among them
pub times_absent : (n : ℕ) (xs : List ℕ) → list_any (is_at (nat_cmp n)) xs ≡ false
    → times n xs ≡ 0
times_absent n [] none = refl
times_absent n (x ∷ xs) none = by (is_at (nat_cmp n) x) refl none (times_absent n xs)
  where
    by : (b : Bool) → is_at (nat_cmp n) x ≡ b
        → (b || list_any (is_at (nat_cmp n)) xs) ≡ false
        → (list_any (is_at (nat_cmp n)) xs ≡ false → times n xs ≡ 0)
        → one_if (x == n) + times n xs ≡ 0
    by true is none rest = cc
    by false is none rest =
        let few = rest none in
        let off : one_if (x == n) ≡ 0 = ap one_if (ne_eqb x n differ) in
        omega (arith, few, off)
      where
        differ : x ≡ n → ⊥
        differ same =
            let own : is_at (nat_cmp n) x ≡ true =
            subst (λ y. is_at (nat_cmp n) y ≡ true) (sym same) (own_key n) in
            cc
