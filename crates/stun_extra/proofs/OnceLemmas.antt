-- Numbers that pass a test, each told once: those that are left, as one after the other is told.
use Rattle.std.proofs.Common.{◌≡◌, ℕ, suc, Bool, true, false, cond, List}
use Rattle.std.proofs.Common.{[], ◌∷◌, length, refl, sym, ◌∙◌, ap, arith}
use Rattle.std.specs.Prelude.{filter, not, ◌==◌, ◌&&◌, ◌||◌}
use Rattle.std.specs.List.{list_any}
use Rattle.std.proofs.lemmas.Bool.Decides.{nat_tests}
use Rattle.stun_extra.specs.Unknown.{without_repeats}
use Rattle.stun_extra.proofs.Crc32Lemmas.{equal}

-- two tests, one after the other, as one
filter-twice : (one other both : ℕ → Bool) (xs : List ℕ) → ((x : ℕ) → (other x && one x) ≡ both x)
    → filter one (filter other xs) ≡ filter both xs
filter-twice one other both [] agree = refl
filter-twice one other both (x ∷ xs) agree =
    let rest = filter-twice one other both xs agree in
    let by : (o : Bool) → filter one (cond o (x ∷ filter other xs) (filter other xs))
    ≡ cond (o && one x) (x ∷ filter both xs) (filter both xs) =
    λ o. elim
    o as (λ o. filter one (cond o (x ∷ filter other xs) (filter other xs))
    ≡ cond (o && one x) (x ∷ filter both xs) (filter both xs)) [
      | true ↦ λ i. cond (one x) (x ∷ rest i) (rest i)
      | false ↦ rest
    ] in
    by (other x) ∙ ap (λ b. cond b (x ∷ filter both xs) (filter both xs)) (agree x)

-- those that pass a test and are not told
abbrev pub untold : (ℕ → Bool) → (ℕ → Bool) → List ℕ → List ℕ
untold test told xs = filter (λ x. not (told x)) (without_repeats (filter test xs))

both_true : (a b : Bool) → (a && b) ≡ true → (a ≡ true) × (b ≡ true)
both_true true b both = (refl, both)
both_true false b both = cc

-- what is told already is left out
absorbed : (told : ℕ → Bool) (k x : ℕ) → told k ≡ true
    → (not (x == k) && not (told x)) ≡ not (told x)
absorbed told k x is_told = by (x == k) refl
  where
    by : (same : Bool) → (x == k) ≡ same → (not same && not (told x)) ≡ not (told x)
    by true same = let again : told x ≡ true = ap told (equal x k same) ∙ is_told in
        sym (ap not again)
    by false same = refl

-- one more is told
narrowed : (a b : Bool) → (not b && not a) ≡ not (a || b)
narrowed true true = refl
narrowed true false = refl
narrowed false true = refl
narrowed false false = refl

not_false : (b : Bool) → not b ≡ false → b ≡ true
not_false true is = refl
not_false false is = cc

-- a number that does not pass, or is told, is passed over
pub untold-skipped : (test told : ℕ → Bool) (k : ℕ) (ks : List ℕ) → (test k && not (told k)) ≡ false
    → untold test told (k ∷ ks) ≡ untold test told ks
untold-skipped test told k ks skipped = by (test k) skipped
  where
    others : List ℕ
    others = without_repeats (filter test ks)

    by : (passes : Bool) → (passes && not (told k)) ≡ false
        → filter (λ x. not (told x))
        (without_repeats (cond passes (k ∷ filter test ks) (filter test ks)))
        ≡ filter (λ x. not (told x)) others
    by false skip = refl
    by true skip =
        let is_told : told k ≡ true = not_false (told k) skip in
        let here : not (told k) ≡ false = skip in
        ap (λ b. cond b (k ∷ filter (λ x. not (told x)) (filter (λ y. not (y == k)) others))
        (filter (λ x. not (told x)) (filter (λ y. not (y == k)) others))) here
        ∙ filter-twice (λ x. not (told x)) (λ y. not (y == k)) (λ x. not (told x)) others
        (λ x. absorbed told k x is_told)

-- a number that passes and is not told comes next, and is told then
pub untold-told : (test told next : ℕ → Bool) (k : ℕ) (ks : List ℕ)
    → (test k && not (told k)) ≡ true
    → ((x : ℕ) → next x ≡ (told x || (x == k)))
    → untold test told (k ∷ ks) ≡ k ∷ untold test next ks
untold-told test told next k ks shown more =
    let parts = both_true (test k) (not (told k)) shown in
    let others = without_repeats (filter test ks) in
    ap (λ b. filter (λ x. not (told x))
    (without_repeats (cond b (k ∷ filter test ks) (filter test ks))))
    parts.0
    ∙ (ap (λ b. cond b (k ∷ filter (λ x. not (told x)) (filter (λ y. not (y == k)) others))
    (filter (λ x. not (told x)) (filter (λ y. not (y == k)) others))) parts.1
    ∙ ap (λ xs. k ∷ xs)
    (filter-twice (λ x. not (told x)) (λ y. not (y == k)) (λ x. not (next x)) others
    (λ x. narrowed (told x) (x == k) ∙ sym (ap not (more x)))))

-- where none is told all are left
pub untold-none : (test told : ℕ → Bool) (ks : List ℕ) → ((x : ℕ) → told x ≡ false)
    → untold test told ks ≡ without_repeats (filter test ks)
untold-none test told ks none = all (without_repeats (filter test ks))
  where
    all : (xs : List ℕ) → filter (λ x. not (told x)) xs ≡ xs
    all [] = refl
    all (x ∷ xs) =
        let here : not (told x) ≡ true = ap not (none x) in
        let rest = all xs in
        λ i. cond (here i) (x ∷ rest i) (rest i)

-- a number is once in such a list where it is in the list at all, or else not at all
pub without_repeats-count : (x : ℕ) (xs : List ℕ)
    → length (filter (λ y. y == x) (without_repeats xs)) ≡ cond (list_any (λ y. y == x) xs) 1 0
without_repeats-count x [] = refl
without_repeats-count x (k ∷ ks) = by (without_repeats-count x ks) (k == x) refl
  where
    others : List ℕ
    others = without_repeats ks

    none : (k ≡ x) → (y : ℕ) → (not (y == k) && (y == x)) ≡ false
    none same y =
        ap (λ n. not (y == n) && (y == x)) same
        ∙ elim (y == x) as (λ b. (not b && b) ≡ false) [ true ↦ refl | false ↦ refl ]

    empty : (ys : List ℕ) → filter (λ _. false) ys ≡ []
    empty [] = refl
    empty (y ∷ ys) = empty ys

    kept : (k == x) ≡ false → (y : ℕ) → (not (y == k) && (y == x)) ≡ (y == x)
    kept other y = differs (y == x) refl
      where
        differs : (same : Bool) → (y == x) ≡ same → (not (y == k) && same) ≡ same
        differs true same =
            let moved : (y == k) ≡ false = grind (arith, nat_tests) in ap (λ b. not b && true) moved
        differs false same =
            elim (not (y == k)) as (λ b. (b && false) ≡ false) [ true ↦ refl | false ↦ refl ]

    by : length (filter (λ y. y == x) others) ≡ cond (list_any (λ y. y == x) ks) 1 0 → (same : Bool)
        → (k == x) ≡ same
        → length
        (cond same (k ∷ filter (λ y. y == x) (filter (λ y. not (y == k)) others))
        (filter (λ y. y == x) (filter (λ y. not (y == k)) others)))
        ≡ cond (same || list_any (λ y. y == x) ks) 1 0
    by few true same =
        ap (λ ys. suc (length ys))
        (filter-twice (λ y. y == x) (λ y. not (y == k)) (λ _. false) others (none (equal k x same))
        ∙ empty others)
    by few false other =
        ap length
        (filter-twice (λ y. y == x) (λ y. not (y == k)) (λ y. y == x) others (kept other)) ∙ few
