-- What is at an id, or is changed at one, of two lists of which one has the lesser ids.
use Rattle.std.proofs.Common.{ℕ, ◌≡◌, ◌<◌, Bool, true, false, cond, [], ◌∷◌, ◌++◌}
use Rattle.std.proofs.Common.{ap, sym, refl, ◌∙◌}
use Rattle.std.specs.Prelude.{Option, Some, None}
use Rattle.std.specs.Cmp.{nat_cmp_is}
use Rattle.std.specs.List.{AllByRecursion}
use Rattle.std.specs.List.Sorted.{IsStrictlySortedBy}
use Rattle.std.specs.Map.{keys_of}
use Rattle.std.specs.Ordering.{nat_cmp, is_eq, match_ordering}
use Rattle.std.specs.declared.cmp.Ordering.{Ordering}
use Rattle.std.specs.declared.cmp.Ordering.TheVariants.{Less, Equal, Greater}
use Rattle.std.specs.Option.{option_map_or}
use Rattle.std.specs.BTreeMap.{is_at}
use Rattle.stun_agent.specs.Tables.{Attached, datum_at, with_datum, without_datum, set_datum}
use Rattle.stun_agent.specs.Transactions.{Transaction, Transactions, IsAscending, with_change_at}

-- all ids are greater, or less
abbrev pub AreLater : {X : Type 0} → ℕ → Attached X → Type 0
AreLater {X} id es = AllByRecursion (λ (e : ℕ × X). id < e.0) es

abbrev pub AreSooner : {X : Type 0} → ℕ → Attached X → Type 0
AreSooner {X} id es = AllByRecursion (λ (e : ℕ × X). e.0 < id) es

-- those of the first list have lesser ids than those of the second
abbrev pub AreApart : Transactions → Transactions → Type 0
AreApart xs ys = AllByRecursion (λ (x : ℕ × Transaction). AreLater x.0 ys) xs

-- ---- a test of one id
later_apart : (id k : ℕ) → id < k → is_at (nat_cmp id) k ≡ false
later_apart id k less = sym (ap is_eq (nat_cmp_is id k Less less))

sooner_apart : (id k : ℕ) → k < id → is_at (nat_cmp id) k ≡ false
sooner_apart id k less = sym (ap is_eq (nat_cmp_is id k Greater less))

-- ---- nothing is there
pub none_later : {X : Type 0} (id : ℕ) (es : Attached X) → AreLater id es → datum_at id es ≡ None
none_later id [] h = refl
none_later id (e ∷ es) h =
    ap (λ b. cond b (Some e.1) (datum_at id es)) (later_apart id e.0 h.0) ∙ none_later id es h.1

module _ {X : Type 0} (id : ℕ) where
  -- ---- what is at an id
  pub at-left : (xs ys : Attached X) → AreLater id ys → datum_at id (xs ++ ys) ≡ datum_at id xs
  at-left [] ys h = none_later id ys h
  at-left (x ∷ xs) ys h = ap (cond (is_at (nat_cmp id) x.0) (Some x.1)) (at-left xs ys h)

  pub at-right : (xs ys : Attached X) → AreSooner id xs → datum_at id (xs ++ ys) ≡ datum_at id ys
  at-right [] ys h = refl
  at-right (x ∷ xs) ys h =
      ap (λ b. cond b (Some x.1) (datum_at id (xs ++ ys))) (sooner_apart id x.0 h.0)
      ∙ at-right xs ys h.1

  -- ---- one more
  with_first : (t : X) (ys : Attached X) → AreLater id ys
      → with_datum id t ys ≡ (id, t) ∷ ys
  with_first t [] h = refl
  with_first t (y ∷ ys) h =
      ap (λ r. match_ordering r ((id, t) ∷ y ∷ ys) ((y.0, t) ∷ ys) (y ∷ with_datum id t ys))
      (sym (nat_cmp_is id y.0 Less h.0))

  pub with-left : (t : X) (xs ys : Attached X) → AreLater id ys
      → with_datum id t (xs ++ ys) ≡ with_datum id t xs ++ ys
  with-left t [] ys h = with_first t ys h
  with-left t (x ∷ xs) ys h = by (nat_cmp id x.0) (with-left t xs ys h)
    where
      by : (r : Ordering) → with_datum id t (xs ++ ys) ≡ with_datum id t xs ++ ys
          → match_ordering r ((id, t) ∷ x ∷ xs ++ ys) ((x.0, t) ∷ xs ++ ys)
          (x ∷ with_datum id t (xs ++ ys))
          ≡ match_ordering r ((id, t) ∷ x ∷ xs) ((x.0, t) ∷ xs) (x ∷ with_datum id t xs) ++ ys
      by Less rest = refl
      by Equal rest = refl
      by Greater rest = ap (λ es. x ∷ es) rest

  pub with-right : (t : X) (xs ys : Attached X) → AreSooner id xs
      → with_datum id t (xs ++ ys) ≡ xs ++ with_datum id t ys
  with-right t [] ys h = refl
  with-right t (x ∷ xs) ys h =
      ap (λ r. match_ordering r ((id, t) ∷ x ∷ xs ++ ys) ((x.0, t) ∷ xs ++ ys)
      (x ∷ with_datum id t (xs ++ ys))) (sym (nat_cmp_is id x.0 Greater h.0))
      ∙ ap (λ es. x ∷ es) (with-right t xs ys h.1)

  -- ---- one less
  pub without_later : (ys : Attached X) → AreLater id ys → without_datum id ys ≡ ys
  without_later [] h = refl
  without_later (y ∷ ys) h =
      ap (λ b. cond b ys (y ∷ without_datum id ys)) (later_apart id y.0 h.0)
      ∙ ap (λ es. y ∷ es) (without_later ys h.1)

  pub without-left : (xs ys : Attached X) → AreLater id ys
      → without_datum id (xs ++ ys) ≡ without_datum id xs ++ ys
  without-left [] ys h = without_later ys h
  without-left (x ∷ xs) ys h = by (is_at (nat_cmp id) x.0) (without-left xs ys h)
    where
      by : (b : Bool) → without_datum id (xs ++ ys) ≡ without_datum id xs ++ ys
          → cond b (xs ++ ys) (x ∷ without_datum id (xs ++ ys))
          ≡ cond b xs (x ∷ without_datum id xs) ++ ys
      by true rest = refl
      by false rest = ap (λ es. x ∷ es) rest

  pub without-right : (xs ys : Attached X) → AreSooner id xs
      → without_datum id (xs ++ ys) ≡ xs ++ without_datum id ys
  without-right [] ys h = refl
  without-right (x ∷ xs) ys h =
      ap (λ b. cond b (xs ++ ys) (x ∷ without_datum id (xs ++ ys))) (sooner_apart id x.0 h.0)
      ∙ ap (λ es. x ∷ es) (without-right xs ys h.1)

  -- ---- a change
  set_later : (w : X) (ys : Attached X) → AreLater id ys → set_datum id w ys ≡ ys
  set_later w [] h = refl
  set_later w (y ∷ ys) h =
      ap (λ b. cond b ((y.0, w) ∷ ys) (y ∷ set_datum id w ys)) (later_apart id y.0 h.0)
      ∙ ap (λ es. y ∷ es) (set_later w ys h.1)

  pub set-left : (w : X) (xs ys : Attached X) → AreLater id ys
      → set_datum id w (xs ++ ys) ≡ set_datum id w xs ++ ys
  set-left w [] ys h = set_later w ys h
  set-left w (x ∷ xs) ys h = by (is_at (nat_cmp id) x.0) (set-left w xs ys h)
    where
      by : (b : Bool) → set_datum id w (xs ++ ys) ≡ set_datum id w xs ++ ys
          → cond b ((x.0, w) ∷ xs ++ ys) (x ∷ set_datum id w (xs ++ ys))
          ≡ cond b ((x.0, w) ∷ xs) (x ∷ set_datum id w xs) ++ ys
      by true rest = refl
      by false rest = ap (λ es. x ∷ es) rest

  pub set-right : (w : X) (xs ys : Attached X) → AreSooner id xs
      → set_datum id w (xs ++ ys) ≡ xs ++ set_datum id w ys
  set-right w [] ys h = refl
  set-right w (x ∷ xs) ys h =
      ap (λ b. cond b ((x.0, w) ∷ xs ++ ys) (x ∷ set_datum id w (xs ++ ys)))
      (sooner_apart id x.0 h.0)
      ∙ ap (λ es. x ∷ es) (set-right w xs ys h.1)

module _ (id : ℕ) (f : Transaction → Transaction) where
  abbrev changed : Option Transaction → Transactions → Transactions
  changed found es = option_map_or (λ t. set_datum id (f t) es) found es

  pub change-left : (xs ys : Transactions) → AreLater id ys
      → with_change_at f id (xs ++ ys) ≡ with_change_at f id xs ++ ys
  change-left xs ys h =
      ap (λ o. changed o (xs ++ ys)) (at-left id xs ys h) ∙ by (datum_at id xs)
    where
      by : (o : Option Transaction) → changed o (xs ++ ys) ≡ changed o xs ++ ys
      by None = refl
      by (Some t) = set-left id (f t) xs ys h

  pub change-right : (xs ys : Transactions) → AreSooner id xs
      → with_change_at f id (xs ++ ys) ≡ xs ++ with_change_at f id ys
  change-right xs ys h =
      ap (λ o. changed o (xs ++ ys)) (at-right id xs ys h) ∙ by (datum_at id ys)
    where
      by : (o : Option Transaction) → changed o (xs ++ ys) ≡ xs ++ changed o ys
      by None = refl
      by (Some t) = set-right id (f t) xs ys h

-- ---- the ids ascend
head_less : (k : ℕ) (ys : Transactions) → AreLater k ys
    → AllByRecursion (λ y. nat_cmp k y ≡ Less) (keys_of ys)
head_less k [] later = tt
head_less k (y ∷ ys) later = (sym (nat_cmp_is k y.0 Less later.0), head_less k ys later.1)

keys_both : (k : ℕ) (xs ys : Transactions)
    → AllByRecursion (λ y. nat_cmp k y ≡ Less) (keys_of xs)
    → AllByRecursion (λ y. nat_cmp k y ≡ Less) (keys_of ys)
    → AllByRecursion (λ y. nat_cmp k y ≡ Less) (keys_of (xs ++ ys))
keys_both k [] ys a b = b
keys_both k (x ∷ xs) ys a b = (a.0, keys_both k xs ys a.1 b)

pub ascending-append : (xs ys : Transactions) → AreApart xs ys → IsAscending xs → IsAscending ys
    → IsAscending (xs ++ ys)
unfolding IsStrictlySortedBy
ascending-append [] ys apart sx sy = sy
ascending-append (x ∷ xs) ys apart sx sy =
    (keys_both x.0 xs ys sx.0 (head_less x.0 ys apart.0), ascending-append xs ys apart.1 sx.1 sy)
