-- The ids below a link are in its part, and they ascend.
use Rattle.std.proofs.Common.{ℕ, ◌≡◌, ◌+◌, ◌-◌, ◌*◌, ◌/◌, ◌^◌, ◌<◌, arith, List, [], ◌∷◌}
use Rattle.std.proofs.Common.{◌++◌, ap, ap₂, sym, subst, refl, ◌∙◌, ⊎_elim}
use Rattle.std.specs.List.{AllByRecursion}
use Rattle.std.specs.List.Sorted.{IsStrictlySortedBy}
use Rattle.std.specs.Map.{keys_of}
use Rattle.std.proofs.Math.Pow.{shr_mono}
use Rattle.std.proofs.lemmas.Bool.{cases_lt}
use Rattle.std.proofs.lemmas.List.{map-append}
use Rattle.std.proofs.lemmas.Nat.{shr-shr}
use Rattle.stun_types.proofs.ReachedLemmas.{weaker}
use Rattle.stun_base.specs.declared.wire.transport.TransportType.{TransportType}
use Rattle.stun_agent.specs.declared.state.tree.Link.{Link}
use Rattle.stun_agent.specs.declared.state.tree.Link.TheVariants.{Empty, Leaf, Fork'}
use Rattle.stun_agent.specs.Deadlines.{most_levels}
use Rattle.stun_agent.specs.Transactions.{Transaction, Transactions, IsAscending}
use Rattle.stun_agent.specs.Transactions.{AreKept}
use Rattle.stun_agent.specs.Tables.{Attached}
use Rattle.stun_agent.specs.code.Tree.{items, attached, part_of, IsPlaced, IsOrdered, IsTree}
use Rattle.stun_agent.proofs.HalvesLemmas.{AreLater, AreApart, ascending-append}

-- ---- lists
pub all_append : {X : Type 0} (P : X → Type 0) (xs ys : List X) → AllByRecursion P xs
    → AllByRecursion P ys → AllByRecursion P (xs ++ ys)
all_append P [] ys a b = b
all_append P (x ∷ xs) ys a b = (a.0, all_append P xs ys a.1 b)

pub apart_append : (xs ys zs : Transactions) → AreApart xs ys → AreApart xs zs
    → AreApart xs (ys ++ zs)
apart_append [] ys zs a b = tt
apart_append (x ∷ xs) ys zs a b =
    (all_append _ ys zs a.0 b.0, apart_append xs ys zs a.1 b.1)

-- lists of the same keys, one after the other
alike : {X Y : Type 0} (xs : Attached X) (ys : Attached Y) (ps : Attached X) (qs : Attached Y)
    → keys_of xs ≡ keys_of ys → keys_of ps ≡ keys_of qs → keys_of (xs ++ ps) ≡ keys_of (ys ++ qs)
alike xs ys ps qs first rest =
    map-append _ xs ps ∙ ap₂ (λ k l. k ++ l) first rest ∙ sym (map-append _ ys qs)

-- ---- parts
-- a part with fewer levels is in one with more of them
pub quarter_in : (levels id : ℕ) → 0 < levels → part_of (levels - 1) id / 4 ≡ part_of levels id
quarter_in levels id some =
    shr-shr id (2 * (levels - 1)) 2 ∙ ap (λ k. id / 2 ^ k) (omega arith)

-- an id in a later part is greater
pub later_part : (levels id k : ℕ) → part_of levels id < part_of levels k → id < k
later_part levels id k less =
    ⊎_elim (λ is. is)
    (λ le. let most = shr_mono (2 * levels) le in omega (arith, less, most)) (cases_lt id k)

-- ---- all ids are in the part
abbrev pub AreInPart : {X : Type 0} → ℕ → ℕ → Attached X → Type 0
AreInPart {X} levels part es = AllByRecursion (λ (e : ℕ × X). part_of levels e.0 ≡ part) es

of_keys : {X : Type 0} (P : ℕ → Type 0) (es : Attached X) → AllByRecursion P (keys_of es)
    → AllByRecursion (λ (e : ℕ × X). P e.0) es
of_keys P [] h = tt
of_keys P (e ∷ es) h = (h.0, of_keys P es h.1)

to_keys : {X : Type 0} (P : ℕ → Type 0) (es : Attached X)
    → AllByRecursion (λ (e : ℕ × X). P e.0) es → AllByRecursion P (keys_of es)
to_keys P [] h = tt
to_keys P (e ∷ es) h = (h.0, to_keys P es h.1)

abbrev pub ArePlaced : ℕ → ℕ → Transactions → Type 0
ArePlaced levels part es = AllByRecursion (IsPlaced levels part) es

-- those in a quarter are in the part
wider : (levels part quarter : ℕ) → 0 < levels → quarter / 4 ≡ part → (es : Transactions)
    → ArePlaced (levels - 1) quarter es → ArePlaced levels part es
wider levels part quarter some is es h =
    weaker _ _ es
    (λ e at. record {
      inside = let up = quarter_in levels e.0 some in omega (arith, up, at.inside, is);
      named = at.named;
    }) h

module _ {A D : Type 0} where
  pub placed : (levels part : ℕ) (l : Link A D) → IsOrdered levels part l
      → ArePlaced levels part (items l)
  placed levels part Empty h = tt
  placed levels part (Leaf awaited leaf) h = (h, tt)
  placed levels part (Fork' awaited p a b c d) (deep, oa, ob, oc, od) =
      let some = deep.some in
      all_append _ (items a) (items b ++ (items c ++ items d))
      (wider levels part (4 * part) some (omega arith) (items a) (placed (levels - 1) _ a oa))
      (all_append _ (items b) (items c ++ items d)
      (wider levels part (4 * part + 1) some (omega arith) (items b) (placed (levels - 1) _ b ob))
      (all_append _ (items c) (items d)
      (wider levels part (4 * part + 2) some (omega arith) (items c) (placed (levels - 1) _ c oc))
      (wider levels part (4 * part + 3) some (omega arith) (items d) (placed (levels - 1) _ d od))))

  -- each request has a datum
  pub same_keys : (l : Link A D) → keys_of (attached l) ≡ keys_of (items l)
  same_keys Empty = refl
  same_keys (Leaf awaited leaf) = refl
  same_keys (Fork' awaited p a b c d) =
      alike (attached a) (items a) _ _ (same_keys a)
      (alike (attached b) (items b) _ _ (same_keys b)
      (alike (attached c) (items c) _ _ (same_keys c) (same_keys d)))

  -- ---- what that says of ids
  module _ (levels part : ℕ) (l : Link A D) (h : IsOrdered levels part l) where
    pub items_in_part : AreInPart levels part (items l)
    items_in_part = weaker _ _ (items l) (λ e at. at.inside) (placed levels part l h)

    pub attached_in_part : AreInPart levels part (attached l)
    attached_in_part =
        of_keys (λ k. part_of levels k ≡ part) (attached l)
        (subst (AllByRecursion (λ k. part_of levels k ≡ part)) (sym (same_keys l))
        (to_keys (λ k. part_of levels k ≡ part) (items l) items_in_part))

    are_later : (id : ℕ) → part_of levels id < part → AreLater id (items l)
    are_later id less =
        weaker _ _ (items l) (λ e at. later_part levels id e.0 (rw at.inside less))
        (placed levels part l h)

  -- links to parts of which the second is later
  pub are_apart : (levels m n : ℕ) (k l : Link A D) → m < n → IsOrdered levels m k
      → IsOrdered levels n l → AreApart (items k) (items l)
  are_apart levels m n k l less hk hl =
      weaker _ _ (items k) (λ e at. are_later levels n l hl e.0 (rw at.inside less))
      (placed levels m k hk)

  -- the parts of a fork
  module _ (levels part : ℕ) (a b c d : Link A D) (oa : IsOrdered levels (4 * part) a)
      (ob : IsOrdered levels (4 * part + 1) b) (oc : IsOrdered levels (4 * part + 2) c)
      (od : IsOrdered levels (4 * part + 3) d) where
    pub first_apart : AreApart (items a) (items b ++ (items c ++ items d))
    first_apart =
        apart_append (items a) (items b) (items c ++ items d)
        (are_apart levels _ _ a b (omega arith) oa ob)
        (apart_append (items a) (items c) (items d) (are_apart levels _ _ a c (omega arith) oa oc)
        (are_apart levels _ _ a d (omega arith) oa od))

    pub second_apart : AreApart (items b) (items c ++ items d)
    second_apart =
        apart_append (items b) (items c) (items d) (are_apart levels _ _ b c (omega arith) ob oc)
        (are_apart levels _ _ b d (omega arith) ob od)

    pub third_apart : AreApart (items c) (items d)
    third_apart = are_apart levels _ _ c d (omega arith) oc od

-- ---- the ids ascend
one_ascends : (e : ℕ × Transaction) → IsAscending (e ∷ [])
unfolding IsStrictlySortedBy
one_ascends e = (tt, tt)

none_ascends : IsAscending []
unfolding IsStrictlySortedBy
none_ascends = tt

module _ {A D : Type 0} where
  pub ascends : (levels part : ℕ) (l : Link A D) → IsOrdered levels part l → IsAscending (items l)
  ascends levels part Empty h = none_ascends
  ascends levels part (Leaf awaited leaf) h = one_ascends leaf.value.entry
  ascends levels part (Fork' awaited p a b c d) (deep, oa, ob, oc, od) =
      ascending-append (items a) (items b ++ (items c ++ items d))
      (first_apart (levels - 1) part a b c d oa ob oc od) (ascends (levels - 1) _ a oa)
      (ascending-append (items b) (items c ++ items d)
      (second_apart (levels - 1) part a b c d oa ob oc od) (ascends (levels - 1) _ b ob)
      (ascending-append (items c) (items d) (third_apart (levels - 1) part a b c d oa ob oc od)
      (ascends (levels - 1) _ c oc) (ascends (levels - 1) _ d od)))

  -- the whole tree
  pub kept : (transport : TransportType) (root : Link A D) → IsTree transport root
      → AreKept (items root)
  kept transport root tree =
      record {
        ascending = ascends most_levels 0 root tree.ordered;
        named = weaker _ _ (items root) (λ e at. at.named)
            (placed most_levels 0 root tree.ordered);
      }
