-- What the calls of the tree set are to the names of an index.
use Rattle.std.proofs.Common.{◌≡◌, ℕ, List, [], ◌∷◌, map, Bool, true, false, not, ◌&&◌, ◌||◌, refl}
use Rattle.std.proofs.Common.{sym, ◌∙◌, ap, subst, true≢false, Some, None, String, string_bytes}
use Rattle.std.specs.Prelude.{cond}
use Rattle.std.specs.declared.cmp.Ordering.{Ordering}
use Rattle.std.specs.declared.cmp.Ordering.TheVariants.{Less, Equal, Greater}
use Rattle.std.specs.declared.ops.Bound.TheVariants.{Included, Unbounded}
use Rattle.std.specs.Ordering.{eq_by_cmp, is_eq, is_gt, nat_cmp, ordering_reverse, ordering_then}
use Rattle.std.specs.Cmp.{Equal-is, IsTotalOrder, alike_right, on_total, then_total, tied_itself}
use Rattle.std.specs.Cmp.Lexicographic.{nat_list_cmp_total, slice_cmp}
use Rattle.std.specs.FinSet as set
use Rattle.std.specs.FinSet.{IsAntisymmetric, contains-from_list}
use Rattle.std.specs.FinSet.{contains-insert, contains-remove, same_set}
use Rattle.std.specs.List.{list_any}
use Rattle.std.specs.BTreeMap.{is_at}
use Rattle.std.specs.BTreeMap.Range.{IsLeBy}
use Rattle.std.specs.BTreeSet.{BTreeSet, IsKeyRangeOf, UpdatesBy, contains}
use Rattle.std.specs.Set.{KeepsOthers}
use Rattle.std.proofs.Math.Bool.{or-true}
use Rattle.std.proofs.lemmas.Map.Lookups.{exact_bytes, exact_pairs}
use Rattle.stun_judging.specs.Registered.{name_cmp}
use Rattle.stun_judging.specs.code.NameIndex.{IsLeastNamed, hashed_cmp, hashed_seen, names_hashed}

pub hashed_total : IsTotalOrder hashed_cmp
hashed_total =
    then_total (on_total (λ (x : List ℕ × List ℕ). x.0) nat_list_cmp_total)
    (on_total (λ (x : List ℕ × List ℕ). x.1) nat_list_cmp_total)

pub hashed_exact : IsAntisymmetric hashed_cmp
hashed_exact = exact_pairs name_cmp name_cmp exact_bytes exact_bytes

-- the order in which pairs are kept
abbrev pub pair_cmp : {A : Type 0} → List ℕ × String A → List ℕ × String A → Ordering
pair_cmp x y = hashed_cmp (hashed_seen x) (hashed_seen y)

-- a test of what is seen of the pairs
any-seen : {A : Type 0} (test : List ℕ × List ℕ → Bool) (pairs : List (List ℕ × String A))
    → list_any test (map hashed_seen pairs) ≡ list_any (λ p. test (hashed_seen p)) pairs
any-seen test [] = refl
any-seen test (p ∷ pairs) = ap (λ b. test (hashed_seen p) || b) (any-seen test pairs)

-- whether a pair is there
has : {A : Type 0} → List (List ℕ × String A) → List ℕ × List ℕ → Bool
has pairs q = list_any (λ p. eq_by_cmp hashed_cmp q (hashed_seen p)) pairs

contains-has : {A : Type 0} (pairs : List (List ℕ × String A)) (q : List ℕ × List ℕ)
    → set.contains (names_hashed pairs) q ≡ has pairs q
unfolding has
contains-has pairs q =
    contains-from_list hashed_total (map hashed_seen pairs) q
    ∙ any-seen (eq_by_cmp hashed_cmp q) pairs

-- after a change at a pair the others are there as before
has-changed : {A : Type 0} (old new : BTreeSet (List ℕ × String A)) (k : List ℕ × String A)
    (b : Bool) → UpdatesBy pair_cmp (pair_cmp k) old new b
    → (q : List ℕ × List ℕ)
    → has new.keys q ≡ cond (eq_by_cmp hashed_cmp q (hashed_seen k)) b (has old.keys q)
unfolding has KeepsOthers
has-changed {A = A} old new k b updates q =
    elim (eq_by_cmp hashed_cmp q (hashed_seen k)) as (λ t. eq_by_cmp hashed_cmp q (hashed_seen k)
    ≡ t → has new.keys q ≡ cond t b (has old.keys q)) [
      | true ↦ λ same.
          let tied : hashed_cmp q (hashed_seen k) ≡ Equal =
          (Equal-is (hashed_cmp q (hashed_seen k))).0 same in
          (λ i. list_any
          (λ (p : List ℕ × String A). is_eq
          (hashed_total.congr q (hashed_seen k) (hashed_seen p) tied i)) new.keys) ∙ updates.1
      | false ↦ λ other. updates.3 (λ p. eq_by_cmp hashed_cmp q (hashed_seen p))
          (λ x y is.
          ap is_eq
          (hashed_total.congr q (hashed_seen x) (hashed_seen y)
          ((Equal-is (hashed_cmp q (hashed_seen x))).0 is)))
          (λ y at_k.
          sym (ap is_eq
          (alike_right hashed_total (hashed_seen k) (hashed_seen y) q
          ((Equal-is (pair_cmp k y)).0 at_k))) ∙ other)
    ] refl

added : (t h : Bool) → cond t true h ≡ (t || h)
added true h = refl
added false h = refl

pub names_hashed-inserted : {A : Type 0} (old new : BTreeSet (List ℕ × String A))
    (k : List ℕ × String A) → UpdatesBy pair_cmp (pair_cmp k) old new true
    → names_hashed new.keys ≡ set.insert (names_hashed old.keys) (hashed_seen k)
names_hashed-inserted old new k updates = same_set hashed_total hashed_exact _ _ (λ q.
    contains-has new.keys q ∙ has-changed old new k true updates q
    ∙ added (eq_by_cmp hashed_cmp q (hashed_seen k)) (has old.keys q)
    ∙ sym (contains-insert hashed_total (names_hashed old.keys) (hashed_seen k) q
    ∙ ap (λ b. eq_by_cmp hashed_cmp q (hashed_seen k) || b) (contains-has old.keys q)))

taken : (t h : Bool) → cond t false h ≡ (not t && h)
taken true h = refl
taken false h = refl

pub names_hashed-removed : {A : Type 0} (old new : BTreeSet (List ℕ × String A))
    (k : List ℕ × String A) → UpdatesBy pair_cmp (pair_cmp k) old new false
    → names_hashed new.keys ≡ set.remove (names_hashed old.keys) (hashed_seen k)
names_hashed-removed old new k updates = same_set hashed_total hashed_exact _ _ (λ q.
    contains-has new.keys q ∙ has-changed old new k false updates q
    ∙ taken (eq_by_cmp hashed_cmp q (hashed_seen k)) (has old.keys q)
    ∙ sym (contains-remove hashed_total (names_hashed old.keys) (hashed_seen k) q
    ∙ ap (λ b. not (eq_by_cmp hashed_cmp q (hashed_seen k)) && b) (contains-has old.keys q)))

-- ---- the least name of a hash

-- a pair that is seen to be there is kept
record IsKept {A : Type 0} (pairs : List (List ℕ × String A)) (q : List ℕ × List ℕ) : Type 0 where
  pub pair : List ℕ × String A
  pub seen_is : q ≡ hashed_seen pair
  pub there : list_any (is_at (pair_cmp pair)) pairs ≡ true

kept : {A : Type 0} (pairs : List (List ℕ × String A)) (q : List ℕ × List ℕ) → has pairs q ≡ true
    → IsKept pairs q
unfolding has
kept [] q there = absurd (true≢false (sym there))
kept {A = A} (p ∷ pairs) q there =
    elim (eq_by_cmp hashed_cmp q (hashed_seen p)) as (λ t. eq_by_cmp hashed_cmp q (hashed_seen p)
    ≡ t → (t || list_any (λ p. eq_by_cmp hashed_cmp q (hashed_seen p)) pairs) ≡ true
    → IsKept (p ∷ pairs) q) [
      | true ↦ λ same _. record {
        pair = p;
        seen_is = hashed_exact q (hashed_seen p) ((Equal-is (hashed_cmp q (hashed_seen p))).0 same);
        there = ap (λ r. is_eq r || list_any (is_at (pair_cmp p)) pairs)
            (tied_itself hashed_total (hashed_seen p));
      }
      | false ↦ λ _ later.
          let rest = kept pairs q later in
          record {
            pair = rest.pair;
            seen_is = rest.seen_is;
            there = ap (λ b. is_at (pair_cmp rest.pair) p || b) rest.there
                ∙ or-true (is_at (pair_cmp rest.pair) p);
          }
    ] refl there

-- the other way round
seen_there : {A : Type 0} (s : BTreeSet (List ℕ × String A)) (k : List ℕ × String A)
    → contains pair_cmp s k ≡ true → set.contains (names_hashed s.keys) (hashed_seen k) ≡ true
unfolding has
seen_there s k there = contains-has s.keys (hashed_seen k) ∙ there

empty_first : (name : List ℕ) → is_gt (slice_cmp nat_cmp [] name) ≡ false
empty_first [] = refl
empty_first (x ∷ name) = refl

-- where two hashes are the same the names decide
by_name : (hash x y : List ℕ) → is_gt (hashed_cmp (hash, x) (hash, y)) ≡ is_gt (name_cmp x y)
by_name hash x y =
    ap (λ r. is_gt (ordering_then r (name_cmp x y))) (tied_itself nat_list_cmp_total hash)

-- where one pair is not above another its hash is not either
by_hash : (r s : Ordering) → is_gt (ordering_then r s) ≡ false → is_gt r ≡ false
by_hash Less s e = refl
by_hash Equal s e = refl
by_hash Greater s e = e

-- hashes that are not above each other are the same
level : (x y : List ℕ) → is_gt (name_cmp x y) ≡ false → is_gt (name_cmp y x) ≡ false → x ≡ y
level x y up down =
    exact_bytes x y
    (both (name_cmp x y) up (sym (ap is_gt (nat_list_cmp_total.antisymm y x)) ∙ down))
  where
    both : (r : Ordering) → is_gt r ≡ false → is_gt (ordering_reverse r) ≡ false → r ≡ Equal
    both Less a b = absurd (true≢false b)
    both Equal a b = refl
    both Greater a b = absurd (true≢false a)

module _ {A : Type 0} (s : BTreeSet (List ℕ × String A)) (from : List ℕ × String A) (hash : List ℕ)
    (hash_is : from.0 ≡ hash) (empty : string_bytes from.1 ≡ []) where
  -- each name of the hash is in the range
  in_range : (k : List ℕ × String A) → k.0 ≡ hash → IsLeBy pair_cmp from k
  in_range k same =
      (λ i. is_gt (hashed_cmp (hash_is i, empty i) (same i, string_bytes k.1)))
      ∙ by_name hash [] (string_bytes k.1) ∙ empty_first (string_bytes k.1)

  -- an empty range has no name of the hash
  pub none_named : (r : List (List ℕ × String A))
      → IsKeyRangeOf pair_cmp (Included from) Unbounded s r → r ≡ []
      → IsLeastNamed (names_hashed s.keys) hash None
  none_named r range none = λ name.
      contains-has s.keys (hash, name)
      ∙ (elim (has s.keys (hash, name)) as (λ b. has s.keys (hash, name) ≡ b → b ≡ false) [
        | true ↦ λ there.
            let k = kept s.keys (hash, name) there in
            absurd (true≢false
            (sym k.there
            ∙ range.5 none k.pair (
              in_range k.pair (sym (ap (λ (x : List ℕ × List ℕ). x.0) k.seen_is)),
              tt,
            )))
        | false ↦ λ _. refl
      ] refl)

  -- the first pair of a range has the least name of its hash
  pub first_named : (k : List ℕ × String A) (t r : List (List ℕ × String A))
      → IsKeyRangeOf pair_cmp (Included from) Unbounded s r → r ≡ k ∷ t → k.0 ≡ hash
      → IsLeastNamed (names_hashed s.keys) hash (Some (string_bytes k.1))
  first_named k t r range is same =
      let first = subst (IsKeyRangeOf pair_cmp (Included from) Unbounded s) is range in (
        ap (λ h. set.contains (names_hashed s.keys) (h, string_bytes k.1)) (sym same)
            ∙ seen_there s k first.1.1,
        λ name there.
            let other = kept s.keys (hash, name) (sym (contains-has s.keys (hash, name)) ∙ there) in
            let other_hash : other.pair.0 ≡ hash =
            sym (ap (λ (x : List ℕ × List ℕ). x.0) other.seen_is) in
            let other_name : string_bytes other.pair.1 ≡ name =
            sym (ap (λ (x : List ℕ × List ℕ). x.1) other.seen_is) in
            sym (by_name hash (string_bytes k.1) name)
            ∙ (λ i. is_gt
            (hashed_cmp (sym same i, string_bytes k.1) (sym other_hash i, sym other_name i)))
            ∙ first.2 other.pair (in_range other.pair other_hash, tt) other.there,
      )

  -- where that pair has another hash no name has this one
  pub passed_by : (k : List ℕ × String A) (t r : List (List ℕ × String A))
      → IsKeyRangeOf pair_cmp (Included from) Unbounded s r → r ≡ k ∷ t → ¬ (k.0 ≡ hash)
      → IsLeastNamed (names_hashed s.keys) hash None
  passed_by k t r range is other =
      let first = subst (IsKeyRangeOf pair_cmp (Included from) Unbounded s) is range in
      λ name.
      contains-has s.keys (hash, name)
      ∙ (elim (has s.keys (hash, name)) as (λ b. has s.keys (hash, name) ≡ b → b ≡ false) [
        | true ↦ λ there.
            let q = kept s.keys (hash, name) there in
            let q_hash : q.pair.0 ≡ hash = sym (ap (λ (x : List ℕ × List ℕ). x.0) q.seen_is) in
            let up : is_gt (name_cmp hash k.0) ≡ false =
            ap (λ h. is_gt (name_cmp h k.0)) (sym hash_is)
            ∙ by_hash (name_cmp from.0 k.0) (name_cmp (string_bytes from.1) (string_bytes k.1))
            first.1.0.0 in
            let down : is_gt (name_cmp k.0 hash) ≡ false =
            ap (λ h. is_gt (name_cmp k.0 h)) (sym q_hash)
            ∙ by_hash (name_cmp k.0 q.pair.0) (name_cmp (string_bytes k.1) (string_bytes q.pair.1))
            (first.2 q.pair (in_range q.pair q_hash, tt) q.there) in
            absurd (other (level k.0 hash down up))
        | false ↦ λ _. refl
      ] refl)
