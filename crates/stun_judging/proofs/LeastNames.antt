-- The index of the registered users, and whom it finds.
use Rattle.std.proofs.Common.{◌≡◌, ℕ, List, [], ◌∷◌, map, Bool, true, false, not, T, ◌&&◌}
use Rattle.std.proofs.Common.{◌||◌, refl, sym, ◌∙◌, ap, subst, true≢false, Option, Some, None}
use Rattle.std.specs.Prelude.{cond}
use Rattle.std.specs.declared.cmp.Ordering.{Ordering}
use Rattle.std.specs.declared.cmp.Ordering.TheVariants.{Less, Equal, Greater}
use Rattle.std.specs.Ordering.{eq_by_cmp, is_eq, is_gt, is_lt, ordering_reverse, ordering_then}
use Rattle.std.specs.Cmp.{Equal-is, IsTotalOrder, tied_itself}
use Rattle.std.specs.Cmp.Lexicographic.{nat_list_cmp_total, nat_list_eq_equiv}
use Rattle.std.specs.FinMap as fin
use Rattle.std.specs.FinMap.{IsAntisymmetric, contains_key-keys}
use Rattle.std.specs.FinMap.{entries_sorted, get-insert, get-remove, is_sorted}
use Rattle.std.specs.FinMap.Entries.{below_all}
use Rattle.std.specs.FinSet as set
use Rattle.std.specs.FinSet.{contains-empty, contains-insert, contains-remove, same_set}
use Rattle.std.specs.List.{find, list_any}
use Rattle.std.specs.Option.{is_some}
use Rattle.std.specs.Str.{bytes_eq}
use Rattle.std.proofs.Math.Bool.{or-true}
use Rattle.std.proofs.lemmas.Map.Lookups.{exact_bytes}
use Rattle.std.proofs.lemmas.Map.Text.{is_eq-slice_cmp}
use Rattle.std.proofs.lemmas.Slice.Eq.{bytes_eq-Decides}
use Rattle.stun_base.specs.Keys.{userhash_of}
use Rattle.stun_judging.specs.code.NameIndex.{HashedNames, IsNameIndexOf, IsLeastNamed, hashed_cmp}
use Rattle.stun_judging.specs.Registered.{UserSecret, name_cmp}
use Rattle.stun_judging.proofs.HashedNames.{hashed_exact, hashed_total}

-- ---- keeping the index

abbrev pub Secrets : Type 0
Secrets = fin.FinMap name_cmp UserSecret

pub indexed_none : (realm : List ℕ) → IsNameIndexOf realm fin.empty set.empty
indexed_none realm =
    λ hash name. contains-empty hashed_cmp (hash, name)
    ∙ neither (bytes_eq hash (userhash_of name realm))
    ∙ ap (λ o. bytes_eq hash (userhash_of name realm) && is_some o)
    (sym (fin.get-empty name_cmp name))
  where
    neither : (b : Bool) → false ≡ (b && false)
    neither true = refl
    neither false = refl

-- two pairs are the same where hashes and names are
same_pair : (hash name other_hash other : List ℕ)
    → eq_by_cmp hashed_cmp (hash, name) (other_hash, other)
    ≡ (bytes_eq hash other_hash && bytes_eq name other)
same_pair hash name other_hash other =
    both (name_cmp hash other_hash) (name_cmp name other)
    ∙ (λ i. is_eq-slice_cmp hash other_hash i && is_eq-slice_cmp name other i)
  where
    both : (r s : Ordering) → is_eq (ordering_then r s) ≡ (is_eq r && is_eq s)
    both Less s = refl
    both Equal s = refl
    both Greater s = refl

some-cond : {V : Type 0} (b : Bool) (v : V) (o : Option V)
    → is_some (cond b (Some v) o) ≡ (b || is_some o)
some-cond true v o = refl
some-cond false v o = refl

none-cond : {V : Type 0} (b : Bool) (o : Option V) → is_some (cond b None o) ≡ (not b && is_some o)
none-cond true o = refl
none-cond false o = refl

there-inserted : (secrets : Secrets) (name : List ℕ) (secret : UserSecret) (q : List ℕ)
    → fin.contains_key (fin.insert secrets name secret) q
    ≡ (bytes_eq q name || fin.contains_key secrets q)
there-inserted secrets name secret q =
    ap is_some (get-insert nat_list_cmp_total secrets name secret q)
    ∙ some-cond (eq_by_cmp name_cmp q name) secret (fin.get secrets q)
    ∙ ap (λ b. b || fin.contains_key secrets q) (is_eq-slice_cmp q name)

there-removed : (secrets : Secrets) (name q : List ℕ) → fin.contains_key (fin.remove secrets name) q
    ≡ (not (bytes_eq q name) && fin.contains_key secrets q)
there-removed secrets name q =
    ap is_some (get-remove nat_list_cmp_total secrets name q)
    ∙ none-cond (eq_by_cmp name_cmp q name) (fin.get secrets q)
    ∙ ap (λ b. not b && fin.contains_key secrets q) (is_eq-slice_cmp q name)

-- the pairs of a name are of its hash
module _ (realm name : List ℕ) where
  joined : (hash q : List ℕ) (there : Bool)
      → ((bytes_eq hash (userhash_of name realm) && bytes_eq q name)
      || (bytes_eq hash (userhash_of q realm) && there))
      ≡ (bytes_eq hash (userhash_of q realm) && (bytes_eq q name || there))
  joined hash q there =
      elim (bytes_eq q name) as (λ b. bytes_eq q name ≡ b
      → ((bytes_eq hash (userhash_of name realm) && b)
      || (bytes_eq hash (userhash_of q realm) && there))
      ≡ (bytes_eq hash (userhash_of q realm) && (b || there))) [
        | true ↦ λ same.
            ap (λ n. (bytes_eq hash (userhash_of n realm) && true)
            || (bytes_eq hash (userhash_of q realm) && there))
            (sym ((bytes_eq-Decides q name).0 same))
            ∙ absorbed (bytes_eq hash (userhash_of q realm)) there
        | false ↦ λ _. ap (λ b. b || (bytes_eq hash (userhash_of q realm) && there))
            (none (bytes_eq hash (userhash_of name realm)))
      ] refl
    where
      absorbed : (b c : Bool) → ((b && true) || (b && c)) ≡ (b && true)
      absorbed true c = refl
      absorbed false c = refl

      none : (b : Bool) → (b && false) ≡ false
      none true = refl
      none false = refl

  parted : (hash q : List ℕ) (there : Bool)
      → (not (bytes_eq hash (userhash_of name realm) && bytes_eq q name)
      && (bytes_eq hash (userhash_of q realm) && there))
      ≡ (bytes_eq hash (userhash_of q realm) && (not (bytes_eq q name) && there))
  parted hash q there =
      elim (bytes_eq q name) as (λ b. bytes_eq q name ≡ b
      → (not (bytes_eq hash (userhash_of name realm) && b)
      && (bytes_eq hash (userhash_of q realm) && there))
      ≡ (bytes_eq hash (userhash_of q realm) && (not b && there))) [
        | true ↦ λ same.
            ap (λ n. not (bytes_eq hash (userhash_of n realm) && true)
            && (bytes_eq hash (userhash_of q realm) && there))
            (sym ((bytes_eq-Decides q name).0 same))
            ∙ excluded (bytes_eq hash (userhash_of q realm)) there
        | false ↦ λ _.
            other (bytes_eq hash (userhash_of name realm))
            (bytes_eq hash (userhash_of q realm) && there)
      ] refl
    where
      excluded : (b c : Bool) → (not (b && true) && (b && c)) ≡ (b && false)
      excluded true c = refl
      excluded false c = refl

      other : (b c : Bool) → (not (b && false) && c) ≡ c
      other true c = refl
      other false c = refl

  pub indexed-inserted : (secrets : Secrets) (names : HashedNames) (secret : UserSecret)
      → IsNameIndexOf realm secrets names
      → IsNameIndexOf realm (fin.insert secrets name secret)
      (set.insert names (userhash_of name realm, name))
  indexed-inserted secrets names secret indexed = λ hash q.
      contains-insert hashed_total names (userhash_of name realm, name) (hash, q)
      ∙ (λ i. same_pair hash q (userhash_of name realm) name i || indexed hash q i)
      ∙ joined hash q (fin.contains_key secrets q)
      ∙ ap (λ b. bytes_eq hash (userhash_of q realm) && b)
      (sym (there-inserted secrets name secret q))

  pub indexed-removed : (secrets : Secrets) (names : HashedNames)
      → IsNameIndexOf realm secrets names
      → IsNameIndexOf realm (fin.remove secrets name)
      (set.remove names (userhash_of name realm, name))
  indexed-removed secrets names indexed = λ hash q.
      contains-remove hashed_total names (userhash_of name realm, name) (hash, q)
      ∙ (λ i. not (same_pair hash q (userhash_of name realm) name i) && indexed hash q i)
      ∙ parted hash q (fin.contains_key secrets q)
      ∙ ap (λ b. bytes_eq hash (userhash_of q realm) && b) (sym (there-removed secrets name q))

-- a pair that was not there goes again without a trace
pub insert-undone : (names : HashedNames) (pair : List ℕ × List ℕ) → set.contains names pair ≡ false
    → set.remove (set.insert names pair) pair ≡ names
insert-undone names pair absent = same_set hashed_total hashed_exact _ _ (λ q.
    contains-remove hashed_total (set.insert names pair) pair q
    ∙ ap (λ b. not (eq_by_cmp hashed_cmp q pair) && b) (contains-insert hashed_total names pair q)
    ∙ elim (eq_by_cmp hashed_cmp q pair) as (λ t. eq_by_cmp hashed_cmp q pair ≡ t
    → (not t && (t || set.contains names q)) ≡ set.contains names q) [
      | true ↦ λ same.
          sym (ap (set.contains names) (hashed_exact q pair ((Equal-is (hashed_cmp q pair)).0 same))
          ∙ absent)
      | false ↦ λ _. refl
    ] refl)

-- the index as the calls leave it
module _ (realm name : List ℕ) (secrets : Secrets) (names : HashedNames)
    (indexed : IsNameIndexOf realm secrets names) (hash copy : List ℕ)
    (hash_is : hash ≡ userhash_of name realm) (copy_is : copy ≡ name) where
  same_names : ◌≡◌ {A = List ℕ × List ℕ} (hash, copy) (userhash_of name realm, name)
  same_names = λ i. (hash_is i, copy_is i)

  pub index_after_add : (secret : UserSecret) (new_secrets : Secrets) (new_names : HashedNames)
      → new_secrets ≡ fin.insert secrets name secret → new_names ≡ set.insert names (hash, copy)
      → IsNameIndexOf realm new_secrets new_names
  index_after_add secret new_secrets new_names secrets_are names_are =
      subst (λ (p : Secrets). IsNameIndexOf realm p new_names) (sym secrets_are)
      (subst (IsNameIndexOf realm (fin.insert secrets name secret))
      (sym (names_are ∙ ap (set.insert names) same_names))
      (indexed-inserted realm name secrets names secret indexed))

  pub index_after_remove : (new_secrets : Secrets) (new_names : HashedNames)
      → new_secrets ≡ fin.remove secrets name → new_names ≡ set.remove names (hash, copy)
      → IsNameIndexOf realm new_secrets new_names
  index_after_remove new_secrets new_names secrets_are names_are =
      subst (λ (p : Secrets). IsNameIndexOf realm p new_names) (sym secrets_are)
      (subst (IsNameIndexOf realm (fin.remove secrets name))
      (sym (names_are ∙ ap (set.remove names) same_names))
      (indexed-removed realm name secrets names indexed))

  -- a new name that was refused is in the index no more
  pub index_undone : (added undone : HashedNames) → fin.contains_key secrets name ≡ false → added
      ≡ set.insert names (hash, copy) → undone ≡ set.remove added (hash, name) → undone ≡ names
  index_undone added undone absent added_is undone_is =
      undone_is
      ∙ (λ i. set.remove ((added_is ∙ ap (set.insert names) same_names) i) (hash_is i, name))
      ∙ insert-undone names (
        userhash_of name realm,
        name,
      ) (indexed (userhash_of name realm) name
      ∙ ap (λ b. bytes_eq (userhash_of name realm) (userhash_of name realm) && b) absent
      ∙ none (bytes_eq (userhash_of name realm) (userhash_of name realm)))
    where
      none : (b : Bool) → (b && false) ≡ false
      none true = refl
      none false = refl

-- ---- the first key that passes a test

first : (a b : Bool) → T (a && b) → T a
first true b p = tt
first false b p = p

second : (a b : Bool) → T (a && b) → T b
second true b p = p
second false b p = absurd p

module _ {K X : Type 0} {R : K → K → Ordering} (o : IsTotalOrder R) (same : IsAntisymmetric R)
    (test : K → Bool) where
  abbrev pub keys_of : List (K × X) → List K
  keys_of es = map (λ e. e.0) es

  abbrev pub is_key : List (K × X) → K → Bool
  is_key es q = list_any (eq_by_cmp R q) (keys_of es)

  -- what is above all keys of a list is none of them
  not_below : (es : List (K × X)) (x q : K) → T (below_all R x es) → is_key es q ≡ true
      → R x q ≡ Less
  not_below [] x q below there = absurd (true≢false (sym there))
  not_below (e ∷ es) x q below there =
      elim (eq_by_cmp R q e.0) as (λ t. eq_by_cmp R q e.0 ≡ t → (t || is_key es q) ≡ true
      → R x q ≡ Less) [
        | true ↦ λ tied _. ap (R x) (same q e.0 ((Equal-is (R q e.0)).0 tied))
            ∙ less (R x e.0) (first _ _ below)
        | false ↦ λ _ later. not_below es x q (second _ _ below) later
      ] refl there
    where
      less : (r : Ordering) → T (is_lt r) → r ≡ Less
      less Less p = refl
      less Equal p = absurd p
      less Greater p = absurd p

  -- the least key that passes is found
  pub find-least : (es : List (K × X)) → T (is_sorted R es) → (x : K) → is_key es x ≡ true
      → test x ≡ true
      → ((y : K) → is_key es y ≡ true → test y ≡ true → is_gt (R x y) ≡ false)
      → find test (keys_of es) ≡ Some x
  find-least [] sorted x there passes least = absurd (true≢false (sym there))
  find-least (e ∷ es) sorted x there passes least =
      elim (eq_by_cmp R x e.0) as (λ t. eq_by_cmp R x e.0 ≡ t → (t || is_key es x) ≡ true
      → find test (keys_of (e ∷ es)) ≡ Some x) [
        | true ↦ λ tied _.
            let is : x ≡ e.0 = same x e.0 ((Equal-is (R x e.0)).0 tied) in
            ap (λ b. cond b (Some e.0) (find test (keys_of es))) (ap test (sym is) ∙ passes)
            ∙ ap Some (sym is)
        | false ↦ λ _ later.
            let above : R x e.0 ≡ Greater = o.antisymm x e.0
            ∙ ap ordering_reverse (not_below es e.0 x (first _ _ sorted) later) in
            elim (test e.0) as (λ b. test e.0 ≡ b
            → cond b (Some e.0) (find test (keys_of es)) ≡ Some x) [
              | true ↦ λ earlier.
                  absurd (true≢false
                  (sym (ap is_gt above)
                  ∙ least e.0 (ap (λ r. is_eq r || is_key es e.0) (tied_itself o e.0)) earlier))
              | false ↦ λ _.
                  find-least es (second _ _ sorted) x later passes
                  (λ y y_there.
                  least y (ap (λ b. eq_by_cmp R y e.0 || b) y_there ∙ or-true (eq_by_cmp R y e.0)))
            ] refl
      ] refl there

  -- and none where none passes
  pub find-none : (es : List (K × X)) → ((y : K) → is_key es y ≡ true → test y ≡ false)
      → find test (keys_of es) ≡ None
  find-none [] none = refl
  find-none (e ∷ es) none =
      ap (λ b. cond b (Some e.0) (find test (keys_of es)))
      (none e.0 (ap (λ r. is_eq r || is_key es e.0) (tied_itself o e.0)))
      ∙ find-none es
      (λ y there. none y (ap (λ b. eq_by_cmp R y e.0 || b) there ∙ or-true (eq_by_cmp R y e.0)))

-- ---- whom the index finds

both : (a b : Bool) → (a && b) ≡ true → (a ≡ true) × (b ≡ true)
both true b h = (refl, h)
both false b h = (h, absurd (true≢false (sym h)))

-- the least name of a hash is that of the first registered user with the hash
pub name_found : (realm : List ℕ) (secrets : Secrets) (names : HashedNames) (hash : List ℕ)
    (found : Option (List ℕ)) → IsNameIndexOf realm secrets names → IsLeastNamed names hash found
    → found ≡ find (λ name. bytes_eq (userhash_of name realm) hash) (fin.keys secrets)
name_found realm secrets names hash found indexed least = by found least
  where
    turned : (name : List ℕ)
        → bytes_eq (userhash_of name realm) hash ≡ bytes_eq hash (userhash_of name realm)
    turned name = nat_list_eq_equiv.symm (userhash_of name realm) hash

    there : (name : List ℕ) → list_any (eq_by_cmp name_cmp name) (fin.keys secrets) ≡ true
        → set.contains names (hash, name) ≡ bytes_eq (userhash_of name realm) hash
    there name present =
        indexed hash name
        ∙ ap (λ b. bytes_eq hash (userhash_of name realm) && b)
        (contains_key-keys secrets name ∙ present)
        ∙ alone (bytes_eq hash (userhash_of name realm)) ∙ sym (turned name)
      where
        alone : (b : Bool) → (b && true) ≡ b
        alone true = refl
        alone false = refl

    by : (found : Option (List ℕ)) → IsLeastNamed names hash found
        → found ≡ find (λ name. bytes_eq (userhash_of name realm) hash) (fin.keys secrets)
    by None none =
        sym (find-none nat_list_cmp_total exact_bytes
        (λ name. bytes_eq (userhash_of name realm) hash)
        (fin.entries secrets) (λ name present. sym (there name present) ∙ none name))
    by (Some name) first =
        let is =
        both (bytes_eq hash (userhash_of name realm)) (fin.contains_key secrets name)
        (sym (indexed hash name) ∙ first.0) in
        sym (find-least nat_list_cmp_total exact_bytes
        (λ name. bytes_eq (userhash_of name realm) hash)
        (fin.entries secrets) (entries_sorted secrets) name
        (sym (contains_key-keys secrets name) ∙ is.1) (turned name ∙ is.0)
        (λ other present passes. first.1 other (there other present ∙ passes)))
