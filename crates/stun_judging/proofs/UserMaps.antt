-- What a look-up and a change of the tree map are to the users of a registry.
use Rattle.std.proofs.Common.{◌≡◌, ℕ, List, Option, Some, None, true}
use Rattle.std.proofs.Common.{false, refl, sym, ◌∙◌, ap, subst, String}
use Rattle.std.specs.Prelude.{cond}
use Rattle.std.specs.Str.{bytes_eq}
use Rattle.std.specs.String.{string_bytes, string_cmp}
use Rattle.std.specs.Option.{option_map, option_and_then, IfSome}
use Rattle.std.specs.Ordering.{is_eq, nat_cmp}
use Rattle.std.specs.Cmp.Lexicographic.{slice_cmp, nat_list_cmp_total}
use Rattle.std.specs.FinMap as fin
use Rattle.std.specs.BTreeMap.{BTreeMap, UpdatesBy, get_by_text, is_at}
use Rattle.std.specs.Map.{lookup}
use Rattle.std.proofs.lemmas.Map.Lookups.{exact_bytes}
use Rattle.std.proofs.lemmas.Map.Text.{btree_map_updates_text, is_eq-slice_cmp}
use Rattle.std.proofs.lemmas.Slice.Eq.{bytes_eq-Decides}
use Rattle.stun_base.specs.declared.keys.algorithm.IntegrityAlgorithm.{IntegrityAlgorithm}
use Rattle.stun_base.specs.declared.keys.algorithm.IntegrityAlgorithm.TheVariants.{Sha1, Sha256}
use Rattle.stun_judging.specs.declared.algorithm_set.AlgorithmSet.{AlgorithmSet}
use Rattle.stun_judging.specs.declared.algorithm_set.AlgorithmSet.TheVariants.{Both}
use Rattle.stun_judging.specs.Algorithms.{contains}
use Rattle.stun_judging.specs.Registered.{Registered, RegisteredUser, UserSecret, key_at, key_if}
use Rattle.stun_judging.specs.Registered.{key_of, user_named}
use Rattle.stun_judging.specs.code.Users.{key_in, HasKeys, AllHaveKeys, secret_of, secrets_seen}
use Rattle.stun_judging.specs.declared.registry.User.{User}
use Rattle.stun_judging.proofs.Maps.{get-seen, seen_inserted, seen_removed}

pub get-secrets_seen : {A : Type 0} (m : BTreeMap (String A) (User A)) (name : List ℕ)
    → fin.get (secrets_seen m.entries) name ≡ option_map (λ u. secret_of u) (get_by_text m name)
get-secrets_seen m name =
    get-seen nat_list_cmp_total exact_bytes string_bytes (λ u. secret_of u) m.entries name

-- the change, by the order's test
by_order : {A : Type 0} (m n : BTreeMap (String A) (User A)) (name : List ℕ) (w : Option (User A))
    → UpdatesBy string_cmp (λ k. slice_cmp nat_cmp name (string_bytes k)) m n w → (q : List ℕ)
    → get_by_text n q ≡ cond (is_eq (slice_cmp nat_cmp name q)) w (get_by_text m q)
by_order m n name w updates q =
    btree_map_updates_text name m n w updates q
    ∙ ap (λ b. cond b w (get_by_text m q)) (sym (is_eq-slice_cmp name q))

pub secrets_seen-inserted : {A : Type 0} (m n : BTreeMap (String A) (User A)) (name : List ℕ)
    (u : User A) → UpdatesBy string_cmp (λ k. slice_cmp nat_cmp name (string_bytes k)) m n (Some u)
    → secrets_seen n.entries ≡ fin.insert (secrets_seen m.entries) name (secret_of u)
secrets_seen-inserted m n name u updates =
    seen_inserted nat_list_cmp_total exact_bytes string_bytes (λ v. secret_of v) m.entries n.entries
    name u (by_order m n name (Some u) updates)

pub secrets_seen-removed : {A : Type 0} (m n : BTreeMap (String A) (User A)) (name : List ℕ)
    → UpdatesBy string_cmp (λ k. slice_cmp nat_cmp name (string_bytes k)) m n None
    → secrets_seen n.entries ≡ fin.remove (secrets_seen m.entries) name
secrets_seen-removed m n name updates =
    seen_removed nat_list_cmp_total exact_bytes string_bytes (λ v. secret_of v) m.entries n.entries
    name (by_order m n name None updates)

-- the same entries have the same keys, and no entries have none that is missing
pub keys_where_same : {A : Type 0} (realm : List ℕ) (m : BTreeMap (String A) (User A)) (es : List (String A × User A)) → m.entries ≡ es
    → ((name : List ℕ)
    → IfSome (lookup (is_at (λ k. slice_cmp nat_cmp name (string_bytes k))) es)
    (HasKeys realm name)) → AllHaveKeys realm m
keys_where_same {A = A} realm m es same all = λ name.
    subst (λ (es : List (String A × User A)).
    IfSome (lookup (is_at (λ k. slice_cmp nat_cmp name (string_bytes k))) es)
    (HasKeys realm name)) (sym same) (all name)

-- each user still has keys after one was added, and after one was removed
pub keys_after_add : {A : Type 0} (realm : List ℕ) (m n : BTreeMap (String A) (User A)) (name : List ℕ) (u : User A)
    → UpdatesBy string_cmp (λ k. slice_cmp nat_cmp name (string_bytes k)) m n (Some u)
    → HasKeys realm name u → AllHaveKeys realm m → AllHaveKeys realm n
keys_after_add realm m n name u updates has_keys all = λ q.
    let P : Option (User _) → Type 0 = λ o. IfSome o (HasKeys realm q) in
    subst P (sym (btree_map_updates_text name m n (Some u) updates q))
    (elim (bytes_eq name q) as (λ b. bytes_eq name q ≡ b → P (cond b (Some u) (get_by_text m q))) [
      | true ↦ λ e.
          subst (λ k. HasKeys realm k u) ((bytes_eq-Decides name q).0 e) has_keys
      | false ↦ λ e. all q
    ] refl)

pub keys_after_remove : {A : Type 0} (realm : List ℕ) (m n : BTreeMap (String A) (User A)) (name : List ℕ)
    → UpdatesBy string_cmp (λ k. slice_cmp nat_cmp name (string_bytes k)) m n None
    → AllHaveKeys realm m → AllHaveKeys realm n
keys_after_remove realm m n name updates all = λ q.
    let P : Option (User _) → Type 0 = λ o. IfSome o (HasKeys realm q) in
    subst P (sym (btree_map_updates_text name m n None updates q))
    (elim (bytes_eq name q) as (λ b. P (cond b None (get_by_text m q)))
    [ true ↦ tt | false ↦ all q ])

-- the key of the user of a name who has this secret
abbrev key_with : Registered → List ℕ → IntegrityAlgorithm → Option UserSecret → Option (List ℕ)
key_with r name a p =
    option_and_then (λ (user : RegisteredUser). key_of r user a)
    (option_map (λ secret. record { username = name; secret = secret }) p)

-- both algorithms are in the set of both
in_both : (a : IntegrityAlgorithm) → contains a Both ≡ true
in_both Sha1 = refl
in_both Sha256 = refl

-- the key that a look-up finds is the one that the definitions name, if all algorithms are supported
pub key_found : {A : Type 0} (realm : List ℕ) (m : BTreeMap (String A) (User A)) (name : List ℕ)
    (a : IntegrityAlgorithm) (o : Option (User A))
    → o ≡ get_by_text m name → AllHaveKeys realm m
    → option_and_then (λ u. key_in u a) o
    ≡ key_at (record { realm = realm; algorithms = Both; secrets = secrets_seen m.entries }) name a
key_found {A = A} realm m name a o found all =
    with_keys o (subst (λ x. IfSome x (HasKeys realm name)) (sym found) (all name))
    ∙ ap (key_with
    (record { realm = realm; algorithms = Both; secrets = secrets_seen m.entries }) name a)
    (ap (option_map (λ u. secret_of u)) found ∙ sym (get-secrets_seen m name))
  where
    with_keys : (o : Option (User A)) → IfSome o (HasKeys realm name)
        → option_and_then (λ u. key_in u a) o
        ≡ key_with
        (record { realm = realm; algorithms = Both; secrets = secrets_seen m.entries }) name a
        (option_map (λ u. secret_of u) o)
    with_keys None h = refl
    with_keys (Some u) h = h a ∙ ap (λ b. key_if b a name realm (secret_of u)) (sym (in_both a))

-- ---- the algorithms that are supported

-- a supported algorithm has the key that it has if all are supported
pub key_supported : (r : Registered) (supported : AlgorithmSet) (name : List ℕ)
    (a : IntegrityAlgorithm) → contains a supported ≡ true
    → key_at (record r { algorithms = Both }) name a
    ≡ key_at (record r { algorithms = supported }) name a
key_supported r supported name a h =
    ap (λ b. option_and_then
    (λ (user : RegisteredUser). key_if b a user.username r.realm user.secret)
    (user_named r name)) (in_both a ∙ sym h)

abbrev none_of : RegisteredUser → Option (List ℕ)
none_of user = None

no_key : (o : Option RegisteredUser) → option_and_then none_of o ≡ None
no_key None = refl
no_key (Some user) = refl

-- any other has no key
pub key_unsupported : (r : Registered) (supported : AlgorithmSet) (name : List ℕ)
    (a : IntegrityAlgorithm) → contains a supported ≡ false
    → key_at (record r { algorithms = supported }) name a ≡ None
key_unsupported r supported name a h =
    ap (λ b. option_and_then
    (λ (user : RegisteredUser). key_if b a user.username r.realm user.secret)
    (user_named r name)) h
    ∙ no_key (user_named r name)
