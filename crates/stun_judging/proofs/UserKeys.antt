-- The keys of users who are added, removed, or handed in by stored keys.
use Rattle.std.proofs.Common.{◌≡◌, ℕ, List, map, Option, Some, None}
use Rattle.std.proofs.Common.{Bool, true, false, refl, sym, ◌∙◌, ap}
use Rattle.std.specs.Prelude.{◌≢◌, cond}
use Rattle.std.specs.Cmp.{eq_by_cmp_equiv}
use Rattle.std.specs.Cmp.Lexicographic.{nat_list_cmp_total}
use Rattle.std.specs.FinMap as fin
use Rattle.std.specs.Option.{option_and_then, option_map}
use Rattle.std.specs.Ordering.{eq_by_cmp}
use Rattle.std.proofs.lemmas.Map.Text.{is_eq-slice_cmp}
use Rattle.std.proofs.lemmas.Slice.Eq.{bytes_eq-Decides}
use Rattle.stun_base.specs.Credentials.{NameAndPassword}
use Rattle.stun_base.specs.Keys.{long_term_key}
use Rattle.stun_base.specs.declared.keys.algorithm.IntegrityAlgorithm.{IntegrityAlgorithm}
use Rattle.stun_judging.specs.declared.stored_keys.StoredKeys.{StoredKeys}
use Rattle.stun_judging.specs.Algorithms.{contains}
use Rattle.stun_judging.specs.Named.{AreKeysOf, just, only_user}
use Rattle.stun_judging.specs.Registered.{Registered, RegisteredUser, UserSecret, key_at, key_if}
use Rattle.stun_judging.specs.Registered.{key_of, name_cmp, of_keys, of_password, user_by_keys}
use Rattle.stun_judging.specs.Registered.{stored_key, user_by_password, with_user}
use Rattle.stun_judging.specs.Registered.{with_user_by_keys, without_user}
use Rattle.stun_judging.proofs.MeantUser.{one}

-- the key that a user of a name has by a secret, if any
abbrev key_by : Registered → List ℕ → IntegrityAlgorithm → Option UserSecret → Option (List ℕ)
key_by users name a o =
    option_and_then (λ (u : RegisteredUser). key_of users u a)
    (option_map (λ (secret : UserSecret). record { username = name; secret = secret }) o)

-- a name is the same as itself
pub same_name : (name : List ℕ) → eq_by_cmp name_cmp name name ≡ true
same_name name = (eq_by_cmp_equiv nat_list_cmp_total).refl name

-- names that are tied are the same
pub tied : (name other : List ℕ) → eq_by_cmp name_cmp name other ≡ true → name ≡ other
tied name other h = (bytes_eq-Decides name other).0 (sym (is_eq-slice_cmp name other) ∙ h)

pub other_name : {V : Type 0} (name gone : List ℕ) → name ≢ gone → (v o : V)
    → cond (eq_by_cmp name_cmp name gone) v o ≡ o
other_name name gone other v o = by (eq_by_cmp name_cmp name gone) refl
  where
    by : (b : Bool) → eq_by_cmp name_cmp name gone ≡ b → cond b v o ≡ o
    by true h = absurd (other (tied name gone h))
    by false h = refl

-- ---- added and removed

pub key-added : (users : Registered) (user : NameAndPassword) (a : IntegrityAlgorithm)
    → key_at (with_user users user) user.username a
    ≡ cond (contains a users.algorithms)
    (Some (long_term_key a user.username users.realm user.password)) None
key-added users user a =
    ap (key_by users user.username a)
    (fin.get-insert nat_list_cmp_total users.secrets user.username (of_password user.password)
    user.username
    ∙ ap (λ b. cond b (Some (of_password user.password)) (fin.get users.secrets user.username))
    (same_name user.username))

pub key-by_keys : (users : Registered) (name : List ℕ) (keys : StoredKeys) (a : IntegrityAlgorithm)
    → key_at (with_user_by_keys users name keys) name a
    ≡ cond (contains a users.algorithms) (stored_key keys a) None
key-by_keys users name keys a =
    ap (key_by users name a)
    (fin.get-insert nat_list_cmp_total users.secrets name (of_keys keys) name
    ∙ ap (λ b. cond b (Some (of_keys keys)) (fin.get users.secrets name)) (same_name name))

pub key-removed : (users : Registered) (name : List ℕ) (a : IntegrityAlgorithm)
    → key_at (without_user users name) name a ≡ None
key-removed users name a =
    ap (key_by users name a)
    (fin.get-remove nat_list_cmp_total users.secrets name name
    ∙ ap (λ b. cond b None (fin.get users.secrets name)) (same_name name))

pub key-by_others : (users : Registered) (user : NameAndPassword) (name : List ℕ)
    (a : IntegrityAlgorithm) → name ≢ user.username
    → key_at (with_user users user) name a ≡ key_at users name a
key-by_others users user name a other =
    ap (key_by users name a)
    (fin.get-insert nat_list_cmp_total users.secrets user.username (of_password user.password) name
    ∙ other_name name user.username other (Some (of_password user.password))
    (fin.get users.secrets name))

pub key-by_others_keys : (users : Registered) (added name : List ℕ) (keys : StoredKeys)
    (a : IntegrityAlgorithm) → name ≢ added
    → key_at (with_user_by_keys users added keys) name a ≡ key_at users name a
key-by_others_keys users added name keys a other =
    ap (key_by users name a)
    (fin.get-insert nat_list_cmp_total users.secrets added (of_keys keys) name
    ∙ other_name name added other (Some (of_keys keys)) (fin.get users.secrets name))

pub key-of_others : (users : Registered) (gone name : List ℕ) (a : IntegrityAlgorithm)
    → name ≢ gone
    → key_at (without_user users gone) name a ≡ key_at users name a
key-of_others users gone name a other =
    ap (key_by users name a)
    (fin.get-remove nat_list_cmp_total users.secrets gone name
    ∙ other_name name gone other None (fin.get users.secrets name))

-- ---- handed in

module _ (users : Registered) (user : NameAndPassword) (keys : StoredKeys)
    (are : AreKeysOf users user keys) where
  -- the names are the same: the one name
  pub same_names : fin.keys (only_user (Some (user_by_keys user.username keys)))
      ≡ fin.keys (only_user (Some (user_by_password user)))
  same_names =
      ap (λ (es : List (List ℕ × UserSecret)). map (λ e. e.0) es) (one user.username (of_keys keys))
      ∙ sym (ap (λ (es : List (List ℕ × UserSecret)). map (λ e. e.0) es)
      (one user.username (of_password user.password)))

  key-if : (name : List ℕ) (a : IntegrityAlgorithm) → name ≡ user.username → (b : Bool)
      → contains a users.algorithms ≡ b
      → key_if b a name users.realm (of_keys keys)
      ≡ key_if b a name users.realm (of_password user.password)
  key-if name a is true h = are a h
      ∙ ap (λ n. Some (long_term_key a n users.realm user.password)) (sym is)
  key-if name a is false h = refl

  -- and so are the keys
  pub same_keys : (name : List ℕ) (a : IntegrityAlgorithm)
      → key_at (just users (Some (user_by_keys user.username keys))) name a
      ≡ key_at (just users (Some (user_by_password user))) name a
  same_keys name a =
      ap (key_by users name a)
      (fin.get-insert nat_list_cmp_total fin.empty user.username (of_keys keys) name)
      ∙ by (eq_by_cmp name_cmp name user.username) refl
      ∙ sym (ap (key_by users name a)
      (fin.get-insert nat_list_cmp_total fin.empty user.username (of_password user.password) name))
    where
      by : (b : Bool) → eq_by_cmp name_cmp name user.username ≡ b
          → key_by users name a
          (cond b (Some (of_keys keys)) (fin.get (fin.empty {X = UserSecret} {R = name_cmp}) name))
          ≡ key_by users name a
          (cond b (Some (of_password user.password))
          (fin.get (fin.empty {X = UserSecret} {R = name_cmp}) name))
      by true h = key-if name a (tied name user.username h) (contains a users.algorithms) refl
      by false h = refl
