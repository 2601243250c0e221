-- The users of a table at a realm: their keys and their names, and the verdict by them.
use Rattle.std.proofs.Common.{◌≡◌, ℕ, List, [], map, Option, Some, None}
use Rattle.std.proofs.Common.{Bool, true, false, refl, sym, ◌∙◌, ap, Err}
use Rattle.std.specs.Prelude.{cond, ◌&&◌}
use Rattle.std.specs.Option.{is_some, option_and_then, option_map}
use Rattle.std.specs.List.{find}
use Rattle.std.specs.FinMap as fin
use Rattle.std.specs.Str.{bytes_eq}
use Rattle.std.proofs.lemmas.Slice.Eq.{bytes_eq-Decides}
use Rattle.stun_base.specs.declared.keys.algorithm.IntegrityAlgorithm.{IntegrityAlgorithm}
use Rattle.stun_judging.specs.declared.algorithm_set.AlgorithmSet.{AlgorithmSet}
use Rattle.stun_judging.specs.declared.feature.Feature.{Feature}
use Rattle.stun_judging.specs.declared.refusal.VerdictRefusal.TheVariants.{BadRequest}
use Rattle.stun_judging.specs.Named.{Named, by_hash, by_name, named_in, only_user, user_of}
use Rattle.stun_judging.specs.Reading.{Reading}
use Rattle.stun_judging.specs.Registered.{Registered, RegisteredUser, UserSecret, at_realm, key_at}
use Rattle.stun_judging.specs.Registered.{key_of, name_cmp, name_with_hash, user_named}
use Rattle.stun_judging.specs.Registered.{user_with_hash, without_users}
use Rattle.stun_judging.specs.Verdict.{is_unoffered, named_by, named_user, verdict}
use Rattle.stun_judging.specs.Verdict.{verdict_offering}
use Rattle.stun_judging.specs.Feature.{is_possible}
use Rattle.stun_judging.proofs.MeantUser.{alone, found, has_hash, nobody, verdict-alone}

-- ---- keys and names

-- the realm's own algorithms in place of its own change nothing
pub key_own : (r : Registered) (supported : AlgorithmSet) (name : List ℕ) (a : IntegrityAlgorithm)
    → supported ≡ r.algorithms
    → key_at (record r { algorithms = supported }) name a ≡ key_at r name a
key_own r supported name a same = ap (λ s. key_at (record r { algorithms = s }) name a) same

-- users of a table with the name of the realm have the same keys at the realm
pub key_of_table : (at realm users : Registered) (supported : AlgorithmSet) (name : List ℕ)
    (a : IntegrityAlgorithm) → record realm { secrets = users.secrets } ≡ at
    → users.realm ≡ realm.realm → supported ≡ realm.algorithms
    → key_at (record users { algorithms = supported }) name a ≡ key_at at name a
key_of_table at realm users supported name a is same has =
    ap (λ n. key_at (record users { realm = n; algorithms = supported }) name a) same
    ∙ ap (λ s. key_at (record users { realm = realm.realm; algorithms = s }) name a) has
    ∙ ap (λ r. key_at r name a) is

-- and the same hashes
pub name_of_table : (at realm users : Registered) (hash : List ℕ)
    → record realm { secrets = users.secrets } ≡ at → users.realm ≡ realm.realm
    → name_with_hash users hash ≡ name_with_hash at hash
name_of_table at realm users hash is same =
    ap (λ n. name_with_hash (record users { realm = n }) hash) same
    ∙ ap (λ r. name_with_hash r hash) is

-- without users there is no key
pub key_of_nobody : (at realm : Registered) (name : List ℕ) (a : IntegrityAlgorithm)
    → record realm { secrets = fin.empty } ≡ at → key_at at name a ≡ None
key_of_nobody at realm name a is =
    sym (ap (λ r. key_at r name a) is)
    ∙ ap (λ (o : Option UserSecret). option_and_then
    (λ (user : RegisteredUser). key_of (record realm { secrets = fin.empty }) user a)
    (option_map (λ (secret : UserSecret). record { username = name; secret = secret }) o))
    (fin.get-empty name_cmp name)

-- and no hash
pub name_of_nobody : (at realm : Registered) (hash : List ℕ)
    → record realm { secrets = fin.empty } ≡ at → name_with_hash at hash ≡ None
name_of_nobody at realm hash is =
    sym (ap (λ r. name_with_hash r hash) is)
    ∙ ap (λ (es : List (List ℕ × UserSecret)). find (has_hash realm hash) (map (λ e. e.0) es))
    nobody

-- ---- a table at a realm

-- a table with the name of the realm
pub at_same : (realm users : Registered) → users.realm ≡ realm.realm
    → at_realm realm users ≡ record realm { secrets = users.secrets }
at_same realm users same =
    ap (λ b. record realm { secrets = cond b users.secrets fin.empty })
    ((bytes_eq-Decides users.realm realm.realm).1 same)

-- the user who is named is the same
user_of_same : (one other : Registered) → one.realm ≡ other.realm → one.secrets ≡ other.secrets
    → (who : Named) → user_of one who ≡ user_of other who
user_of_same one other realm secrets (by_name name) =
    ap (λ s. user_named (record one { secrets = s }) name) secrets
user_of_same one other realm secrets (by_hash hash) =
    ap (λ s. user_with_hash (record one { secrets = s }) hash) secrets
    ∙ ap (λ n. user_with_hash (record other { realm = n }) hash) realm

-- ---- the verdict

module _ (realm users : Registered) (feature : Feature) (ours : List ℕ)
    (offered : Option AlgorithmSet)
    (r : Reading) where
  abbrev who : Option Named
  who = named_in r.userhash r.username feature

  abbrev here : Registered
  here = record realm { secrets = users.secrets }

  same_user : users.realm ≡ realm.realm → (o : Option Named)
      → option_and_then (user_of users) o ≡ option_and_then (user_of here) o
  same_user same None = refl
  same_user same (Some who) = user_of_same users here same refl who

  alone_at_if : (b : Bool) → bytes_eq users.realm realm.realm ≡ b
      → verdict
      (record realm { secrets = cond b (only_user (option_and_then (user_of users) who)) fin.empty })
      feature ours offered r
      ≡ verdict (record realm { secrets = cond b users.secrets fin.empty }) feature ours offered r
  alone_at_if true h =
      ap (λ (u : Option RegisteredUser).
      verdict (record realm { secrets = only_user u }) feature ours offered r)
      (same_user ((bytes_eq-Decides users.realm realm.realm).0 h) who)
      ∙ verdict-alone here feature ours offered r
  alone_at_if false h = refl

  -- the verdict looks at no other user of a table than the one who is named
  pub verdict_alone_at : verdict (at_realm realm (alone users who)) feature ours offered r
      ≡ verdict (at_realm realm users) feature ours offered r
  verdict_alone_at = alone_at_if (bytes_eq users.realm realm.realm) refl

-- whom a message names, in one step or in two
named_meant : (hash username : Option (List ℕ)) (users : Registered) (feature : Feature)
    → option_and_then (user_of users) (named_in hash username feature)
    ≡ named_by hash username users feature
named_meant (Some hash) username users feature = by (is_possible feature)
  where
    by : (b : Bool) → option_and_then (user_of users) (cond b (Some (by_hash hash)) None)
        ≡ cond b (user_with_hash users hash) None
    by true = refl
    by false = refl
named_meant None None users feature = refl
named_meant None (Some name) users feature = refl

-- the key that the user of a name has by a secret, if any
abbrev key_by : Registered → List ℕ → IntegrityAlgorithm → Option UserSecret → Option (List ℕ)
key_by users name a o =
    option_and_then (λ (u : RegisteredUser). key_of users u a)
    (option_map (λ (secret : UserSecret). record { username = name; secret = secret }) o)

-- the user who is named has the same key at the realm as in the whole table
pub key_alone_at : (realm users : Registered) (feature : Feature) (r : Reading) (name : List ℕ)
    (secret : UserSecret) (a : IntegrityAlgorithm)
    → named_user (at_realm realm users) feature r
    ≡ Some (record { username = name; secret = secret })
    → fin.get (at_realm realm users).secrets name ≡ Some secret
    → key_at (at_realm realm (alone users (named_in r.userhash r.username feature))) name a
    ≡ key_at (at_realm realm users) name a
key_alone_at realm users feature r name secret a =
    by (bytes_eq users.realm realm.realm) refl
  where
    who : Option Named
    who = named_in r.userhash r.username feature

    by : (b : Bool) → bytes_eq users.realm realm.realm ≡ b
        → named_user (record realm { secrets = cond b users.secrets fin.empty }) feature r
        ≡ Some (record { username = name; secret = secret })
        → fin.get (cond b users.secrets fin.empty) name ≡ Some secret
        → key_at
        (record realm { secrets = cond b (only_user (option_and_then (user_of users) who)) fin.empty })
        name a
        ≡ key_at (record realm { secrets = cond b users.secrets fin.empty }) name a
    by false h named present = refl
    by true h named present =
        let here : Registered = record realm { secrets = users.secrets } in
        let is : option_and_then (user_of users) who
        ≡ Some (record { username = name; secret = secret }) =
        same_user realm users feature [] None r ((bytes_eq-Decides users.realm realm.realm).0 h) who
        ∙ named_meant r.userhash r.username here feature ∙ named in
        ap (λ (u : Option RegisteredUser).
        key_at (record realm { secrets = only_user u }) name a) is
        ∙ ap (key_by realm name a) (found name secret)
        ∙ sym (ap (key_by realm name a) present)

pub offering_alone_at : (realm users : Registered) (feature : Feature) (ours : List ℕ)
    (supported : AlgorithmSet) (r : Reading)
    → verdict_offering
    (at_realm realm (alone users (named_in r.userhash r.username feature))) feature ours supported r
    ≡ verdict_offering (at_realm realm users) feature ours supported r
offering_alone_at realm users feature ours supported r =
    ap (cond (is_some r.integrity && is_unoffered supported r) (Err BadRequest))
    (verdict_alone_at realm users feature ours (Some supported) r)
