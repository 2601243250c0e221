-- A message that verifies under none of a user's keys is refused by the same row of the table,
-- whatever the keys are.
use Rattle.std.proofs.Common.{[]}
use Rattle.std.proofs.Common.{◌≡◌, ℕ, List, ◌∷◌, map, Option, Some, None, Bool}
use Rattle.std.proofs.Common.{true, false, refl, sym, ◌∙◌, ap, subst}
use Rattle.std.specs.Prelude.{cond, not, ◌||◌, ◌&&◌}
use Rattle.std.specs.Option.{is_none, option_and_then, option_map_or, unwrap_or}
use Rattle.std.specs.List.{find}
use Rattle.std.specs.Cmp.Lexicographic.{nat_list_cmp_total}
use Rattle.std.specs.FinMap as fin
use Rattle.std.specs.FinMap.Entries.{by_order}
use Rattle.std.specs.Ordering.{eq_by_cmp}
use Rattle.std.specs.Str.{bytes_eq}
use Rattle.std.specs.declared.cmp.Ordering.TheVariants.{Less, Equal, Greater}
use Rattle.std.specs.declared.result.Result.{Result}
use Rattle.stun_base.specs.declared.keys.algorithm.IntegrityAlgorithm.{IntegrityAlgorithm}
use Rattle.stun_base.specs.declared.keys.algorithm.IntegrityAlgorithm.TheVariants.{Sha1}
use Rattle.stun_judging.specs.declared.algorithm_set.AlgorithmSet.{AlgorithmSet}
use Rattle.stun_judging.specs.declared.feature.Feature.{Feature}
use Rattle.stun_judging.specs.declared.refusal.VerdictRefusal.{VerdictRefusal}
use Rattle.stun_judging.specs.declared.refusal.VerdictRefusal.TheVariants.{Unauthorized, BadRequest}
use Rattle.stun_judging.specs.Algorithms.{contains}
use Rattle.stun_judging.specs.Feature.{is_possible}
use Rattle.stun_judging.specs.OtherUsers.{VerifiesUnderNone, with_secret_for}
use Rattle.stun_judging.specs.Reading.{Reading, verified_under}
use Rattle.stun_judging.specs.Registered.{Registered, RegisteredUser, UserSecret, key_at, key_from}
use Rattle.stun_judging.specs.Registered.{key_if, key_of, name_cmp, user_named, user_with_hash}
use Rattle.stun_judging.specs.Verdict.{ClientSeen, agreement, named_by, nonce_refusal, or_refused}
use Rattle.stun_judging.specs.Verdict.{their_nonce, verdict, verified_for}
use Rattle.stun_judging.proofs.MeantUser.{has_hash, verdict_on_user, with_secret}
use Rattle.stun_judging.proofs.UserKeys.{same_name, tied}

-- the refusals, by whether each holds
abbrev table : Bool → Bool → Bool → Bool → Bool → Bool → VerdictRefusal
    → List (Bool × VerdictRefusal)
table a b c d e f n =
    (a, Unauthorized) ∷ (b, BadRequest) ∷ (c, BadRequest) ∷ (d, BadRequest) ∷ (e, n)
    ∷ (f, Unauthorized) ∷ []

abbrev by_table : List (Bool × VerdictRefusal) → ClientSeen → Result ClientSeen VerdictRefusal
by_table rows client =
    or_refused
    (option_map_or (λ (row : Bool × VerdictRefusal). Some row.1)
    (find (λ (row : Bool × VerdictRefusal). row.0) rows) None) client

-- where the last row holds, one of them refuses, whoever the client would be
refused : (a b c d e : Bool) (n : VerdictRefusal) (client other : ClientSeen)
    → by_table (table a b c d e true n) client ≡ by_table (table a b c d e true n) other
refused true b c d e n client other = refl
refused false true c d e n client other = refl
refused false false true d e n client other = refl
refused false false false true e n client other = refl
refused false false false false true n client other = refl
refused false false false false false n client other = refl

-- what verifies under none of these keys
none_of : (users : Registered) (r : Reading) (a : IntegrityAlgorithm) (user : RegisteredUser)
    → VerifiesUnderNone users user.username user.secret r
    → option_and_then (verified_under r) (key_of users user a) ≡ None
none_of users r a user under = supported (contains a users.algorithms)
  where
    keyed : (o : Option (List ℕ)) → key_from a user.username users.realm user.secret ≡ o
        → option_and_then (verified_under r) o ≡ None
    keyed None is = refl
    keyed (Some key) is = under a key is

    supported : (b : Bool)
        → option_and_then (verified_under r)
        (key_if b a user.username users.realm user.secret) ≡ None
    supported true = keyed (key_from a user.username users.realm user.secret) refl
    supported false = refl

module _ (users : Registered) (ours : List ℕ) (offered : Option AlgorithmSet) (r : Reading) where
  abbrev chosen : Option IntegrityAlgorithm
  chosen = agreement r (their_nonce r) offered

  abbrev unproven : Option RegisteredUser → Option IntegrityAlgorithm → Bool
  unproven user by =
      is_none (option_and_then (λ a. option_and_then (verified_for users r a) user) by)

  unproven_without : (by : Option IntegrityAlgorithm) → unproven None by ≡ true
  unproven_without None = refl
  unproven_without (Some a) = refl

  unproven_user : (user : RegisteredUser) → VerifiesUnderNone users user.username user.secret r
      → (by : Option IntegrityAlgorithm) → unproven (Some user) by ≡ true
  unproven_user user under None = refl
  unproven_user user under (Some a) = ap is_none (none_of users r a user under)

  -- the table with its last row as a test, and the client that there would be
  abbrev refused_if : Bool → List ℕ → Result ClientSeen VerdictRefusal
  refused_if f name =
      by_table
      (table (is_none r.integrity) (is_none r.realm || is_none r.nonce)
      (is_none r.userhash && is_none r.username) (is_none chosen)
      (not (bytes_eq (their_nonce r) ours)) f (nonce_refusal ours (their_nonce r)))
      (record { name = name; algorithm = unwrap_or chosen Sha1 })

  refused_so : (name other : List ℕ) → refused_if true name ≡ refused_if true other
  refused_so name other =
      refused (is_none r.integrity) (is_none r.realm || is_none r.nonce)
      (is_none r.userhash && is_none r.username) (is_none chosen)
      (not (bytes_eq (their_nonce r) ours)) (nonce_refusal ours (their_nonce r))
      (record { name = name; algorithm = unwrap_or chosen Sha1 })
      (record { name = other; algorithm = unwrap_or chosen Sha1 })

  -- the verdict on a user under whose keys nothing verifies is that on nobody
  as_nobody : (user : RegisteredUser) → VerifiesUnderNone users user.username user.secret r
      → verdict_on_user users ours offered r (Some user)
      ≡ verdict_on_user users ours offered r None
  as_nobody user under =
      ap (λ f. refused_if f user.username) (unproven_user user under chosen)
      ∙ refused_so user.username []
      ∙ sym (ap (λ f. refused_if f []) (unproven_without chosen))

-- ---- two secrets of one name

-- the keys of a map are the same whatever is put under a name
keys-put : {X : Type 0} (name : List ℕ) (v w : X) (es : List (List ℕ × X))
    → map (λ e. e.0) (fin.put name_cmp name v es) ≡ map (λ e. e.0) (fin.put name_cmp name w es)
keys-put name v w [] = refl
keys-put name v w (e ∷ es) =
    elim (name_cmp name e.0) as (λ r.
    map (λ e. e.0)
    (by_order r ((name, v) ∷ e ∷ es) ((e.0, v) ∷ es) (e ∷ fin.put name_cmp name v es))
    ≡ map (λ e. e.0)
    (by_order r ((name, w) ∷ e ∷ es) ((e.0, w) ∷ es)
    (e ∷ fin.put name_cmp name w es))) [
      | Less ↦ refl
      | Equal ↦ refl
      | Greater ↦ ap (λ ks. e.0 ∷ ks) (keys-put name v w es)
    ]

module _ (users : Registered) (name : List ℕ) (one other : UserSecret) (r : Reading)
    (under_one : VerifiesUnderNone users name one r)
    (under_other : VerifiesUnderNone users name other r) where
  abbrev with_one : Registered
  with_one = with_secret_for users name (Some one)

  abbrev with_other : Registered
  with_other = with_secret_for users name (Some other)

  same_keys : fin.keys with_one.secrets ≡ fin.keys with_other.secrets
  same_keys =
      ap (λ es. map (λ e. e.0) es) (fin.entries-insert nat_list_cmp_total users.secrets name one)
      ∙ keys-put name one other (fin.entries users.secrets)
      ∙ sym
      (ap (λ es. map (λ e. e.0) es)
      (fin.entries-insert nat_list_cmp_total users.secrets name other))

  -- what is the same of nobody and of the user by either secret is the same of any user by either
  alike_by_name : {V : Type 0} (f : Option RegisteredUser → V) (n : List ℕ)
      → (n ≡ name → f (Some (record { username = n; secret = one })) ≡ f None)
      → (n ≡ name → f (Some (record { username = n; secret = other })) ≡ f None)
      → f (user_named with_one n) ≡ f (user_named with_other n)
  alike_by_name f n as_one as_other =
      ap (λ o. f (with_secret n o)) (fin.get-insert nat_list_cmp_total users.secrets name one n)
      ∙ by (eq_by_cmp name_cmp n name) refl
      ∙ sym
      (ap (λ o. f (with_secret n o))
      (fin.get-insert nat_list_cmp_total users.secrets name other n))
    where
      by : (b : Bool) → eq_by_cmp name_cmp n name ≡ b
          → f (with_secret n (cond b (Some one) (fin.get users.secrets n)))
          ≡ f (with_secret n (cond b (Some other) (fin.get users.secrets n)))
      by true is = as_one (tied n name is) ∙ sym (as_other (tied n name is))
      by false is = refl

  renamed : (secret : UserSecret) (n : List ℕ) → n ≡ name → VerifiesUnderNone users name secret r
      → VerifiesUnderNone users n secret r
  renamed secret n same under = subst (λ m. VerifiesUnderNone users m secret r) (sym same) under

  module _ (feature : Feature) (ours : List ℕ) (offered : Option AlgorithmSet) where
    alike_on : (n : List ℕ)
        → verdict_on_user users ours offered r (user_named with_one n)
        ≡ verdict_on_user users ours offered r (user_named with_other n)
    alike_on n =
        alike_by_name (verdict_on_user users ours offered r) n
        (λ same. as_nobody users ours offered r (record { username = n; secret = one })
        (renamed one n same under_one))
        (λ same. as_nobody users ours offered r (record { username = n; secret = other })
        (renamed other n same under_other))

    alike_by_hash : (hash : List ℕ)
        → verdict_on_user users ours offered r (user_with_hash with_one hash)
        ≡ verdict_on_user users ours offered r (user_with_hash with_other hash)
    alike_by_hash hash =
        found (find (has_hash users hash) (fin.keys with_one.secrets))
        ∙ ap (λ ks. verdict_on_user users ours offered r
        (option_and_then (user_named with_other) (find (has_hash users hash) ks))) same_keys
      where
        found : (o : Option (List ℕ))
            → verdict_on_user users ours offered r (option_and_then (user_named with_one) o)
            ≡ verdict_on_user users ours offered r (option_and_then (user_named with_other) o)
        found None = refl
        found (Some n) = alike_on n

    alike_named : (hash username : Option (List ℕ))
        → verdict_on_user users ours offered r (named_by hash username with_one feature)
        ≡ verdict_on_user users ours offered r (named_by hash username with_other feature)
    alike_named None None = refl
    alike_named None (Some n) = alike_on n
    alike_named (Some hash) username = by (is_possible feature)
      where
        by : (b : Bool)
            → verdict_on_user users ours offered r (cond b (user_with_hash with_one hash) None)
            ≡ verdict_on_user users ours offered r (cond b (user_with_hash with_other hash) None)
        by true = alike_by_hash hash
        by false = refl

    pub verdict-alike : verdict with_one feature ours offered r
        ≡ verdict with_other feature ours offered r
    verdict-alike = alike_named r.userhash r.username

  pub key-alike : (n : List ℕ) (a : IntegrityAlgorithm)
      → option_and_then (verified_under r) (key_at with_one n a)
      ≡ option_and_then (verified_under r) (key_at with_other n a)
  key-alike n a =
      alike_by_name
      (λ user. option_and_then (verified_under r)
      (option_and_then (λ (u : RegisteredUser). key_of users u a) user)) n
      (λ same. none_of users r a (record { username = n; secret = one })
      (renamed one n same under_one))
      (λ same. none_of users r a (record { username = n; secret = other })
      (renamed other n same under_other))

-- ---- not registered

-- who is named by name and not registered is nobody
pub verdict-unregistered : (users : Registered) (name : List ℕ) (secret : UserSecret)
    (feature : Feature) (ours : List ℕ) (offered : Option AlgorithmSet) (r : Reading)
    → r.userhash ≡ None → r.username ≡ Some name → VerifiesUnderNone users name secret r
    → verdict (with_secret_for users name (Some secret)) feature ours offered r
    ≡ verdict (with_secret_for users name None) feature ours offered r
verdict-unregistered users name secret feature ours offered r no_hash is under =
    ap (λ hash. verdict_on_user users ours offered r
    (named_by hash r.username (with_secret_for users name (Some secret)) feature)) no_hash
    ∙ ap (λ username. verdict_on_user users ours offered r
    (named_by None username (with_secret_for users name (Some secret)) feature)) is
    ∙ ap (λ o. verdict_on_user users ours offered r (with_secret name o))
    (fin.get-insert nat_list_cmp_total users.secrets name secret name
    ∙ ap (λ b. cond b (Some secret) (fin.get users.secrets name)) (same_name name))
    ∙ as_nobody users ours offered r (record { username = name; secret = secret }) under
    ∙ sym
    (ap (λ o. verdict_on_user users ours offered r (with_secret name o))
    (fin.get-remove nat_list_cmp_total users.secrets name name
    ∙ ap (λ b. cond b None (fin.get users.secrets name)) (same_name name)))
    ∙ sym
    (ap (λ username. verdict_on_user users ours offered r
    (named_by None username (with_secret_for users name None) feature)) is)
    ∙ sym
    (ap (λ hash. verdict_on_user users ours offered r
    (named_by hash r.username (with_secret_for users name None) feature)) no_hash)
