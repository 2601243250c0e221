-- A message is judged by the one user whom it means. That user is found where there is no other
-- user, and the verdict looks at no other.
use Rattle.std.proofs.Common.{[]}
use Rattle.std.proofs.Common.{◌≡◌, ℕ, List, ◌∷◌, map, length, Option, Some}
use Rattle.std.proofs.Common.{None, Bool, true, false, refl, sym, ◌∙◌, ap, arith}
use Rattle.std.specs.Prelude.{cond, not, ◌&&◌, ◌||◌}
use Rattle.std.specs.Option.{is_none, option_and_then, option_map, option_map_or, unwrap_or, IfSome}
use Rattle.std.specs.List.{find}
use Rattle.std.specs.Cmp.{eq_by_cmp_equiv}
use Rattle.std.specs.Cmp.Lexicographic.{nat_list_cmp_total}
use Rattle.std.specs.FinMap as fin
use Rattle.std.specs.Str.{bytes_eq}
use Rattle.std.specs.declared.result.Result.{Result}
use Rattle.stun_base.specs.Keys.{userhash_of}
use Rattle.stun_judging.specs.declared.algorithm_set.AlgorithmSet.{AlgorithmSet}
use Rattle.stun_judging.specs.declared.feature.Feature.{Feature}
use Rattle.stun_judging.specs.declared.refusal.VerdictRefusal.{VerdictRefusal}
use Rattle.stun_judging.specs.declared.refusal.VerdictRefusal.TheVariants.{Unauthorized, BadRequest}
use Rattle.stun_base.specs.declared.keys.algorithm.IntegrityAlgorithm.TheVariants.{Sha1}
use Rattle.stun_judging.specs.Feature.{is_possible}
use Rattle.stun_judging.specs.Named.{Named, by_hash, just, named_in, only_user, user_of}
use Rattle.stun_judging.specs.Reading.{Reading}
use Rattle.stun_judging.specs.Registered.{Registered, RegisteredUser, UserSecret}
use Rattle.stun_judging.specs.Registered.{name_cmp, user_named, user_with_hash}
use Rattle.stun_judging.specs.Verdict.{ClientSeen, agreement, named_user, named_by, nonce_refusal}
use Rattle.stun_judging.specs.Verdict.{or_refused, their_nonce, verdict, verified_for}
use Rattle.stun_judging.proofs.ListSteps.{find-passes}

-- ---- nobody, or one user

-- a user of a name who has a secret, if any
abbrev pub with_secret : List ℕ → Option UserSecret → Option RegisteredUser
with_secret name o = option_map (λ secret. record { username = name; secret = secret }) o

nothing : {X : Type 0} (es : List X) → length es ≡ 0 → es ≡ []
nothing [] e = refl
nothing (x ∷ es) e = absurd (omega arith)

pub nobody : fin.entries (fin.empty {X = UserSecret} {R = name_cmp}) ≡ []
nobody = nothing _ (sym (fin.len-entries fin.empty) ∙ fin.len-empty name_cmp UserSecret)

pub one : (name : List ℕ) (secret : UserSecret)
    → fin.entries (fin.insert (fin.empty {R = name_cmp}) name secret) ≡ (name, secret) ∷ []
one name secret = fin.entries-insert nat_list_cmp_total fin.empty name secret
    ∙ ap (fin.put name_cmp name secret) nobody

pub found : (name : List ℕ) (secret : UserSecret)
    → fin.get (fin.insert (fin.empty {R = name_cmp}) name secret) name ≡ Some secret
found name secret =
    fin.get-insert nat_list_cmp_total fin.empty name secret name
    ∙ ap (λ b. cond b (Some secret) (fin.get (fin.empty {R = name_cmp}) name))
    ((eq_by_cmp_equiv nat_list_cmp_total).refl name)

-- the user of a name is found alone
pub named_alone : (users : Registered) (name : List ℕ)
    → user_named (just users (user_named users name)) name ≡ user_named users name
named_alone users name = by (fin.get users.secrets name)
  where
    by : (o : Option UserSecret)
        → with_secret name (fin.get (only_user (with_secret name o)) name)
        ≡ with_secret name o
    by None = ap (with_secret name) (fin.get-empty name_cmp name)
    by (Some secret) = ap (with_secret name) (found name secret)

-- whether a name has a hash
abbrev pub has_hash : Registered → List ℕ → List ℕ → Bool
has_hash users hash name = bytes_eq (userhash_of name users.realm) hash

-- the first of these names that has a hash, as a user of a realm with one user or none
abbrev first_in : Registered → Option RegisteredUser → List ℕ → List (List ℕ × UserSecret)
    → Option RegisteredUser
first_in users user hash es =
    option_and_then (user_named (just users user)) (find (has_hash users hash) (map (λ e. e.0) es))

hashed_of : (users : Registered) (hash name : List ℕ) → has_hash users hash name ≡ true
    → (o : Option UserSecret)
    → user_with_hash (just users (with_secret name o)) hash ≡ with_secret name o
hashed_of users hash name is None = ap (first_in users None hash) nobody
hashed_of users hash name is (Some secret) =
    let user = with_secret name (Some secret) in
    ap (first_in users user hash) (one name secret)
    ∙ ap (λ b. option_and_then (user_named (just users user)) (cond b (Some name) None)) is
    ∙ ap (with_secret name) (found name secret)

-- the first user of a hash is found alone
pub hashed_alone : (users : Registered) (hash : List ℕ)
    → user_with_hash (just users (user_with_hash users hash)) hash ≡ user_with_hash users hash
hashed_alone users hash =
    by (find (has_hash users hash) (fin.keys users.secrets))
    (find-passes (has_hash users hash) (fin.keys users.secrets))
  where
    by : (o : Option (List ℕ)) → IfSome o (λ name. has_hash users hash name ≡ true)
        → user_with_hash (just users (option_and_then (user_named users) o)) hash
        ≡ option_and_then (user_named users) o
    by None h = ap (first_in users None hash) nobody
    by (Some name) h = hashed_of users hash name h (fin.get users.secrets name)

-- ---- the verdict

-- the users without all others than the one who is meant
abbrev pub alone : Registered → Option Named → Registered
alone users who = just users (option_and_then (user_of users) who)

-- whom a message names is found alone
pub named_by-alone : (users : Registered) (feature : Feature) (hash username : Option (List ℕ))
    → named_by hash username (alone users (named_in hash username feature)) feature
    ≡ named_by hash username users feature
named_by-alone users feature None None = refl
named_by-alone users feature None (Some name) = named_alone users name
named_by-alone users feature (Some hash) username = by (is_possible feature)
  where
    by : (b : Bool)
        → cond b (user_with_hash (alone users (cond b (Some (by_hash hash)) None)) hash) None
        ≡ cond b (user_with_hash users hash) None
    by true = hashed_alone users hash
    by false = refl

-- the table of refusals, of the user who is named
abbrev pub rows : Registered → List ℕ → Option AlgorithmSet → Reading → Option RegisteredUser
    → List (Bool × VerdictRefusal)
rows users ours offered r user =
    (is_none r.integrity, Unauthorized)
    ∷ (is_none r.realm || is_none r.nonce, BadRequest)
    ∷ (is_none r.userhash && is_none r.username, BadRequest)
    ∷ (is_none (agreement r (their_nonce r) offered), BadRequest)
    ∷ (not (bytes_eq (their_nonce r) ours), nonce_refusal ours (their_nonce r))
    ∷ (
      is_none (option_and_then (λ a. option_and_then (verified_for users r a) user)
          (agreement r (their_nonce r) offered)),
      Unauthorized,
    )
    ∷ []

abbrev pub verdict_on_user : Registered → List ℕ → Option AlgorithmSet → Reading
    → Option RegisteredUser → Result ClientSeen VerdictRefusal
verdict_on_user users ours offered r user =
    or_refused
    (option_map_or (λ (row : Bool × VerdictRefusal). Some row.1)
    (find (λ (row : Bool × VerdictRefusal). row.0) (rows users ours offered r user)) None)
    (record {
      name = option_map_or (λ (u : RegisteredUser). u.username) user [];
      algorithm = unwrap_or (agreement r (their_nonce r) offered) Sha1;
    })

-- the verdict looks at the users for the one who is named alone
pub verdict-named_user : (users : Registered) (user : Option RegisteredUser) (feature : Feature)
    (ours : List ℕ) (offered : Option AlgorithmSet) (r : Reading)
    → named_user (just users user) feature r ≡ named_user users feature r
    → verdict (just users user) feature ours offered r ≡ verdict users feature ours offered r
verdict-named_user users user feature ours offered r same =
    ap (verdict_on_user users ours offered r) same

-- a verdict is that on the one user who is named
pub verdict-alone : (users : Registered) (feature : Feature) (ours : List ℕ)
    (offered : Option AlgorithmSet) (r : Reading)
    → verdict (alone users (named_in r.userhash r.username feature)) feature ours offered r
    ≡ verdict users feature ours offered r
verdict-alone users feature ours offered r =
    verdict-named_user users _ feature ours offered r
    (named_by-alone users feature r.userhash r.username)

-- of a response: the client of its address
