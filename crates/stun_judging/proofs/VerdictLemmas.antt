-- The verdict that the code finds step by step is the one of the table.
use Rattle.std.proofs.Common.{◌≡◌, ◌↔◌, ℕ, List, [], ◌∷◌, map, Option, Some, None}
use Rattle.std.proofs.Common.{Bool, true, false, refl, sym, ◌∙◌, ap, Ok, Err}
use Rattle.std.specs.Prelude.{cond, not, ◌||◌, ◌&&◌, IsTrue}
use Rattle.std.specs.Option.{is_some, is_none, option_and_then}
use Rattle.std.specs.Option.{option_map, option_map_or, unwrap_or}
use Rattle.std.specs.List.{find}
use Rattle.std.specs.FinMap as fin
use Rattle.std.specs.Str.{bytes_eq}
use Rattle.std.proofs.lemmas.Slice.Eq.{bytes_eq-Decides}
use Rattle.std.specs.declared.result.Result.{Result}
use Rattle.stun_base.specs.declared.keys.algorithm.IntegrityAlgorithm.{IntegrityAlgorithm}
use Rattle.stun_base.specs.declared.keys.algorithm.IntegrityAlgorithm.TheVariants.{Sha1}
use Rattle.stun_types.specs.PasswordAlgorithms.{integrity_of}
use Rattle.stun_types.specs.declared.attribute.password_algorithm.PasswordAlgorithmValue.{
  PasswordAlgorithmValue,
}
use Rattle.stun_types.specs.declared.attribute.password_algorithm.PasswordAlgorithmValue.TheVariants.{
  MD5,
  SHA256,
}
use Rattle.stun_judging.specs.declared.algorithm_set.AlgorithmSet.{AlgorithmSet}
use Rattle.stun_judging.specs.declared.feature.Feature.{Feature}
use Rattle.stun_judging.specs.declared.refusal.VerdictRefusal.{VerdictRefusal}
use Rattle.stun_judging.specs.declared.refusal.VerdictRefusal.TheVariants.{Unauthorized, BadRequest}
use Rattle.stun_judging.specs.Algorithms.{same_list}
use Rattle.stun_judging.specs.Feature.{is_possible}
use Rattle.stun_judging.specs.Reading.{Reading, verified_under}
use Rattle.stun_judging.specs.Registered.{Registered, RegisteredUser, UserSecret, key_of}
use Rattle.stun_judging.specs.Registered.{name_with_hash, user_named, user_with_hash}
use Rattle.stun_judging.specs.Verdict.{ClientSeen, agreement, client_of, named_user, named_by}
use Rattle.stun_judging.specs.Verdict.{nonce_refusal, or_refused, verified_named, verified_for}
use Rattle.stun_judging.specs.Verdict.{their_nonce, verdict}
use Rattle.stun_judging.specs.code.Claims.{name_by, name_in}
use Rattle.stun_judging.proofs.VerdictSteps.{by_attributes, by_choice, by_name, by_steps}

-- ---- lists of password algorithms

same_value : PasswordAlgorithmValue → PasswordAlgorithmValue → Bool
same_value MD5 MD5 = true
same_value SHA256 SHA256 = true
same_value MD5 SHA256 = false
same_value SHA256 MD5 = false

-- lists are the same where the algorithms are
pub same_list-from_same : (xs ys : List PasswordAlgorithmValue) → xs ≡ ys
    → same_list (map integrity_of xs) (map integrity_of ys) ≡ true
same_list-from_same xs ys e =
    ap (λ zs. same_list (map integrity_of xs) (map integrity_of zs)) (sym e) ∙ itself xs
  where
    itself : (zs : List PasswordAlgorithmValue)
        → same_list (map integrity_of zs) (map integrity_of zs) ≡ true
    itself [] = refl
    itself (MD5 ∷ zs) = itself zs
    itself (SHA256 ∷ zs) = itself zs

pub same_from_same_list : (xs ys : List PasswordAlgorithmValue)
    → same_list (map integrity_of xs) (map integrity_of ys) ≡ true → xs ≡ ys
same_from_same_list [] [] h = refl
same_from_same_list [] (y ∷ ys) h = cc
same_from_same_list (x ∷ xs) [] h = cc
same_from_same_list (MD5 ∷ xs) (MD5 ∷ ys) h = ap (λ zs. MD5 ∷ zs) (same_from_same_list xs ys h)
same_from_same_list (SHA256 ∷ xs) (SHA256 ∷ ys) h =
    ap (λ zs. SHA256 ∷ zs) (same_from_same_list xs ys h)
same_from_same_list (MD5 ∷ xs) (SHA256 ∷ ys) h = cc
same_from_same_list (SHA256 ∷ xs) (MD5 ∷ ys) h = cc

-- a test of equality gives the same as the list of the algorithms
pub same_list-tested : (b : Bool) (xs ys : List PasswordAlgorithmValue) → IsTrue b ↔ (xs ≡ ys)
    → b ≡ same_list (map integrity_of xs) (map integrity_of ys)
same_list-tested true xs ys decides = sym (same_list-from_same xs ys (decides.0 refl))
same_list-tested false xs ys decides =
    elim (same_list (map integrity_of xs) (map integrity_of ys)) as (λ b.
    same_list (map integrity_of xs) (map integrity_of ys) ≡ b → false ≡ b) [
      | true ↦ λ h. decides.1 (same_from_same_list xs ys h)
      | false ↦ λ h. refl
    ] refl

-- a test of equality of bytes gives the same as the one of the definitions
pub bytes_eq-tested : (b : Bool) (xs ys : List ℕ) → IsTrue b ↔ (xs ≡ ys) → b ≡ bytes_eq xs ys
bytes_eq-tested true xs ys decides = sym ((bytes_eq-Decides xs ys).1 (decides.0 refl))
bytes_eq-tested false xs ys decides =
    elim (bytes_eq xs ys) as (λ b. bytes_eq xs ys ≡ b → false ≡ b) [
      | true ↦ λ h. decides.1 ((bytes_eq-Decides xs ys).0 h)
      | false ↦ λ h. refl
    ] refl

-- ---- the table

-- the rows of the table, as tests and what is left where none of them holds
abbrev pub by_rows : Bool → Bool → Bool → Bool → Bool → Bool → VerdictRefusal → ClientSeen
    → Result ClientSeen VerdictRefusal
by_rows unprotected incomplete nameless disagreed other unproven other_nonce client =
    cond unprotected (Err Unauthorized)
    (cond incomplete (Err BadRequest) (cond nameless (Err BadRequest)
    (cond disagreed (Err BadRequest)
    (cond other (Err other_nonce) (cond unproven (Err Unauthorized) (Ok client))))))

pub verdict-rows : (users : Registered) (feature : Feature) (ours : List ℕ)
    (offered : Option AlgorithmSet) (r : Reading)
    → verdict users feature ours offered r
    ≡ by_rows (is_none r.integrity) (is_none r.realm || is_none r.nonce)
    (is_none r.userhash && is_none r.username)
    (is_none (agreement r (their_nonce r) offered)) (not (bytes_eq (their_nonce r) ours))
    (is_none (verified_named users feature r (agreement r (their_nonce r) offered)))
    (nonce_refusal ours (their_nonce r)) (client_of users feature ours offered r)
verdict-rows users feature ours offered r =
    rows (is_none r.integrity) (is_none r.realm || is_none r.nonce)
    (is_none r.userhash && is_none r.username)
    (is_none (agreement r (their_nonce r) offered)) (not (bytes_eq (their_nonce r) ours))
    (is_none (verified_named users feature r (agreement r (their_nonce r) offered)))
    (nonce_refusal ours (their_nonce r)) (client_of users feature ours offered r)
  where
    rows : (a b c d e f : Bool) (n : VerdictRefusal) (client : ClientSeen)
        → or_refused
        (option_map_or (λ (row : Bool × VerdictRefusal). Some row.1)
        (find (λ (row : Bool × VerdictRefusal). row.0)
        ((a, Unauthorized) ∷ (b, BadRequest) ∷ (c, BadRequest) ∷ (d, BadRequest) ∷ (e, n)
        ∷ (f, Unauthorized) ∷ [])) None) client
        ≡ by_rows a b c d e f n client
    rows true b c d e f n client = refl
    rows false true c d e f n client = refl
    rows false false true d e f n client = refl
    rows false false false true e f n client = refl
    rows false false false false true f n client = refl
    rows false false false false false true n client = refl
    rows false false false false false false n client = refl

-- ---- the steps

pub named_by-two_steps : (users : Registered) (feature : Feature) (hash username : Option (List ℕ))
    → named_by hash username users feature
    ≡ option_and_then (user_named users) (name_by hash username users feature)
named_by-two_steps users feature None username = refl
named_by-two_steps users feature (Some hash) username = by (is_possible feature)
  where
    by : (b : Bool) → cond b (user_with_hash users hash) None
        ≡ option_and_then (user_named users) (cond b (name_with_hash users hash) None)
    by true = refl
    by false = refl

-- a client, unless the digest is not there
abbrev unless : Bool → ClientSeen → Result ClientSeen VerdictRefusal
unless true client = Err Unauthorized
unless false client = Ok client

unless-is_some : (o : Option IntegrityAlgorithm) (client : ClientSeen)
    → cond (is_some o) (Ok client) (Err Unauthorized) ≡ unless (is_none o) client
unless-is_some None client = refl
unless-is_some (Some a) client = refl

unless-cond : (b : Bool) (client : ClientSeen)
    → unless b client ≡ cond b (Err Unauthorized) (Ok client)
unless-cond true client = refl
unless-cond false client = refl

-- a user who is perhaps not there, and the name, if any
abbrev name_or : Option RegisteredUser → List ℕ
name_or user = option_map_or (λ (u : RegisteredUser). u.username) user []

-- the last two steps, of a name and an algorithm
last_steps : (users : Registered) (r : Reading) (a : IntegrityAlgorithm) (name : Option (List ℕ))
    → by_name users r name a
    ≡ unless
    (is_none (option_and_then (verified_for users r a) (option_and_then (user_named users) name)))
    (record { name = name_or (option_and_then (user_named users) name); algorithm = a })
last_steps users r a None = refl
last_steps users r a (Some name) = of_secret (fin.get users.secrets name)
  where
    of_secret : (o : Option UserSecret)
        → cond (is_some
        (option_and_then (verified_under r)
        (option_and_then (λ (user : RegisteredUser). key_of users user a)
        (option_map (λ secret. record { username = name; secret = secret }) o))))
        (Ok (record { name = name; algorithm = a })) (Err Unauthorized)
        ≡ unless
        (is_none
        (option_and_then (verified_for users r a)
        (option_map (λ secret. record { username = name; secret = secret }) o)))
        (record {
          name = name_or (option_map (λ secret. record { username = name; secret = secret }) o);
          algorithm = a;
        })
    of_secret None = refl
    of_secret (Some secret) =
        unless-is_some
        (option_and_then (verified_under r)
        (key_of users (record { username = name; secret = secret }) a))
        (record { name = name; algorithm = a })

-- the rows from the fourth on, where a nonce is named
abbrev rows_from : Registered → Feature → List ℕ → Option AlgorithmSet → Reading → List ℕ
    → Option IntegrityAlgorithm → Result ClientSeen VerdictRefusal
rows_from users feature ours offered r theirs chosen =
    cond (is_none chosen) (Err BadRequest)
    (cond (not (bytes_eq theirs ours)) (Err (nonce_refusal ours theirs))
    (cond (is_none (verified_named users feature r chosen)) (Err Unauthorized)
    (Ok (record {
      name = name_or (named_user users feature r);
      algorithm = unwrap_or chosen Sha1;
    }))))

by_choice-rows : (users : Registered) (feature : Feature) (ours : List ℕ)
    (offered : Option AlgorithmSet) (r : Reading) (theirs : List ℕ)
    (chosen : Option IntegrityAlgorithm)
    → by_choice users feature ours r theirs chosen
    ≡ rows_from users feature ours offered r theirs chosen
by_choice-rows users feature ours offered r theirs None = refl
by_choice-rows users feature ours offered r theirs (Some a) = by (bytes_eq theirs ours)
  where
    judged : by_name users r (name_in users feature r) a
        ≡ cond (is_none (option_and_then (verified_for users r a) (named_user users feature r)))
        (Err Unauthorized)
        (Ok (record { name = name_or (named_user users feature r); algorithm = a }))
    judged =
        last_steps users r a (name_in users feature r)
        ∙ ap (λ (user : Option RegisteredUser).
        unless (is_none (option_and_then (verified_for users r a) user))
        (record { name = name_or user; algorithm = a }))
        (sym (named_by-two_steps users feature r.userhash r.username))
        ∙ unless-cond
        (is_none (option_and_then (verified_for users r a) (named_user users feature r)))
        (record { name = name_or (named_user users feature r); algorithm = a })

    by : (b : Bool)
        → cond b (by_name users r (name_in users feature r) a) (Err (nonce_refusal ours theirs))
        ≡ cond (not b) (Err (nonce_refusal ours theirs))
        (cond (is_none (option_and_then (verified_for users r a) (named_user users feature r)))
        (Err Unauthorized)
        (Ok (record { name = name_or (named_user users feature r); algorithm = a })))
    by true = judged
    by false = refl

-- the first three rows, of what is there
first_rows : (users : Registered) (feature : Feature) (ours : List ℕ)
    (offered : Option AlgorithmSet) (r : Reading)
    (integrity : Option (List ℕ → Option IntegrityAlgorithm))
    (realm nonce hash username : Option (List ℕ))
    → cond (not (is_some integrity)) (Err Unauthorized)
    (cond (not (is_some realm && is_some nonce && (is_some hash || is_some username)))
    (Err BadRequest)
    (by_attributes users feature ours offered r nonce))
    ≡ cond (is_none integrity) (Err Unauthorized)
    (cond (is_none realm || is_none nonce) (Err BadRequest)
    (cond (is_none hash && is_none username) (Err BadRequest)
    (rows_from users feature ours offered r (unwrap_or nonce [])
    (agreement r (unwrap_or nonce []) offered))))
first_rows users feature ours offered r None realm nonce hash username = refl
first_rows users feature ours offered r (Some verify) None nonce hash username = refl
first_rows users feature ours offered r (Some verify) (Some realm) None hash username = refl
first_rows users feature ours offered r (Some verify) (Some realm) (Some nonce) None None = refl
first_rows users feature ours offered r (Some verify) (Some realm) (Some nonce) (Some hash)
    username =
    by_choice-rows users feature ours offered r nonce (agreement r nonce offered)
first_rows users feature ours offered r (Some verify) (Some realm) (Some nonce) None
    (Some username) =
    by_choice-rows users feature ours offered r nonce (agreement r nonce offered)

-- the steps give the verdict of the table
pub by_steps-verdict : (users : Registered) (feature : Feature) (ours : List ℕ)
    (offered : Option AlgorithmSet) (r : Reading)
    → by_steps users feature ours offered r ≡ verdict users feature ours offered r
by_steps-verdict users feature ours offered r =
    first_rows users feature ours offered r r.integrity r.realm r.nonce r.userhash r.username
    ∙ sym (verdict-rows users feature ours offered r)
