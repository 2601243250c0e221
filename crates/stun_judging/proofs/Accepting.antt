-- The verdict is acceptance if and only if the conjunction holds.
use Rattle.std.proofs.Common.{◌≡◌, ℕ, List, Option, Some, None, Bool}
use Rattle.std.proofs.Common.{true, false, refl, sym, ◌∙◌, ap, Ok, Err}
use Rattle.std.specs.Prelude.{cond, not, ◌||◌, ◌&&◌}
use Rattle.std.specs.Option.{is_none, is_some, IsSome, option_and_then, option_map}
use Rattle.std.specs.FinMap as fin
use Rattle.std.specs.Str.{bytes_eq}
use Rattle.std.specs.declared.result.Result.{Result}
use Rattle.std.proofs.lemmas.Slice.Eq.{bytes_eq-Decides}
use Rattle.stun_base.specs.declared.keys.algorithm.IntegrityAlgorithm.{IntegrityAlgorithm}
use Rattle.stun_judging.specs.declared.algorithm_set.AlgorithmSet.{AlgorithmSet}
use Rattle.stun_judging.specs.declared.feature.Feature.{Feature}
use Rattle.stun_judging.specs.declared.refusal.VerdictRefusal.{VerdictRefusal}
use Rattle.stun_judging.specs.declared.refusal.VerdictRefusal.TheVariants as Refused
use Rattle.stun_judging.specs.Algorithms.{contains}
use Rattle.stun_judging.specs.Judged.{AcceptedSeen, JudgesAccepted, client_judged}
use Rattle.stun_judging.specs.Reading.{Reading, verified_under, is_complete}
use Rattle.stun_judging.specs.Registered.{Registered, RegisteredUser, UserSecret}
use Rattle.stun_judging.specs.Registered.{key_at, key_from, key_if, key_of, user_named}
use Rattle.stun_judging.specs.Verdict.{ClientSeen, IsAccepted, IsAcceptedOffering, agreement}
use Rattle.stun_judging.specs.Verdict.{agreement_offering, client_of, is_unoffered, nonce_refusal}
use Rattle.stun_judging.specs.Verdict.{their_nonce, verdict, verdict_offering, verified_named}
use Rattle.stun_judging.specs.code.Claims.{name_by, name_in}
use Rattle.stun_judging.proofs.VerdictSteps.{by_attributes, by_choice, by_digest, by_name}
use Rattle.stun_judging.proofs.VerdictLemmas.{by_rows, by_steps-verdict, named_by-two_steps}
use Rattle.stun_judging.proofs.VerdictLemmas.{verdict-rows}

-- ---- from the verdict

past : {X : Type 0} (b : Bool) (e : VerdictRefusal) (x : Result X VerdictRefusal) (c : X)
    → cond b (Err e) x ≡ Ok c → (b ≡ false) × (x ≡ Ok c)
past true e x c h = cc
past false e x c h = (refl, h)

passed : {X : Type 0} (b : Bool) (e : VerdictRefusal) (x : Result X VerdictRefusal) (c : X)
    → cond b x (Err e) ≡ Ok c → (b ≡ true) × (x ≡ Ok c)
passed true e x c h = (refl, h)
passed false e x c h = cc

unturned : (b : Bool) → not b ≡ false → b ≡ true
unturned true h = refl
unturned false h = cc

front_true : (a b : Bool) → (a && b) ≡ true → a ≡ true
front_true true b h = refl
front_true false b h = cc

-- a key that a digest verifies under is that of a registered user for a supported algorithm
pub record HasKey (users : Registered) (r : Reading) (name : List ℕ) (a : IntegrityAlgorithm) : Type
    0 where
  pub secret : UserSecret
  pub key : List ℕ
  pub present : fin.get users.secrets name ≡ Some secret
  pub supported : contains a users.algorithms ≡ true
  pub key_is : key_from a name users.realm secret ≡ Some key
  pub digest : IsSome (verified_under r key)

-- so does the key that a secret gives
has_key_from : (users : Registered) (r : Reading) (name : List ℕ) (a : IntegrityAlgorithm)
    (secret : UserSecret) (o : Option (List ℕ))
    → fin.get users.secrets name ≡ Some secret → contains a users.algorithms ≡ true
    → key_from a name users.realm secret ≡ o
    → IsSome (option_and_then (verified_under r) o) → HasKey users r name a
has_key_from users r name a secret None found there given h = cc
has_key_from users r name a secret (Some key) found there given h =
    record {
      secret = secret;
      key = key;
      present = found;
      supported = there;
      key_is = given;
      digest = h;
    }

has_key : (users : Registered) (r : Reading) (name : List ℕ) (a : IntegrityAlgorithm)
    (o : Option UserSecret) (b : Bool)
    → fin.get users.secrets name ≡ o → contains a users.algorithms ≡ b
    → IsSome
    (option_and_then (verified_under r)
    (option_and_then (λ (user : RegisteredUser). key_if b a user.username users.realm user.secret)
    (option_map (λ secret. record { username = name; secret = secret }) o)))
    → HasKey users r name a
has_key users r name a None b found there h = cc
has_key users r name a (Some secret) false found there h = cc
has_key users r name a (Some secret) true found there h =
    has_key_from users r name a secret (key_from a name users.realm secret) found there refl h

module _ (users : Registered) (feature : Feature) (ours : List ℕ) (offered : Option AlgorithmSet)
    (r : Reading) (client : ClientSeen) where
  digests : (is_some r.realm ≡ true) → (theirs : List ℕ) → r.nonce ≡ Some theirs → theirs ≡ ours
      → (a : IntegrityAlgorithm)
      → agreement r theirs offered ≡ Some a → (name : List ℕ) → name_in users feature r ≡ Some name
      → by_digest users r name a ≡ Ok client
      → IsAccepted users feature ours offered r client
  digests realm theirs nonce same a choice name user h =
      let stood =
      passed (is_some (option_and_then (verified_under r) (key_at users name a))) _ _ client h in
      let names : name ≡ client.name = cc in
      let algorithms : a ≡ client.algorithm = cc in
      let digest : IsSome
      (option_and_then (verified_under r) (key_at users client.name client.algorithm)) =
      sym (ap (λ n. is_some (option_and_then (verified_under r) (key_at users n client.algorithm)))
      names)
      ∙ sym (ap (λ x. is_some (option_and_then (verified_under r) (key_at users name x)))
      algorithms) ∙ stood.0 in
      let key =
      has_key users r client.name client.algorithm (fin.get users.secrets client.name)
      (contains client.algorithm users.algorithms) refl refl digest in
      record {
        secret = key.secret;
        key = key.key;
        realm = realm;
        nonce = nonce ∙ ap Some same;
        algorithm = sym (ap (λ n. agreement r n offered) same) ∙ choice ∙ ap Some algorithms;
        named = named_by-two_steps users feature r.userhash r.username
            ∙ ap (option_and_then (user_named users)) (user ∙ ap Some names)
            ∙ ap (option_map
            (λ (secret : UserSecret). record { username = client.name; secret = secret }))
            key.present;
        present = key.present;
        supported = key.supported;
        key_is = key.key_is;
        digest = key.digest;
      }

  by_names : (is_some r.realm ≡ true) → (theirs : List ℕ) → r.nonce ≡ Some theirs → theirs ≡ ours
      → (a : IntegrityAlgorithm)
      → agreement r theirs offered ≡ Some a → (o : Option (List ℕ)) → name_in users feature r ≡ o
      → by_name users r o a ≡ Ok client
      → IsAccepted users feature ours offered r client
  by_names realm theirs nonce same a choice None user h = cc
  by_names realm theirs nonce same a choice (Some name) user h =
      digests realm theirs nonce same a choice name user h

  by_choices : (is_some r.realm ≡ true) → (theirs : List ℕ) → r.nonce ≡ Some theirs
      → (o : Option IntegrityAlgorithm)
      → agreement r theirs offered ≡ o → by_choice users feature ours r theirs o ≡ Ok client
      → IsAccepted users feature ours offered r client
  by_choices realm theirs nonce None choice h = cc
  by_choices realm theirs nonce (Some a) choice h =
      let same = passed (bytes_eq theirs ours) _ _ client h in
      by_names realm theirs nonce ((bytes_eq-Decides theirs ours).0 same.0) a choice
      (name_in users feature r) refl same.1

  by_nonces : (is_some r.realm ≡ true) → (o : Option (List ℕ)) → r.nonce ≡ o
      → by_attributes users feature ours offered r o ≡ Ok client
      → IsAccepted users feature ours offered r client
  by_nonces realm None nonce h = cc
  by_nonces realm (Some theirs) nonce h =
      by_choices realm theirs nonce (agreement r theirs offered) refl h

  pub accepted_from_verdict : verdict users feature ours offered r ≡ Ok client
      → IsAccepted users feature ours offered r client
  accepted_from_verdict judged =
      let h = by_steps-verdict users feature ours offered r ∙ judged in
      let some = past (not (is_some r.integrity)) _ _ client h in
      let whole = past (not (is_complete r)) _ _ client some.1 in
      let realm : is_some r.realm ≡ true =
      front_true _ _ (front_true _ _ (unturned (is_complete r) whole.0)) in
      by_nonces realm r.nonce refl whole.1

-- ---- to the verdict

-- a digest that verifies is there
protected : (o : Option (List ℕ → Option IntegrityAlgorithm)) (key : List ℕ)
    → IsSome (option_and_then (λ (verify : List ℕ → Option IntegrityAlgorithm). verify key) o)
    → is_some o ≡ true
protected None key h = cc
protected (Some verify) key h = refl

all_there : (a b c : Bool) → a ≡ true → b ≡ true → c ≡ true → (a && b && c) ≡ true
all_there true true true p q s = refl
all_there false b c p q s = cc
all_there true false c p q s = cc
all_there true true false p q s = cc

name_there : (users : Registered) (feature : Feature) (name : List ℕ)
    (hash username : Option (List ℕ))
    → name_by hash username users feature ≡ Some name → (is_some hash || is_some username) ≡ true
name_there users feature name None None h = cc
name_there users feature name None (Some u) h = refl
name_there users feature name (Some k) username h = refl

-- the name of a registered user is the name that was looked up
looked_up : (users : Registered) (user : RegisteredUser) (name : Option (List ℕ))
    → option_and_then (user_named users) name ≡ Some user → name ≡ Some user.username
looked_up users user None h = cc
looked_up users user (Some name) h = of_secret (fin.get users.secrets name) h
  where
    of_secret : (o : Option UserSecret)
        → option_map (λ (secret : UserSecret). record { username = name; secret = secret }) o
        ≡ Some user → Some name ≡ Some user.username
    of_secret None e = cc
    of_secret (Some secret) e = ap (option_map (λ (u : RegisteredUser). u.username)) e

-- who is accepted under one nonce is accepted under another if that is the same, and refused by it
pub verdict_under_other : (users : Registered) (feature : Feature) (ours other : List ℕ)
    (offered : Option AlgorithmSet) (r : Reading) (client : ClientSeen)
    → IsAccepted users feature ours offered r client
    → verdict users feature other offered r
    ≡ cond (bytes_eq ours other) (Ok client) (Err (nonce_refusal other ours))
verdict_under_other users feature ours other offered r client h =
    let user : RegisteredUser = record { username = client.name; secret = h.secret } in
    let name : name_in users feature r ≡ Some client.name =
    looked_up users user (name_in users feature r)
    (sym (named_by-two_steps users feature r.userhash r.username) ∙ h.named) in
    let key : key_at users client.name client.algorithm ≡ Some h.key =
    ap (λ o.
    option_and_then (λ (u : RegisteredUser). key_of users u client.algorithm)
    (option_map (λ (secret : UserSecret). record { username = client.name; secret = secret }) o))
    h.present
    ∙ ap (λ b. key_if b client.algorithm client.name users.realm h.secret) h.supported ∙ h.key_is in
    let whole : is_complete r ≡ true =
    all_there (is_some r.realm) (is_some r.nonce) (is_some r.userhash || is_some r.username) h.realm
    (ap is_some h.nonce) (name_there users feature client.name r.userhash r.username name) in
    let there : is_some r.integrity ≡ true = protected r.integrity h.key h.digest in
    sym (by_steps-verdict users feature other offered r)
    ∙ ap (λ b.
    cond (not b) (Err Refused.Unauthorized)
    (cond (not (is_complete r)) (Err Refused.BadRequest)
    (by_attributes users feature other offered r r.nonce))) there
    ∙ ap (λ b. cond (not b) (Err Refused.BadRequest)
    (by_attributes users feature other offered r r.nonce)) whole
    ∙ ap (by_attributes users feature other offered r) h.nonce
    ∙ ap (by_choice users feature other r ours) h.algorithm
    ∙ ap (λ (v : Result ClientSeen VerdictRefusal).
    cond (bytes_eq ours other) v (Err (nonce_refusal other ours)))
    (ap (λ o. by_name users r o client.algorithm) name
    ∙ ap (λ o. cond (is_some (option_and_then (verified_under r) o)) (Ok client)
    (Err Refused.Unauthorized)) key
    ∙ ap (λ b. cond b (Ok client) (Err Refused.Unauthorized)) h.digest)

pub verdict_from_accepted : (users : Registered) (feature : Feature) (ours : List ℕ)
    (offered : Option AlgorithmSet) (r : Reading) (client : ClientSeen)
    → IsAccepted users feature ours offered r client
    → verdict users feature ours offered r ≡ Ok client
verdict_from_accepted users feature ours offered r client h =
    verdict_under_other users feature ours ours offered r client h
    ∙ ap (λ b. cond b (Ok client) (Err (nonce_refusal ours ours)))
    ((bytes_eq-Decides ours ours).1 refl)

-- ---- a server that offers what it supports

behind_true : (a b : Bool) → a ≡ true → (a && b) ≡ false → b ≡ false
behind_true true b there h = h
behind_true false b there h = cc

pub never_both : (a b : Bool) → b ≡ false → (a && b) ≡ false
never_both true b h = h
never_both false b h = refl

-- a message whose algorithms were offered has the verdict of every server
pub offering_as_all : (users : Registered) (feature : Feature) (ours : List ℕ)
    (supported : AlgorithmSet) (r : Reading) → is_unoffered supported r ≡ false
    → verdict_offering users feature ours supported r
    ≡ verdict users feature ours (Some supported) r
offering_as_all users feature ours supported r h =
    ap (λ b. cond b (Err Refused.BadRequest) (verdict users feature ours (Some supported) r))
    (never_both (is_some r.integrity) (is_unoffered supported r) h)

-- the rows of the table, for a server that offers what it supports
pub offering_rows : (users : Registered) (feature : Feature) (ours : List ℕ)
    (supported : AlgorithmSet) (r : Reading)
    → verdict_offering users feature ours supported r
    ≡ by_rows (is_none r.integrity) (is_none r.realm || is_none r.nonce)
    (is_none r.userhash && is_none r.username)
    (is_none (agreement_offering supported r)) (not (bytes_eq (their_nonce r) ours))
    (is_none (verified_named users feature r (agreement_offering supported r)))
    (nonce_refusal ours (their_nonce r)) (client_of users feature ours (Some supported) r)
offering_rows users feature ours supported r =
    ap (λ v. cond (is_some r.integrity && is_unoffered supported r) (Err Refused.BadRequest) v)
    (verdict-rows users feature ours (Some supported) r)
    ∙ by (is_unoffered supported r) r.integrity (is_none r.realm || is_none r.nonce)
    (is_none r.userhash && is_none r.username)
  where
    none_agreed : Option IntegrityAlgorithm
    none_agreed = None

    agreed : Option IntegrityAlgorithm
    agreed = agreement r (their_nonce r) (Some supported)

    by : (b : Bool) (i : Option (List ℕ → Option IntegrityAlgorithm)) (lacks nameless : Bool)
        → cond (is_some i && b) (Err Refused.BadRequest)
        (by_rows (is_none i) lacks nameless (is_none agreed) (not (bytes_eq (their_nonce r) ours))
        (is_none (verified_named users feature r agreed)) (nonce_refusal ours (their_nonce r))
        (client_of users feature ours (Some supported) r))
        ≡ by_rows (is_none i) lacks nameless (is_none (cond b none_agreed agreed))
        (not (bytes_eq (their_nonce r) ours))
        (is_none (verified_named users feature r (cond b none_agreed agreed)))
        (nonce_refusal ours (their_nonce r)) (client_of users feature ours (Some supported) r)
    by false None lacks nameless = refl
    by false (Some verify) lacks nameless = refl
    by true None lacks nameless = refl
    by true (Some verify) true nameless = refl
    by true (Some verify) false true = refl
    by true (Some verify) false false = refl

pub offering_from_verdict : (users : Registered) (feature : Feature) (ours : List ℕ)
    (supported : AlgorithmSet) (r : Reading) (client : ClientSeen)
    → verdict_offering users feature ours supported r ≡ Ok client
    → IsAcceptedOffering users feature ours supported r client
offering_from_verdict users feature ours supported r client h =
    let stood =
    past (is_some r.integrity && is_unoffered supported r) _
    (verdict users feature ours (Some supported) r) client h in
    let one = accepted_from_verdict users feature ours (Some supported) r client stood.1 in
    record {
      offered = behind_true (is_some r.integrity) (is_unoffered supported r)
          (protected r.integrity one.key one.digest) stood.0;
      accepted = one;
    }

-- who is accepted under one nonce is accepted under another if that is the same, and refused by it
pub offering_under_other : (users : Registered) (feature : Feature) (ours other : List ℕ)
    (supported : AlgorithmSet) (r : Reading) (client : ClientSeen)
    → IsAcceptedOffering users feature ours supported r client
    → verdict_offering users feature other supported r
    ≡ cond (bytes_eq ours other) (Ok client) (Err (nonce_refusal other ours))
offering_under_other users feature ours other supported r client h =
    offering_as_all users feature other supported r h.offered
    ∙ verdict_under_other users feature ours other (Some supported) r client h.accepted

pub verdict_from_offering : (users : Registered) (feature : Feature) (ours : List ℕ)
    (supported : AlgorithmSet) (r : Reading) (client : ClientSeen)
    → IsAcceptedOffering users feature ours supported r client
    → verdict_offering users feature ours supported r ≡ Ok client
verdict_from_offering users feature ours supported r client h =
    offering_as_all users feature ours supported r h.offered
    ∙ verdict_from_accepted users feature ours (Some supported) r client h.accepted

-- ---- a verdict under a nonce that the caller gives

-- a client is judged to be accepted if and only if the conjunction holds
pub judged-accepted : (users : Registered) (feature : Feature) (ours : List ℕ)
    (supported : AlgorithmSet) (r : Reading) (given : Result AcceptedSeen VerdictRefusal)
    → client_judged given ≡ verdict_offering users feature ours supported r
    → JudgesAccepted users feature ours supported r given
judged-accepted users feature ours supported r given same client = (
  λ h. offering_from_verdict users feature ours supported r client (sym same ∙ h),
  λ one. same ∙ verdict_from_offering users feature ours supported r client one,
)
