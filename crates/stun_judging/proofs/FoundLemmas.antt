-- A user who was found is judged as the only user of a server: the message names that user or nobody,
-- and the key is that of the agreed algorithm.
use Rattle.std.proofs.Common.{◌≡◌, ℕ, List, [], map, Option, Some, None}
use Rattle.std.proofs.Common.{Bool, true, false, true≢false, refl, sym, ◌∙◌, ap, Ok, Err}
use Rattle.std.specs.Prelude.{◌≢◌, cond, not, ◌||◌, ◌&&◌}
use Rattle.std.specs.Option.{IsSome, is_none, is_some, option_and_then, option_map}
use Rattle.std.specs.Option.{option_map_or, unwrap_or}
use Rattle.std.specs.Cmp.Lexicographic.{nat_list_cmp_total}
use Rattle.std.specs.List.{find}
use Rattle.std.specs.FinMap as fin
use Rattle.std.specs.Str.{bytes_eq}
use Rattle.std.specs.declared.result.Result.{Result}
use Rattle.std.proofs.lemmas.Slice.Eq.{bytes_eq-Decides}
use Rattle.stun_base.specs.declared.keys.algorithm.IntegrityAlgorithm.{IntegrityAlgorithm}
use Rattle.stun_base.specs.declared.keys.algorithm.IntegrityAlgorithm.TheVariants.{Sha1}
use Rattle.stun_judging.specs.declared.algorithm_set.AlgorithmSet.{AlgorithmSet}
use Rattle.stun_judging.specs.declared.feature.Feature.{Feature}
use Rattle.stun_judging.specs.declared.refusal.VerdictRefusal.{VerdictRefusal}
use Rattle.stun_judging.specs.declared.refusal.VerdictRefusal.TheVariants.{Unauthorized}
use Rattle.stun_judging.specs.Feature.{is_possible}
use Rattle.stun_judging.specs.Found.{ClaimSeen, claim_by, claim_of, found_key, found_verdict}
use Rattle.stun_judging.specs.Found.{is_claimed, verifying}
use Rattle.stun_judging.specs.Named.{Named, by_hash, by_name, just, named_in}
use Rattle.stun_judging.specs.Reading.{Reading, reading_of, verified_under, is_complete}
use Rattle.stun_judging.specs.Registered.{Registered, RegisteredUser, UserSecret, key_at, key_of}
use Rattle.stun_judging.specs.Registered.{name_cmp, user_named, user_with_hash}
use Rattle.stun_judging.specs.Verdict.{ClientSeen}
use Rattle.stun_judging.specs.Verdict.{agreement, agreement_offering, client_of, is_unoffered}
use Rattle.stun_judging.specs.Verdict.{named_by, named_user, nonce_refusal, their_nonce}
use Rattle.stun_judging.specs.Verdict.{verdict, verdict_offering, verified_for, verified_named}
use Rattle.stun_judging.proofs.Accepting.{offering_as_all}
use Rattle.stun_judging.proofs.MeantUser.{found, has_hash, one, with_secret}
use Rattle.stun_judging.proofs.UserKeys.{other_name}
use Rattle.stun_judging.proofs.VerdictLemmas.{by_rows, verdict-rows}

-- ---- what a claim says

module _ (bytes : List ℕ) where
  pub record Claims (i c : Bool) (chosen : Option IntegrityAlgorithm) (who : Option Named)
      (claim : ClaimSeen) : Type 0 where
    pub signed : i ≡ true
    pub complete : c ≡ true
    pub agreed : chosen ≡ Some claim.algorithm
    pub named : who ≡ Some claim.user
    pub whose : claim.message ≡ bytes

  pub claims : (i c : Bool) (chosen : Option IntegrityAlgorithm) (who : Option Named)
      (claim : ClaimSeen) → cond (i && c) (claim_by bytes chosen who) None ≡ Some claim
      → Claims i c chosen who claim
  claims false c chosen who claim h = cc
  claims true false chosen who claim h = cc
  claims true true None who claim h = cc
  claims true true (Some a) None claim h = cc
  claims true true (Some a) (Some user) claim h =
      record { signed = refl; complete = refl; agreed = cc; named = cc; whose = cc }

-- a claim is of its message
pub claim_message : (algorithms : AlgorithmSet) (feature : Feature) (bytes : List ℕ)
    (claim : ClaimSeen) → claim_of algorithms feature bytes ≡ Some claim → claim.message ≡ bytes
claim_message algorithms feature bytes claim h =
    let r = reading_of bytes in
    (claims bytes (is_some r.integrity) (is_complete r) (agreement_offering algorithms r)
    (named_in r.userhash r.username feature) claim h).whose

-- an algorithm that is agreed on was offered, if there was a list
past_offer : (b : Bool) (o : Option IntegrityAlgorithm) (a : IntegrityAlgorithm)
    → cond b None o ≡ Some a → (b ≡ false) × (o ≡ Some a)
past_offer true o a h = cc
past_offer false o a h = (refl, h)

pub offering_agreed : (supported : AlgorithmSet) (r : Reading) (a : IntegrityAlgorithm)
    → agreement_offering supported r ≡ Some a
    → (is_unoffered supported r ≡ false)
    × (agreement r (their_nonce r) (Some supported) ≡ Some a)
offering_agreed supported r a h =
    past_offer (is_unoffered supported r) (agreement r (their_nonce r) (Some supported)) a h

-- the rows before the last hold of no such message
past_rows : (i : Option (List ℕ → Option IntegrityAlgorithm)) (realm nonce hash name : Option (List ℕ))
    (chosen : Option IntegrityAlgorithm) (unproven : Bool) (n : VerdictRefusal) (client : ClientSeen)
    → is_some i ≡ true
    → (is_some realm && is_some nonce && (is_some hash || is_some name)) ≡ true
    → is_some chosen ≡ true
    → by_rows (is_none i) (is_none realm || is_none nonce) (is_none hash && is_none name)
    (is_none chosen) false unproven n client
    ≡ cond unproven (Err Unauthorized) (Ok client)
past_rows None realm nonce hash name chosen unproven n client h k a = cc
past_rows (Some i) None nonce hash name chosen unproven n client h k a = cc
past_rows (Some i) (Some realm) None hash name chosen unproven n client h k a = cc
past_rows (Some i) (Some realm) (Some nonce) None None chosen unproven n client h k a = cc
past_rows (Some i) (Some realm) (Some nonce) None (Some name) None unproven n client h k a = cc
past_rows (Some i) (Some realm) (Some nonce) None (Some name) (Some x) unproven n client h k a = refl
past_rows (Some i) (Some realm) (Some nonce) (Some hash) name None unproven n client h k a = cc
past_rows (Some i) (Some realm) (Some nonce) (Some hash) name (Some x) unproven n client h k a = refl

-- so the last row alone decides on a claim under its own nonce, whoever the users are
pub claim_row : (users : Registered) (feature : Feature) (algorithms : AlgorithmSet)
    (bytes : List ℕ) (claim : ClaimSeen) → claim_of algorithms feature bytes ≡ Some claim
    → verdict users feature (their_nonce (reading_of bytes)) (Some algorithms) (reading_of bytes)
    ≡ cond (is_none (verified_named users feature (reading_of bytes)
    (agreement (reading_of bytes) (their_nonce (reading_of bytes)) (Some algorithms))))
    (Err Unauthorized)
    (Ok (client_of users feature (their_nonce (reading_of bytes)) (Some algorithms)
    (reading_of bytes)))
claim_row users feature algorithms bytes claim h =
    let r = reading_of bytes in
    let ours = their_nonce r in
    let chosen = agreement r ours (Some algorithms) in
    let k =
    claims bytes (is_some r.integrity) (is_complete r) (agreement_offering algorithms r)
    (named_in r.userhash r.username feature) claim h in
    let agreed = (offering_agreed algorithms r claim.algorithm k.agreed).1 in
    let client = client_of users feature ours (Some algorithms) r in
    let unproven = is_none (verified_named users feature r chosen) in
    verdict-rows users feature ours (Some algorithms) r
    ∙ ap (λ q. by_rows (is_none r.integrity) (is_none r.realm || is_none r.nonce)
    (is_none r.userhash && is_none r.username) (is_none chosen) (not q) unproven
    (nonce_refusal ours ours) client) ((bytes_eq-Decides ours ours).1 refl)
    ∙ past_rows r.integrity r.realm r.nonce r.userhash r.username chosen unproven
    (nonce_refusal ours ours) client k.signed k.complete (ap is_some agreed)

-- ---- the user who is named

module _ (users : Registered) (user : RegisteredUser) where
  -- the one user, if this name is the user's
  by_this_name : (name : List ℕ)
      → user_named (just users (Some user)) name
      ≡ cond (bytes_eq name user.username) (Some user) None
  by_this_name name = by (bytes_eq name user.username) refl
    where
      by : (b : Bool) → bytes_eq name user.username ≡ b
          → user_named (just users (Some user)) name ≡ cond b (Some user) None
      by true h =
          ap (user_named (just users (Some user))) ((bytes_eq-Decides name user.username).0 h)
          ∙ ap (with_secret user.username) (found user.username user.secret)
      by false h =
          let apart : name ≢ user.username =
          λ same. true≢false (sym ((bytes_eq-Decides name user.username).1 same) ∙ h) in
          ap (with_secret name)
          (fin.get-insert nat_list_cmp_total fin.empty user.username user.secret name
          ∙ other_name name user.username apart (Some user.secret) (fin.get fin.empty name)
          ∙ fin.get-empty name_cmp name)

  -- the one user, if the user's name has this hash
  by_this_hash : (hash : List ℕ)
      → user_with_hash (just users (Some user)) hash
      ≡ cond (has_hash users hash user.username) (Some user) None
  by_this_hash hash =
      ap (λ (es : List (List ℕ × UserSecret)). option_and_then (user_named (just users (Some user)))
      (find (has_hash users hash) (map (λ e. e.0) es))) (one user.username user.secret)
      ∙ by (has_hash users hash user.username)
    where
      by : (b : Bool)
          → option_and_then (user_named (just users (Some user))) (cond b (Some user.username) None)
          ≡ cond b (Some user) None
      by true = ap (with_secret user.username) (found user.username user.secret)
      by false = refl

  named_is : (feature : Feature) (hash name : Option (List ℕ)) (who : Named)
      → named_in hash name feature ≡ Some who
      → named_by hash name (just users (Some user)) feature
      ≡ cond (is_claimed who user.username users.realm) (Some user) None
  named_is feature None None who h = cc
  named_is feature None (Some name) who h =
      let same : by_name name ≡ who = cc in
      by_this_name name
      ∙ ap (λ w. cond (is_claimed w user.username users.realm) (Some user) None) same
  named_is feature (Some hash) name who h = by (is_possible feature) h
    where
      by : (b : Bool) → cond b (Some (by_hash hash)) None ≡ Some who
          → cond b (user_with_hash (just users (Some user)) hash) None
          ≡ cond (is_claimed who user.username users.realm) (Some user) None
      by false e = cc
      by true e =
          let same : by_hash hash ≡ who = cc in
          by_this_hash hash
          ∙ ap (λ w. cond (is_claimed w user.username users.realm) (Some user) None) same

  -- ---- the verdict

  module _ (feature : Feature) (bytes : List ℕ) (claim : ClaimSeen) where
    -- the last row, of the user who is named
    abbrev last_row : Option RegisteredUser → Result ClientSeen VerdictRefusal
    last_row named =
        cond
        (is_none (option_and_then
        (verified_for (just users (Some user)) (reading_of bytes) claim.algorithm) named))
        (Err Unauthorized)
        (Ok (record {
          name = option_map_or (λ (u : RegisteredUser). u.username) named [];
          algorithm = claim.algorithm;
        }))

    by_digest_of : (key : List ℕ) (o : Option IntegrityAlgorithm)
        → cond (is_none o) (Err Unauthorized)
        (Ok (record { name = user.username; algorithm = claim.algorithm }))
        ≡ found_verdict claim user (option_map (λ by. (claim.algorithm, key)) o)
    by_digest_of key None = refl
    by_digest_of key (Some by) = refl

    by_key : (o : Option (List ℕ))
        → cond (is_none (option_and_then (verified_under (reading_of bytes)) o)) (Err Unauthorized)
        (Ok (record { name = user.username; algorithm = claim.algorithm }))
        ≡ found_verdict claim user (verifying (reading_of bytes) claim.algorithm o)
    by_key None = refl
    by_key (Some key) = by_digest_of key (verified_under (reading_of bytes) key)

    by_name_of : (b : Bool)
        → last_row (cond b (Some user) None)
        ≡ found_verdict claim user
        (cond b
        (verifying (reading_of bytes) claim.algorithm (key_of users user claim.algorithm)) None)
    by_name_of true = by_key (key_of users user claim.algorithm)
    by_name_of false = refl

    -- under its own nonce a message is judged by the key of the user who was found
    pub found_judged : claim_of users.algorithms feature bytes ≡ Some claim
        → verdict (just users (Some user)) feature (their_nonce (reading_of bytes))
        (Some users.algorithms) (reading_of bytes)
        ≡ found_verdict claim user (found_key users claim user)
    found_judged h =
        let r = reading_of bytes in
        let ours = their_nonce r in
        let all = just users (Some user) in
        let k =
        claims bytes (is_some r.integrity) (is_complete r) (agreement_offering users.algorithms r)
        (named_in r.userhash r.username feature) claim h in
        let agreed = (offering_agreed users.algorithms r claim.algorithm k.agreed).1 in
        claim_row all feature users.algorithms bytes claim h
        ∙ ap (λ (o : Option IntegrityAlgorithm).
        cond (is_none (verified_named all feature r o)) (Err Unauthorized)
        (Ok (record {
          name = option_map_or (λ (u : RegisteredUser). u.username) (named_user all feature r) [];
          algorithm = unwrap_or o Sha1;
        }))) agreed
        ∙ ap last_row (named_is feature r.userhash r.username claim.user k.named)
        ∙ by_name_of (is_claimed claim.user user.username users.realm)
        ∙ ap (λ m. found_verdict claim user
        (cond (is_claimed claim.user user.username users.realm)
        (verifying (reading_of m) claim.algorithm (key_of users user claim.algorithm)) None))
        (sym k.whose)

    -- a server that offers what it supports judges it so too
    pub found_judged_offering : claim_of users.algorithms feature bytes ≡ Some claim
        → verdict_offering (just users (Some user)) feature (their_nonce (reading_of bytes))
        users.algorithms (reading_of bytes)
        ≡ found_verdict claim user (found_key users claim user)
    found_judged_offering h =
        let r = reading_of bytes in
        let k =
        claims bytes (is_some r.integrity) (is_complete r) (agreement_offering users.algorithms r)
        (named_in r.userhash r.username feature) claim h in
        offering_as_all (just users (Some user)) feature (their_nonce r) users.algorithms r
        (offering_agreed users.algorithms r claim.algorithm k.agreed).0
        ∙ found_judged h

    -- without a key no digest verifies of the user who is named
    pub found_unproven : claim_of users.algorithms feature bytes ≡ Some claim
        → found_key users claim user ≡ None
        → is_none (verified_named (just users (Some user)) feature (reading_of bytes)
        (agreement (reading_of bytes) (their_nonce (reading_of bytes)) (Some users.algorithms)))
        ≡ true
    found_unproven h none =
        by (is_none (verified_named all feature r (agreement r ours (Some users.algorithms))))
        (sym (claim_row all feature users.algorithms bytes claim h)
        ∙ found_judged h ∙ ap (found_verdict claim user) none)
      where
        r : Reading
        r = reading_of bytes

        ours : List ℕ
        ours = their_nonce (reading_of bytes)

        all : Registered
        all = just users (Some user)

        by : (b : Bool)
            → cond b (Err Unauthorized) (Ok (client_of all feature ours (Some users.algorithms) r))
            ≡ Err Unauthorized
            → b ≡ true
        by true e = refl
        by false e = cc

    -- nor by the algorithm that a server agrees on
    pub found_unproven_offering : claim_of users.algorithms feature bytes ≡ Some claim
        → found_key users claim user ≡ None
        → is_none (verified_named (just users (Some user)) feature (reading_of bytes)
        (agreement_offering users.algorithms (reading_of bytes))) ≡ true
    found_unproven_offering h none =
        let r = reading_of bytes in
        let k =
        claims bytes (is_some r.integrity) (is_complete r) (agreement_offering users.algorithms r)
        (named_in r.userhash r.username feature) claim h in
        let agreed = (offering_agreed users.algorithms r claim.algorithm k.agreed).1 in
        ap (λ o. is_none (verified_named (just users (Some user)) feature r o))
        (k.agreed ∙ sym agreed)
        ∙ found_unproven h none

  -- ---- the key

  -- the key that was found is the user's for the agreed algorithm, and a digest verifies under it
  pub record IsKeyFound (claim : ClaimSeen) (given : Option (List ℕ))
      (found : IntegrityAlgorithm × List ℕ) : Type 0 where
    pub algorithm : found.0 ≡ claim.algorithm
    pub key : given ≡ Some found.1
    pub verifies : IsSome (verified_under (reading_of claim.message) found.1)

  found_key_is : (claim : ClaimSeen) (key : IntegrityAlgorithm × List ℕ) (o : Option (List ℕ))
      → verifying (reading_of claim.message) claim.algorithm o ≡ Some key → IsKeyFound claim o key
  found_key_is claim key None h = cc
  found_key_is claim key (Some one) h =
      by (verified_under (reading_of claim.message) one) refl h
    where
      by : (o : Option IntegrityAlgorithm) → verified_under (reading_of claim.message) one ≡ o
          → option_map (λ by. (claim.algorithm, one)) o ≡ Some key
          → IsKeyFound claim (Some one) key
      by None is e = cc
      by (Some a) is e =
          let same : one ≡ key.1 = cc in
          let agreed : key.0 ≡ claim.algorithm = cc in
          record {
            algorithm = agreed;
            key = ap Some same;
            verifies = ap is_some (sym (ap (verified_under (reading_of claim.message)) same) ∙ is);
          }

  pub found_key_of_user : (claim : ClaimSeen) (key : IntegrityAlgorithm × List ℕ)
      → found_key users claim user ≡ Some key
      → IsKeyFound claim (key_at (just users (Some user)) user.username key.0) key
  found_key_of_user claim key h = by (is_claimed claim.user user.username users.realm) h
    where
      registered : (a : IntegrityAlgorithm)
          → key_at (just users (Some user)) user.username a ≡ key_of users user a
      registered a =
          ap (λ o. option_and_then (λ (u : RegisteredUser).
          key_of (just users (Some user)) u a) (with_secret user.username o))
          (found user.username user.secret)

      by : (b : Bool)
          → cond b
          (verifying (reading_of claim.message) claim.algorithm (key_of users user claim.algorithm))
          None ≡ Some key
          → IsKeyFound claim (key_at (just users (Some user)) user.username key.0) key
      by false e = cc
      by true e =
          let k = found_key_is claim key (key_of users user claim.algorithm) e in
          record {
            algorithm = k.algorithm;
            key = registered key.0 ∙ ap (key_of users user) k.algorithm ∙ k.key;
            verifies = k.verifies;
          }
