-- A request of a user who was found: by the user's key it is accepted under its own nonce, which is one
-- that the server accepts, and without a key it is refused for the reason of the current nonce.
use Rattle.std.proofs.Common.{◌≡◌, ◌⊎◌, inl, inr, ℕ, zero, suc, List, [], ◌∷◌, ◌++◌, map}
use Rattle.std.proofs.Common.{Option, Some, None, Bool, true, false, refl, sym, subst, ◌∙◌, ap}
use Rattle.std.proofs.Common.{Ok, Err}
use Rattle.std.specs.Prelude.{cond, not, ◌||◌, ◌&&◌}
use Rattle.std.specs.FinMap as fin
use Rattle.std.specs.List.{find}
use Rattle.std.specs.Option.{is_none, option_and_then, unwrap_or}
use Rattle.std.specs.Str.{bytes_eq}
use Rattle.std.proofs.lemmas.Slice.Eq.{bytes_eq-Decides}
use Rattle.std.specs.declared.net.socket_addr.SocketAddr.{SocketAddr}
use Rattle.std.specs.declared.result.Result.{Result}
use Rattle.stun_base.specs.declared.keys.algorithm.IntegrityAlgorithm.{IntegrityAlgorithm}
use Rattle.stun_judging.specs.Feature.{is_possible}
use Rattle.stun_judging.specs.Found.{ClaimSeen, claim_of, found_key, found_verdict}
use Rattle.stun_judging.specs.Judged.{AcceptedSeen, client_judged}
use Rattle.stun_judging.specs.Reading.{Reading, reading_of}
use Rattle.stun_judging.specs.Registered.{Registered, RegisteredUser, UserSecret, name_cmp}
use Rattle.stun_judging.specs.Registered.{user_named, user_with_hash}
use Rattle.stun_judging.specs.Verdict.{ClientSeen, agreement_offering, client_of, named_by}
use Rattle.stun_judging.specs.Verdict.{named_user, nonce_refusal, their_nonce, verdict_offering}
use Rattle.stun_judging.specs.Verdict.{verified_named}
use Rattle.stun_judging.specs.declared.refusal.VerdictRefusal.{VerdictRefusal}
use Rattle.stun_judging.proofs.Accepting.{offering_from_verdict, offering_rows}
use Rattle.stun_judging.proofs.FoundLemmas.{found_judged_offering, found_key_of_user}
use Rattle.stun_judging.proofs.FoundLemmas.{found_unproven_offering}
use Rattle.stun_judging.proofs.MeantUser.{has_hash, nobody, with_secret}
use Rattle.stun_endpoint.specs.Judged.{IsAcceptedBy, IsAcceptedByPrevious, IsAcceptedUnder, Realm}
use Rattle.stun_endpoint.specs.Judged.{judged, judged_in, key_of_client}
use Rattle.stun_endpoint.specs.Lookups.{accepted_nonces, has_one_of, nonces_of, previous_nonces}
use Rattle.stun_endpoint.specs.Nonces.{epoch_of, nonce_in}
use Rattle.stun_endpoint.specs.Received.{by_verdict, outcome_of_accepted, refused_with}
use Rattle.stun_endpoint.specs.Settings.{Settings, registered_of}
use Rattle.stun_endpoint.specs.code.Found.{IsAcceptedByKey, IsFoundKey, IsRefusedAsNobody}
use Rattle.stun_endpoint.specs.code.Found.{realm_of_found, waiting_claim}
use Rattle.stun_endpoint.specs.code.Judgements.{by_judgement}
use Rattle.stun_endpoint.proofs.ReadyLemmas.{nobody_is_awaited}
use Rattle.stun_endpoint.proofs.TheirNonceLemmas.{under_accepted}
use Rattle.stun_endpoint.proofs.UnnamedLemmas.{AllRefused, both_refused, both_secrets}
use Rattle.stun_endpoint.proofs.UnnamedLemmas.{none_verified, refusal_under, refused_rows}
use Rattle.stun_endpoint.proofs.UnnamedLemmas.{unnamed_by_current, unnamed_is_refused, unproven}

-- ---- what a request claims that waits

waits_with : (one : Bool) (o : Option ClaimSeen) (claim : ClaimSeen)
    → cond one o None ≡ Some claim → (one ≡ true) × (o ≡ Some claim)
waits_with true o claim h = (refl, h)
waits_with false o claim h = cc

-- ---- acceptance

-- a request of the user who was found is accepted
pub found_accepted : (s : Settings) (user : RegisteredUser) (from : SocketAddr) (e : ℕ)
    (bytes : List ℕ) (claim : ClaimSeen) (key : IntegrityAlgorithm × List ℕ)
    → waiting_claim s from e bytes ≡ Some claim
    → found_key (registered_of s) claim user ≡ Some key
    → IsAcceptedByKey s user from e (reading_of bytes) key.0 key.1
found_accepted s user from e bytes claim key waits is =
    let r = reading_of bytes in
    let realm = realm_of_found s user in
    let client : ClientSeen = record { name = user.username; algorithm = claim.algorithm } in
    let parts =
    waits_with (has_one_of r (accepted_nonces s from e)) (claim_of s.algorithms s.feature bytes)
    claim waits in
    let theirs =
    offering_from_verdict realm.users realm.feature (their_nonce r) realm.offered r client
    (found_judged_offering (registered_of s) user s.feature bytes claim parts.1
    ∙ ap (found_verdict claim user) is) in
    let found = found_key_of_user (registered_of s) user claim key is in
    record {
      judged = under_accepted s realm from r client theirs e parts.0
          ∙ ap (λ (a : IntegrityAlgorithm). Ok (record { name = user.username; algorithm = a }))
          (sym found.algorithm);
      has = found.key;
    }

-- ---- refusal

module _ (s : Settings) (r : Reading) (users : Registered) where
  -- where no digest verifies of the user who is named, each nonce gives the reason
  all_unproven : (nonces : List (List ℕ))
      → is_none (verified_named users s.feature r
      (agreement_offering s.algorithms r)) ≡ true
      → AllRefused s r users nonces
  all_unproven [] h = tt
  all_unproven (nonce ∷ nonces) h =
      let a = is_none r.integrity in
      let b = is_none r.realm || is_none r.nonce in
      let c = is_none r.userhash && is_none r.username in
      let d = is_none (agreement_offering s.algorithms r) in
      let e = not (bytes_eq (their_nonce r) nonce) in
      let f =
      is_none
      (verified_named users s.feature r (agreement_offering s.algorithms r)) in (
        offering_rows users s.feature nonce s.algorithms r
            ∙ refused_rows a b c d e f (nonce_refusal nonce (their_nonce r))
            (client_of users s.feature nonce (Some s.algorithms) r)
            (unproven a b c d e f h),
        all_unproven nonces h,
      )

  unproven_is_refused : (from : SocketAddr) (e : ℕ)
      → is_none (verified_named users s.feature r
      (agreement_offering s.algorithms r)) ≡ true
      → judged_in s (record { users = users; feature = s.feature; offered = s.algorithms }) from e r
      ≡ Err (refusal_under s r (nonce_in s s.secret from e))
  unproven_is_refused from e h =
      let both =
      both_refused s r users (nonces_of s s.secret from e) (previous_nonces s s.previous from e)
      (all_unproven (accepted_nonces s from e) h) in
      both_secrets s r users s.previous from e both.0 both.1

-- a server without users has none who is named
named_by_nobody : (s : Settings) (hash name : Option (List ℕ))
    → named_by hash name (registered_of s) s.feature ≡ None
named_by_nobody s None None = refl
named_by_nobody s None (Some name) = ap (with_secret name) (fin.get-empty name_cmp name)
named_by_nobody s (Some hash) name = by (is_possible s.feature)
  where
    by : (b : Bool) → cond b (user_with_hash (registered_of s) hash) None ≡ None
    by true =
        ap (λ (es : List (List ℕ × UserSecret)). option_and_then (user_named (registered_of s))
        (find (has_hash (registered_of s) hash) (map (λ e. e.0) es))) nobody
    by false = refl

-- a request that claims nothing is refused
pub found_unclaimed : (s : Settings) (user : RegisteredUser) (from : SocketAddr) (e : ℕ)
    (bytes : List ℕ) → waiting_claim s from e bytes ≡ None
    → IsRefusedAsNobody s user from e (reading_of bytes)
found_unclaimed s user from e bytes none =
    let r = reading_of bytes in
    let waits = nobody_is_awaited s from e bytes none in
    record {
      why = refusal_under s r (nonce_in s s.secret from e);
      judged = unnamed_is_refused s r (realm_of_found s user).users from e waits;
      nobody = unnamed_by_current s r (registered_of s) from e waits;
    }

-- so is one that is not the user's
pub found_refused : (s : Settings) (user : RegisteredUser) (from : SocketAddr) (e : ℕ)
    (bytes : List ℕ) (claim : ClaimSeen)
    → waiting_claim s from e bytes ≡ Some claim
    → found_key (registered_of s) claim user ≡ None
    → IsRefusedAsNobody s user from e (reading_of bytes)
found_refused s user from e bytes claim waits none =
    let r = reading_of bytes in
    let users = (realm_of_found s user).users in
    let parts =
    waits_with (has_one_of r (accepted_nonces s from e)) (claim_of s.algorithms s.feature bytes)
    claim waits in
    let chosen = agreement_offering s.algorithms r in
    let ours = nonce_in s s.secret from e in
    let nobody_there =
    none_verified (registered_of s) r (named_user (registered_of s) s.feature r) chosen
    (named_by_nobody s r.userhash r.username) in
    record {
      why = refusal_under s r ours;
      judged = unproven_is_refused s r users from e
          (found_unproven_offering (registered_of s) user s.feature bytes claim parts.1 none);
      nobody = (all_unproven s r (registered_of s) (ours ∷ []) nobody_there).0;
    }

-- the key that verifies decides, or that there is none
pub found_either : (s : Settings) (user : RegisteredUser) (from : SocketAddr) (e : ℕ)
    (bytes : List ℕ) (claim : ClaimSeen) (found : Option (IntegrityAlgorithm × List ℕ))
    → waiting_claim s from e bytes ≡ Some claim
    → found ≡ found_key (registered_of s) claim user
    → IsFoundKey s user from e (reading_of bytes) found
found_either s user from e bytes claim None waits is =
    found_refused s user from e bytes claim waits (sym is)
found_either s user from e bytes claim (Some key) waits is =
    found_accepted s user from e bytes claim key waits (sym is)

-- ---- what the request comes to

module _ (s : Settings) (user : RegisteredUser) (from : SocketAddr) (now : ℕ) (bytes : List ℕ)
  where
    -- one that is accepted
    pub accepted_comes : (algorithm : IntegrityAlgorithm) (key : List ℕ)
        → IsAcceptedByKey s user from (epoch_of s now) (reading_of bytes) algorithm key
        → outcome_of_accepted s key from bytes
        (record { name = user.username; algorithm = algorithm })
        ≡ by_verdict s (realm_of_found s user) from now bytes
        (judged s (realm_of_found s user) from now (reading_of bytes))
    accepted_comes algorithm key is =
        let client : ClientSeen = record { name = user.username; algorithm = algorithm } in
        let same : key_of_client (realm_of_found s user) client ≡ key =
        ap (λ o. unwrap_or o []) is.has in
        ap (λ k. outcome_of_accepted s k from bytes client) (sym same)
        ∙ sym (ap (by_verdict s (realm_of_found s user) from now bytes) is.judged)

    -- one that is refused
    pub refused_comes : (nonce : List ℕ) (v : Result AcceptedSeen VerdictRefusal)
        → IsRefusedAsNobody s user from (epoch_of s now) (reading_of bytes)
        → nonce ≡ nonce_in s s.secret from (epoch_of s now)
        → client_judged v
        ≡ verdict_offering (registered_of s) s.feature nonce s.algorithms (reading_of bytes)
        → by_judgement s nonce from bytes v
        ≡ by_verdict s (realm_of_found s user) from now bytes
        (judged s (realm_of_found s user) from now (reading_of bytes))
    refused_comes nonce v is made judges =
        by v (judges
        ∙ ap (λ n. verdict_offering (registered_of s) s.feature n s.algorithms (reading_of bytes)) made
        ∙ is.nobody)
      where
        by : (v : Result AcceptedSeen VerdictRefusal) → client_judged v ≡ Err is.why
            → by_judgement s nonce from bytes v
            ≡ by_verdict s (realm_of_found s user) from now bytes
            (judged s (realm_of_found s user) from now (reading_of bytes))
        by (Ok accepted) h = cc
        by (Err refusal) h =
            let same : refusal ≡ is.why = cc in
            ap (λ n. refused_with s n from bytes refusal) made
            ∙ ap (refused_with s (nonce_in s s.secret from (epoch_of s now)) from bytes) same
            ∙ sym (ap (by_verdict s (realm_of_found s user) from now bytes) is.judged)
