-- A server looks at nothing of its users but their names and keys: users of the same names with the
-- same keys are judged and signed for alike.
use Rattle.std.proofs.Common.{◌≡◌, ℕ, List, Option, Some, None, Bool}
use Rattle.std.proofs.Common.{true, false, refl, sym, ◌∙◌, ap, Ok, Err}
use Rattle.std.specs.Prelude.{◌++◌, cond, not}
use Rattle.std.specs.Option.{is_some, option_and_then}
use Rattle.std.specs.List.{find}
use Rattle.std.specs.FinMap as fin
use Rattle.std.specs.Str.{bytes_eq}
use Rattle.std.specs.declared.net.socket_addr.SocketAddr.{SocketAddr}
use Rattle.std.specs.declared.result.Result.{Result}
use Rattle.stun_base.specs.Keys.{userhash_of}
use Rattle.stun_base.specs.MessageType.{is_response}
use Rattle.stun_base.specs.declared.keys.algorithm.IntegrityAlgorithm.{IntegrityAlgorithm}
use Rattle.stun_base.specs.declared.wire.error.StunWriteError.{StunWriteError}
use Rattle.stun_judging.specs.declared.algorithm_set.AlgorithmSet.{AlgorithmSet}
use Rattle.stun_judging.specs.declared.feature.Feature.{Feature}
use Rattle.stun_judging.specs.declared.refusal.VerdictRefusal.{VerdictRefusal}
use Rattle.stun_judging.specs.declared.refusal.VerdictRefusal.TheVariants as Refused
use Rattle.stun_judging.specs.Additions.{Addition, Page, added_all, after}
use Rattle.stun_judging.specs.Feature.{is_possible}
use Rattle.stun_auth.specs.Handed.{with_users}
use Rattle.stun_judging.specs.Reading.{Reading, verified_under, is_complete}
use Rattle.stun_judging.specs.Registered.{Registered, UserSecret, key_at, name_cmp}
use Rattle.stun_judging.specs.Verdict.{ClientSeen, agreement, nonce_refusal, verdict}
use Rattle.stun_auth.specs.Seen.{PlaceSeen}
use Rattle.stun_auth.specs.Server.{current_place}
use Rattle.stun_auth.specs.ServerSigning.{additions_at, after_signing, attributes_for}
use Rattle.stun_auth.specs.ServerSigning.{digest_for, digest_under, signed_under_key, protected_for}
use Rattle.stun_auth.specs.ServerSigning.{server_additions, server_signed, signed_at}
use Rattle.stun_auth.specs.Validation.{ServerSeen, after_validation, answer, answer_to}
use Rattle.stun_auth.specs.Validation.{client_verified, needs_nonce, put_place, sight}
use Rattle.stun_auth.specs.Validation.{validated_or_failed, verified_for_client, with_accepted}
use Rattle.stun_judging.specs.code.Claims.{name_by, name_in}
use Rattle.stun_judging.proofs.VerdictLemmas.{by_steps-verdict}
use Rattle.stun_judging.proofs.VerdictSteps.{by_attributes, by_choice, by_digest}
use Rattle.stun_judging.proofs.VerdictSteps.{by_name, by_nonce, by_steps}

-- the users of a realm, each known by these secrets
abbrev pub knowing : Registered → fin.FinMap name_cmp UserSecret → Registered
knowing users secrets = record users { secrets = secrets }

module _ (users : Registered) (x y : fin.FinMap name_cmp UserSecret)
    (names : fin.keys x ≡ fin.keys y)
    (keys : (name : List ℕ) (a : IntegrityAlgorithm)
    → key_at (knowing users x) name a ≡ key_at (knowing users y) name a) where
  -- ---- the verdict

  digest-same : (r : Reading) (name : List ℕ) (a : IntegrityAlgorithm)
      → by_digest (knowing users x) r name a ≡ by_digest (knowing users y) r name a
  digest-same r name a =
      ap (λ k. cond (is_some (option_and_then (verified_under r) k))
      (Ok (record { name = name; algorithm = a })) (Err Refused.Unauthorized)) (keys name a)

  named-same : (r : Reading) (o : Option (List ℕ)) (a : IntegrityAlgorithm)
      → by_name (knowing users x) r o a ≡ by_name (knowing users y) r o a
  named-same r None a = refl
  named-same r (Some name) a = digest-same r name a

  name-same : (feature : Feature) (hash username : Option (List ℕ))
      → name_by hash username (knowing users x) feature
      ≡ name_by hash username (knowing users y) feature
  name-same feature None username = refl
  name-same feature (Some hash) username =
      ap (λ (ns : List (List ℕ)). cond (is_possible feature)
      (find (λ name. bytes_eq (userhash_of name users.realm) hash) ns) None) names

  module _ (feature : Feature) (ours : List ℕ) (offered : Option AlgorithmSet) (r : Reading) where
    nonce-same : (theirs : List ℕ) (a : IntegrityAlgorithm)
        → by_nonce (knowing users x) feature ours r theirs a
        ≡ by_nonce (knowing users y) feature ours r theirs a
    nonce-same theirs a =
        ap (λ (v : Result ClientSeen VerdictRefusal).
        cond (bytes_eq theirs ours) v (Err (nonce_refusal ours theirs)))
        (ap (λ o. by_name (knowing users x) r o a) (name-same feature r.userhash r.username)
        ∙ named-same r (name_in (knowing users y) feature r) a)

    choice-same : (theirs : List ℕ) (o : Option IntegrityAlgorithm)
        → by_choice (knowing users x) feature ours r theirs o
        ≡ by_choice (knowing users y) feature ours r theirs o
    choice-same theirs None = refl
    choice-same theirs (Some a) = nonce-same theirs a

    attributes-same : (o : Option (List ℕ))
        → by_attributes (knowing users x) feature ours offered r o
        ≡ by_attributes (knowing users y) feature ours offered r o
    attributes-same None = refl
    attributes-same (Some theirs) = choice-same theirs (agreement r theirs offered)

    steps-same : by_steps (knowing users x) feature ours offered r
        ≡ by_steps (knowing users y) feature ours offered r
    steps-same =
        ap (λ (v : Result ClientSeen VerdictRefusal).
        cond (not (is_some r.integrity)) (Err Refused.Unauthorized)
        (cond (not (is_complete r)) (Err Refused.BadRequest) v))
        (attributes-same r.nonce)

    verdict-same : verdict (knowing users x) feature ours offered r
        ≡ verdict (knowing users y) feature ours offered r
    verdict-same =
        sym (by_steps-verdict (knowing users x) feature ours offered r) ∙ steps-same
        ∙ by_steps-verdict (knowing users y) feature ours offered r

  -- of a response: the client of its address
  client-same : (r : Reading) (place : Option PlaceSeen)
      → client_verified (knowing users x) r place ≡ client_verified (knowing users y) r place
  client-same r place = by (option_and_then (λ (p : PlaceSeen). p.client) place)
    where
      by : (o : Option ClientSeen) → option_and_then (verified_for_client (knowing users x) r) o
          ≡ option_and_then (verified_for_client (knowing users y) r) o
      by None = refl
      by (Some c) = ap (option_and_then (verified_under r)) (keys c.name c.algorithm)

  -- ---- the digest of an answer

  signed_under_key-same : (o : Option ClientSeen) (page : Page)
      → protected_for (knowing users x) o page
      ≡ protected_for (knowing users y) o page
  signed_under_key-same None page = refl
  signed_under_key-same (Some c) page =
      ap (λ k. signed_under_key c.algorithm k page) (keys c.name c.algorithm)

  attributes-alike : (response : Bool) (nonce : List ℕ) (o : Option ClientSeen)
      → attributes_for response (knowing users x) nonce o
      ≡ attributes_for response (knowing users y) nonce o
  attributes-alike response nonce None = refl
  attributes-alike response nonce (Some c) = refl

  next-same : (o : Option ClientSeen) (done : Result Page StunWriteError)
      → after done (protected_for (knowing users x) o)
      ≡ after done (protected_for (knowing users y) o)
  next-same o (Err reason) = refl
  next-same o (Ok page) = signed_under_key-same o page

  pub signed-same : (response : Bool) (place : Option PlaceSeen) (page : Page)
      → signed_at response (knowing users x) place page
      ≡ signed_at response (knowing users y) place page
  signed-same response None page = refl
  signed-same response (Some p) page =
      ap (λ (list : List Addition). after (added_all list page)
      (protected_for (knowing users x) p.client)) (attributes-alike response p.nonce p.client)
      ∙ next-same p.client
      (added_all (attributes_for response (knowing users y) p.nonce p.client) page)

  digest-alike : (o : Option ClientSeen) → digest_for (knowing users x) o
      ≡ digest_for (knowing users y) o
  digest-alike None = refl
  digest-alike (Some c) = ap (digest_under c.algorithm) (keys c.name c.algorithm)

  pub additions-same : (response : Bool) (place : Option PlaceSeen)
      → additions_at response (knowing users x) place
      ≡ additions_at response (knowing users y) place
  additions-same response None = refl
  additions-same response (Some p) =
      λ i. attributes-alike response p.nonce p.client i ++ digest-alike p.client i

-- ---- a server

module _ (s : ServerSeen) (x y : fin.FinMap name_cmp UserSecret) (names : fin.keys x ≡ fin.keys y)
    (keys : (name : List ℕ) (a : IntegrityAlgorithm)
    → key_at (knowing s.registered x) name a ≡ key_at (knowing s.registered y) name a) where
  judged : (place : PlaceSeen) (r : Reading)
      → verdict (knowing s.registered x) s.feature place.nonce place.offered r
      ≡ verdict (knowing s.registered y) s.feature place.nonce place.offered r
  judged place r = verdict-same s.registered x y names keys s.feature place.nonce place.offered r

  pub answer-same : (from : SocketAddr) (now : ℕ) (words : List ℕ) (r : Reading)
      → answer (sight (with_users s (knowing s.registered x)) from) now words r
      ≡ answer (sight (with_users s (knowing s.registered y)) from) now words r
  answer-same from now words r = λ i.
      cond (is_response r.class)
      (validated_or_failed (client-same s.registered x y names keys r (fin.get s.places from) i))
      (answer_to (judged (current_place (sight s from) now words) r i))

  pub message-same : (from : SocketAddr) (now : ℕ) (words : List ℕ) (r : Reading)
      → with_users (after_validation (with_users s (knowing s.registered x)) from now words r)
      s.registered
      ≡ with_users (after_validation (with_users s (knowing s.registered y)) from now words r)
      s.registered
  message-same from now words r =
      ap (λ (v : Result ClientSeen VerdictRefusal). record s {
        places = put_place s.places from
            (cond (needs_nonce r) (Some (with_accepted (current_place (sight s from) now words) v))
            (fin.get s.places from));
      }) (judged (current_place (sight s from) now words) r)

  pub server_signed-same : (to : SocketAddr) (response : Bool) (page : Page)
      → server_signed (sight (with_users s (knowing s.registered x)) to) response page
      ≡ server_signed (sight (with_users s (knowing s.registered y)) to) response page
  server_signed-same to response page =
      signed-same s.registered x y names keys response (fin.get s.places to) page

  pub server_additions-same : (to : SocketAddr) (response : Bool)
      → server_additions (sight (with_users s (knowing s.registered x)) to) response
      ≡ server_additions (sight (with_users s (knowing s.registered y)) to) response
  server_additions-same to response =
      additions-same s.registered x y names keys response (fin.get s.places to)

-- what signing keeps does not look at what users are known by
pub signing-same : (s : ServerSeen) (x y : fin.FinMap name_cmp UserSecret) (to : SocketAddr)
    (response : Bool)
    → with_users (after_signing (with_users s (knowing s.registered x)) to response) s.registered
    ≡ with_users (after_signing (with_users s (knowing s.registered y)) to response) s.registered
signing-same s x y to true = refl
signing-same s x y to false = refl
