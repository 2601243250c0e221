-- An honest client and its server come to the strongest algorithm of both, and short names are
-- signed.
use Rattle.std.proofs.Common.{◌≡◌, ℕ, ◌≤◌, List, length, Option, Some, None, Bool}
use Rattle.std.proofs.Common.{true, false, refl, sym, ◌∙◌, ap, subst, Ok, Err, arith}
use Rattle.std.specs.Prelude.{cond, ◌&&◌, IsOk}
use Rattle.std.specs.Option.{option_map, option_and_then}
use Rattle.std.specs.declared.result.Result.{Result}
use Rattle.std.proofs.lemmas.Bool.{le-leb}
use Rattle.stun_base.specs.Credentials.{NameAndPassword}
use Rattle.stun_base.specs.Keys.{userhash_of}
use Rattle.stun_base.specs.Moments.{moment_after}
use Rattle.stun_base.specs.declared.keys.algorithm.IntegrityAlgorithm.{IntegrityAlgorithm}
use Rattle.stun_base.specs.declared.wire.error.StunWriteError.{StunWriteError}
use Rattle.stun_auth.specs.declared.client.answer.LongTermClientValidation.TheVariants as Read
use Rattle.stun_judging.specs.declared.feature.Feature.{Feature}
use Rattle.stun_auth.specs.declared.server.reason.LongTermServerAuthErrorReason.TheVariants
    as Server
use Rattle.stun_auth.specs.declared.server.reason.LongTermServerValidation.TheVariants as Served
use Rattle.stun_judging.specs.Algorithms.{contains, algorithms_of}
use Rattle.stun_auth.specs.Client.{Challenge, ClientSettings}
use Rattle.stun_auth.specs.Client.{authenticated, authenticating, initial}
use Rattle.stun_judging.specs.Reading.{UNAUTHORIZED, STALE_NONCE, is_code, Reading, reading_of}
use Rattle.stun_judging.specs.Reading.{verified_under}
use Rattle.stun_auth.specs.ClientStep.{after_challenge, after_digest, after_stale, choose}
use Rattle.stun_auth.specs.ClientStep.{client_step, new_challenge, new_challenge_if, or_unsupported}
use Rattle.stun_auth.specs.ClientStep.{taken_up}
use Rattle.stun_judging.specs.Naming.{naming_of}
use Rattle.stun_judging.specs.Feature.{is_possible}
use Rattle.stun_judging.specs.Nonces.{asks_for_userhash, nonce_of}
use Rattle.stun_auth.specs.Places.{with_offer}
use Rattle.stun_base.specs.MessageType.{is_success}
use Rattle.stun_judging.specs.Registered.{Registered, user_with_hash}
use Rattle.stun_auth.specs.Seen.{PlaceSeen, renewed_place}
use Rattle.stun_auth.specs.Signed.{added_under_key, added_without_client}
use Rattle.stun_judging.specs.Signed.{hashed_name, plain_name}
use Rattle.stun_auth.specs.Server.{Sight, current_place, current_place_of}
use Rattle.stun_judging.specs.Verdict.{named_by}
use Rattle.stun_auth.specs.ServerSigning.{after_signing}
use Rattle.stun_auth.specs.Validation.{ServerSeen, after_validation, answer, place_after, sight}
use Rattle.stun_proto.specs.Best.{best}
use Rattle.stun_proto.specs.Honest.{AgreesOn, AreShort, ComesTo, HaveOwnHashes, IsHonest, IsReady}
use Rattle.stun_proto.specs.Matching.{AreJoined, AreTexts, IsRegistered, Matches}
use Rattle.stun_proto.specs.Negotiation.{Meeting, Met, client_request, challenge_read}
use Rattle.stun_proto.specs.Negotiation.{challenge_sent}
use Rattle.stun_proto.specs.Negotiation.{success_read, failure, first_answered}
use Rattle.stun_proto.specs.Negotiation.{first_asked, whole_negotiation, server_response}
use Rattle.stun_proto.specs.Negotiation.{second_answered, second_asked, success_sent, success}
use Rattle.stun_proto.specs.Serving.{after_calls}
use Rattle.stun_proto.proofs.meetings.Answered.{protected, unprotected}
use Rattle.stun_proto.proofs.meetings.Chosen.{best-had, choose-best}
use Rattle.stun_proto.proofs.meetings.Hashes.{own_hash, own_user}
use Rattle.stun_proto.proofs.meetings.Matched.{complete, key_found, matched_verdict}
use Rattle.stun_proto.proofs.server_runs.Sights.{sight-after_validation, sight-after_others}
use Rattle.stun_proto.proofs.server_runs.Sights.{sight-after_signing}
use Rattle.stun_proto.proofs.meetings.Signed.{IsBare, IsFailure, IsRequest, IsSuccess}
use Rattle.stun_proto.proofs.meetings.Signed.{NoncesAsk, SignedIsRead, SigningSucceeds}
use Rattle.stun_proto.proofs.meetings.Small.{known_small, nothing_small, offer_small, request_small}

-- ---- what a client makes of what it reads

-- a challenge at the first
challenge_step : (s : ClientSettings) (who : NameAndPassword) (realm nonce : List ℕ)
    (list : List IntegrityAlgorithm) (r : Reading)
    → s.credentials ≡ Some who → IsFailure UNAUTHORIZED realm nonce r → r.algorithms ≡ Some list
    → client_step s initial r
    ≡ after_challenge initial None
    (new_challenge_if s.feature who realm nonce (Some list)
    (choose s.supported s.feature nonce (Some list)))
challenge_step s who realm nonce list r credentials reads list_is =
    ap (λ e.
    cond (is_code UNAUTHORIZED e && true)
    (after_challenge initial None (taken_up s initial s.credentials r.realm r.nonce r.algorithms))
    (cond (is_code STALE_NONCE e) (after_stale initial None r.realm r.nonce)
    (after_digest initial (is_success r.class) None))) reads.error
    ∙ ap (λ c. after_challenge initial None (taken_up s initial c r.realm r.nonce r.algorithms))
    credentials
    ∙ ap (λ o. after_challenge initial None (taken_up s initial (Some who) o r.nonce r.algorithms))
    reads.realm
    ∙ ap (λ o. after_challenge initial None
    (taken_up s initial (Some who) (Some realm) o r.algorithms)) reads.nonce
    ∙ ap (λ o. after_challenge initial None
    (taken_up s initial (Some who) (Some realm) (Some nonce) o)) list_is

-- a success under the kept key
pub success_step : (s : ClientSettings) (c : Challenge) (r : Reading) (a : IntegrityAlgorithm)
    → IsSuccess a c.key r
    → client_step s (authenticating c) r
    ≡ record { answer = Ok (Read.Validated a); state = authenticated c }
success_step s c r a reads =
    let digest = verified_under r c.key in
    ap (λ e.
    cond (is_code UNAUTHORIZED e && true)
    (after_challenge (authenticating c) digest
    (taken_up s (authenticating c) s.credentials r.realm r.nonce r.algorithms))
    (cond (is_code STALE_NONCE e) (after_stale (authenticating c) digest r.realm r.nonce)
    (after_digest (authenticating c) (is_success r.class) digest))) reads.error
    ∙ ap (λ b. after_digest (authenticating c) b digest) reads.success
    ∙ ap (after_digest (authenticating c) true) reads.digest

-- ---- a name that is sent is understood
named_again : (users : Registered) (feature : Feature) (who : NameAndPassword)
    (hashes possible : Bool) → HaveOwnHashes users
    → (known : IsRegistered users who) → is_possible feature ≡ hashes
    → named_by (hashed_name (naming_of (hashes && possible) who.username users.realm))
    (plain_name (naming_of (hashes && possible) who.username users.realm)) users feature
    ≡ Some (record { username = who.username; secret = known.secret })
named_again users feature who true true own known feasible =
    ap (λ b. cond b (user_with_hash users (userhash_of who.username users.realm)) None) feasible
    ∙ own_hash users who.username known.secret known.present own
named_again users feature who true false own known feasible =
    own_user users who.username known.secret known.present
named_again users feature who false possible own known feasible =
    own_user users who.username known.secret known.present

-- a signing that is not refused has a page
paged : {A : Type 0} (P : Result A StunWriteError → Type 0) (o : Result A StunWriteError)
    → ((reason : StunWriteError) → o ≡ Err reason → P (Err reason))
    → ((page : A) → o ≡ Ok page → P (Ok page)) → P o
paged P (Ok page) refused signed = signed page refl
paged P (Err reason) refused signed = refused reason refl

module _ (say : NoncesAsk) (found : SignedIsRead) (m : Meeting) (who : NameAndPassword)
    (server : ServerSeen) (texts : AreTexts server.registered.realm who.username)
    (ready : IsReady m who server) where
  abbrev users : Registered
  users = server.registered

  abbrev pub nonce : List ℕ
  nonce = nonce_of users.algorithms server.feature m.first.words

  abbrev pub meant : Option IntegrityAlgorithm
  meant = best m.settings.supported
      (algorithms_of users.algorithms) m.settings.feature server.feature

  -- what rules out that a signing is refused
  abbrev IsFitting : Type 0
  IsFitting = SigningSucceeds × AreShort users.realm who.username m.first.words

  -- what a run whose signings succeed comes to, and when they do
  abbrev Comes : Met → Type 0
  Comes met = (IsFitting → IsOk met.ending) × (IsOk met.ending → ComesTo m.from who meant met)

  -- the place when the nonce is made, when the list is offered, and when the client is accepted
  abbrev pub opened : PlaceSeen
  opened =
      record {
        nonce = nonce;
        expires = moment_after m.first.now server.expiry;
        offered = None;
        client = None;
      }

  abbrev pub offering : PlaceSeen
  offering = record opened { offered = Some users.algorithms }

  abbrev pub taken : IntegrityAlgorithm → PlaceSeen
  taken a = record offering { client = Some (record { name = who.username; algorithm = a }) }

  abbrev pub seen : PlaceSeen → Sight
  seen p =
      record {
        registered = users;
        feature = server.feature;
        expiry = server.expiry;
        place = Some p;
      }

  -- ---- the first request
  first_at : current_place (sight server m.from) m.first.now m.first.words ≡ opened
  first_at =
      ap (λ o. current_place_of o nonce m.first.now (moment_after m.first.now server.expiry))
      ready.new_address

  abbrev after_first : Reading → ServerSeen
  after_first r = after_validation server m.from m.first.now m.first.words r

  pub first_served : (r : Reading) → IsBare r
      → (answer (sight server m.from) m.first.now m.first.words r ≡ Err Server.Unauthorized)
      × (place_after (sight server m.from) m.first.now m.first.words r ≡ Some opened)
  first_served r bare =
      unprotected (sight server m.from) m.first.now m.first.words r opened first_at bare.response
      bare.protected

  pub first_sight : (r : Reading) → IsBare r → sight (after_first r) m.from ≡ seen opened
  first_sight r bare = sight-after_validation server m.from m.first.now m.first.words r
      ∙ ap (λ (o : Option PlaceSeen). record (sight server m.from) { place = o })
      (first_served r bare).1

  -- ---- the challenge
  abbrev after_offer : Reading → ServerSeen
  after_offer r = after_calls (after_signing (after_first r) m.from true) m.first.before

  offer_sight : (r : Reading) → IsBare r → sight (after_offer r) m.from ≡ seen offering
  offer_sight r bare =
      sight-after_others (after_signing (after_first r) m.from true) m.from m.first.before
      ready.others_first
      ∙ sight-after_signing (after_first r) m.from
      ∙ ap (λ (v : Sight).
      record v { place = option_map (with_offer v.registered.algorithms) v.place })
      (first_sight r bare)

  abbrev pub challenge : IntegrityAlgorithm → Challenge
  challenge a =
      new_challenge m.settings.feature who users.realm nonce
      (Some (algorithms_of users.algorithms)) a

  pub challenge_stepped : (r : Reading) → IsFailure UNAUTHORIZED users.realm nonce r
      → r.algorithms ≡ Some (algorithms_of users.algorithms)
      → client_step m.settings initial r
      ≡ after_challenge initial None
      (new_challenge_if m.settings.feature who users.realm nonce
      (Some (algorithms_of users.algorithms))
      (or_unsupported meant))
  challenge_stepped r reads list_is =
      challenge_step m.settings who users.realm nonce
      (algorithms_of users.algorithms) r ready.credentials
      reads list_is
      ∙ ap (λ o. after_challenge initial None
      (new_challenge_if m.settings.feature who users.realm nonce
      (Some (algorithms_of users.algorithms)) o))
      (choose-best say m.settings.supported users.algorithms m.settings.feature server.feature
      m.first.words)

  -- ---- the second request
  pub matched : (a : IntegrityAlgorithm) → contains a users.algorithms ≡ true
      → Matches users server.feature offering (challenge a) who
  matched a had = record {
    realm = refl;
    nonce = refl;
    made = (m.first.words, refl);
    offered = refl;
    algorithms = refl;
    algorithm = had;
    naming = (asks_for_userhash nonce && is_possible m.settings.feature, refl);
    named = named_again users server.feature who (asks_for_userhash nonce)
        (is_possible m.settings.feature) ready.hashes ready.registered
        (sym (say.userhash users.algorithms server.feature m.first.words));
    key = refl;
    known = ready.registered;
  }

  second_at : current_place (seen offering) m.second.now m.second.words ≡ offering
  second_at =
      ap (λ b.
      cond b offering
      (renewed_place (Some offering) (nonce_of users.algorithms server.feature m.second.words)
      (moment_after m.second.now server.expiry)))
      (le-leb m.second.now (moment_after m.first.now server.expiry) ready.in_time)

  second_served : (a : IntegrityAlgorithm) → contains a users.algorithms ≡ true → (r : Reading)
      → IsRequest (challenge a) r
      → (answer (seen offering) m.second.now m.second.words r ≡ Ok (Served.Validated a))
      × (place_after (seen offering) m.second.now m.second.words r ≡ Some (taken a))
  second_served a had r reads =
      protected (seen offering) m.second.now m.second.words r offering second_at reads.response
      (Ok (record { name = who.username; algorithm = a })) reads.protected
      (complete say users server.feature offering (challenge a) who (matched a had) r reads)
      (matched_verdict say users server.feature offering (challenge a) who (matched a had) r reads)

  -- ---- the end
  joined_in : (a : IntegrityAlgorithm) → contains a users.algorithms ≡ true
      → AreJoined (seen (taken a)) (taken a) (challenge a) who
  joined_in a had =
      let at_offer = matched a had in
      record {
        place = refl;
        client = refl;
        matches =
            record {
              realm = refl;
              nonce = refl;
              made = at_offer.made;
              offered = refl;
              algorithms = refl;
              algorithm = had;
              naming = at_offer.naming;
              named = at_offer.named;
              key = refl;
              known = at_offer.known;
            };
      }

  agreed_on : (a : IntegrityAlgorithm) → contains a users.algorithms ≡ true → (last : ServerSeen)
      → sight last m.from ≡ seen (taken a)
      → AgreesOn m.from who a
      (success_read a last
      (record { answer = Ok (Read.Validated a); state = authenticated (challenge a) }))
  agreed_on a had last is = record {
    ending = refl;
    server_client = ap (λ (v : Sight). option_and_then (λ (p : PlaceSeen). p.client) v.place) is;
    joined = (
      challenge a,
      taken a,
      refl,
      subst (λ (v : Sight). AreJoined v (taken a) (challenge a) who) (sym is) (joined_in a had),
    );
  }

  -- ---- no signing is refused
  nonce_short : IsFitting → length nonce ≤ 763
  nonce_short fitting =
      let made = fitting.0.short users.algorithms server.feature m.first.words in
      let words = fitting.1.words in
      omega arith

  challenge_signed : (r : Reading) → IsBare r → IsFitting
      → IsOk (server_response (failure UNAUTHORIZED m.first.id) (sight (after_first r) m.from))
  challenge_signed r bare fitting =
      subst (λ v. IsOk (server_response (failure UNAUTHORIZED m.first.id) v))
      (sym (first_sight r bare))
      (fitting.0.challenge m.first.id (seen opened) (added_without_client true users nonce) refl
      (offer_small users nonce (nonce_short fitting) fitting.1.realm))

  request_signed : (a : IntegrityAlgorithm) → IsFitting
      → IsOk (client_request m.second.id (authenticating (challenge a)))
  request_signed a fitting =
      fitting.0.request m.second.id (authenticating (challenge a))
      (request_small (challenge a) users.algorithms
      (asks_for_userhash nonce && is_possible m.settings.feature) who.username users.realm refl refl
      (nonce_short fitting) fitting.1.realm fitting.1.username)

  success_signed : (a : IntegrityAlgorithm) → contains a users.algorithms ≡ true
      → (before : ServerSeen) → sight before m.from ≡ seen (taken a) → IsFitting
      → IsOk (server_response (success m.second.id) (sight before m.from))
  success_signed a had before is fitting =
      subst (λ v. IsOk (server_response (success m.second.id) v)) (sym is)
      (fitting.0.success m.second.id (seen (taken a))
      (added_under_key true users nonce a (challenge a).key)
      (ap (option_map (added_under_key true users nonce a))
      (key_found say users server.feature offering (challenge a) who (matched a had)))
      (known_small users nonce a (challenge a).key (nonce_short fitting) fitting.1.realm))

  -- the success
  from_success : (a : IntegrityAlgorithm) → meant ≡ Some a → contains a users.algorithms ≡ true
      → (before : ServerSeen) → sight before m.from ≡ seen (taken a)
      → Comes (success_sent m a (authenticating (challenge a)) before
      (server_response (success m.second.id) (sight before m.from)))
  from_success a chosen had before is =
      paged (λ o. Comes (success_sent m a (authenticating (challenge a)) before o))
      (server_response (success m.second.id) (sight before m.from))
      (λ reason refused.
      (λ fitting. subst IsOk refused (success_signed a had before is fitting), λ ok. cc))
      (λ page signed. (
        λ fitting. refl,
        λ ok.
            let reads =
            found.success m.second.id (seen (taken a)) (taken a)
            (record { name = who.username; algorithm = a }) (challenge a).key page refl refl
            (key_found say users server.feature offering (challenge a) who (matched a had))
            texts.realm (say.text users.algorithms server.feature m.first.words)
            (sym (ap (server_response (success m.second.id)) is) ∙ signed) in
            let last_is = sight-after_signing before m.from
            ∙ ap (λ (v : Sight).
            record v { place = option_map (with_offer v.registered.algorithms) v.place }) is in
            subst (λ o.
            ComesTo m.from who o
            (success_read a (after_signing before m.from true)
            (client_step m.settings (authenticating (challenge a)) (reading_of page.bytes))))
            (sym chosen)
            (subst (λ step.
            AgreesOn m.from who a (success_read a (after_signing before m.from true) step))
            (sym (success_step m.settings (challenge a) (reading_of page.bytes) a reads))
            (agreed_on a had (after_signing before m.from true) last_is)),
      ))

  -- the second request
  from_second : (a : IntegrityAlgorithm) → meant ≡ Some a → (before : ServerSeen)
      → sight before m.from ≡ seen offering
      → Comes (second_asked m (authenticating (challenge a)) before
      (client_request m.second.id (authenticating (challenge a))))
  from_second a chosen before is =
      let had =
      best-had m.settings.supported users.algorithms m.settings.feature server.feature a chosen in
      let now = after_calls before m.second.before in
      let now_is = sight-after_others before m.from m.second.before ready.others_second ∙ is in
      let state = authenticating (challenge a) in
      paged (λ o. Comes (second_asked m state before o)) (client_request m.second.id state)
      (λ reason refused. (λ fitting. subst IsOk refused (request_signed a fitting), λ ok. cc))
      (λ page signed.
      let r = reading_of page.bytes in
      let reads =
      found.request m.second.id state (challenge a) users.algorithms
      (asks_for_userhash nonce && is_possible m.settings.feature) who.username users.realm page refl
      refl refl
      texts.realm (say.text users.algorithms server.feature m.first.words) texts.username signed in
      let served = second_served a had r reads in
      let left_is = sight-after_validation now m.from m.second.now m.second.words r
      ∙ ap (λ (v : Sight). record v { place = place_after v m.second.now m.second.words r }) now_is
      ∙ ap (λ (o : Option PlaceSeen). record (seen offering) { place = o }) served.1 in
      let answered = ap (λ v. answer v m.second.now m.second.words r) now_is ∙ served.0 in
      subst (λ o.
      Comes (second_answered m state (after_validation now m.from m.second.now m.second.words r) o))
      (sym answered)
      (from_success a chosen had (after_validation now m.from m.second.now m.second.words r)
      left_is))

  -- the client's answer to the challenge
  given_up : meant ≡ None → (before : ServerSeen) → sight before m.from ≡ seen offering
      → Comes (challenge_read m before
      (after_challenge initial None
      (new_challenge_if m.settings.feature who users.realm nonce
      (Some (algorithms_of users.algorithms))
      (or_unsupported None))))
  given_up none before is = (
    λ fitting. refl,
    λ ok.
        subst (λ o.
        ComesTo m.from who o
        (challenge_read m before
        (after_challenge initial None
        (new_challenge_if m.settings.feature who users.realm nonce
        (Some (algorithms_of users.algorithms))
        (or_unsupported None)))))
        (sym none)
        (record {
          ending = refl;
          client = refl;
          server_place = (offering, ap (λ (v : Sight). v.place) is, refl);
        }),
  )

  from_step : (o : Option IntegrityAlgorithm) → meant ≡ o → (before : ServerSeen)
      → sight before m.from ≡ seen offering
      → Comes (challenge_read m before
      (after_challenge initial None
      (new_challenge_if m.settings.feature who users.realm nonce
      (Some (algorithms_of users.algorithms))
      (or_unsupported o))))
  from_step None none before is = given_up none before is
  from_step (Some a) chosen before is = from_second a chosen before is

  -- the challenge
  from_challenge : (r : Reading) → IsBare r
      → Comes (challenge_sent m initial (after_first r)
      (server_response (failure UNAUTHORIZED m.first.id) (sight (after_first r) m.from)))
  from_challenge r bare =
      paged (λ o. Comes (challenge_sent m initial (after_first r) o))
      (server_response (failure UNAUTHORIZED m.first.id) (sight (after_first r) m.from))
      (λ reason refused.
      (λ fitting. subst IsOk refused (challenge_signed r bare fitting), λ ok. cc))
      (λ page signed.
      let reads =
      found.challenge m.first.id (seen opened) opened page refl refl texts.realm
      (say.text users.algorithms server.feature m.first.words)
      (sym (ap (server_response (failure UNAUTHORIZED m.first.id)) (first_sight r bare))
      ∙ signed) in
      subst (λ step. Comes (challenge_read m (after_offer r) step))
      (sym (challenge_stepped (reading_of page.bytes) reads.0 reads.1))
      (from_step meant refl (after_offer r) (offer_sight r bare)))

  -- the first request
  from_first : Comes (first_asked m initial server (client_request m.first.id initial))
  from_first =
      paged (λ o. Comes (first_asked m initial server o)) (client_request m.first.id initial)
      (λ reason refused. (
        λ fitting. subst IsOk refused (fitting.0.request m.first.id initial nothing_small),
        λ ok. cc,
      ))
      (λ page signed.
      let r = reading_of page.bytes in
      let bare = found.bare m.first.id page signed in
      subst (λ o. Comes (first_answered m initial (after_first r) o)) (sym (first_served r bare).0)
      (from_challenge r bare))

  pub comes_to : IsOk (whole_negotiation m initial server).ending
      → ComesTo m.from who meant (whole_negotiation m initial server)
  comes_to = from_first.1

  pub all_signed : IsFitting → IsHonest m who server
  all_signed fitting = record { ready = ready; signed = from_first.0 fitting }
