-- Each request and each response is accepted while the nonce lasts, and after it is renewed.
use Rattle.std.proofs.Common.{◌≡◌, List, [], ◌∷◌, Option, Some, Bool}
use Rattle.std.proofs.Common.{true, false, refl, sym, ◌∙◌, ap, subst, Ok}
use Rattle.std.specs.Prelude.{cond, if◌then◌else◌, IsUtf8}
use Rattle.std.specs.Option.{option_and_then}
use Rattle.std.specs.declared.net.socket_addr.SocketAddr.{SocketAddr}
use Rattle.std.proofs.lemmas.Bool.{le-leb}
use Rattle.stun_base.specs.Credentials.{NameAndPassword}
use Rattle.stun_base.specs.MessageType.{is_success}
use Rattle.stun_base.specs.declared.keys.algorithm.IntegrityAlgorithm.{IntegrityAlgorithm}
use Rattle.stun_auth.specs.declared.client.answer.LongTermClientValidation.TheVariants as Read
use Rattle.stun_auth.specs.declared.server.reason.LongTermServerValidation.TheVariants as Served
use Rattle.stun_judging.specs.Additions.{Page}
use Rattle.stun_auth.specs.Client.{Challenge, ClientSettings, authenticated}
use Rattle.stun_judging.specs.Reading.{STALE_NONCE, UNAUTHORIZED, is_code, Reading, reading_of}
use Rattle.stun_judging.specs.Reading.{verified_under}
use Rattle.stun_auth.specs.ClientStep.{after_challenge, after_confirmation, after_digest}
use Rattle.stun_auth.specs.ClientStep.{after_stale, client_step, taken_up}
use Rattle.stun_judging.specs.Registered.{Registered}
use Rattle.stun_judging.specs.Verdict.{ClientSeen}
use Rattle.stun_auth.specs.Seen.{PlaceSeen}
use Rattle.stun_auth.specs.Server.{Sight}
use Rattle.stun_auth.specs.Validation.{ServerSeen, answer, place_after, sight}
use Rattle.stun_proto.specs.Matching.{AreJoined, AreTexts, Matches}
use Rattle.stun_proto.specs.Renewal.{IsAsked}
use Rattle.stun_proto.specs.Session.{Exchange, GoesOn, IsAcceptedAgain, IsAnswered, IsBelieved}
use Rattle.stun_proto.specs.Session.{IsInTime, IsStillKnown, Part, Exchanged, RanOut}
use Rattle.stun_proto.specs.Session.{after_exchange, after_reading, at_request, at_response}
use Rattle.stun_proto.specs.Session.{renewal_of}
use Rattle.stun_proto.proofs.meetings.Answered.{protected}
use Rattle.stun_proto.proofs.meetings.Keeping.{and_false}
use Rattle.stun_proto.proofs.meetings.Matched.{complete, key_found, matched_verdict}
use Rattle.stun_proto.proofs.meetings.Renewed.{is_renewed, users_stay}
use Rattle.stun_proto.proofs.meetings.Signed.{IsRequest, IsResponse, NoncesAsk, SignedIsRead}
use Rattle.stun_proto.proofs.meetings.Standing.{Stands, calls_leave, place_of, signing_sight}
use Rattle.stun_proto.proofs.meetings.Standing.{standing_in_time}
use Rattle.stun_proto.proofs.server_runs.Sights.{sight-after_validation}

-- a client that is authenticated stays so, whatever the class
same_either : (b : Bool) (c : Challenge)
    → (if b then after_confirmation (authenticated c) else authenticated c) ≡ authenticated c
same_either true c = refl
same_either false c = refl

-- an authenticated client accepts a response under its key that does not tell its nonce stale
believed_step : (s : ClientSettings) (c : Challenge) (a : IntegrityAlgorithm) (r : Reading)
    → IsResponse a c.key r
    → client_step s (authenticated c) r
    ≡ record { answer = Ok (Read.Validated a); state = authenticated c }
believed_step s c a r reads =
    let digest = verified_under r c.key in
    let success = is_success r.class in
    ap (λ b.
    cond b
    (after_challenge (authenticated c) digest
    (taken_up s (authenticated c) s.credentials r.realm r.nonce r.algorithms))
    (cond (is_code STALE_NONCE r.error) (after_stale (authenticated c) digest r.realm r.nonce)
    (after_digest (authenticated c) success digest))) (and_false (is_code UNAUTHORIZED r.error))
    ∙ ap (λ b.
    cond b (after_stale (authenticated c) digest r.realm r.nonce)
    (after_digest (authenticated c) success digest)) reads.not_stale
    ∙ ap (after_digest (authenticated c) success) reads.digest
    ∙ ap (λ state. record { answer = Ok (Read.Validated a); state = state })
    (same_either success c)

module _ (say : NoncesAsk) (found : SignedIsRead) (settings : ClientSettings) (from : SocketAddr)
    (who : NameAndPassword) where
  module _ (server : ServerSeen) (p : PlaceSeen) (c : Challenge)
      (texts : AreTexts server.registered.realm who.username)
      (joined : AreJoined (sight server from) p c who) where
    abbrev users : Registered
    users = server.registered

    abbrev pub client : ClientSeen
    client = record { name = who.username; algorithm = c.algorithm }

    abbrev matches : Matches users server.feature p c who
    matches = joined.matches

    -- the place with its nonce, whoever is known there, and what the address then can tell
    abbrev pub standing : Option ClientSeen → PlaceSeen
    standing known =
        place_of users server.feature server.expiry from p.nonce p.expires true known

    abbrev pub seen : Option PlaceSeen → Sight
    seen place = record {
      registered = users;
      feature = server.feature;
      expiry = server.expiry;
      place = place;
    }

    abbrev StandsHere : ServerSeen → Type 0
    StandsHere s = Stands users server.feature server.expiry from p.nonce p.expires true s

    own_place : p ≡ standing (Some client)
    own_place =
        ap (λ o. record p { offered = o }) matches.offered
        ∙ ap (λ k. record p { offered = Some users.algorithms; client = k }) joined.client

    begins : StandsHere server
    begins = (Some client, ap seen (joined.place ∙ ap Some own_place), λ never. refl)

    matches_at : (known : Option ClientSeen) → Matches users server.feature (standing known) c who
    matches_at known = record {
      realm = matches.realm;
      nonce = matches.nonce;
      made = matches.made;
      offered = refl;
      algorithms = matches.algorithms;
      algorithm = matches.algorithm;
      naming = matches.naming;
      known = matches.known;
      named = matches.named;
      key = matches.key;
    }

    -- the nonce is a text
    nonce_text : IsUtf8 p.nonce
    nonce_text =
        subst IsUtf8 (sym matches.made.1)
        (say.text users.algorithms server.feature matches.made.0)

    module _ (e : Exchange) (timely : IsInTime from p e) (asking : Page)
        (asked : IsAsked (authenticated c) asking) where
      abbrev r : Reading
      r = reading_of asking.bytes

      reads : IsRequest c r
      reads =
          found.any_request (authenticated c) c users.algorithms matches.naming.0 who.username
          users.realm asking refl matches.algorithms matches.naming.1
          (subst IsUtf8 (sym matches.realm) texts.realm)
          (subst IsUtf8 (sym matches.nonce) nonce_text) texts.username asked

      -- ---- the request
      request_stands : StandsHere (at_request server e)
      request_stands =
          calls_leave users server.feature server.expiry from p.nonce p.expires true
          e.before_request server timely.calls_before_request begins

      abbrev known : Option ClientSeen
      known = request_stands.0

      served : (answer (seen (Some (standing known))) e.arrival.now e.arrival.words r
          ≡ Ok (Served.Validated c.algorithm))
          × (place_after (seen (Some (standing known))) e.arrival.now e.arrival.words r
          ≡ Some (standing (Some client)))
      served =
          protected (seen (Some (standing known))) e.arrival.now e.arrival.words r (standing known)
          (standing_in_time users server.feature server.expiry from p.nonce p.expires true known
          e.arrival.now e.arrival.words (le-leb e.arrival.now p.expires timely.in_time))
          reads.response (Ok client) reads.protected
          (complete say users server.feature (standing known) c who (matches_at known) r reads)
          (matched_verdict say users server.feature (standing known) c who (matches_at known) r
          reads)

      accepted : IsAcceptedAgain from server c e asking
      accepted = ap (λ v. answer v e.arrival.now e.arrival.words r) request_stands.1 ∙ served.0

      -- ---- the response
      pub reading_sight : sight (after_reading from server e asking) from
          ≡ seen (Some (standing (Some client)))
      reading_sight =
          sight-after_validation (at_request server e) from e.arrival.now e.arrival.words r
          ∙ ap (λ (v : Sight).
          record v { place = place_after v e.arrival.now e.arrival.words r }) request_stands.1
          ∙ ap seen served.1

      reading_stands : StandsHere (after_reading from server e asking)
      reading_stands = (Some client, reading_sight, λ never. refl)

      pub response_stands : StandsHere (at_response from server e asking)
      response_stands =
          calls_leave users server.feature server.expiry from p.nonce p.expires true
          e.before_response (after_reading from server e asking) timely.calls_before_response
          reading_stands

      pub last_sight : sight (after_exchange from server e asking) from
          ≡ seen (Some (standing response_stands.0))
      last_sight =
          signing_sight users server.feature server.expiry from p.nonce p.expires true
          (at_response from server e asking) response_stands

      pub texts_after : AreTexts (after_exchange from server e asking).registered.realm who.username
      texts_after =
          subst (λ (u : Registered). AreTexts u.realm who.username)
          (sym (ap (λ (v : Sight). v.registered) last_sight)) texts

      module _ (still : IsStillKnown from who c (at_response from server e asking)) where
        known_is : response_stands.0 ≡ Some client
        known_is =
            sym (ap (λ (v : Sight). option_and_then (λ (q : PlaceSeen). q.client) v.place)
            response_stands.1)
            ∙ still

        -- the address has its place again
        pub own_again : seen (Some (standing response_stands.0)) ≡ seen (Some p)
        own_again =
            ap (λ k. seen (Some (standing k))) known_is ∙ ap (λ q. seen (Some q)) (sym own_place)

        pub joined_after : AreJoined (sight (after_exchange from server e asking) from) p c who
        joined_after =
            subst (λ v. AreJoined v p c who) (sym (last_sight ∙ own_again))
            (record { place = refl; client = joined.client; matches = matches })

        believed : (answering : Page)
            → IsAnswered (sight (at_response from server e asking) from) answering
            → IsBelieved settings c answering
        believed answering is =
            believed_step settings c c.algorithm (reading_of answering.bytes)
            (found.answered (seen (Some p)) p client c.key answering refl joined.client
            (key_found say users server.feature p c who matches) texts.realm nonce_text
            (subst (λ v. IsAnswered v answering) (response_stands.1 ∙ own_again) is))

  pub goes_on : (parts : List Part) (server : ServerSeen) (p : PlaceSeen) (c : Challenge)
      → AreTexts server.registered.realm who.username → AreJoined (sight server from) p c who
      → GoesOn settings from who server p c parts
  goes_on [] server p c texts joined = joined
  goes_on (Exchanged e ∷ later) server p c texts joined = λ timely asking asked. (
    accepted server p c texts joined e timely asking asked,
    λ answering still is. (
      believed server p c texts joined e timely asking asked still answering is,
      goes_on later (after_exchange from server e asking) p c
          (texts_after server p c texts joined e timely asking asked)
          (joined_after server p c texts joined e timely asking asked still),
    ),
  )
  goes_on (RanOut l ∷ later) server p c texts joined = λ old.
      let m = renewal_of settings from l in
      let renewed = is_renewed say found m who server p c texts old in (
        renewed,
        λ asking telling again stale.
            let next = (renewed.second asking telling again stale).joined in
            let same = users_stay say found m who server p c texts old asking stale.asked
            stale.other_nonce again in (
              next.0,
              next.1,
              next.2,
              goes_on later _ next.1 next.0
                  (subst (λ (u : Registered). AreTexts u.realm who.username) (sym same) texts)
                  next.3,
            ),
      )
