-- A new client and its server come to the strongest algorithm of both, by messages of any method:
-- each step is that of a meeting of Binding messages, whose lemmas speak of what is read alone.
use Rattle.std.proofs.Common.{◌≡◌, ℕ, List, [], Option, Some, None, arith}
use Rattle.std.proofs.Common.{Bool, true, refl, sym, ◌∙◌, ap, subst, Ok, Err}
use Rattle.std.specs.Option.{option_and_then, option_map}
use Rattle.std.specs.Prelude.{◌&&◌, IsUtf8}
use Rattle.std.proofs.lemmas.Bool.{le-leb}
use Rattle.stun_base.specs.Credentials.{NameAndPassword}
use Rattle.stun_base.specs.declared.keys.algorithm.IntegrityAlgorithm.{IntegrityAlgorithm}
use Rattle.stun_auth.specs.declared.server.reason.LongTermServerAuthErrorReason.TheVariants
    as Server
use Rattle.stun_auth.specs.declared.server.reason.LongTermServerValidation.TheVariants as Served
use Rattle.stun_judging.specs.Additions.{Page}
use Rattle.stun_judging.specs.Algorithms.{contains, algorithms_of}
use Rattle.stun_auth.specs.declared.client.answer.LongTermClientValidation.TheVariants as Read
use Rattle.stun_auth.specs.Client.{Challenge, authenticated, authenticating, initial}
use Rattle.stun_auth.specs.ClientStep.{after_challenge, client_step, new_challenge_if}
use Rattle.stun_auth.specs.ClientStep.{or_unsupported}
use Rattle.stun_judging.specs.Feature.{is_possible}
use Rattle.stun_judging.specs.Nonces.{asks_for_userhash}
use Rattle.stun_auth.specs.Places.{with_offer}
use Rattle.stun_judging.specs.Reading.{Reading, reading_of}
use Rattle.stun_judging.specs.Registered.{Registered}
use Rattle.stun_judging.specs.Verdict.{ClientSeen}
use Rattle.stun_auth.specs.Seen.{PlaceSeen}
use Rattle.stun_auth.specs.Server.{Sight}
use Rattle.stun_auth.specs.ServerSigning.{after_signing}
use Rattle.stun_auth.specs.Validation.{ServerSeen, answer, place_after, sight}
use Rattle.stun_proto.specs.Contact.{ComesToMeet, Contact, IsChallenged, IsGranted, IsIntroduced}
use Rattle.stun_proto.specs.Contact.{IsMet, IsNewClient, after_first, after_second, at_challenge}
use Rattle.stun_proto.specs.Contact.{at_second, at_success, challenged, nonce_end, strongest_of}
use Rattle.stun_proto.specs.Honest.{IsReady}
use Rattle.stun_proto.specs.Matching.{AreJoined, AreTexts, Matches}
use Rattle.stun_proto.specs.Negotiation.{Meeting}
use Rattle.stun_proto.specs.Renewal.{IsAsked}
use Rattle.stun_proto.specs.Session.{IsStillKnown}
use Rattle.stun_proto.proofs.meetings.Answered.{protected}
use Rattle.stun_proto.proofs.meetings.Chosen.{best-had}
use Rattle.stun_proto.proofs.meetings.Matched.{complete, key_found, matched_verdict}
use Rattle.stun_proto.proofs.meetings.Meeting as meeting
use Rattle.stun_proto.proofs.meetings.Meeting.{success_step}
use Rattle.stun_proto.proofs.meetings.Signed.{IsRequest, NoncesAsk, SignedIsRead}
use Rattle.stun_proto.proofs.meetings.Standing.{Stands, calls_leave, place_of, signing_sight}
use Rattle.stun_proto.proofs.meetings.Standing.{standing_in_time}
use Rattle.stun_proto.proofs.server_runs.Sights.{sight-after_others, sight-after_signing}
use Rattle.stun_proto.proofs.server_runs.Sights.{sight-after_validation}

module _ (say : NoncesAsk) (found : SignedIsRead) (m : Contact) (who : NameAndPassword)
    (server : ServerSeen) (texts : AreTexts server.registered.realm who.username)
    (new : IsNewClient m who server) where
  -- a meeting of Binding messages at the same moments
  abbrev pub as_meeting : Meeting
  as_meeting = record {
    settings = m.settings;
    from = m.from;
    first = record { id = 0; now = m.first.now; words = m.first.words; before = [] };
    second = record { id = 0; now = m.second.now; words = m.second.words; before = [] };
  }

  pub ready : IsReady as_meeting who server
  ready = record {
    credentials = new.credentials;
    registered = new.registered;
    hashes = new.hashes;
    new_address = new.new_address;
    others_first = λ k d h. absurd (omega arith);
    others_second = λ k d h. absurd (omega arith);
    in_time = new.in_time;
  }

  abbrev users : Registered
  users = server.registered

  abbrev pub nonce : List ℕ
  nonce = meeting.nonce say found as_meeting who server texts ready

  abbrev end : ℕ
  end = nonce_end m server

  abbrev pub challenge : IntegrityAlgorithm → Challenge
  challenge a = meeting.challenge say found as_meeting who server texts ready a

  abbrev pub hashes : Bool
  hashes = asks_for_userhash nonce && is_possible m.settings.feature

  abbrev pub opened : PlaceSeen
  opened = meeting.opened say found as_meeting who server texts ready

  abbrev pub standing : Option ClientSeen → PlaceSeen
  standing known = place_of users server.feature server.expiry m.from nonce end true known

  abbrev pub seen : PlaceSeen → Sight
  seen p = record {
    registered = users;
    feature = server.feature;
    expiry = server.expiry;
    place = Some p;
  }

  abbrev StandsHere : ServerSeen → Type 0
  StandsHere s = Stands users server.feature server.expiry m.from nonce end true s

  nonce_text : IsUtf8 nonce
  nonce_text = say.text users.algorithms server.feature m.first.words

  -- ---- the first request and the challenge
  first_answered : (asking : Page) → IsAsked initial asking
      → answer (sight server m.from) m.first.now m.first.words (reading_of asking.bytes)
      ≡ Err Server.Unauthorized
  first_answered asking asked =
      (meeting.first_served say found as_meeting who server texts ready (reading_of asking.bytes)
      (found.any_bare asking asked)).0

  module _ (asking : Page) (asked : IsAsked initial asking) where
    pub challenge_sight : sight (at_challenge m server asking) m.from ≡ seen opened
    challenge_sight =
        sight-after_others (after_first m server asking) m.from m.before_challenge
        new.others_before_challenge
        ∙ meeting.first_sight say found as_meeting who server texts ready
        (reading_of asking.bytes) (found.any_bare asking asked)

    module _ (challenging : Page)
        (is : IsChallenged (sight (at_challenge m server asking) m.from) challenging) where
      stepped : challenged m challenging
          ≡ after_challenge initial None
          (new_challenge_if m.settings.feature who users.realm nonce
          (Some (algorithms_of users.algorithms)) (or_unsupported (strongest_of m server)))
      stepped =
          let reads = found.any_challenge (seen opened) opened challenging refl refl texts.realm
          nonce_text (subst (λ v. IsChallenged v challenging) challenge_sight is) in
          meeting.challenge_stepped say found as_meeting who server texts ready
          (reading_of challenging.bytes) reads.0 reads.1

      -- ---- the second request
      module _ (a : IntegrityAlgorithm) (chosen : strongest_of m server ≡ Some a) where
        had : contains a users.algorithms ≡ true
        had = best-had m.settings.supported users.algorithms m.settings.feature server.feature a
            chosen

        abbrev pub client : ClientSeen
        client = record { name = who.username; algorithm = a }

        at_offer : Matches users server.feature
            (meeting.offering say found as_meeting who server texts ready) (challenge a) who
        at_offer = meeting.matched say found as_meeting who server texts ready a had

        pub matches_at : (known : Option ClientSeen)
            → Matches users server.feature (standing known) (challenge a) who
        matches_at known = record {
          realm = refl;
          nonce = refl;
          made = at_offer.made;
          offered = refl;
          algorithms = refl;
          algorithm = had;
          naming = at_offer.naming;
          known = at_offer.known;
          named = at_offer.named;
          key = refl;
        }

        offer_stands : StandsHere (after_signing (at_challenge m server asking) m.from true)
        offer_stands = (
          None,
          sight-after_signing (at_challenge m server asking) m.from
              ∙ ap (λ (v : Sight).
              record v { place = option_map (with_offer v.registered.algorithms) v.place })
              challenge_sight,
          λ never. cc,
        )

        second_stands : StandsHere (at_second m server asking)
        second_stands =
            calls_leave users server.feature server.expiry m.from nonce end true m.before_second
            (after_signing (at_challenge m server asking) m.from true) new.calls_before_second
            offer_stands

        abbrev known : Option ClientSeen
        known = second_stands.0

        module _ (again : Page) (asked_again : IsAsked (authenticating (challenge a)) again) where
          abbrev r : Reading
          r = reading_of again.bytes

          reads : IsRequest (challenge a) r
          reads =
              found.any_request (authenticating (challenge a)) (challenge a) users.algorithms hashes
              who.username users.realm again refl refl refl texts.realm nonce_text texts.username
              asked_again

          served : (answer (seen (standing known)) m.second.now m.second.words r
              ≡ Ok (Served.Validated a))
              × (place_after (seen (standing known)) m.second.now m.second.words r
              ≡ Some (standing (Some client)))
          served =
              protected (seen (standing known)) m.second.now m.second.words r (standing known)
              (standing_in_time users server.feature server.expiry m.from nonce end true known
              m.second.now m.second.words (le-leb m.second.now end new.in_time))
              reads.response (Ok client) reads.protected
              (complete say users server.feature (standing known) (challenge a) who
              (matches_at known) r reads)
              (matched_verdict say users server.feature (standing known) (challenge a) who
              (matches_at known) r reads)

          accepted : answer (sight (at_second m server asking) m.from) m.second.now m.second.words r
              ≡ Ok (Served.Validated a)
          accepted = ap (λ v. answer v m.second.now m.second.words r) second_stands.1 ∙ served.0

          -- ---- the success
          pub reading_sight : sight (after_second m server asking again) m.from
              ≡ seen (standing (Some client))
          reading_sight =
              sight-after_validation (at_second m server asking) m.from m.second.now m.second.words r
              ∙ ap (λ (v : Sight).
              record v { place = place_after v m.second.now m.second.words r }) second_stands.1
              ∙ ap (λ (o : Option PlaceSeen). record (seen opened) { place = o }) served.1

          reading_stands : StandsHere (after_second m server asking again)
          reading_stands = (Some client, reading_sight, λ never. refl)

          pub success_stands : StandsHere (at_success m server asking again)
          success_stands =
              calls_leave users server.feature server.expiry m.from nonce end true m.before_success
              (after_second m server asking again) new.calls_before_success reading_stands

          pub last_sight : sight (after_signing (at_success m server asking again) m.from true) m.from
              ≡ seen (standing success_stands.0)
          last_sight =
              signing_sight users server.feature server.expiry m.from nonce end true
              (at_success m server asking again) success_stands

          module _ (still : IsStillKnown m.from who (challenge a)
              (at_success m server asking again)) where
            pub known_is : seen (standing success_stands.0) ≡ seen (standing (Some client))
            known_is =
                ap (λ k. seen (standing k))
                (sym (ap (λ (v : Sight). option_and_then (λ (q : PlaceSeen). q.client) v.place)
                success_stands.1)
                ∙ still)

            granted : (granting : Page)
                → IsGranted (sight (at_success m server asking again) m.from) granting
                → client_step m.settings (authenticating (challenge a)) (reading_of granting.bytes)
                ≡ record {
                  answer = Ok (Read.Validated a);
                  state = authenticated (challenge a);
                }
            granted granting granting_is =
                success_step m.settings (challenge a) (reading_of granting.bytes) a
                (found.any_success (seen (standing (Some client))) (standing (Some client)) client
                (challenge a).key granting refl refl
                (key_found say users server.feature (standing (Some client)) (challenge a) who
                (matches_at (Some client)))
                texts.realm nonce_text
                (subst (λ v. IsGranted v granting) (success_stands.1 ∙ known_is) granting_is))

            pub joined : AreJoined
                (sight (after_signing (at_success m server asking again) m.from true) m.from)
                (standing (Some client)) (challenge a) who
            joined =
                subst (λ v. AreJoined v (standing (Some client)) (challenge a) who)
                (sym (last_sight ∙ known_is))
                (record { place = refl; client = refl; matches = matches_at (Some client) })

        pub resent : challenged m challenging
            ≡ record {
              answer = Ok (Read.ResendRequest None);
              state = authenticating (challenge a);
            }
        resent =
            stepped
            ∙ ap (λ o. after_challenge initial None
            (new_challenge_if m.settings.feature who users.realm nonce
            (Some (algorithms_of users.algorithms)) (or_unsupported o))) chosen

        met : IsMet m who server asking challenging a
        met = record {
          challenge = challenge a;
          chosen = refl;
          resent = resent;
          accepted = accepted;
          granted = λ again granting asked_again still. granted again asked_again still granting;
          joined = λ again asked_again still.
              (standing (Some client), joined again asked_again still);
        }

      gives_up : strongest_of m server ≡ None → ComesToMeet m who server asking challenging None
      gives_up none = stepped
          ∙ ap (λ o. after_challenge initial None
          (new_challenge_if m.settings.feature who users.realm nonce
          (Some (algorithms_of users.algorithms)) (or_unsupported o))) none

      by : (o : Option IntegrityAlgorithm) → strongest_of m server ≡ o
          → ComesToMeet m who server asking challenging o
      by None none = gives_up none
      by (Some a) chosen = met a chosen

  pub is_introduced : IsIntroduced m who server
  is_introduced = record {
    first = first_answered;
    then = λ asking challenging asked is.
        by asking asked challenging is (strongest_of m server) refl;
  }
