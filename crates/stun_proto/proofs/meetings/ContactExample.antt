-- A contact of a client and its server, message by message, and the session that follows.
use Rattle.std.proofs.Common.{◌≡◌, ℕ, ◌+◌, ◌*◌, ◌<◌, ◌≤◌, ◌^◌, List, [], ◌∷◌, length, Option, Some}
use Rattle.std.proofs.Common.{None, Bool, true, false, refl, sym, ◌∙◌, ap, subst, arith, cond, Ok}
use Rattle.std.specs.FinMap as map
use Rattle.std.specs.Option.{option_and_then, option_map}
use Rattle.std.specs.Str.{bytes_eq}
use Rattle.std.specs.declared.net.socket_addr.SocketAddr.{SocketAddr}
use Rattle.std.proofs.lemmas.List.Elements.{All-nil}
use Rattle.stun_base.specs.Address.{address_cmp}
use Rattle.stun_base.specs.Credentials.{NameAndPassword}
use Rattle.stun_base.specs.Moments.{moment_after}
use Rattle.stun_base.specs.declared.keys.algorithm.IntegrityAlgorithm.TheVariants.{Sha256}
use Rattle.stun_judging.specs.Additions.{Page}
use Rattle.stun_auth.specs.Client.{ClientState}
use Rattle.stun_auth.specs.Client.{Challenge, ClientSettings, authenticated, authenticating, initial}
use Rattle.stun_auth.specs.ClientStep.{ClientStep}
use Rattle.stun_judging.specs.Reading.{UNAUTHORIZED}
use Rattle.stun_judging.specs.Nonces.{nonce_of}
use Rattle.stun_judging.specs.Registered.{Registered, key_at, of_password}
use Rattle.stun_judging.specs.Verdict.{ClientSeen}
use Rattle.stun_auth.specs.Seen.{PlaceSeen, renewed_place}
use Rattle.stun_auth.specs.Server.{Sight, current_place}
use Rattle.stun_auth.specs.ServerSigning.{after_signing}
use Rattle.stun_judging.specs.Signed.{IsSmall}
use Rattle.stun_auth.specs.Signed.{added_by_server}
use Rattle.stun_auth.specs.Signed.{added_under, added_under_key, added_without_client}
use Rattle.stun_auth.specs.Validation.{ServerSeen, sight}
use Rattle.stun_proto.specs.Contact.{Contact, IsChallenged, IsNewClient, at_challenge, at_success}
use Rattle.stun_proto.specs.Contact.{challenged, strongest_of}
use Rattle.stun_proto.specs.Isolation.{concerns}
use Rattle.stun_proto.specs.Matching.{AreJoined, AreTexts, Matches}
use Rattle.stun_proto.specs.MeetingExample.{a_client, a_server, a_user}
use Rattle.stun_proto.specs.Renewal.{leaves_nonce}
use Rattle.stun_proto.specs.Session.{Exchange, IsAnswered, IsInTime, IsStillKnown}
use Rattle.stun_proto.specs.Session.{after_exchange, at_response}
use Rattle.stun_proto.specs.SessionExample.{AreExchanged, HasMessages, HasSession, a_contact}
use Rattle.stun_proto.specs.SessionExample.{exchange_at}
use Rattle.stun_proto.proofs.meetings.ContactLemmas as contact
use Rattle.stun_proto.proofs.meetings.ExampleLemmas.{before_user, one_present, own_hashes, texts}
use Rattle.stun_proto.proofs.meetings.Matched.{key_found}
use Rattle.stun_proto.proofs.meetings.SessionLemmas as session
use Rattle.stun_proto.proofs.meetings.SessionMessages.{Asks, Fails, Grants, IsMethod, answers, asks}
use Rattle.stun_proto.proofs.meetings.SessionMessages.{fails, grants, is_challenged}
use Rattle.stun_proto.proofs.meetings.SessionMessages.{unauthorized_is}
use Rattle.stun_proto.proofs.meetings.Signed.{NoncesAsk, SignedIsRead}
use Rattle.stun_proto.proofs.meetings.SignedRuns.{RoomLaws, SigningLaws}
use Rattle.stun_proto.proofs.meetings.Small.{known_small, nothing_small, offer_small, request_small}

-- the methods Binding and Allocate
pub binds : IsMethod 1
binds = record {
  request_less = omega arith;
  success_less = omega arith;
  error_less = omega arith;
  request_is = refl;
  success_is = refl;
  error_is = refl;
}

pub allocates : IsMethod 3
allocates = record {
  request_less = omega arith;
  success_less = omega arith;
  error_less = omega arith;
  request_is = refl;
  success_is = refl;
  error_is = refl;
}

-- what an address can tell of the client there
abbrev known_in : Sight → Option ClientSeen
known_in v = option_and_then (λ (q : PlaceSeen). q.client) v.place

module _ (from : SocketAddr) (words more : List ℕ) where
  pub is_new : IsNewClient (a_contact from words more) a_user a_server
  is_new = record {
    credentials = refl;
    registered = record {
      secret = of_password a_user.password;
      present = one_present before_user refl a_user;
      keys = λ a supported. refl;
    };
    hashes = own_hashes before_user refl a_user;
    new_address = map.get-empty address_cmp from;
    others_before_challenge = All-nil (λ call. concerns from call ≡ false);
    calls_before_second = All-nil (λ call. leaves_nonce from 3_600_000_000_000 true call ≡ true);
    in_time = omega arith;
    calls_before_success = All-nil (λ call. leaves_nonce from 3_600_000_000_000 true call ≡ true);
  }

module _ (say : NoncesAsk) (found : SignedIsRead) (laws : SigningLaws) (room : RoomLaws)
    (method : ℕ) (numbers : IsMethod method) where
  -- ---- a contact
  module _ (from : SocketAddr) (words more : List ℕ) (few : length words ≤ 16) where
    abbrev m : Contact
    m = a_contact from words more

    abbrev new : IsNewClient m a_user a_server
    new = is_new from words more

    abbrev users : Registered
    users = a_server.registered

    abbrev nonce : List ℕ
    nonce = nonce_of users.algorithms a_server.feature words

    nonce_short : length nonce ≤ 763
    nonce_short =
        let h = room.short users.algorithms a_server.feature words in omega (arith, h, few)

    realm_short : length users.realm ≤ 763
    realm_short = omega arith

    name_short : length a_user.username ≤ 513
    name_short = omega arith

    chosen : strongest_of m a_server ≡ Some Sha256
    chosen = refl

    pub first : Asks laws room method numbers initial
    first = asks laws room method numbers initial nothing_small

    abbrev challenger : Sight
    challenger = sight (at_challenge m a_server first.page) from

    sees : challenger ≡ contact.seen say found m a_user a_server texts new
        (contact.opened say found m a_user a_server texts new)
    sees = contact.challenge_sight say found m a_user a_server texts new first.page first.asked

    pub error : Fails laws room method numbers challenger UNAUTHORIZED
    error =
        fails laws room method numbers challenger UNAUTHORIZED
        (added_without_client true users nonce) unauthorized_is
        (ap (λ v. added_by_server v true) sees) (offer_small users nonce nonce_short realm_short)

    abbrev pub told : IsChallenged challenger error.page
    told = is_challenged error.message error.page error.unsigned error.signed

    abbrev pub met_challenge : Challenge
    met_challenge = contact.challenge say found m a_user a_server texts new Sha256

    pub second : Asks laws room method numbers (authenticating met_challenge)
    second =
        asks laws room method numbers (authenticating met_challenge)
        (request_small met_challenge users.algorithms
        (contact.hashes say found m a_user a_server texts new) a_user.username users.realm refl refl
        nonce_short realm_short name_short)

    abbrev client : ClientSeen
    client = record { name = a_user.username; algorithm = Sha256 }

    abbrev pub met_place : PlaceSeen
    met_place = contact.standing say found m a_user a_server texts new (Some client)

    abbrev granter : Sight
    granter = sight (at_success m a_server first.page second.page) from

    stands : granter ≡ contact.seen say found m a_user a_server texts new met_place
    stands =
        contact.reading_sight say found m a_user a_server texts new first.page first.asked
        error.page told Sha256 chosen second.page second.asked

    still : IsStillKnown from a_user met_challenge (at_success m a_server first.page second.page)
    still = ap known_in stands

    key : key_at users a_user.username Sha256 ≡ Some met_challenge.key
    key =
        key_found say users a_server.feature met_place met_challenge a_user
        (contact.matches_at say found m a_user a_server texts new first.page first.asked error.page
        told Sha256 chosen (Some client))

    success : Grants laws room method numbers granter
    success =
        grants laws room method numbers granter (added_under_key true users nonce Sha256 met_challenge.key)
        (ap (λ v. added_by_server v true) stands
        ∙ ap (option_map (added_under_key true users nonce Sha256)) key)
        (known_small users nonce Sha256 met_challenge.key nonce_short realm_short)

    pub are_exchanged : AreExchanged method m a_user a_server
    are_exchanged = record {
      asking = first.page;
      challenging = error.page;
      again = second.page;
      granting = success.page;
      challenge = met_challenge;
      asked = first.asked;
      told = told;
      taken_up = ap (λ (x : ClientStep). x.state)
          (contact.resent say found m a_user a_server texts new first.page first.asked error.page told
          Sha256 chosen);
      asked_again = second.asked;
      known = still;
      granted = success.granted;
      asked_is = first.asked_is;
      told_is = error.message_is;
      asked_again_is = second.asked_is;
      granted_is = success.granted_is;
    }

    -- the server that has signed the success
    abbrev pub met_server : ServerSeen
    met_server = after_signing (at_success m a_server first.page second.page) from true

    pub met_joined : AreJoined (sight met_server from) met_place met_challenge a_user
    met_joined =
        contact.joined say found m a_user a_server texts new first.page first.asked error.page told
        Sha256 chosen second.page second.asked still

    pub met_sight : sight met_server from ≡ contact.seen say found m a_user a_server texts new met_place
    met_sight =
        contact.last_sight say found m a_user a_server texts new first.page first.asked error.page
        told Sha256 chosen second.page second.asked
        ∙ contact.known_is say found m a_user a_server texts new first.page first.asked error.page
        told Sha256 chosen second.page second.asked still

  -- ---- a session
  module _ (settings : ClientSettings) (from : SocketAddr) (who : NameAndPassword)
      (name_short : length who.username ≤ 513) (server : ServerSeen) (p : PlaceSeen)
      (c : Challenge) (its_texts : AreTexts server.registered.realm who.username)
      (joined : AreJoined (sight server from) p c who)
      (realm_short : length server.registered.realm ≤ 763) (nonce_short : length p.nonce ≤ 763)
    where
      abbrev matches : Matches server.registered server.feature p c who
      matches = joined.matches

      small_under : (d : Challenge) → d.algorithms ≡ c.algorithms → d.naming ≡ c.naming
          → length d.nonce ≤ 763 → length d.realm ≤ 763 → IsSmall (added_under true d)
      small_under d algorithms naming its_nonce its_realm =
          request_small d server.registered.algorithms matches.naming.0 who.username
          server.registered.realm (algorithms ∙ matches.algorithms) (naming ∙ matches.naming.1)
          its_nonce its_realm name_short

      pub asking : Asks laws room method numbers (authenticated c)
      asking =
          asks laws room method numbers (authenticated c)
          (small_under c refl refl (subst (λ n. length n ≤ 763) (sym matches.nonce) nonce_short)
          (subst (λ r. length r ≤ 763) (sym matches.realm) realm_short))

      its_key : key_at server.registered who.username c.algorithm ≡ Some c.key
      its_key = key_found say server.registered server.feature p c who matches

      -- an exchange while the nonce lasts
      module _ (now : ℕ) (in_time : now ≤ p.expires) where
        timely : IsInTime from p (exchange_at now)
        timely = record {
          calls_before_request = All-nil (λ call. leaves_nonce from p.expires true call ≡ true);
          in_time = in_time;
          calls_before_response = All-nil (λ call. leaves_nonce from p.expires true call ≡ true);
        }

        abbrev responder : Sight
        responder = sight (at_response from server (exchange_at now) asking.page) from

        reading : responder ≡ session.seen say found settings from who server p c its_texts joined
            (Some (session.standing say found settings from who server p c its_texts joined
            (Some (session.client say found settings from who server p c its_texts joined))))
        reading =
            session.reading_sight say found settings from who server p c its_texts joined
            (exchange_at now) timely asking.page asking.asked

        pub still_known : IsStillKnown from who c
            (at_response from server (exchange_at now) asking.page)
        still_known = ap known_in reading

        answering : (page : Page) × IsAnswered responder page
        answering =
            answers laws room method numbers responder
            (added_under_key true server.registered p.nonce c.algorithm c.key)
            (ap (λ v. added_by_server v true) reading
            ∙ ap (option_map (added_under_key true server.registered p.nonce c.algorithm)) its_key)
            (known_small server.registered p.nonce c.algorithm c.key nonce_short realm_short)

        abbrev pub next_server : ServerSeen
        next_server = after_exchange from server (exchange_at now) asking.page

        pub next_joined : AreJoined (sight next_server from) p c who
        next_joined =
            session.joined_after say found settings from who server p c its_texts joined
            (exchange_at now) timely asking.page asking.asked still_known

        pub next_texts : AreTexts next_server.registered.realm who.username
        next_texts =
            session.texts_after say found settings from who server p c its_texts joined
            (exchange_at now) timely asking.page asking.asked

        pub next_sight : sight next_server from ≡ record {
          registered = server.registered;
          feature = server.feature;
          expiry = server.expiry;
          place = Some p;
        }
        next_sight =
            session.last_sight say found settings from who server p c its_texts joined
            (exchange_at now) timely asking.page asking.asked
            ∙ session.own_again say found settings from who server p c its_texts joined
            (exchange_at now) timely asking.page asking.asked still_known

        pub exchanged : (later : List Exchange)
            → HasMessages settings from who next_server p c later
            → HasMessages settings from who server p c (exchange_at now ∷ later)
        exchanged later rest =
            (timely, asking.page, answering.0, asking.asked, still_known, answering.1, rest)

  -- ---- the session after the contact
  module _ (from : SocketAddr) (words more : List ℕ) (few : length words ≤ 16) where
    abbrev its_p : PlaceSeen
    its_p = met_place from words more few

    abbrev its_c : Challenge
    its_c = met_challenge from words more few

    abbrev one : ServerSeen
    one = met_server from words more few

    one_joined : AreJoined (sight one from) its_p its_c a_user
    one_joined = met_joined from words more few

    short_realm : length a_server.registered.realm ≤ 763
    short_realm = realm_short from words more few

    short_name : length a_user.username ≤ 513
    short_name = name_short from words more few

    short_nonce : length its_p.nonce ≤ 763
    short_nonce = nonce_short from words more few

    -- after the first exchange
    abbrev two : ServerSeen
    two = next_server a_client from a_user short_name one its_p its_c texts one_joined short_realm
        short_nonce 2_000_000_000 (omega arith)

    two_joined : AreJoined (sight two from) its_p its_c a_user
    two_joined =
        next_joined a_client from a_user short_name one its_p its_c texts one_joined short_realm
        short_nonce 2_000_000_000 (omega arith)

    same_users : two.registered ≡ a_server.registered
    same_users =
        ap (λ (v : Sight). v.registered)
        (next_sight a_client from a_user short_name one its_p its_c texts one_joined short_realm
        short_nonce 2_000_000_000 (omega arith))

    last_exchange : HasMessages a_client from a_user two its_p its_c
        (exchange_at 3_000_000_000 ∷ [])
    last_exchange =
        exchanged a_client from a_user short_name two its_p its_c
        (subst (λ (u : Registered). AreTexts u.realm a_user.username) (sym same_users) texts)
        two_joined
        (subst (λ (u : Registered). length u.realm ≤ 763) (sym same_users) short_realm)
        short_nonce 3_000_000_000 (omega arith) [] tt

    pub has_session : HasSession from
    has_session = record {
      server = one;
      place = its_p;
      challenge = its_c;
      texts = texts;
      joined = one_joined;
      messages =
          exchanged a_client from a_user short_name one its_p its_c texts one_joined short_realm
          short_nonce 2_000_000_000 (omega arith) (exchange_at 3_000_000_000 ∷ []) last_exchange;
    }
