-- What is read of each message of a run, and that it can be signed, by the laws on what signing
-- adds.
use Rattle.std.proofs.Common.{◌≡◌, ℕ, ◌+◌, ◌-◌, ◌<◌, ◌≤◌, ◌^◌, List}
use Rattle.std.proofs.Common.{[], ◌∷◌, length, Bool, true, false, Option, Some}
use Rattle.std.proofs.Common.{None, refl, sym, ◌∙◌, ap, subst, Ok, arith}
use Rattle.std.specs.Prelude.{codes, IsOk, IsUtf8, ◌||◌, if◌then◌else◌}
use Rattle.std.specs.Option.{IsSome, option_map}
use Rattle.std.proofs.lemmas.Str.{IsUtf8-from_ascii}
use Rattle.sha2.proofs.Facts256.{length-sha256}
use Rattle.stun_base.specs.MessageType.{class_of, type_number, class_in}
use Rattle.stun_base.specs.MessageType.{is_response, is_success, is_error}
use Rattle.stun_base.specs.declared.wire.message_type.MessageClass.{MessageClass}
use Rattle.stun_base.specs.declared.wire.message_type.MessageClass.TheVariants as Class
use Rattle.stun_base.specs.Attributes.{ERROR_CODE}
use Rattle.stun_types.specs.ErrorCode.{CodeAndReason, IsError, error_of}
use Rattle.stun_types.specs.Grammar.{spelled_message}
use Rattle.stun_judging.specs.Additions.{Page, added_all, page_of}
use Rattle.stun_judging.specs.declared.algorithm_set.AlgorithmSet.{AlgorithmSet}
use Rattle.stun_judging.specs.declared.algorithm_set.AlgorithmSet.TheVariants.{OnlySha1}
use Rattle.stun_judging.specs.declared.algorithm_set.AlgorithmSet.TheVariants.{OnlySha256, Both}
use Rattle.stun_judging.specs.declared.feature.Feature.{Feature}
use Rattle.stun_judging.specs.Algorithms.{is_sha256, algorithms_of}
use Rattle.stun_auth.specs.Client.{Challenge, ClientState, initial}
use Rattle.stun_judging.specs.Naming.{Naming, naming_of}
use Rattle.stun_auth.specs.ClientSigning.{client_additions, kept_challenge}
use Rattle.stun_judging.specs.Reading.{STALE_NONCE, UNAUTHORIZED, is_code}
use Rattle.stun_judging.specs.Nonces.{nonce_of}
use Rattle.stun_judging.specs.Reading.{error_code, last, reading_of}
use Rattle.stun_judging.specs.Registered.{key_at}
use Rattle.stun_judging.specs.Verdict.{ClientSeen}
use Rattle.stun_auth.specs.Seen.{PlaceSeen}
use Rattle.stun_auth.specs.Server.{Sight}
use Rattle.stun_auth.specs.ServerSigning.{server_signed}
use Rattle.stun_judging.specs.Signed.{Added, IsBuilt, IsSmall, IsText, IsUnsigned, ReadsAs}
use Rattle.stun_auth.specs.Signed.{added_at, added_by_client, added_by_server, added_for}
use Rattle.stun_auth.specs.Signed.{added_if_kept, added_under, added_under_key}
use Rattle.stun_auth.specs.Signed.{added_without_client}
use Rattle.stun_judging.specs.Signed.{additions_of, error_attribute}
use Rattle.stun_judging.specs.Signed.{is_listed, nothing, only_if, plain_name, hashed_name}
use Rattle.stun_proto.specs.Negotiation.{client_request, error, failure, request, server_response}
use Rattle.stun_proto.specs.Negotiation.{success}
use Rattle.stun_proto.specs.Renewal.{IsAsked, IsTold}
use Rattle.stun_proto.specs.Contact.{IsChallenged, IsGranted}
use Rattle.stun_proto.specs.Session.{IsAnswered}
use Rattle.stun_proto.proofs.meetings.Signed.{IsBare, IsFailure, IsRequest, IsResponse, IsSuccess}
use Rattle.stun_proto.proofs.meetings.Signed.{SignedIsRead, SigningSucceeds}
use Rattle.stun_proto.proofs.meetings.Ascii.{from_small}

-- the laws on signing
pub record SigningLaws : Type 0 where
  pub read : (a : Added) (message : List ℕ) (room : ℕ) (page : Page) → IsUnsigned message → IsText a
      → added_all (additions_of a) (record { bytes = message; room = room }) ≡ Ok page
      → ReadsAs (class_in message) (error_code message) a (reading_of page.bytes)
  pub bare : (message_type transaction_id : ℕ) → message_type < 2 ^ 14
      → IsBuilt (spelled_message message_type transaction_id []) (class_of message_type) None
  pub failure : (message_type transaction_id : ℕ) (error : CodeAndReason) → message_type < 2 ^ 14
      → IsError error
      → IsBuilt (spelled_message message_type transaction_id (error_attribute error ∷ []))
      (class_of message_type) (if is_error (class_of message_type) then Some error.code else None)
  pub client : (request : Bool) (state : ClientState)
      → client_additions request state ≡ additions_of (added_by_client request state)
  pub server : (s : Sight) (response : Bool) (page : Page) (a : Added) → added_by_server s response
      ≡ Some a → server_signed s response page ≡ added_all (additions_of a) page
  pub there : (s : Sight) (response : Bool) (page : Page) → IsOk (server_signed s response page)
      → IsSome (added_by_server s response)

-- the laws on room
pub record RoomLaws : Type 0 where
  pub client : (request : Bool) (state : ClientState) (class : MessageClass) (error : Option ℕ)
      (message : List ℕ) (room : ℕ) → IsBuilt message class error
      → IsSmall (added_by_client request state) → 2148 ≤ room
      → IsOk (added_all (client_additions request state) (record { bytes = message; room = room }))
  pub server : (s : Sight) (response : Bool) (a : Added) (class : MessageClass) (error : Option ℕ)
      (message : List ℕ) (room : ℕ) → IsBuilt message class error
      → added_by_server s response ≡ Some a → IsSmall a → 2148 ≤ room
      → IsOk (server_signed s response (record { bytes = message; room = room }))
  pub short : (set : AlgorithmSet) (feature : Feature) (words : List ℕ)
      → length (nonce_of set feature words) ≤ 13 + length words

-- ---- a text of ASCII
module _ (laws : SigningLaws) where
  -- what is read of a built message that was signed
  reads_as : (message : List ℕ) (class : MessageClass) (code : Option ℕ) (a : Added) (page : Page)
      → IsBuilt message class code → IsText a
      → added_all (additions_of a) (page_of message) ≡ Ok page
      → ReadsAs class code a (reading_of page.bytes)
  reads_as message class code a page built texts is =
      subst (λ k. ReadsAs k code a (reading_of page.bytes)) built.class_is
      (subst (λ e. ReadsAs (class_in message) e a (reading_of page.bytes)) built.error_is
      (laws.read a message _ page built.unsigned texts is))

  request_built : (id : ℕ) → IsBuilt (request id) Class.Request None
  unfolding request
  request_built id = laws.bare (type_number Class.Request 1) id (omega arith)

  success_built : (id : ℕ) → IsBuilt (success id) Class.Success None
  unfolding success
  success_built id = laws.bare (type_number Class.Success 1) id (omega arith)

  failure_built : (code id : ℕ) → IsError (error code)
      → IsBuilt (failure code id) Class.Error (Some code)
  unfolding failure
  failure_built code id is =
      laws.failure (type_number Class.Error 1) id (error code) (omega arith) is

  -- ---- requests
  asked_by : (state : ClientState) (kept : Option Challenge) (message page : Page)
      → kept_challenge state ≡ kept
      → added_all (client_additions true state) message ≡ Ok page
      → added_all (additions_of (added_if_kept true kept)) message ≡ Ok page
  asked_by state kept message page is signed =
      sym (ap (λ l. added_all l message)
      (laws.client true state ∙ ap (λ k. additions_of (added_if_kept true k)) is)) ∙ signed

  bare_read : (id : ℕ) (page : Page) → client_request id initial ≡ Ok page
      → IsBare (reading_of page.bytes)
  unfolding client_request
  bare_read id page signed =
      let r = reads_as (request id) Class.Request None nothing page (request_built id)
      (record { nonce = tt; realm = tt; username = tt; userhash = tt })
      (asked_by initial None (page_of (request id)) page refl signed) in
      record { response = ap is_response r.class_is; protected = r.integrity_is }

  -- what is added under a challenge, by the naming
  abbrev by_naming : Challenge → Naming → Added
  by_naming c n = record (added_under true c) { username = plain_name n; userhash = hashed_name n }

  texts_under : (c : Challenge) (hashes : Bool) (name realm : List ℕ) → IsUtf8 c.realm
      → IsUtf8 c.nonce → IsUtf8 name
      → IsText (by_naming c (naming_of hashes name realm))
  texts_under c true name realm realm_text nonce_text name_text =
      record { nonce = nonce_text; realm = realm_text; username = tt; userhash = length-sha256 _ }
  texts_under c false name realm realm_text nonce_text name_text =
      record { nonce = nonce_text; realm = realm_text; username = name_text; userhash = tt }

  listed_there : (set : AlgorithmSet) → is_listed (algorithms_of set) ≡ true
  listed_there OnlySha1 = refl
  listed_there OnlySha256 = refl
  listed_there Both = refl

  either : (b : Bool) → (b || true) ≡ true
  either true = refl
  either false = refl

  any_request_read : (state : ClientState) (c : Challenge) (set : AlgorithmSet) (hashes : Bool)
      (name realm : List ℕ) (page : Page)
      → kept_challenge state ≡ Some c → c.algorithms ≡ algorithms_of set
      → c.naming ≡ naming_of hashes name realm
      → IsUtf8 c.realm → IsUtf8 c.nonce → IsUtf8 name → IsAsked state page
      → IsRequest c (reading_of page.bytes)
  any_request_read state c set hashes name realm page kept listed_is naming_is realm_text nonce_text
      name_text is =
      let message = is.message in
      let added = by_naming c (naming_of hashes name realm) in
      let done = sym (ap (λ n. added_all (additions_of (by_naming c n)) message) naming_is)
      ∙ asked_by state (Some c) message page kept is.signed in
      let r = laws.read added message.bytes message.room page is.unsigned
      (texts_under c hashes name realm realm_text nonce_text name_text) done in
      let there = ap is_listed listed_is ∙ listed_there set in
      record {
        response = ap is_response (r.class_is ∙ is.class_is);
        protected = r.integrity_is;
        realm = r.realm_is;
        nonce = r.nonce_is;
        username = r.username_is ∙ ap plain_name (sym naming_is);
        userhash = r.userhash_is ∙ ap hashed_name (sym naming_is);
        algorithms = r.algorithms_are ∙ ap (λ b. only_if b c.algorithms) there;
        algorithm = r.algorithm_is
            ∙ ap (λ b. only_if (is_sha256 c.algorithm || b) c.algorithm) there
            ∙ ap (λ b. only_if b c.algorithm) (either (is_sha256 c.algorithm));
        digest = r.digest_verifies (record { algorithm = c.algorithm; key = c.key }) refl;
      }

  request_read : (id : ℕ) (state : ClientState) (c : Challenge) (set : AlgorithmSet) (hashes : Bool)
      (name realm : List ℕ) (page : Page)
      → kept_challenge state ≡ Some c → c.algorithms ≡ algorithms_of set
      → c.naming ≡ naming_of hashes name realm
      → IsUtf8 c.realm → IsUtf8 c.nonce → IsUtf8 name → client_request id state ≡ Ok page
      → IsRequest c (reading_of page.bytes)
  unfolding client_request
  request_read id state c set hashes name realm page kept listed_is naming_is realm_text nonce_text
      name_text signed =
      any_request_read state c set hashes name realm page kept listed_is naming_is realm_text
      nonce_text name_text
      (record {
        message = page_of (request id);
        unsigned = (request_built id).unsigned;
        class_is = (request_built id).class_is;
        signed = signed;
      })

  -- ---- responses
  responded_by : (message : List ℕ) (s : Sight) (a : Added) (page : Page)
      → added_by_server s true ≡ Some a → server_response message s ≡ Ok page
      → added_all (additions_of a) (page_of message) ≡ Ok page
  unfolding server_response
  responded_by message s a page is signed = sym (laws.server s true (page_of message) a is) ∙ signed

  -- to an address without a client
  offered : (s : Sight) (p : PlaceSeen) → s.place ≡ Some p → p.client ≡ None
      → added_by_server s true ≡ Some (added_without_client true s.registered p.nonce)
  offered s p place client = ap (added_at true s.registered) place
      ∙ ap (added_for true s.registered p.nonce) client

  -- to a client
  known : (s : Sight) (p : PlaceSeen) (c : ClientSeen) (key : List ℕ) → s.place ≡ Some p
      → p.client ≡ Some c → key_at s.registered c.name c.algorithm ≡ Some key
      → added_by_server s true ≡ Some (added_under_key true s.registered p.nonce c.algorithm key)
  known s p c key place client found =
      ap (added_at true s.registered) place ∙ ap (added_for true s.registered p.nonce) client
      ∙ ap (option_map (added_under_key true s.registered p.nonce c.algorithm)) found

  unauthorized_is : IsError (error UNAUTHORIZED)
  unauthorized_is =
      record {
        from_300 = omega arith;
        below_700 = omega arith;
        text = IsUtf8-from_ascii (codes "Unauthorized") (from_small (codes "Unauthorized") refl);
        short = omega arith;
      }

  challenge_read : (id : ℕ) (s : Sight) (p : PlaceSeen) (page : Page) → s.place ≡ Some p
      → p.client ≡ None → IsUtf8 s.registered.realm → IsUtf8 p.nonce
      → server_response (failure UNAUTHORIZED id) s ≡ Ok page
      → IsFailure UNAUTHORIZED s.registered.realm p.nonce (reading_of page.bytes)
      × ((reading_of page.bytes).algorithms ≡ Some (algorithms_of s.registered.algorithms))
  challenge_read id s p page place client realm_text nonce_text signed =
      let message = failure UNAUTHORIZED id in
      let added = added_without_client true s.registered p.nonce in
      let done = responded_by message s added page (offered s p place client) signed in
      let r = reads_as message Class.Error (Some UNAUTHORIZED) added page
      (failure_built UNAUTHORIZED id unauthorized_is)
      (record { nonce = nonce_text; realm = realm_text; username = tt; userhash = tt }) done in
      (record { error = r.error_is; realm = r.realm_is; nonce = r.nonce_is }, r.algorithms_are)

  -- an error of code 438, with or without a client
  module _ (s : Sight) (p : PlaceSeen) (page : Page) (place : s.place ≡ Some p)
      (realm_text : IsUtf8 s.registered.realm) (nonce_text : IsUtf8 p.nonce)
      (told : IsTold s page) where
    abbrev error_told : Page
    error_told = told.message

    reads_failure : (a : Added) → a.realm ≡ Some s.registered.realm → a.nonce ≡ Some p.nonce
        → IsText a
        → added_all (additions_of a) error_told ≡ Ok page
        → IsFailure STALE_NONCE s.registered.realm p.nonce (reading_of page.bytes)
    reads_failure a realm nonce texts done =
        let r = laws.read a error_told.bytes error_told.room page told.unsigned texts done in
        record {
          error = r.error_is ∙ told.code_is;
          realm = r.realm_is ∙ realm;
          nonce = r.nonce_is ∙ nonce;
        }

    added_so : (a : Added) → added_by_server s true ≡ Some a
        → added_all (additions_of a) error_told ≡ Ok page
    added_so a is = sym (laws.server s true error_told a is) ∙ told.signed

    -- without the client's key nothing is signed
    keyless : (c : ClientSeen) → p.client ≡ Some c → key_at s.registered c.name c.algorithm ≡ None
        → IsFailure STALE_NONCE s.registered.realm p.nonce (reading_of page.bytes)
    keyless c client gone =
        let none : added_by_server s true ≡ None = ap (added_at true s.registered) place
        ∙ ap (added_for true s.registered p.nonce) client
        ∙ ap (option_map (added_under_key true s.registered p.nonce c.algorithm)) gone in
        impossible
        (subst IsSome none (laws.there s true error_told (subst IsOk (sym told.signed) refl)))
      where
        impossible : IsSome {T = Added} None
            → IsFailure STALE_NONCE s.registered.realm p.nonce (reading_of page.bytes)
        impossible h = cc

    by_key : (c : ClientSeen) → p.client ≡ Some c → (o : Option (List ℕ))
        → key_at s.registered c.name c.algorithm ≡ o
        → IsFailure STALE_NONCE s.registered.realm p.nonce (reading_of page.bytes)
    by_key c client None gone = keyless c client gone
    by_key c client (Some key) found =
        let done =
        added_so (added_under_key true s.registered p.nonce c.algorithm key)
        (known s p c key place client found) in
        reads_failure (added_under_key true s.registered p.nonce c.algorithm key) refl refl
        (record { nonce = nonce_text; realm = realm_text; username = tt; userhash = tt }) done

    by_client : (o : Option ClientSeen) → p.client ≡ o
        → IsFailure STALE_NONCE s.registered.realm p.nonce (reading_of page.bytes)
    by_client None client =
        let done =
        added_so (added_without_client true s.registered p.nonce) (offered s p place client) in
        reads_failure (added_without_client true s.registered p.nonce) refl refl
        (record { nonce = nonce_text; realm = realm_text; username = tt; userhash = tt }) done
    by_client (Some c) client = by_key c client (key_at s.registered c.name c.algorithm) refl

    stale_read : IsFailure STALE_NONCE s.registered.realm p.nonce (reading_of page.bytes)
    stale_read = by_client p.client refl

  success_read : (id : ℕ) (s : Sight) (p : PlaceSeen) (c : ClientSeen) (key : List ℕ) (page : Page)
      → s.place ≡ Some p → p.client ≡ Some c
      → key_at s.registered c.name c.algorithm ≡ Some key → IsUtf8 s.registered.realm
      → IsUtf8 p.nonce
      → server_response (success id) s ≡ Ok page → IsSuccess c.algorithm key (reading_of page.bytes)
  success_read id s p c key page place client found realm_text nonce_text signed =
      let added = added_under_key true s.registered p.nonce c.algorithm key in
      let done =
      responded_by (success id) s added page (known s p c key place client found) signed in
      let r = reads_as (success id) Class.Success None added page (success_built id)
      (record { nonce = nonce_text; realm = realm_text; username = tt; userhash = tt }) done in
      record {
        error = r.error_is;
        success = ap is_success r.class_is;
        digest = r.digest_verifies (record { algorithm = c.algorithm; key = key }) refl;
      }

  any_bare_read : (page : Page) → IsAsked initial page → IsBare (reading_of page.bytes)
  any_bare_read page is =
      let r = laws.read nothing is.message.bytes is.message.room page is.unsigned
      (record { nonce = tt; realm = tt; username = tt; userhash = tt })
      (asked_by initial None is.message page refl is.signed) in
      record {
        response = ap is_response (r.class_is ∙ is.class_is);
        protected = r.integrity_is;
      }

  any_challenge_read : (s : Sight) (p : PlaceSeen) (page : Page) → s.place ≡ Some p
      → p.client ≡ None → IsUtf8 s.registered.realm → IsUtf8 p.nonce → IsChallenged s page
      → IsFailure UNAUTHORIZED s.registered.realm p.nonce (reading_of page.bytes)
      × ((reading_of page.bytes).algorithms ≡ Some (algorithms_of s.registered.algorithms))
  any_challenge_read s p page place client realm_text nonce_text is =
      let added = added_without_client true s.registered p.nonce in
      let done =
      sym (laws.server s true is.message added (offered s p place client)) ∙ is.signed in
      let r = laws.read added is.message.bytes is.message.room page is.unsigned
      (record { nonce = nonce_text; realm = realm_text; username = tt; userhash = tt }) done in (
        record { error = r.error_is ∙ is.code_is; realm = r.realm_is; nonce = r.nonce_is },
        r.algorithms_are,
      )

  any_success_read : (s : Sight) (p : PlaceSeen) (c : ClientSeen) (key : List ℕ) (page : Page)
      → s.place ≡ Some p → p.client ≡ Some c
      → key_at s.registered c.name c.algorithm ≡ Some key → IsUtf8 s.registered.realm
      → IsUtf8 p.nonce
      → IsGranted s page → IsSuccess c.algorithm key (reading_of page.bytes)
  any_success_read s p c key page place client found realm_text nonce_text is =
      let added = added_under_key true s.registered p.nonce c.algorithm key in
      let done =
      sym (laws.server s true is.message added (known s p c key place client found)) ∙ is.signed in
      let r = laws.read added is.message.bytes is.message.room page is.unsigned
      (record { nonce = nonce_text; realm = realm_text; username = tt; userhash = tt }) done in
      record {
        error = r.error_is
            ∙ ap (λ k. if is_error k
            then option_map (λ (e : CodeAndReason). e.code) (last error_of ERROR_CODE is.message.bytes)
            else None) is.class_is;
        success = ap is_success (r.class_is ∙ is.class_is);
        digest = r.digest_verifies (record { algorithm = c.algorithm; key = key }) refl;
      }

  answered_read : (s : Sight) (p : PlaceSeen) (c : ClientSeen) (key : List ℕ) (page : Page)
      → s.place ≡ Some p → p.client ≡ Some c
      → key_at s.registered c.name c.algorithm ≡ Some key → IsUtf8 s.registered.realm
      → IsUtf8 p.nonce
      → IsAnswered s page → IsResponse c.algorithm key (reading_of page.bytes)
  answered_read s p c key page place client found realm_text nonce_text is =
      let added = added_under_key true s.registered p.nonce c.algorithm key in
      let done =
      sym (laws.server s true is.message added (known s p c key place client found)) ∙ is.signed in
      let r = laws.read added is.message.bytes is.message.room page is.unsigned
      (record { nonce = nonce_text; realm = realm_text; username = tt; userhash = tt }) done in
      record {
        not_stale = ap (is_code STALE_NONCE) r.error_is ∙ is.not_stale;
        digest = r.digest_verifies (record { algorithm = c.algorithm; key = key }) refl;
      }

  pub signed_is_read : SignedIsRead
  signed_is_read =
      record {
        bare = bare_read;
        request = request_read;
        any_request = any_request_read;
        challenge = challenge_read;
        stale = stale_read;
        success = success_read;
        answered = answered_read;
        any_bare = any_bare_read;
        any_challenge = any_challenge_read;
        any_success = any_success_read;
      }

  -- ---- nothing is refused in a vector
  enough : (message : List ℕ) → length message ≤ 792 → 2148 ≤ 65552 - length message
  enough message short = omega arith

  module _ (room : RoomLaws) where
    request_signed : (id : ℕ) (state : ClientState) → IsSmall (added_by_client true state)
        → IsOk (client_request id state)
    unfolding client_request
    request_signed id state small =
        room.client true state Class.Request None (request id) _ (request_built id) small
        (enough (request id) (request_built id).short)

    response_signed : (message : List ℕ) (class : MessageClass) (code : Option ℕ) (s : Sight)
        (a : Added) → IsBuilt message class code → added_by_server s true ≡ Some a → IsSmall a
        → IsOk (server_response message s)
    unfolding server_response
    response_signed message class code s a built is small =
        room.server s true a class code message _ built is small (enough message built.short)

    pub signing_succeeds : SigningSucceeds
    signing_succeeds = record {
      request = request_signed;
      challenge =
          λ id s a. response_signed (failure UNAUTHORIZED id) Class.Error (Some UNAUTHORIZED) s a
          (failure_built UNAUTHORIZED id unauthorized_is);
      success = λ id s a. response_signed (success id) Class.Success None s a (success_built id);
      short = room.short;
    }
