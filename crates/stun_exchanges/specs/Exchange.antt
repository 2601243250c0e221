-- What a client and a server of this library read in each other's messages (RFC 8489, sections
-- 9.2.3 to 9.2.5).
use Rattle.std.specs.Prelude.{◌≡◌, ◌≤◌, ◌<◌, ◌^◌, ◌⊎◌, ℕ, suc, List, [], Bool, true, false, length}
use Rattle.std.specs.Prelude.{IsUtf8, unwrap_or, Option, None, Some}
use Rattle.std.specs.FinMap as fin
use Rattle.std.specs.declared.net.socket_addr.SocketAddr.{SocketAddr}
use Rattle.stun_base.specs.Credentials.{NameAndPassword}
use Rattle.stun_base.specs.Header.{transaction_id_field, type_field}
use Rattle.stun_base.specs.Keys.{userhash_of}
use Rattle.stun_base.specs.MessageType.{class_in, method_of}
use Rattle.stun_base.specs.declared.keys.algorithm.IntegrityAlgorithm.{IntegrityAlgorithm}
use Rattle.stun_base.specs.declared.wire.message_type.MessageClass.{MessageClass}
use Rattle.stun_base.specs.declared.wire.message_type.MessageClass.TheVariants.{Request, Success}
use Rattle.stun_types.specs.Limits.{TEXT_LIMIT}
use Rattle.stun_types.specs.Message.{refusal}
use Rattle.stun_types.specs.Writing.{IsOpen}
use Rattle.stun_judging.specs.Reading.{reading_of}
use Rattle.stun_judging.specs.Registered.{Registered, name_with_hash, of_password}
use Rattle.stun_judging.specs.Verdict.{ClientSeen}
use Rattle.stun_judging.specs.Signed.{ReadsAs}
use Rattle.stun_exchanges.specs.Agreement.{AgreeOn, IsSignedAnswer, meant_by, offered_by}
use Rattle.stun_client.specs.Answers.{is_answer}
use Rattle.stun_client.specs.Challenge.{Challenge, added_under}
use Rattle.stun_client.specs.Challenges.{Answered, by_rule, challenge_of, is_one}
use Rattle.stun_client.specs.Challenging.{code_in, is_challenge}
use Rattle.stun_client.specs.Judging.{Verdict, anew, fault_in, judged, long_term, sent_for}
use Rattle.stun_client.specs.Standing.{StandingSeen, is_ignored}
use Rattle.stun_client.specs.declared.preferences.Preferences.{Preferences}
use Rattle.stun_endpoint.specs.Answers.{Ending, Signature, is_fingerprinted, with_end}
use Rattle.stun_endpoint.specs.Judged.{Realm, key_of_client, realm_of_user}
use Rattle.stun_endpoint.specs.Nonces.{current_nonce, epoch_of, nonce_in}
use Rattle.stun_endpoint.specs.Received.{challenge_answer, outcome_of_accepted, received_for}
use Rattle.stun_endpoint.specs.Received.{responding_of}
use Rattle.stun_endpoint.specs.Refusals.{code_of}
use Rattle.stun_endpoint.specs.Responding.{binding_by, drop_reason}
use Rattle.stun_endpoint.specs.Settings.{Settings}
use Rattle.stun_endpoint.specs.declared.received.Refusal.{Refusal}
use Rattle.stun_endpoint.specs.declared.received.Refusal.TheVariants.{BadRequest, StaleNonce}
use Rattle.stun_endpoint.specs.declared.received.Refusal.TheVariants.{Unauthenticated}
use Rattle.stun_endpoint.specs.declared.received.Refusal.TheVariants.{UnknownAttribute}

-- ---- the two sides

-- what holds for the settings of each server that is built: realm and SOFTWARE fit into their
-- attributes, and the realm is text
pub record IsServer (s : Settings) : Type 0 where
  pub realm_fits : length s.realm ≤ TEXT_LIMIT
  pub realm_text : IsUtf8 s.realm
  pub software_fits : length (unwrap_or s.software []) ≤ TEXT_LIMIT

-- what a server judges by if it is passed these users
abbrev pub realm_knowing : Settings → Registered → Realm
realm_knowing s users = realm_of_user s (Some users)

-- a user is registered with this password in a table of the server's realm, which may be made for
-- any algorithms. The user is found by the hash of the name: no earlier user, in the order of
-- names, has the same hash
pub record IsRegisteredUser (s : Settings) (users : Registered)
    (who : NameAndPassword) : Type 0 where
  pub realm : users.realm ≡ s.realm
  pub registered : fin.get users.secrets who.username ≡ Some (of_password who.password)
  pub hashed : name_with_hash users (userhash_of who.username s.realm) ≡ Some who.username

-- the challenge that a server means with a nonce, to a client that uses an algorithm, as the client
-- stores it
abbrev pub meant_for : Settings → Preferences → NameAndPassword → List ℕ → IntegrityAlgorithm
    → Answered
meant_for s p who nonce a =
    record { preferences = p; challenge = meant_by p who s.realm s.algorithms nonce a }

-- ---- a response, and the request that it answers

-- a response answers a request, at a client that requires FINGERPRINT or does not: it is a message
-- with the request's method and ID that is not dropped because of its FINGERPRINT
pub record IsResponseTo (required : Bool) (request response : List ℕ) : Type 0 where
  pub message : refusal response ≡ None
  pub whole : fault_in required response ≡ None
  pub id : transaction_id_field response ≡ transaction_id_field request
  pub answers : is_answer (method_of (type_field request)) response ≡ true

-- a client that requires FINGERPRINT sends one itself
abbrev pub SendsRequired : Bool → List ℕ → Type 0
SendsRequired required request = required ≡ true → is_fingerprinted request ≡ true

-- ---- challenges

-- the refusals that ask for credentials: 401 and 438
abbrev pub is_asking : Refusal → Bool
is_asking BadRequest = false
is_asking Unauthenticated = true
is_asking UnknownAttribute = false
is_asking StaleNonce = true

-- a client reads in a response the challenge that a server means with this nonce, whatever
-- challenge came before
pub record IsReadAsMeant (s : Settings) (kind : Refusal) (nonce response : List ℕ) : Type 0 where
  pub asks : is_challenge response ≡ true
  pub code : code_in response ≡ Some (code_of kind)
  pub read : (p : Preferences) (who : NameAndPassword) (before : Option Challenge)
      → challenge_of p who before response ≡ by_rule p who s.realm nonce (offered_by s.algorithms)

-- each 401 and each 438 of a server, to any request from any address, under any nonce of its own.
-- The ID of a message has 96 bits
abbrev pub ChallengesAreRead : Type 0
ChallengesAreRead =
    (s : Settings) (kind : Refusal) (secret : List ℕ) (from to : SocketAddr) (epoch : ℕ)
    (required : Bool) (request : List ℕ) → IsServer s → is_asking kind ≡ true
    → transaction_id_field request < 2 ^ 96 → SendsRequired required request
    → let nonce = nonce_in s secret from epoch in
    let response = (challenge_answer s kind nonce to request).bytes in
    IsResponseTo required request response × IsReadAsMeant s kind nonce response

-- the judgement of a challenge for which the request is sent again: a 438 is not a refusal
abbrev pub answered_to : Refusal → Option Answered → List ℕ → Answered → Verdict
answered_to BadRequest before response c = sent_for before response c
answered_to Unauthenticated before response c = sent_for before response c
answered_to UnknownAttribute before response c = sent_for before response c
answered_to StaleNonce before response c = anew c

-- after each of them the request is sent again, signed for it, if client and server agree on an
-- algorithm. It is not the challenge that the request was signed for, and not weaker than what a
-- success has confirmed
abbrev pub ChallengesAreAnswered : Type 0
ChallengesAreAnswered =
    (s : Settings) (kind : Refusal) (secret : List ℕ) (from to : SocketAddr) (epoch : ℕ)
    (request : List ℕ) (required : Bool) (standing : StandingSeen) (signed_for : Option Answered)
    (who : NameAndPassword) (p : Preferences) (accepts_unsigned : Bool) (a : IntegrityAlgorithm)
    → IsServer s → is_asking kind ≡ true → transaction_id_field request < 2 ^ 96
    → SendsRequired required request → AgreeOn p s.algorithms s.feature a
    → let nonce = nonce_in s secret from epoch in
    let response = (challenge_answer s kind nonce to request).bytes in
    let meant = meant_for s p who nonce a in
    is_one (Some meant) signed_for ≡ false → is_ignored standing meant ≡ false
    → judged required true (long_term who p accepts_unsigned) standing signed_for response
    ≡ answered_to kind signed_for response meant

-- ---- a signed request at the server

-- a nonce that was made at a time is accepted at another one: in its epoch and in the next
abbrev pub IsWithinPeriod : Settings → ℕ → ℕ → Type 0
IsWithinPeriod s made now =
    (epoch_of s now ≡ epoch_of s made) ⊎ (epoch_of s now ≡ suc (epoch_of s made))

-- each request that reads as signed for a challenge of the server, by one of its users, is accepted
-- as that user's with the algorithm that both agree on, while the nonce lasts: the server returns
-- it to its caller, or answers it itself
abbrev pub SignedAreAccepted : Type 0
SignedAreAccepted =
    (s : Settings) (users : Registered) (who : NameAndPassword) (p : Preferences)
    (a : IntegrityAlgorithm) (from : SocketAddr) (made now : ℕ) (bytes : List ℕ)
    (class : MessageClass) (error : Option ℕ) → AgreeOn p s.algorithms s.feature a
    → IsRegisteredUser s users who → IsWithinPeriod s made now
    → drop_reason s.requires_fingerprint bytes ≡ None → class_in bytes ≡ Request
    → ReadsAs class error
    (added_under true (meant_by p who s.realm s.algorithms (current_nonce s from made) a))
    (reading_of bytes)
    → let client : ClientSeen = record { name = who.username; algorithm = a } in
    received_for s (Some users) from now bytes
    ≡ outcome_of_accepted s (key_of_client (realm_knowing s users) client) from bytes client

-- ---- the signed answer at the client

-- a response before its end: an open message, of the request's method and ID, that asks for no
-- credentials, with room for its end
pub record IsPage (request page : List ℕ) : Type 0 where
  pub is_open : IsOpen page
  pub id : transaction_id_field page ≡ transaction_id_field request
  pub answers : is_answer (method_of (type_field request)) page ≡ true
  pub final : is_challenge page ≡ false
  pub short : length page ≤ 60000

-- each such response answers the request, and is signed, once SOFTWARE, the digest under a key and
-- FINGERPRINT have ended it
abbrev pub AnswersAreSigned : Type 0
AnswersAreSigned =
    (s : Settings) (by : Signature) (required : Bool) (request page : List ℕ) → IsServer s
    → IsPage request page → SendsRequired required request
    → let ending : Ending = record {
      software = s.software;
      signature = Some by;
      has_fingerprint = is_fingerprinted request;
    } in
    let response = with_end ending page in
    IsResponseTo required request response × IsSignedAnswer required response by.key by.algorithm

-- a success is such a response: an open message of that class, with the request's method and ID
abbrev pub SuccessesArePages : Type 0
SuccessesArePages =
    (request page : List ℕ) → IsOpen page → class_in page ≡ Success
    → method_of (type_field page) ≡ method_of (type_field request)
    → transaction_id_field page ≡ transaction_id_field request → length page ≤ 60000
    → IsPage request page

-- so the answer that a server writes to a Binding request answers it, and is signed
abbrev pub BindingAnswersAreSigned : Type 0
BindingAnswersAreSigned =
    (s : Settings) (by : Signature) (required : Bool) (from : SocketAddr) (request : List ℕ)
    → IsServer s → transaction_id_field request < 2 ^ 96 → SendsRequired required request
    → let response = (binding_by (responding_of s) (Some by) from request).bytes in
    IsResponseTo required request response × IsSignedAnswer required response by.key by.algorithm
