-- A client that is new to a server: its first request, the challenge, the request with credentials
-- and its success, of any method and with any attributes of their own (RFC 8489, sections 9.2.3 to
-- 9.2.5). The Binding messages without attributes that `negotiate` exchanges are one instance.
use Rattle.std.specs.Prelude.{◌≡◌, ◌≤◌, ℕ, List, true, Option, Some, None}
use Rattle.std.specs.FinMap as map
use Rattle.std.specs.declared.net.socket_addr.SocketAddr.{SocketAddr}
use Rattle.std.specs.declared.result.Result.TheVariants.{Ok, Err}
use Rattle.stun_base.specs.Credentials.{NameAndPassword}
use Rattle.stun_base.specs.MessageType.{class_in}
use Rattle.stun_base.specs.Moments.{moment_after}
use Rattle.stun_base.specs.declared.keys.algorithm.IntegrityAlgorithm.{IntegrityAlgorithm}
use Rattle.stun_base.specs.declared.wire.message_type.MessageClass.TheVariants.{Success}
use Rattle.stun_auth.specs.declared.client.answer.LongTermClientAuthErrorReason.TheVariants.{
  UnsupportedFeature,
}
use Rattle.stun_auth.specs.declared.client.answer.LongTermClientValidation.TheVariants as Read
use Rattle.stun_auth.specs.declared.server.reason.LongTermServerAuthErrorReason.TheVariants.{
  Unauthorized,
}
use Rattle.stun_auth.specs.declared.server.reason.LongTermServerValidation.TheVariants.{Validated}
use Rattle.stun_judging.specs.Additions.{Page}
use Rattle.stun_judging.specs.Algorithms.{algorithms_of}
use Rattle.stun_auth.specs.Client.{Challenge, ClientSettings, authenticated, authenticating}
use Rattle.stun_auth.specs.Client.{initial}
use Rattle.stun_auth.specs.ClientStep.{ClientStep, client_step}
use Rattle.stun_judging.specs.Reading.{UNAUTHORIZED, error_code, reading_of}
use Rattle.stun_auth.specs.Seen.{PlaceSeen}
use Rattle.stun_auth.specs.Server.{Sight}
use Rattle.stun_auth.specs.ServerSigning.{after_signing, server_signed}
use Rattle.stun_judging.specs.Signed.{IsUnsigned}
use Rattle.stun_auth.specs.Validation.{ServerSeen, after_validation, answer, sight}
use Rattle.stun_proto.specs.Best.{best}
use Rattle.stun_proto.specs.Honest.{HaveOwnHashes}
use Rattle.stun_proto.specs.Matching.{AreJoined, AreOfOthers, AreTexts, IsRegistered}
use Rattle.stun_proto.specs.Renewal.{Arrival, IsAsked, LeaveNonce}
use Rattle.stun_proto.specs.Session.{IsStillKnown}
use Rattle.stun_proto.specs.Serving.{after_calls}
use Rattle.stun_proto.specs.declared.replay.call.ServerCall.{ServerCall}

-- the client's settings and its address; when its two requests arrive, and the server's calls
-- before the challenge is signed, before the second request arrives, and before its success is
-- signed
pub record Contact : Type 0 where
  pub settings : ClientSettings
  pub from : SocketAddr
  pub first : Arrival
  pub before_challenge : List ServerCall
  pub before_second : List ServerCall
  pub second : Arrival
  pub before_success : List ServerCall

-- ---- the two sides, call by call

abbrev pub after_first : Contact → ServerSeen → Page → ServerSeen
after_first m server asking =
    after_validation server m.from m.first.now m.first.words (reading_of asking.bytes)

abbrev pub at_challenge : Contact → ServerSeen → Page → ServerSeen
at_challenge m server asking = after_calls (after_first m server asking) m.before_challenge

abbrev pub at_second : Contact → ServerSeen → Page → ServerSeen
at_second m server asking =
    after_calls (after_signing (at_challenge m server asking) m.from true) m.before_second

abbrev pub after_second : Contact → ServerSeen → Page → Page → ServerSeen
after_second m server asking again =
    after_validation (at_second m server asking) m.from m.second.now m.second.words
    (reading_of again.bytes)

abbrev pub at_success : Contact → ServerSeen → Page → Page → ServerSeen
at_success m server asking again =
    after_calls (after_second m server asking again) m.before_success

-- what the client does with the challenge
abbrev pub challenged : Contact → Page → ClientStep
challenged m challenging = client_step m.settings initial (reading_of challenging.bytes)

-- ---- messages of any method, with any attributes except those that signing adds

-- an error of code 401 that the server signs
pub record IsChallenged (s : Sight) (challenging : Page) : Type 0 where
  pub message : Page
  pub unsigned : IsUnsigned message.bytes
  pub code_is : error_code message.bytes ≡ Some UNAUTHORIZED
  pub signed : server_signed s true message ≡ Ok challenging

-- a success that the server signs
pub record IsGranted (s : Sight) (granting : Page) : Type 0 where
  pub message : Page
  pub unsigned : IsUnsigned message.bytes
  pub class_is : class_in message.bytes ≡ Success
  pub signed : server_signed s true message ≡ Ok granting

-- ---- who meets

-- the end of the nonce that the first request gets
abbrev pub nonce_end : Contact → ServerSeen → ℕ
nonce_end m server = moment_after m.first.now server.expiry

-- the client has a registered user's credentials and is new to the server: its address has no
-- record. Up to its challenge the calls in between are those of other addresses; after it they
-- leave users, settings and the nonce unchanged. The second request arrives while the nonce is
-- current
pub record IsNewClient (m : Contact) (who : NameAndPassword) (server : ServerSeen) : Type 0 where
  pub credentials : m.settings.credentials ≡ Some who
  pub registered : IsRegistered server.registered who
  pub hashes : HaveOwnHashes server.registered
  pub new_address : map.get server.places m.from ≡ None
  pub others_before_challenge : AreOfOthers m.from m.before_challenge
  pub calls_before_second : LeaveNonce m.from (nonce_end m server) true m.before_second
  pub in_time : m.second.now ≤ nonce_end m server
  pub calls_before_success : LeaveNonce m.from (nonce_end m server) true m.before_success

-- the strongest algorithm that both support, if there is one that they can agree on
abbrev pub strongest_of : Contact → ServerSeen → Option IntegrityAlgorithm
strongest_of m server =
    best m.settings.supported (algorithms_of server.registered.algorithms) m.settings.feature
    server.feature

-- ---- how the exchange ends

-- the client gives up and stores nothing
abbrev pub GivesUpAt : Contact → Page → Type 0
GivesUpAt m challenging =
    challenged m challenging ≡ record { answer = Err UnsupportedFeature; state = initial }

-- the request with credentials is accepted with this algorithm, and so is its success; then both
-- know each other
pub record IsMet (m : Contact) (who : NameAndPassword) (server : ServerSeen)
    (asking challenging : Page) (a : IntegrityAlgorithm) : Type 0 where
  pub challenge : Challenge
  pub chosen : challenge.algorithm ≡ a
  -- the client sends its request again
  pub resent : challenged m challenging
      ≡ record { answer = Ok (Read.ResendRequest None); state = authenticating challenge }
  -- the server accepts it
  pub accepted : (again : Page) → IsAsked (authenticating challenge) again
      → answer (sight (at_second m server asking) m.from) m.second.now m.second.words
      (reading_of again.bytes)
      ≡ Ok (Validated a)
  -- the client accepts the success, if it is signed while the server knows the client
  pub granted : (again granting : Page) → IsAsked (authenticating challenge) again
      → IsStillKnown m.from who challenge (at_success m server asking again)
      → IsGranted (sight (at_success m server asking again) m.from) granting
      → client_step m.settings (authenticating challenge) (reading_of granting.bytes)
      ≡ record { answer = Ok (Read.Validated a); state = authenticated challenge }
  pub joined : (again : Page) → IsAsked (authenticating challenge) again
      → IsStillKnown m.from who challenge (at_success m server asking again)
      → (p : PlaceSeen)
      × AreJoined (sight (after_signing (at_success m server asking again) m.from true) m.from) p
      challenge who

-- how it ends, depending on what can be agreed on
abbrev pub ComesToMeet : Contact → NameAndPassword → ServerSeen → Page → Page
    → Option IntegrityAlgorithm → Type 0
ComesToMeet m who server asking challenging None = GivesUpAt m challenging
ComesToMeet m who server asking challenging (Some a) = IsMet m who server asking challenging a

-- ---- the law

-- The first request is answered with a challenge. After it the client either gives up, or sends the
-- request again, which is accepted with the strongest algorithm of both
pub record IsIntroduced (m : Contact) (who : NameAndPassword) (server : ServerSeen) : Type 0 where
  pub first : (asking : Page) → IsAsked initial asking
      → answer (sight server m.from) m.first.now m.first.words (reading_of asking.bytes)
      ≡ Err Unauthorized
  pub then : (asking challenging : Page) → IsAsked initial asking
      → IsChallenged (sight (at_challenge m server asking) m.from) challenging
      → ComesToMeet m who server asking challenging (strongest_of m server)

abbrev pub NewClientsAreIntroduced : Type 0
NewClientsAreIntroduced =
    (m : Contact) (who : NameAndPassword) (server : ServerSeen)
    → AreTexts server.registered.realm who.username → IsNewClient m who server
    → IsIntroduced m who server
