-- A nonce that has expired, and the one that replaces it (RFC 8489, sections 9.2.4 and 9.2.5).
use Rattle.std.specs.Prelude.{◌≡◌, ℕ, ◌<◌, ◌≤◌, nat_le, not, ◌&&◌, List}
use Rattle.std.specs.Prelude.{Bool, true, false, if◌then◌else◌, Some}
use Rattle.std.specs.List.{All}
use Rattle.std.specs.Str.{bytes_eq}
use Rattle.std.specs.declared.net.socket_addr.SocketAddr.{SocketAddr}
use Rattle.std.specs.declared.result.Result.TheVariants.{Ok, Err}
use Rattle.stun_base.specs.Address.{same_address}
use Rattle.stun_base.specs.Credentials.{NameAndPassword}
use Rattle.stun_base.specs.Moments.{last_moment}
use Rattle.stun_base.specs.declared.wire.message_type.MessageClass.TheVariants.{Request}
use Rattle.stun_auth.specs.declared.server.reason.LongTermServerAuthErrorReason.TheVariants.{
  StaleNonce,
}
use Rattle.stun_auth.specs.declared.server.reason.LongTermServerValidation.TheVariants.{Validated}
use Rattle.stun_judging.specs.Additions.{Page, added_all}
use Rattle.stun_auth.specs.Client.{Challenge, ClientSettings, ClientState, authenticated}
use Rattle.stun_auth.specs.ClientSigning.{client_additions}
use Rattle.stun_judging.specs.Reading.{STALE_NONCE, error_code, reading_of}
use Rattle.stun_auth.specs.ClientStep.{client_step}
use Rattle.stun_base.specs.MessageType.{class_in}
use Rattle.stun_auth.specs.Seen.{PlaceSeen}
use Rattle.stun_auth.specs.Server.{Sight, current_place}
use Rattle.stun_auth.specs.ServerSigning.{after_signing, server_signed}
use Rattle.stun_judging.specs.Signed.{IsUnsigned}
use Rattle.stun_auth.specs.Validation.{Answer, ServerSeen, after_validation, answer, sight}
use Rattle.stun_proto.specs.Matching.{AreJoined, AreTexts}
use Rattle.stun_proto.specs.Serving.{after_calls}
use Rattle.stun_proto.specs.declared.replay.call.ServerCall.{ServerCall}
use Rattle.stun_proto.specs.declared.replay.call.ServerCall.TheVariants as Call

-- ---- a request, the error that says its nonce is stale, and a request again

-- the time at which the server reads a request, and the random words of a nonce
pub record Arrival : Type 0 where
  pub now : ℕ
  pub words : List ℕ

-- The client's settings, its address, and whether calls meanwhile may remove it there. Its two
-- requests, and the server's calls before the first, the error and the second
pub record Renewal : Type 0 where
  pub settings : ClientSettings
  pub from : SocketAddr
  pub may_be_removed : Bool
  pub before_first : List ServerCall
  pub first : Arrival
  pub before_error : List ServerCall
  pub before_second : List ServerCall
  pub second : Arrival

-- what the server answers to a request
abbrev pub answer_at : Renewal → Arrival → ServerSeen → Page → Answer
answer_at m arrival server page =
    answer (sight server m.from) arrival.now arrival.words (reading_of page.bytes)

-- the server after a request
abbrev pub after_request : Renewal → Arrival → ServerSeen → Page → ServerSeen
after_request m arrival server page =
    after_validation server m.from arrival.now arrival.words (reading_of page.bytes)

-- the server that reads the first request
abbrev pub at_first : Renewal → ServerSeen → ServerSeen
at_first m server = after_calls server m.before_first

-- the nonce that is current when the server reads the first request, and its end: the one that is
-- kept and has not expired, or else one that is made
abbrev pub current_nonce : Renewal → ServerSeen → List ℕ
current_nonce m server =
    (current_place (sight (at_first m server) m.from) m.first.now m.first.words).nonce

abbrev pub end : Renewal → ServerSeen → ℕ
end m server = (current_place (sight (at_first m server) m.from) m.first.now m.first.words).expires

-- the server that signs the error
abbrev pub at_error : Renewal → ServerSeen → Page → ServerSeen
at_error m server asking =
    after_calls (after_request m m.first (at_first m server) asking) m.before_error

-- the client that has read the error
abbrev pub client_after_error : Renewal → ClientState → Page → ClientState
client_after_error m state telling = (client_step m.settings state (reading_of telling.bytes)).state

-- the server that reads the second request
abbrev pub at_second : Renewal → ServerSeen → Page → ServerSeen
at_second m server asking =
    after_calls (after_signing (at_error m server asking) m.from true) m.before_second

-- ---- the messages

-- a request that the client signs: of any method, with any attributes of its own, in a writer with
-- any room
pub record IsAsked (state : ClientState) (asking : Page) : Type 0 where
  pub message : Page
  pub unsigned : IsUnsigned message.bytes
  pub class_is : class_in message.bytes ≡ Request
  pub signed : added_all (client_additions true state) message ≡ Ok asking

-- an error of code 438 that the server signs, of any method and with any attributes of its own
pub record IsTold (s : Sight) (telling : Page) : Type 0 where
  pub message : Page
  pub unsigned : IsUnsigned message.bytes
  pub code_is : error_code message.bytes ≡ Some STALE_NONCE
  pub signed : server_signed s true message ≡ Ok telling

-- ---- the law

-- whether a call leaves users, settings and the nonce of an address: messages from there are read
-- up to its end. If the client there may be removed, expired nonces are forgotten only up to that
-- end. Otherwise they are forgotten at any time, since a record with a client is kept. The address
-- itself is not forgotten
abbrev pub leaves_nonce : SocketAddr → ℕ → Bool → ServerCall → Bool
leaves_nonce a end removable (Call.Validate from now message words) =
    if same_address from a then nat_le now end else true
leaves_nonce a end removable (Call.Sign to message) = true
leaves_nonce a end removable (Call.AddUser name password) = false
leaves_nonce a end removable (Call.RemoveUser name) = false
leaves_nonce a end removable (Call.AddIntegrity algorithm) = false
leaves_nonce a end removable (Call.SetIntegrity algorithm) = false
leaves_nonce a end removable (Call.SetAnonymous feature) = false
leaves_nonce a end removable (Call.RemoveClient address) =
    if same_address address a then removable else true
leaves_nonce a end removable (Call.SetExpiry expiry) = false
leaves_nonce a end removable (Call.ForgetExpired now) = if removable then nat_le now end else true
leaves_nonce a end removable (Call.Forget address) = not (same_address address a)

-- whether a call leaves users, settings and the record of an address, whatever nonce is kept there:
-- messages from there are read at any time, also after the nonce's end, when they make another. If
-- the client there may be removed, expired nonces are forgotten only up to that end, and no time is
-- past the last one. The address itself is not forgotten
abbrev pub leaves_place : SocketAddr → ℕ → Bool → ServerCall → Bool
leaves_place a end removable (Call.Validate from now message words) = true
leaves_place a end removable (Call.Sign to message) = true
leaves_place a end removable (Call.AddUser name password) = false
leaves_place a end removable (Call.RemoveUser name) = false
leaves_place a end removable (Call.AddIntegrity algorithm) = false
leaves_place a end removable (Call.SetIntegrity algorithm) = false
leaves_place a end removable (Call.SetAnonymous feature) = false
leaves_place a end removable (Call.RemoveClient address) =
    if same_address address a then removable else true
leaves_place a end removable (Call.SetExpiry expiry) = false
leaves_place a end removable (Call.ForgetExpired now) =
    if removable then nat_le now end && nat_le now last_moment else true
leaves_place a end removable (Call.Forget address) = not (same_address address a)

abbrev pub LeavePlace : SocketAddr → ℕ → Bool → List ServerCall → Type 0
LeavePlace a end removable calls = All (λ call. leaves_place a end removable call ≡ true) calls

abbrev pub LeaveNonce : SocketAddr → ℕ → Bool → List ServerCall → Type 0
LeaveNonce a end removable calls = All (λ call. leaves_nonce a end removable call ≡ true) calls

-- a client is authenticated, and its nonce has ended before its first request, which other messages
-- of it may precede; the nonce that is current then is still current at its second request
pub record HasRunOut (m : Renewal) (who : NameAndPassword) (server : ServerSeen) (p : PlaceSeen)
    (c : Challenge) : Type 0 where
  pub joined : AreJoined (sight server m.from) p c who
  pub calls_before_first : LeavePlace m.from p.expires m.may_be_removed m.before_first
  pub expired : p.expires < m.first.now
  pub calls_before_error : LeaveNonce m.from (end m server) m.may_be_removed m.before_error
  pub calls_before_second : LeaveNonce m.from (end m server) m.may_be_removed m.before_second
  pub in_time : m.second.now ≤ end m server

-- a client learns that its nonce is stale, and asks again
pub record IsToldStale (m : Renewal) (server : ServerSeen) (p : PlaceSeen) (c : Challenge)
    (asking telling again : Page) : Type 0 where
  -- the client signs a request under the nonce that has expired
  pub asked : IsAsked (authenticated c) asking
  -- the nonce that is current when the server reads it is another one
  pub other_nonce : bytes_eq p.nonce (current_nonce m server) ≡ false
  -- the server signs the error, later
  pub error : IsTold (sight (at_error m server asking) m.from) telling
  -- the client that has read the error signs a request again
  pub asked_again : IsAsked (client_after_error m (authenticated c) telling) again

-- a request is accepted, and server and client are joined after it
pub record IsAcceptedAnew (m : Renewal) (who : NameAndPassword) (c : Challenge)
    (server : ServerSeen) (telling again : Page) : Type 0 where
  pub accepted : answer_at m m.second server again ≡ Ok (Validated c.algorithm)
  pub joined : (d : Challenge) × (q : PlaceSeen)
      × (client_after_error m (authenticated c) telling ≡ authenticated d)
      × AreJoined (sight (after_request m m.second server again) m.from) q d who

pub record IsRenewed (m : Renewal) (who : NameAndPassword) (server : ServerSeen) (p : PlaceSeen)
    (c : Challenge) : Type 0 where
  -- the request is stale, unless the nonce that is current by now is the old one, drawn again
  pub first : (asking : Page) → IsAsked (authenticated c) asking
      → answer_at m m.first (at_first m server) asking
      ≡ (if bytes_eq p.nonce (current_nonce m server) then Ok (Validated c.algorithm)
      else Err StaleNonce)
  -- once the client has learned that its nonce is stale, its next request is accepted
  pub second : (asking telling again : Page) → IsToldStale m server p c asking telling again
      → IsAcceptedAnew m who c (at_second m server asking) telling again

-- a client that was authenticated stays so: one error of code 438 brings the nonce under which it
-- is accepted again
abbrev pub NonceIsRenewed : Type 0
NonceIsRenewed =
    (m : Renewal) (who : NameAndPassword) (server : ServerSeen) (p : PlaceSeen) (c : Challenge)
    → AreTexts server.registered.realm who.username → HasRunOut m who server p c
    → IsRenewed m who server p c
