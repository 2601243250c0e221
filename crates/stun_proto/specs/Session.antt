-- A client and a server that know each other: the requests and responses that follow, of any method
-- and with any attributes of their own, up to the end of the nonce and from one nonce to the next
-- (RFC 8489, sections 9.2.4 and 9.2.5).
use Rattle.std.specs.Prelude.{◌≡◌, ◌≤◌, List, [], ◌∷◌, Bool, true, false, Some}
use Rattle.std.specs.declared.net.socket_addr.SocketAddr.{SocketAddr}
use Rattle.std.specs.declared.result.Result.TheVariants.{Ok}
use Rattle.stun_base.specs.Credentials.{NameAndPassword}
use Rattle.stun_base.specs.MessageType.{class_in, is_response}
use Rattle.stun_auth.specs.declared.client.answer.LongTermClientValidation.TheVariants as Read
use Rattle.stun_auth.specs.declared.server.reason.LongTermServerValidation.TheVariants.{Validated}
use Rattle.stun_judging.specs.Additions.{Page}
use Rattle.stun_auth.specs.Client.{Challenge, ClientSettings, authenticated}
use Rattle.stun_judging.specs.Reading.{STALE_NONCE, is_code, error_code, reading_of}
use Rattle.stun_auth.specs.ClientStep.{client_step}
use Rattle.stun_auth.specs.Seen.{PlaceSeen}
use Rattle.stun_auth.specs.Server.{Sight}
use Rattle.stun_auth.specs.ServerSigning.{after_signing, server_signed}
use Rattle.stun_judging.specs.Signed.{IsUnsigned}
use Rattle.stun_auth.specs.Validation.{ServerSeen, after_validation, answer, client_at, sight}
use Rattle.stun_proto.specs.Matching.{AreJoined, AreTexts}
use Rattle.stun_proto.specs.Renewal.{Arrival, HasRunOut, IsAsked, IsRenewed, IsToldStale}
use Rattle.stun_proto.specs.Renewal.{LeaveNonce, Renewal, after_request, at_second}
use Rattle.stun_proto.specs.Renewal.{client_after_error}
use Rattle.stun_proto.specs.Serving.{after_calls}
use Rattle.stun_proto.specs.declared.replay.call.ServerCall.{ServerCall}

-- ---- one request and its response

-- when a request arrives, and the server's calls before it arrives and before its response is
-- signed
pub record Exchange : Type 0 where
  pub before_request : List ServerCall
  pub arrival : Arrival
  pub before_response : List ServerCall

-- the server that reads the request
abbrev pub at_request : ServerSeen → Exchange → ServerSeen
at_request server e = after_calls server e.before_request

-- the server that has read it
abbrev pub after_reading : SocketAddr → ServerSeen → Exchange → Page → ServerSeen
after_reading from server e asking =
    after_validation (at_request server e) from e.arrival.now e.arrival.words
    (reading_of asking.bytes)

-- the server that signs the response, and the one that has signed it
abbrev pub at_response : SocketAddr → ServerSeen → Exchange → Page → ServerSeen
at_response from server e asking =
    after_calls (after_reading from server e asking) e.before_response

abbrev pub after_exchange : SocketAddr → ServerSeen → Exchange → Page → ServerSeen
after_exchange from server e asking = after_signing (at_response from server e asking) from true

-- a response that the server signs: a success, or an error of any code but 438. It is of any method
-- and has any attributes except those that signing adds
pub record IsAnswered (s : Sight) (answering : Page) : Type 0 where
  pub message : Page
  pub unsigned : IsUnsigned message.bytes
  pub class_is : is_response (class_in message.bytes) ≡ true
  pub not_stale : is_code STALE_NONCE (error_code message.bytes) ≡ false
  pub signed : server_signed s true message ≡ Ok answering

-- the nonce stays, and the request arrives before its end: the calls leave users and settings
-- unchanged, and messages of the address are read up to the end of the nonce. They may remove the
-- client before the request, which makes it known again
pub record IsInTime (from : SocketAddr) (p : PlaceSeen) (e : Exchange) : Type 0 where
  pub calls_before_request : LeaveNonce from p.expires true e.before_request
  pub in_time : e.arrival.now ≤ p.expires
  pub calls_before_response : LeaveNonce from p.expires true e.before_response

-- the server still knows this client at the address when it signs the response: the client was not
-- removed, and nobody else was accepted from there
abbrev pub IsStillKnown : SocketAddr → NameAndPassword → Challenge → ServerSeen → Type 0
IsStillKnown from who c server =
    client_at server from ≡ Some (record { name = who.username; algorithm = c.algorithm })

-- a request of the client is accepted
abbrev pub IsAcceptedAgain : SocketAddr → ServerSeen → Challenge → Exchange → Page → Type 0
IsAcceptedAgain from server c e asking =
    answer (sight (at_request server e) from) e.arrival.now e.arrival.words
    (reading_of asking.bytes)
    ≡ Ok (Validated c.algorithm)

-- a response of the server is accepted, and leaves the client unchanged
abbrev pub IsBelieved : ClientSettings → Challenge → Page → Type 0
IsBelieved settings c answering =
    client_step settings (authenticated c) (reading_of answering.bytes)
    ≡ record { answer = Ok (Read.Validated c.algorithm); state = authenticated c }

-- ---- a session

-- the end of a nonce: as a renewal, without the settings and the address of the client
pub record Lapse : Type 0 where
  pub may_be_removed : Bool
  pub before_first : List ServerCall
  pub first : Arrival
  pub before_error : List ServerCall
  pub before_second : List ServerCall
  pub second : Arrival

abbrev pub renewal_of : ClientSettings → SocketAddr → Lapse → Renewal
renewal_of settings from l = record {
  settings = settings;
  from = from;
  may_be_removed = l.may_be_removed;
  before_first = l.before_first;
  first = l.first;
  before_error = l.before_error;
  before_second = l.before_second;
  second = l.second;
}

-- a part of a session: an exchange, or the end of the nonce
pub data Part : Type 0 where
  Exchanged : Exchange → Part
  RanOut : Lapse → Part

-- Both sides know each other, and still do after each part. In an exchange the server accepts the
-- client's request, and the client accepts the server's response. If the nonce has ended, the
-- request gets the answer that its nonce is stale, and is accepted when it is sent again
-- (`IsRenewed`)
abbrev pub GoesOn : ClientSettings → SocketAddr → NameAndPassword → ServerSeen → PlaceSeen
    → Challenge → List Part → Type 0
GoesOn settings from who server p c [] = AreJoined (sight server from) p c who
GoesOn settings from who server p c (Exchanged e ∷ later) =
    IsInTime from p e → (asking : Page) → IsAsked (authenticated c) asking
    → IsAcceptedAgain from server c e asking
    × ((answering : Page) → IsStillKnown from who c (at_response from server e asking)
    → IsAnswered (sight (at_response from server e asking) from) answering
    → IsBelieved settings c answering
    × GoesOn settings from who (after_exchange from server e asking) p c later)
GoesOn settings from who server p c (RanOut l ∷ later) =
    HasRunOut (renewal_of settings from l) who server p c
    → IsRenewed (renewal_of settings from l) who server p c
    × ((asking telling again : Page)
    → IsToldStale (renewal_of settings from l) server p c asking telling again
    → (d : Challenge) × (q : PlaceSeen)
    × (client_after_error (renewal_of settings from l) (authenticated c) telling ≡ authenticated d)
    × GoesOn settings from who
    (after_request (renewal_of settings from l) l.second
    (at_second (renewal_of settings from l) server asking) again) q d later)

-- ---- the law
abbrev pub SessionsGoOn : Type 0
SessionsGoOn =
    (settings : ClientSettings) (from : SocketAddr) (who : NameAndPassword) (server : ServerSeen)
    (p : PlaceSeen) (c : Challenge) (parts : List Part)
    → AreTexts server.registered.realm who.username → AreJoined (sight server from) p c who
    → GoesOn settings from who server p c parts
