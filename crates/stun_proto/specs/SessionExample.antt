-- A client that is new to its server, and a short session after that, message by message: what the
-- laws `new_clients_are_introduced` and `sessions_go_on` are about (RFC 8489, sections 9.2.3 to
-- 9.2.5).
use Rattle.std.specs.Prelude.{◌≡◌, ℕ, List, [], ◌∷◌}
use Rattle.std.specs.declared.net.socket_addr.SocketAddr.{SocketAddr}
use Rattle.stun_base.specs.Credentials.{NameAndPassword}
use Rattle.stun_base.specs.MessageType.{type_number}
use Rattle.stun_base.specs.declared.wire.message_type.MessageClass.TheVariants as Class
use Rattle.stun_types.specs.Grammar.{spelled_message}
use Rattle.stun_types.specs.Writing.{empty_message}
use Rattle.stun_judging.specs.Additions.{Page}
use Rattle.stun_auth.specs.Client.{Challenge, ClientSettings, authenticated, authenticating, initial}
use Rattle.stun_judging.specs.Reading.{UNAUTHORIZED}
use Rattle.stun_auth.specs.Seen.{PlaceSeen}
use Rattle.stun_judging.specs.Signed.{error_attribute}
use Rattle.stun_auth.specs.Validation.{ServerSeen, sight}
use Rattle.stun_proto.specs.Contact.{Contact, IsChallenged, IsGranted, at_challenge, at_success}
use Rattle.stun_proto.specs.Contact.{challenged}
use Rattle.stun_proto.specs.Matching.{AreJoined, AreTexts}
use Rattle.stun_proto.specs.MeetingExample.{a_client, a_user}
use Rattle.stun_proto.specs.Negotiation.{error}
use Rattle.stun_proto.specs.Renewal.{IsAsked}
use Rattle.stun_proto.specs.Session.{Exchange, IsAnswered, IsInTime, IsStillKnown, after_exchange}
use Rattle.stun_proto.specs.Session.{at_response}

-- ---- a contact

-- the method of an Allocate (RFC 8656)
abbrev pub ALLOCATE : ℕ
ALLOCATE = 3

-- an error of a method and a code, with ID 7
abbrev pub failed : ℕ → ℕ → List ℕ
failed method code =
    spelled_message (type_number Class.Error method) 7 (error_attribute (error code) ∷ [])

-- the messages of a contact, each of which its sender signs over what the other side has sent: the
-- request, the challenge, the request again, and its success. Their method is the same, and none
-- has attributes of its own except ERROR-CODE
pub record AreExchanged (method : ℕ) (m : Contact) (who : NameAndPassword)
    (server : ServerSeen) : Type 0 where
  pub asking : Page
  pub challenging : Page
  pub again : Page
  pub granting : Page
  pub challenge : Challenge
  pub asked : IsAsked initial asking
  pub told : IsChallenged (sight (at_challenge m server asking) m.from) challenging
  pub taken_up : (challenged m challenging).state ≡ authenticating challenge
  pub asked_again : IsAsked (authenticating challenge) again
  pub known : IsStillKnown m.from who challenge (at_success m server asking again)
  pub granted : IsGranted (sight (at_success m server asking again) m.from) granting
  pub asked_is : asked.message.bytes ≡ empty_message Class.Request method 7
  pub told_is : told.message.bytes ≡ failed method UNAUTHORIZED
  pub asked_again_is : asked_again.message.bytes ≡ empty_message Class.Request method 7
  pub granted_is : granted.message.bytes ≡ empty_message Class.Success method 7

-- a client that must hash its user's name: its requests arrive at 0 and after a second
abbrev pub a_contact : SocketAddr → List ℕ → List ℕ → Contact
a_contact from words more = record {
  settings = a_client;
  from = from;
  first = record { now = 0; words = words };
  before_challenge = [];
  before_second = [];
  second = record { now = 1_000_000_000; words = more };
  before_success = [];
}

-- ---- a session

-- the messages of some exchanges, each of which its sender signs over what the other side has sent,
-- and everything that the law requires of them
abbrev pub HasMessages : ClientSettings → SocketAddr → NameAndPassword → ServerSeen → PlaceSeen
    → Challenge → List Exchange → Type 0
HasMessages settings from who server p c [] = Unit {0}
HasMessages settings from who server p c (e ∷ later) =
    IsInTime from p e × (asking answering : Page) × IsAsked (authenticated c) asking
    × IsStillKnown from who c (at_response from server e asking)
    × IsAnswered (sight (at_response from server e asking) from) answering
    × HasMessages settings from who (after_exchange from server e asking) p c later

-- an exchange whose request arrives at a time
abbrev pub exchange_at : ℕ → Exchange
exchange_at now = record {
  before_request = [];
  arrival = record { now = now; words = [] };
  before_response = [];
}

-- a server that knows the client, and two exchanges with it, while the nonce lasts
pub record HasSession (from : SocketAddr) : Type 0 where
  pub server : ServerSeen
  pub place : PlaceSeen
  pub challenge : Challenge
  pub texts : AreTexts server.registered.realm a_user.username
  pub joined : AreJoined (sight server from) place challenge a_user
  pub messages : HasMessages a_client from a_user server place challenge
      (exchange_at 2_000_000_000 ∷ exchange_at 3_000_000_000 ∷ [])
