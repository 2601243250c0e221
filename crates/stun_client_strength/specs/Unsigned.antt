-- Requests that are not signed have no effect on the challenges that a client answers (RFC 8489,
-- sections 6.3 and 9.2.5).
use Rattle.std.specs.Prelude.{◌≡◌, ◌≢◌, ℕ, Bool, true, List, [], None, Some}
use Rattle.std.specs.declared.net.socket_addr.SocketAddr.{SocketAddr}
use Rattle.stun_base.specs.declared.wire.attribute_type.AttributeType.{AttributeType}
use Rattle.stun_base.specs.declared.wire.transport.TransportType.{TransportType}
use Rattle.stun_agent.specs.Timing.{Settings}
use Rattle.stun_client.specs.Judging.{Identity}
use Rattle.stun_client_endpoint.specs.Written.{Form}
use Rattle.stun_client_requests.specs.Requests.{datum_of}
use Rattle.stun_client_calls.specs.Clients.{Client, ends, new_client, told}
use Rattle.stun_client_calls.specs.Endpoints.{EndSeen}
use Rattle.stun_client_calls.specs.Laws.{IsAnswerOrDrop}
use Rattle.stun_client_calls.specs.Messages.{AskedSeen}
use Rattle.stun_client_calls.specs.OptionLaws.{is_unsigned}
use Rattle.stun_client_calls.specs.Receiving.{Memory, Met, decision_for, received}
use Rattle.stun_client_calls.specs.Runs.{Calls, Event}
use Rattle.stun_client_strength.specs.Hearing.{message_answered}

-- a request has one message, which is not signed
pub record IsNeverSigned (a : AskedSeen) : Type 0 where
  pub current : a.signed_for ≡ None
  pub earlier : a.earlier ≡ []

-- a sequence of calls of a new client, with any kind of credentials, has led to this client
pub record IsReached (c : Client) : Type 0 where
  pub transport : TransportType
  pub server : SocketAddr
  pub counts : Bool
  pub requires_fingerprint : Bool
  pub identity : Identity
  pub form : Form
  pub understood : List AttributeType
  pub turns : ℕ
  pub plan : Settings
  pub seed : List ℕ
  pub events : List Event
  pub calls : Calls (new_client transport server counts requires_fingerprint identity form
      understood turns plan seed) events c

-- each outstanding request whose options say that it is not signed has one message, which is not
-- signed
abbrev pub UnsignedRequestsStayUnsigned : Type 0
UnsignedRequestsStayUnsigned =
    (c : Client) (number : ℕ) (a : AskedSeen) → IsReached c → datum_of number c.requests ≡ Some a
    → is_unsigned a.options ≡ true → IsNeverSigned a

-- a response does not change the challenge that new requests are signed for, the confirmed one, and
-- what is stored of each other request. It ends its own request, or is dropped
pub record IsNoChallenge (memory : Memory) (c : Client) (from : SocketAddr) (bytes : List ℕ)
    (now : ℕ) (m : Met) : Type 0 where
  pub decided : IsAnswerOrDrop (decision_for c now bytes m)
  pub standing : (received memory from bytes now c).1.standing ≡ c.standing
  pub others : (other : ℕ) → other ≢ m.number
      → datum_of other (received memory from bytes now c).1.requests ≡ datum_of other c.requests

-- each response to a request whose options say that it is not signed is such a response
abbrev pub UnsignedRequestsAnswerNothing : Type 0
UnsignedRequestsAnswerNothing =
    (memory : Memory) (c : Client) (from : SocketAddr) (bytes : List ℕ) (now : ℕ) (m : Met)
    → IsReached c → message_answered c from bytes ≡ Some m
    → is_unsigned m.asked.options ≡ true → IsNoChallenge memory c from bytes now m

-- nor does the poll change it that returns the end of such a request, its timeout included
abbrev pub UnsignedRequestsDoubtNothing : Type 0
UnsignedRequestsDoubtNothing =
    (c after : Client) (now number : ℕ) (a : AskedSeen) (end : EndSeen) → IsReached c
    → datum_of number c.requests ≡ Some a → is_unsigned a.options ≡ true
    → told now c ≡ (ends number end, after) → after.standing ≡ c.standing
