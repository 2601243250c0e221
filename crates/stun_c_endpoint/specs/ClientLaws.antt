-- The statements of the laws over the calls on a client.
use Rattle.std.specs.Prelude.{◌≡◌, ◌≤◌, ◌++◌, ℕ, List, [], ◌∷◌, false, length}
use Rattle.stun_client.specs.declared.judged.Outcome.{Outcome}
use Rattle.stun_client.specs.declared.judged.Outcome.TheVariants.{Malformed, NotUnderstood}
use Rattle.stun_client.specs.declared.judged.Outcome.TheVariants.{Redirected, Refused, Success}
use Rattle.stun_client_calls.specs.Clients.{Client as ClientSeen, Told, ends, transmit, waits}
use Rattle.stun_client_endpoint.specs.Bodies.{Body, is_reserved, of_peer, with_value}
use Rattle.stun_client_endpoint.specs.declared.ended.RequestEnd.{RequestEnd}
use Rattle.stun_client_endpoint.specs.declared.ended.RequestEnd.TheVariants.{Answered, Cancelled}
use Rattle.stun_client_endpoint.specs.declared.ended.RequestEnd.TheVariants.{TimedOut, Unauthorized}
use Rattle.stun_client_endpoint.specs.declared.ended.RequestEnd.TheVariants.{TooManyChallenges}
use Rattle.stun_client_endpoint.specs.declared.told.Received.{Received}
use Rattle.stun_client_endpoint.specs.declared.told.Received.TheVariants.{Consumed, Dropped}
use Rattle.stun_client_endpoint.specs.declared.told.Received.TheVariants.{Indication, NotOurs}
use Rattle.stun_client_requests.specs.Requests.{bytes_at}
use Rattle.stun_c_endpoint.specs.Clients.{or_no_bytes}
use Rattle.stun_c_endpoint.specs.Events.{drop_told, drops_told, or_for_ever, trip_told}
use Rattle.stun_c_endpoint.specs.Told.{integrity_number}
use Rattle.stun_c_endpoint.specs.declared.client.event.Event.{Event}

-- no attribute of a body is of a type that the client writes itself
abbrev pub AreAllowed : Body → Type 0
AreAllowed [] = Unit {0}
AreAllowed (with_value a ∷ rest) = (is_reserved a.kind ≡ false) × AreAllowed rest
AreAllowed (of_peer address ∷ rest) = AreAllowed rest

-- a caller reads what a datagram is from the number that the call returns, and why it is dropped
-- from the number that the call writes
abbrev pub TellsReceived : Received → ℕ → ℕ → ℕ → Type 0
TellsReceived (Dropped why) n before now = (n ≡ 0) × (now ≡ drop_told why)
TellsReceived (Indication message) n before now = (n ≡ 3) × (now ≡ before)
TellsReceived Consumed n before now = (n ≡ 4) × (now ≡ before)
TellsReceived NotOurs n before now = (n ≡ 6) × (now ≡ before)

-- these bytes are at the front of a buffer, which has room for them and is as long as before, and
-- the event has their number
pub record IsHandedOut (bytes out after : List ℕ) (count : ℕ) : Type 0 where
  pub count_is : count ≡ length bytes
  pub room : length bytes ≤ length out
  pub rest : List ℕ
  pub front : after ≡ bytes ++ rest
  pub size : length after ≡ length out

-- a caller reads how a response that is believed ended its request
abbrev pub TellsOutcome : Outcome → Event → Type 0
TellsOutcome Success v = v.result ≡ 1
TellsOutcome (Refused code) v = (v.result ≡ 2) × (v.code ≡ code)
TellsOutcome Redirected v = (v.result ≡ 3) × (v.code ≡ 300)
TellsOutcome (NotUnderstood kind) v = (v.result ≡ 6) × (v.not_understood ≡ kind.0)
TellsOutcome Malformed v = v.result ≡ 7

-- a caller reads how a request ended, and with which signature
abbrev pub TellsEnd : RequestEnd → Event → Type 0
TellsEnd (Answered outcome by) v = (v.signed_by ≡ integrity_number by) × TellsOutcome outcome v
TellsEnd (TimedOut drops) v = (v.result ≡ 4) × (v.dropped ≡ drops_told drops)
TellsEnd Unauthorized v = v.result ≡ 5
TellsEnd TooManyChallenges v = v.result ≡ 9
TellsEnd Cancelled v = v.result ≡ 8

-- a caller reads what a poll of the library returns: the bytes of a request to send, the end of a
-- request with the response that ended it and its round trip, or until when to wait
abbrev pub TellsPoll : ClientSeen → Told → ℕ → List ℕ → List ℕ → Event → Type 0
TellsPoll c (transmit number) n out after v =
    (n ≡ 1) × (v.request ≡ number)
    × IsHandedOut (or_no_bytes (bytes_at number c.requests)) out after v.length
TellsPoll c (ends number x) n out after v =
    (n ≡ 2) × (v.request ≡ number) × IsHandedOut x.response out after v.length × TellsEnd x.end v
    × (v.round_trip ≡ trip_told x.round_trip)
TellsPoll c (waits until) n out after v =
    (n ≡ 0) × (v.until ≡ or_for_ever until) × (after ≡ out)
