-- `poll` returns the end that a request had (RFC 8489, sections 6.3.3 and 6.3.4).
use Rattle.std.specs.Prelude.{◌≡◌, ◌⊎◌, ◌≤◌, ℕ, true, List, Option, None, Some}
use Rattle.std.specs.Option.{IsSome}
use Rattle.std.specs.declared.net.socket_addr.SocketAddr.{SocketAddr}
use Rattle.stun_base.specs.Moments.{last_moment}
use Rattle.stun_base.specs.declared.keys.algorithm.IntegrityAlgorithm.{IntegrityAlgorithm}
use Rattle.stun_types.specs.Message.{refusal}
use Rattle.stun_judging.specs.Reading.{UNAUTHORIZED}
use Rattle.stun_client.specs.Challenging.{code_in}
use Rattle.stun_client.specs.Outcomes.{outcome_of}
use Rattle.stun_client_endpoint.specs.Bodies.{Body}
use Rattle.stun_client_endpoint.specs.declared.ended.RequestEnd.TheVariants as how
use Rattle.stun_client_requests.specs.Numbers.{known_at}
use Rattle.stun_client_requests.specs.Requests.{datum_of}
use Rattle.stun_client_requests.specs.declared.numbers.Known.TheVariants.{Ended}
use Rattle.stun_client_calls.specs.Clients.{Client, cancelled, ends, refusal_to_start, started}
use Rattle.stun_client_calls.specs.Clients.{told}
use Rattle.stun_client_calls.specs.Deciding.{answered}
use Rattle.stun_client_calls.specs.Endpoints.{EndSeen, bare_end}
use Rattle.stun_client_calls.specs.Messages.{AskedSeen}
use Rattle.stun_client_calls.specs.Options.{Options}
use Rattle.stun_client_calls.specs.Receiving.{Memory, Met, decision_for, heard_in, received}
use Rattle.stun_client_calls.specs.Receiving.{round_trip_of}
use Rattle.stun_client_calls.specs.Runs.{Call, Calls, Event, call, changes_nothing, ends_one}
use Rattle.stun_client_calls.specs.Runs.{next_number, no_call, polls, receives, requests}
use Rattle.stun_client_runs.specs.Kept.{IsClient}

-- a request has ended in this way, with this response or with no bytes, and its end is still stored
abbrev pub IsEndedAs : ℕ → EndSeen → Client → Type 0
IsEndedAs number end c = known_at number c.requests.numbers.known ≡ Some (Ended end)

-- a datagram is a response to a message of an outstanding request, comes from the address that
-- answers this request according to its options, and is believed: it has this signature, or is
-- accepted without a signature
pub record IsBelievedResponse (from : SocketAddr) (bytes : List ℕ) (now : ℕ) (c : Client) (m : Met)
    (by : Option IntegrityAlgorithm) : Type 0 where
  pub is_read : refusal bytes ≡ None
  pub answers : heard_in from bytes c ≡ Some m
  pub is_so : decision_for c now bytes m ≡ answered by

-- `cancel` ends an outstanding request as canceled
abbrev pub CancelsEnd : Type 0
CancelsEnd = (c : Client) (number : ℕ) (a : AskedSeen) → datum_of number c.requests ≡ Some a
    → IsEndedAs number (bare_end how.Cancelled) (cancelled number c)

-- a response that is believed ends its request with its outcome, and is stored with it, and so is
-- the time between the message and the response, if it is known
abbrev pub AnswersEnd : Type 0
AnswersEnd = (memory : Memory) (from : SocketAddr) (bytes : List ℕ) (now : ℕ) (c : Client) (m : Met)
    (by : Option IntegrityAlgorithm) → IsBelievedResponse from bytes now c m by
    → IsEndedAs m.number (record {
      end = how.Answered (outcome_of c.understood bytes) by;
      response = bytes;
      round_trip = round_trip_of now m;
    }) (received memory from bytes now c).1

-- whatever is called after a request has ended: if `poll` returns how it ended, it returns this
abbrev pub EndsAreSaidAsTheyCame : Type 0
EndsAreSaidAsTheyCame = (c later last : Client) (between : List Event) (now number : ℕ)
    (end said : EndSeen) → IsClient c → IsEndedAs number end c → Calls c between later
    → told now later ≡ (ends number said, last) → said ≡ end

-- ---- who refuses a request

-- a datagram comes from the address that answers the request with this number, and is a 401 to the
-- current message of this request, which is signed
pub record IsRefusal (number : ℕ) (c : Client) (from : SocketAddr) (bytes : List ℕ) : Type 0 where
  pub message : Met
  pub is_read : refusal bytes ≡ None
  pub answers : heard_in from bytes c ≡ Some message
  pub of_request : message.number ≡ number
  pub current : message.is_current ≡ true
  pub signed : IsSome message.asked.signed_for
  pub code : code_in bytes ≡ Some UNAUTHORIZED

-- a call passes such a datagram to the client
abbrev pub RefusesBy : ℕ → (c : Client) (event : Event) (after : Client) → Call c event after
    → Type 0
RefusesBy number c event after (requests _ _ method body options now low none so) = ⊥
RefusesBy number c event after (receives _ _ from bytes now answer low made so) =
    IsRefusal number c from bytes
RefusesBy number c event after (polls _ _ now says said) = ⊥
RefusesBy number c event after (ends_one _ _ other a there so) = ⊥
RefusesBy number c event after (changes_nothing _) = ⊥

-- one of the calls does
abbrev pub IsRefusedIn : ℕ → (c : Client) (events : List Event) (after : Client)
    → Calls c events after
    → Type 0
IsRefusedIn number c events after (no_call _) = ⊥
IsRefusedIn number c events after (call _ next _ event others made rest) =
    RefusesBy number c event next made ⊎ IsRefusedIn number next others after rest

-- a request is started, calls follow, and `poll` returns that it has ended as unauthorized: one of
-- the calls has passed a 401 to the client that answers a signed message of the request
abbrev pub OnlyRefusedRequestsAreUnauthorized : Type 0
OnlyRefusedRequestsAreUnauthorized =
    (c later last : Client) (between : List Event) (method : ℕ) (body : Body)
    (options : Option Options) (start now : ℕ) (end : EndSeen) → IsClient c → start ≤ last_moment
    → refusal_to_start c method body options ≡ None
    → (calls : Calls (started method body options start c) between later)
    → told now later ≡ (ends (next_number c) end, last) → end.end ≡ how.Unauthorized
    → IsRefusedIn (next_number c) (started method body options start c) between later calls
