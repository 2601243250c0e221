-- How often a request may be refused (RFC 8489, section 9.2.5): a wrong password ends it soon.
use Rattle.std.specs.Prelude.{◌≡◌, ◌⊎◌, ◌<◌, ◌≤◌, ◌==◌, ◌||◌, ℕ, Bool, true, false, List, [], ◌∷◌}
use Rattle.std.specs.Prelude.{None, Option, Some, if◌then◌else◌}
use Rattle.std.specs.declared.net.socket_addr.SocketAddr.{SocketAddr}
use Rattle.stun_base.specs.declared.wire.transport.TransportType.TheVariants.{Tcp, Udp}
use Rattle.stun_judging.specs.Reading.{UNAUTHORIZED, is_code}
use Rattle.stun_client.specs.Challenges.{Answered}
use Rattle.stun_client.specs.Challenging.{code_in}
use Rattle.stun_client.specs.Judging.{refused}
use Rattle.stun_client_endpoint.specs.Refusals.{OTHERS}
use Rattle.stun_client_endpoint.specs.declared.ended.DropReason.TheVariants.{Refused}
use Rattle.stun_client_endpoint.specs.declared.ended.RequestEnd.{RequestEnd}
use Rattle.stun_client_endpoint.specs.declared.ended.RequestEnd.TheVariants as how
use Rattle.stun_client_endpoint.specs.declared.told.Received.TheVariants.{Consumed, Dropped}
use Rattle.stun_client_requests.specs.Numbers.{known_at}
use Rattle.stun_client_requests.specs.Requests.{datum_of}
use Rattle.stun_client_requests.specs.declared.numbers.Known.TheVariants.{Ended}
use Rattle.stun_client_calls.specs.Clients.{Client, Told, ends, transmit, waits}
use Rattle.stun_client_calls.specs.Endpoints.{bare_end}
use Rattle.stun_client_calls.specs.Messages.{AskedSeen}
use Rattle.stun_client_calls.specs.Receiving.{Memory, Met, received}
use Rattle.stun_client_calls.specs.Runs.{Calls, Event, cancels, polled, silent, starts}
use Rattle.stun_client_runs.specs.Kept.{IsClient}
use Rattle.stun_client_strength.specs.Hearing.{message_answered, response_verdict}

-- how a refusal ends its request: as unauthorized if it is a 401, and otherwise as challenged too
-- often
abbrev pub end_of_refusal : List ℕ → RequestEnd
end_of_refusal bytes =
    if is_code UNAUTHORIZED (code_in bytes) then how.Unauthorized else how.TooManyChallenges

-- a datagram ends a request in this way, and `poll` returns this end
pub record IsGivenUp (memory : Memory) (from : SocketAddr) (bytes : List ℕ) (now number : ℕ)
    (end : RequestEnd) (c : Client) : Type 0 where
  pub next : Client
  pub consumed : received memory from bytes now c ≡ (Consumed, next)
  pub ended : known_at number next.requests.numbers.known ≡ Some (Ended (bare_end end))

-- a datagram is dropped as a refusal, and the request continues by its timer, with the message that
-- it had. The refusal is remembered if this message was sent since it became the current one.
-- Otherwise it does not count
pub record IsRemembered (memory : Memory) (from : SocketAddr) (bytes : List ℕ) (now number : ℕ)
    (before : AskedSeen) (c : Client) : Type 0 where
  pub next : Client
  pub dropped_so : received memory from bytes now c ≡ (Dropped Refused, next)
  pub asked : AskedSeen
  pub there : datum_of number next.requests ≡ Some asked
  pub recent : before.refusals.is_sent ≡ true → asked.refusals.is_recent ≡ true
  pub unsent : before.refusals.is_sent ≡ false
      → asked.refusals.is_recent ≡ before.refusals.is_recent
  pub message : asked.signed_for ≡ before.signed_for
  pub timers : next.requests.table.requests ≡ c.requests.table.requests

-- the challenge that the current message of a request is signed for: the first time it is
-- remembered. Once the message was sent again after that, or over a reliable transport, it ends the
-- request
abbrev pub SecondRefusalsEnd : Type 0
SecondRefusalsEnd =
    (memory : Memory) (from : SocketAddr) (bytes : List ℕ) (now : ℕ) (c : Client) (m : Met)
    → message_answered c from bytes ≡ Some m → response_verdict c bytes m ≡ refused None
    → (c.requests.table.transport ≡ Udp → m.asked.refusals.is_earlier ≡ false
    → IsRemembered memory from bytes now m.number m.asked c)
    × ((c.requests.table.transport ≡ Tcp) ⊎ (m.asked.refusals.is_earlier ≡ true)
    → IsGivenUp memory from bytes now m.number (end_of_refusal bytes) c)

-- a 401 for the realm and the security bits that the current message of a request is signed for,
-- with another nonce or list: if the request was sent by another message for two of these, the next
-- one within its first plan ends it
abbrev pub ThirdRefusalsEnd : Type 0
ThirdRefusalsEnd =
    (memory : Memory) (from : SocketAddr) (bytes : List ℕ) (now : ℕ) (c : Client) (m : Met)
    (x : Answered) → message_answered c from bytes ≡ Some m
    → response_verdict c bytes m ≡ refused (Some x)
    → now ≤ m.asked.until → OTHERS ≤ m.asked.refusals.others
    → IsGivenUp memory from bytes now m.number how.Unauthorized c

-- ---- over calls

-- whether a poll says to send the request with this number
abbrev pub is_sending : ℕ → Told → Bool
is_sending number (transmit other) = other == number
is_sending number (ends other end) = false
is_sending number (waits until) = false

abbrev pub sends : ℕ → Event → Bool
sends number (starts other) = false
sends number (cancels other) = false
sends number (polled says) = is_sending number says
sends number silent = false

-- whether one of the polls among calls says so
abbrev pub is_sent_in : ℕ → List Event → Bool
is_sent_in number [] = false
is_sent_in number (event ∷ events) = sends number event || is_sent_in number events

-- a refusal is remembered, a sequence of calls follows, and one of them returns the bytes of the
-- request. If the request is still outstanding, and no other message of it became the current one,
-- the next refusal ends it
abbrev pub RefusalsAreRemembered : Type 0
RefusalsAreRemembered =
    (c later : Client) (events : List Event) (number : ℕ) (a : AskedSeen) (memory : Memory)
    (from : SocketAddr) (bytes : List ℕ) (now : ℕ) (m : Met) → IsClient c
    → datum_of number c.requests ≡ Some a → a.refusals.is_recent ≡ true → Calls c events later
    → is_sent_in number events ≡ true → message_answered later from bytes ≡ Some m
    → m.number ≡ number → m.asked.turns ≡ a.turns → a.turns < 4294967295
    → response_verdict later bytes m ≡ refused None
    → IsGivenUp memory from bytes now number (end_of_refusal bytes) later
