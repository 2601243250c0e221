-- Laws of the requests of a client, for every sequence of calls. The times of the calls may go back
-- (RFC 8489, sections 6.2 and 6.3).
use Rattle.std.specs.Prelude.{◌≡◌, ◌⊎◌, ℕ, List, None}
use Rattle.std.specs.Option.{IsSome}
use Rattle.stun_client_requests.specs.Laws.{IsOver as IsOverIn, IsStored}
use Rattle.stun_client_requests.specs.Numbers.{known_at}
use Rattle.stun_client_requests.specs.Requests.{bytes_at}
use Rattle.stun_client_calls.specs.Clients.{Client, told, transmit}
use Rattle.stun_client_calls.specs.Runs.{Call, Calls, Event, count_ends, count_names, starts}
use Rattle.stun_client_runs.specs.Kept.{IsClient}

-- a request with this number was started, and its end was not returned yet
abbrev pub IsStarted : ℕ → Client → Type 0
IsStarted number c = IsStored number c.requests

-- the request was started, and its end was returned
abbrev pub IsOver : ℕ → Client → Type 0
IsOver number c = IsOverIn number c.requests

-- `request` returns the number of a request that is started, and was not before
abbrev pub StartsOne : Type 0
StartsOne = (c after : Client) (number : ℕ) → IsClient c → Call c (starts number) after
    → IsStarted number after × (known_at number c.requests.numbers.known ≡ None)

-- for every sequence of calls: a started request is stored and its end was not returned, or it is
-- over and its end was returned once
abbrev pub EndsOnce : Type 0
EndsOnce = (number : ℕ) (c after : Client) (events : List Event) → IsClient c → IsStarted number c
    → Calls c events after
    → (IsStarted number after × (count_ends number events ≡ 0))
    ⊎ (IsOver number after × (count_ends number events ≡ 1))

-- a request that is over stays over, and no call names it again
abbrev pub StaysOver : Type 0
StaysOver = (number : ℕ) (c after : Client) (events : List Event) → IsClient c → IsOver number c
    → Calls c events after → IsOver number after × (count_names number events ≡ 0)

-- a request whose bytes a poll says to send is outstanding, so there are bytes
abbrev pub TransmitsWhatIsThere : Type 0
TransmitsWhatIsThere = (now number : ℕ) (c after : Client) → IsClient c
    → told now c ≡ (transmit number, after) → IsSome (bytes_at number after.requests)
