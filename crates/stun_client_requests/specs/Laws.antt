-- Laws of the requests of a client, for every sequence of calls.
use Rattle.std.specs.Prelude.{◌≡◌, ◌⊎◌, ◌+◌, ◌<◌, ◌==◌, ℕ, Bool, false, List, [], ◌∷◌, Option, None}
use Rattle.std.specs.Prelude.{if◌then◌else◌}
use Rattle.std.specs.List.Sorted.{IsStrictlySortedBy}
use Rattle.std.specs.Map.{keys_of}
use Rattle.std.specs.Option.{IsSome}
use Rattle.std.specs.Ordering.{nat_cmp}
use Rattle.stun_agent.specs.Timing.{Settings}
use Rattle.stun_client_requests.specs.Numbers.{id_at, known_at}
use Rattle.stun_client_requests.specs.OneTable.{IsOneTable}
use Rattle.stun_client_requests.specs.Requests.{Answering, after_again, again_refusal}
use Rattle.stun_client_requests.specs.Requests.{RequestsSeen, after_answering, after_canceling}
use Rattle.stun_client_requests.specs.Requests.{after_removing, after_replacing, after_start}
use Rattle.stun_client_requests.specs.Requests.{polled, start_refusal}
use Rattle.stun_client_requests.specs.declared.requests.Polled.{Polled}
use Rattle.stun_client_requests.specs.declared.requests.Polled.TheVariants.{Ended, TimedOut}
use Rattle.stun_client_requests.specs.declared.requests.Polled.TheVariants.{Transmit, Wait}

-- what holds for all requests of a client (see `Requests::outstanding`)
pub record IsRequests {D E : Type 0} (r : RequestsSeen D E) : Type 0 where
  pub one : IsOneTable r.table.attached r.numbers r.next
  pub ascending : IsStrictlySortedBy nat_cmp (keys_of r.numbers.known)

-- what a call says about a request: `start` has started the request with this number, `poll` says
-- to send it, `poll` or `remove` returns its end, or the call names no request
pub data Event : Type 0 where
  starts : ℕ → Event
  sends : ℕ → Event
  ends : ℕ → Event
  silent : Event

abbrev pub event_of : {D E : Type 0} → Polled D E → Event
event_of (Transmit number) = sends number
event_of (Ended number end) = ends number
event_of (TimedOut number datum) = ends number
event_of (Wait until) = silent

-- one call: the requests before it, what it says about a request, and the requests after it
pub data Call {D E : Type 0} : RequestsSeen D E → Event → RequestsSeen D E → Type 0 where
  starts_one : (r after : RequestsSeen D E) (id : ℕ) (bytes : List ℕ) (plan : Settings) (datum : D)
      (now : ℕ) → start_refusal r id ≡ None → after ≡ after_start id bytes plan datum now r
      → Call r (starts r.next) after
  sends_again : (r after : RequestsSeen D E) (number id : ℕ) (response : Answering) (bytes : List ℕ)
      (plan : Settings) (datum : D) (now : ℕ) → again_refusal r number id ≡ None
      → after ≡ after_again number response id bytes plan datum now r → Call r silent after
  replaces : (r after : RequestsSeen D E) (number : ℕ) (datum : D)
      → after ≡ after_replacing number datum r → Call r silent after
  answers : (r after : RequestsSeen D E) (number count : ℕ) (moment : Option ℕ) (end : E)
      → after ≡ after_answering number count moment end r → Call r silent after
  cancels : (r after : RequestsSeen D E) (number : ℕ) (end : E)
      → after ≡ after_canceling number end r → Call r silent after
  removes : (r after : RequestsSeen D E) (number : ℕ) → IsSome (id_at number r.numbers)
      → after ≡ after_removing number r → Call r (ends number) after
  polls : (r after : RequestsSeen D E) (now : ℕ) (told : Polled D E) → polled now r ≡ (told, after)
      → Call r (event_of told) after

-- calls, one after the other, and what they return
pub data Calls {D E : Type 0} : RequestsSeen D E → List Event → RequestsSeen D E → Type 0 where
  no_call : (r : RequestsSeen D E) → Calls r [] r
  call : (r next after : RequestsSeen D E) (event : Event) (events : List Event) → IsRequests r
      → Call r event next → Calls next events after → Calls r (event ∷ events) after

abbrev pub is_end_of : ℕ → Event → Bool
is_end_of number (starts other) = false
is_end_of number (sends other) = false
is_end_of number (ends other) = other == number
is_end_of number silent = false

-- how many of the calls return the end of the request with this number
abbrev pub count_ends : ℕ → List Event → ℕ
count_ends number [] = 0
count_ends number (event ∷ events) =
    (if is_end_of number event then 1 else 0) + count_ends number events

-- the request with this number was started, and its end was not returned yet
abbrev pub IsStored : {D E : Type 0} → ℕ → RequestsSeen D E → Type 0
IsStored number r = IsSome (known_at number r.numbers.known)

-- the request was started, and nothing is stored of it any more
pub record IsOver {D E : Type 0} (number : ℕ) (r : RequestsSeen D E) : Type 0 where
  pub started : number < r.next
  pub gone : known_at number r.numbers.known ≡ None

-- a request that is started is stored under the next number, under which nothing was stored before
abbrev pub StartsOne : Type 0 → Type 0 → Type 0
StartsOne D E = (r : RequestsSeen D E) (id : ℕ) (bytes : List ℕ) (plan : Settings)
    (datum : D) (now : ℕ) → IsRequests r
    → IsStored r.next (after_start id bytes plan datum now r)
    × (known_at r.next r.numbers.known ≡ None)

-- for every sequence of calls: a started request is still stored and its end was not returned, or
-- it is over and its end was returned once
abbrev pub EndsOnce : Type 0 → Type 0 → Type 0
EndsOnce D E = (number : ℕ) (r after : RequestsSeen D E) (events : List Event)
    → IsStored number r → Calls r events after
    → (IsStored number after × (count_ends number events ≡ 0))
    ⊎ (IsOver number after × (count_ends number events ≡ 1))

-- a request that is over stays over, and its end is not returned again
abbrev pub StaysOver : Type 0 → Type 0 → Type 0
StaysOver D E = (number : ℕ) (r after : RequestsSeen D E) (events : List Event)
    → IsOver number r → Calls r events after
    → IsOver number after × (count_ends number events ≡ 0)
