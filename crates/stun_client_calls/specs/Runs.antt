-- Calls of a client, one after the other, and which request each of them names.
use Rattle.std.specs.Prelude.{◌≡◌, ◌≤◌, ◌+◌, ◌==◌, ℕ, Bool, false, List, [], ◌∷◌, Option, None}
use Rattle.std.specs.Prelude.{Some}
use Rattle.std.specs.Prelude.{if◌then◌else◌}
use Rattle.std.specs.declared.net.socket_addr.SocketAddr.{SocketAddr}
use Rattle.stun_base.specs.Moments.{last_moment}
use Rattle.stun_client_endpoint.specs.Bodies.{Body}
use Rattle.stun_client_requests.specs.Requests.{datum_of}
use Rattle.stun_client_calls.specs.Clients.{Client, Told, cancelled, ends, refusal_to_start, started}
use Rattle.stun_client_calls.specs.Clients.{told, transmit, waits}
use Rattle.stun_client_calls.specs.Messages.{AskedSeen}
use Rattle.stun_client_calls.specs.Options.{Options}
use Rattle.stun_client_calls.specs.Receiving.{Answer, UnlessMemory, heard_in, received}

-- what a call returns about requests: `request` has started the one with this number, `cancel` has
-- canceled it, `poll` returns this, or the call names none
pub data Event : Type 0 where
  starts : ℕ → Event
  cancels : ℕ → Event
  polled : Told → Event
  silent : Event

-- the number of the request that is started next
abbrev pub next_number : Client → ℕ
next_number c = c.requests.next

-- one call, from a client to the next one, and what it returns. Its time is that of an `Instant`
pub data Call : Client → Event → Client → Type 0 where
  requests : (c after : Client) (method : ℕ) (body : Body) (options : Option Options) (now : ℕ)
      → now ≤ last_moment → refusal_to_start c method body options ≡ None
      → after ≡ started method body options now c
      → Call c (starts (next_number c)) after
  receives : (c after : Client) (from : SocketAddr) (bytes : List ℕ) (now : ℕ) (answer : Answer)
      → now ≤ last_moment
      → UnlessMemory (λ memory. received memory from bytes now c) bytes (heard_in from bytes c) c
      answer
      → after ≡ answer.1 → Call c silent after
  polls : (c after : Client) (now : ℕ) (says : Told) → told now c ≡ (says, after)
      → Call c (polled says) after
  ends_one : (c after : Client) (number : ℕ) (a : AskedSeen) → datum_of number c.requests ≡ Some a
      → after ≡ cancelled number c → Call c (cancels number) after
  changes_nothing : (c : Client) → Call c silent c

-- calls, one after the other, and what they return
pub data Calls : Client → List Event → Client → Type 0 where
  no_call : (c : Client) → Calls c [] c
  call : (c next after : Client) (event : Event) (events : List Event) → Call c event next
      → Calls next events after → Calls c (event ∷ events) after

-- whether a poll names the request with this number
abbrev pub is_told_of : ℕ → Told → Bool
is_told_of number (transmit other) = other == number
is_told_of number (ends other end) = other == number
is_told_of number (waits until) = false

-- whether a call names the request with this number
abbrev pub names : ℕ → Event → Bool
names number (starts other) = other == number
names number (cancels other) = other == number
names number (polled says) = is_told_of number says
names number silent = false

-- whether a poll returns the end of the request with this number
abbrev pub is_end_of : ℕ → Told → Bool
is_end_of number (transmit other) = false
is_end_of number (ends other end) = other == number
is_end_of number (waits until) = false

abbrev pub hands_out : ℕ → Event → Bool
hands_out number (starts other) = false
hands_out number (cancels other) = false
hands_out number (polled says) = is_end_of number says
hands_out number silent = false

-- how many of the calls return the end of the request with this number
abbrev pub count_ends : ℕ → List Event → ℕ
count_ends number [] = 0
count_ends number (event ∷ events) =
    (if hands_out number event then 1 else 0) + count_ends number events

-- how many of the calls name the request with this number
abbrev pub count_names : ℕ → List Event → ℕ
count_names number [] = 0
count_names number (event ∷ events) =
    (if names number event then 1 else 0) + count_names number events
