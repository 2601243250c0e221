-- The results of the calls on a client, what they write, and the client after them (RFC 8489,
-- sections 6.2 and 6.3).
use Rattle.std.specs.Prelude.{◌≡◌, ◌⊎◌, ℕ, ℤ, pos, List, [], ◌++◌, Bool, true, false, ◌==◌}
use Rattle.std.specs.Prelude.{length, drop, nat_lt, Option, Some, None, Result, Ok, Err}
use Rattle.std.specs.Option.{is_some, option_map_or}
use Rattle.std.specs.declared.net.socket_addr.SocketAddr.{SocketAddr}
use Rattle.stun_client_endpoint.specs.Bodies.{Body}
use Rattle.stun_client_endpoint.specs.declared.told.Received.{Received}
use Rattle.stun_client_endpoint.specs.declared.told.Received.TheVariants.{Consumed, Dropped}
use Rattle.stun_client_endpoint.specs.declared.told.Received.TheVariants.{Indication, NotOurs}
use Rattle.stun_client_endpoint.specs.declared.told.RequestError.{RequestError}
use Rattle.stun_client_endpoint.specs.declared.told.RequestError.TheVariants as Errors
use Rattle.stun_client_requests.specs.Requests.{bytes_at, datum_of}
use Rattle.stun_client_calls.specs.Clients.{Client as ClientSeen, Told, cancelled, ends}
use Rattle.stun_client_calls.specs.Clients.{refusal_to_start, started, told, transmit, waits}
use Rattle.stun_client_calls.specs.Options.{Options}
use Rattle.stun_client_calls.specs.Receiving.{Answer, UnlessMemory, heard_in, received}
use Rattle.stun_client_calls.specs.Runs.{next_number}
use Rattle.stun_handles.specs.Addresses.{socket_address}
use Rattle.stun_handles.specs.declared.address.Address.{Address}
use Rattle.stun_numbers.specs.Refusals.{refusal_number}
use Rattle.stun_numbers.specs.declared.refusal.Refusal.{Refusal}
use Rattle.stun_numbers.specs.declared.refusal.Refusal.TheVariants.{AlreadyInProgress, BadArgument}
use Rattle.stun_numbers.specs.declared.refusal.Refusal.TheVariants.{BufferTooSmall}
use Rattle.stun_numbers.specs.declared.refusal.Refusal.TheVariants.{MessageTooLong}
use Rattle.stun_numbers.specs.declared.refusal.Refusal.TheVariants.{OutOfMemory, WrongHandle}
use Rattle.stun_c_endpoint.specs.Attributes.{Reads}
use Rattle.stun_c_endpoint.specs.Events.{EVENT_SIZE, drop_told, drops_told, ended_told, event_unless}
use Rattle.stun_c_endpoint.specs.Events.{or_for_ever, sent_told, wait_told}
use Rattle.stun_c_endpoint.specs.Kept.{at_handle}
use Rattle.stun_c_endpoint.specs.declared.client.event.Dropped.{Dropped as DroppedTold}
use Rattle.stun_c_endpoint.specs.RequestsGiven.{options_if_any}
use Rattle.stun_c_endpoint.specs.declared.client.event.Event.{Event}
use Rattle.stun_c_endpoint.specs.declared.client.options.RequestOptions.{RequestOptions}
use Rattle.stun_c_endpoint.specs.declared.handle.endpoint.Kept.{Kept}
use Rattle.stun_c_endpoint.specs.declared.handle.endpoint.Kept.TheVariants.{Checker, Client, Open}
use Rattle.stun_c_endpoint.specs.declared.handle.endpoint.Kept.TheVariants.{Server, ShortTerm, Users}
use Rattle.stun_c_endpoint.specs.declared.handle.endpoint.Kept.TheVariants.{ShortTermUsers}

abbrev pub client_of : Kept → Result ClientSeen Refusal
client_of (Client c) = Ok c
client_of (Server s) = Err WrongHandle
client_of (Users u) = Err WrongHandle
client_of (Open s) = Err WrongHandle
client_of (ShortTerm s) = Err WrongHandle
client_of (ShortTermUsers u) = Err WrongHandle
client_of (Checker a) = Err WrongHandle

abbrev pub client_in : Option Kept → Result ClientSeen Refusal
client_in handle = at_handle handle (λ kept. client_of kept)

-- ---- requests

abbrev pub refusal_of_request : RequestError → Refusal
refusal_of_request Errors.NoId = AlreadyInProgress
refusal_of_request Errors.TooLarge = MessageTooLong
refusal_of_request Errors.OutOfMemory = OutOfMemory

-- a request that is started: its number, and the client after that
abbrev pub Start : Type 0
Start = Result (ℕ × ClientSeen) Refusal

abbrev pub start_unless : Option RequestError → ℕ → ClientSeen → Start
start_unless None number c = Ok (number, c)
start_unless (Some error) number c = Err (refusal_of_request error)

-- the errors of the body come first
abbrev pub starting : ℕ → Option Options → ℕ → ClientSeen → Result Body Refusal → Start
starting method options now c (Err refusal) = Err refusal
starting method options now c (Ok body) =
    start_unless (refusal_to_start c method body options) (next_number c)
    (started method body options now c)

-- nothing is written and nothing changes
abbrev pub LeavesAsked : Refusal → ℤ → ℕ → ℕ → Option Kept → Option Kept → Type 0
LeavesAsked refusal result id id' before after =
    (result ≡ refusal_number refusal) × (id' ≡ id) × (after ≡ before)

abbrev pub StartsAs : Start → ℤ → ℕ → ℕ → Option Kept → Option Kept → Type 0
StartsAs (Ok s) result id id' before after =
    (result ≡ pos 0) × (id' ≡ s.0) × (after ≡ Some (Client s.1))
StartsAs (Err refusal) result id id' before after =
    LeavesAsked refusal result id id' before after

-- a request is started with the body of these bytes, or an error is returned
pub record StartsBy (method : ℕ) (bytes : List ℕ) (options : Option Options) (now : ℕ)
    (c : ClientSeen) (result : ℤ) (id id' : ℕ) (before after : Option Kept) : Type 0 where
  pub body : Result Body Refusal
  pub reads : Reads [] bytes body
  pub starts : StartsAs (starting method options now c body) result id id' before after

-- the errors of the options come before those of the body; or an allocation failed
abbrev pub AsksWith : Result (Option Options) Refusal → ℕ → List ℕ → ℕ → ClientSeen → ℤ → ℕ → ℕ
    → Option Kept → Option Kept → Type 0
AsksWith (Err refusal) method bytes now c result id id' before after =
    LeavesAsked refusal result id id' before after
AsksWith (Ok options) method bytes now c result id id' before after =
    StartsBy method bytes options now c result id id' before after
    ⊎ LeavesAsked OutOfMemory result id id' before after

-- a method of more than 12 bits fails first
abbrev pub AsksBy : Bool → ℕ → List ℕ → Option RequestOptions → ℕ → ClientSeen → ℤ → ℕ → ℕ
    → Option Kept → Option Kept → Type 0
AsksBy true method bytes given now c result id id' before after =
    LeavesAsked BadArgument result id id' before after
AsksBy false method bytes given now c result id id' before after =
    AsksWith (options_if_any given c) method bytes now c result id id' before after

-- the result of a call that starts a request with these bytes as its body, and with options or
-- none, what it writes, and the client after it: the errors of the handle come first
abbrev pub AsksAs : Result ClientSeen Refusal → ℕ → List ℕ → Option RequestOptions → ℕ → ℤ → ℕ → ℕ
    → Option Kept → Option Kept → Type 0
AsksAs (Err refusal) method bytes given now result id id' before after =
    LeavesAsked refusal result id id' before after
AsksAs (Ok c) method bytes given now result id id' before after =
    AsksBy (nat_lt 4095 method) method bytes given now c result id id' before after

-- ---- datagrams

-- the number for what a datagram is
abbrev pub received_number : Received → ℕ
received_number (Dropped why) = 0
received_number (Indication message) = 3
received_number Consumed = 4
received_number NotOurs = 6

-- the reason why it is dropped, if it is
abbrev pub why_told : Received → ℕ → ℕ
why_told (Dropped why) before = drop_told why
why_told (Indication message) before = before
why_told Consumed before = before
why_told NotOurs before = before

abbrev pub LeavesHeard : Refusal → ℤ → ℕ → ℕ → Option Kept → Option Kept → Type 0
LeavesHeard refusal result why why' before after =
    (result ≡ refusal_number refusal) × (why' ≡ why) × (after ≡ before)

-- what a client returns for a datagram from an address, and the client after it; or an allocation
-- failed
pub record IsHeard (from : SocketAddr) (bytes : List ℕ) (now : ℕ) (c : ClientSeen) (result : ℤ)
    (why why' : ℕ) (left : Option Kept) : Type 0 where
  pub answer : Answer
  pub receives : UnlessMemory (λ memory. received memory from bytes now c) bytes
      (heard_in from bytes c) c answer
  pub number : result ≡ pos (received_number answer.0)
  pub why_is : why' ≡ why_told answer.0 why
  pub left_is : left ≡ Some (Client answer.1)

abbrev pub HearsFrom : Option SocketAddr → List ℕ → ℕ → ClientSeen → ℤ → ℕ → ℕ → Option Kept
    → Option Kept → Type 0
HearsFrom None bytes now c result why why' before after =
    LeavesHeard BadArgument result why why' before after
HearsFrom (Some from) bytes now c result why why' before after =
    IsHeard from bytes now c result why why' after

-- the result of a call that reads a datagram, what it writes, and the client after it
abbrev pub HearsAs : Result ClientSeen Refusal → Address → List ℕ → ℕ → ℤ → ℕ → ℕ → Option Kept
    → Option Kept → Type 0
HearsAs (Err refusal) from bytes now result why why' before after =
    LeavesHeard refusal result why why' before after
HearsAs (Ok c) from bytes now result why why' before after =
    HearsFrom (socket_address from) bytes now c result why why' before after

-- ---- polling

abbrev pub or_no_bytes : Option (List ℕ) → List ℕ
or_no_bytes None = []
or_no_bytes (Some bytes) = bytes

-- the bytes that go with the result of a poll: a request to send, or the response that ended one
abbrev pub bytes_told : ClientSeen → Told → List ℕ
bytes_told c (transmit number) = or_no_bytes (bytes_at number c.requests)
bytes_told c (ends number x) = x.response
bytes_told c (waits until) = []

abbrev pub event_told : ClientSeen → Told → Event → Event
event_told c (transmit number) v = sent_told number (length (bytes_told c (transmit number))) v
event_told c (ends number x) v = ended_told number x v
event_told c (waits until) v = wait_told (or_for_ever until) v

abbrev pub event_number : Told → ℕ
event_number (transmit number) = 1
event_number (ends number x) = 2
event_number (waits until) = 0

-- bytes that have no room are lost
abbrev pub WritesTold : Bool → List ℕ → ℕ → ℤ → List ℕ → List ℕ → Type 0
WritesTold true bytes number result out out' =
    (result ≡ refusal_number BufferTooSmall) × (out' ≡ out)
WritesTold false bytes number result out out' =
    (result ≡ pos number) × (out' ≡ bytes ++ drop (length bytes) out)

-- the result of a poll is written
abbrev pub Tells : ClientSeen → Told → ℤ → List ℕ → List ℕ → Event → Event → Type 0
Tells c says result out out' v v' =
    (v' ≡ event_unless (nat_lt (length out) (length (bytes_told c says)))
    (length (bytes_told c says)) (event_told c says v))
    × WritesTold (nat_lt (length out) (length (bytes_told c says))) (bytes_told c says)
    (event_number says) result out out'

-- a call polls the client, and writes the result
pub record IsPolled (now : ℕ) (c : ClientSeen) (result : ℤ) (out out' : List ℕ) (v v' : Event)
    (left : Option Kept) : Type 0 where
  pub left_is : left ≡ Some (Client (told now c).1)
  pub tells : Tells (told now c).1 (told now c).0 result out out' v v'

abbrev pub LeavesPolled : Refusal → ℤ → List ℕ → List ℕ → Event → Event → Option Kept → Option Kept
    → Type 0
LeavesPolled refusal result out out' v v' before after =
    (result ≡ refusal_number refusal) × (out' ≡ out) × (v' ≡ v) × (after ≡ before)

-- an event of another size fails
abbrev pub PollsBy : Bool → ℕ → ClientSeen → ℤ → List ℕ → List ℕ → Event → Event → Option Kept
    → Option Kept → Type 0
PollsBy true now c result out out' v v' before after =
    IsPolled now c result out out' v v' after
PollsBy false now c result out out' v v' before after =
    LeavesPolled BadArgument result out out' v v' before after

-- the result of a call that polls, what it writes, and the client after it
abbrev pub PollsAs : Result ClientSeen Refusal → ℕ → ℤ → List ℕ → List ℕ → Event → Event
    → Option Kept → Option Kept → Type 0
PollsAs (Err refusal) now result out out' v v' before after =
    LeavesPolled refusal result out out' v v' before after
PollsAs (Ok c) now result out out' v v' before after =
    PollsBy (v.size == EVENT_SIZE) now c result out out' v v' before after

-- ---- outstanding requests

-- 1 if there is such a request, and otherwise 0
abbrev pub bit : Bool → ℤ
bit true = pos 1
bit false = pos 0

-- the result of a call that cancels a request, and the client after it
abbrev pub CancelsAs : Result ClientSeen Refusal → ℕ → ℤ → Option Kept → Option Kept → Type 0
CancelsAs (Err refusal) number result before after =
    (result ≡ refusal_number refusal) × (after ≡ before)
CancelsAs (Ok c) number result before after =
    (result ≡ bit (is_some (datum_of number c.requests)))
    × (after ≡ Some (Client (cancelled number c)))

-- the drops of an outstanding request, or the former contents
abbrev pub dropped_or : ClientSeen → ℕ → DroppedTold → DroppedTold
dropped_or c number before =
    option_map_or (λ a. drops_told a.drops) (datum_of number c.requests) before

-- the result of a call that returns the drops of a request, and what it writes
abbrev pub TellsDropped : Result ClientSeen Refusal → ℕ → ℤ → DroppedTold → DroppedTold → Type 0
TellsDropped (Err refusal) number result d d' = (result ≡ refusal_number refusal) × (d' ≡ d)
TellsDropped (Ok c) number result d d' =
    (result ≡ bit (is_some (datum_of number c.requests))) × (d' ≡ dropped_or c number d)
