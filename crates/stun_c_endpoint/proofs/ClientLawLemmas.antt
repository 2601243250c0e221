-- What is started, written and told of a client.
use Rattle.std.proofs.Common.{◌≡◌, ◌∙◌, ◌<◌, ◌≤◌, ℕ, ℤ, pos, negsuc, List, [], ◌∷◌, ◌++◌, Bool, true, false}
use Rattle.std.proofs.Common.{if◌then◌else◌, ◌==◌, length, drop, arith, ltb-false, ltb-true}
use Rattle.std.proofs.Common.{Option, Some, None, Ok, Err, refl, sym, ap, inl, inr, subst}
use Rattle.std.specs.Prelude.{◌≢◌, Result, nat_lt}
use Rattle.std.specs.Option.{is_some, option_map_or}
use Rattle.std.specs.declared.net.socket_addr.SocketAddr.{SocketAddr}
use Rattle.stun_client.specs.declared.judged.Outcome.{Outcome}
use Rattle.stun_client.specs.declared.judged.Outcome.TheVariants as outcome
use Rattle.stun_client_calls.specs.Clients.{Client as ClientSeen, Told, cancelled, ends, told}
use Rattle.stun_client_calls.specs.Clients.{refusal_to_start, started, transmit, waits}
use Rattle.stun_client_calls.specs.Messages.{AskedSeen}
use Rattle.stun_client_calls.specs.Options.{Options}
use Rattle.stun_client_calls.specs.Receiving.{Answer, UnlessMemory, heard_in, received}
use Rattle.stun_client_calls.specs.Runs.{next_number}
use Rattle.stun_client_endpoint.specs.Bodies.{Body, Piece, body_refusal, body_size_refusal}
use Rattle.stun_client_endpoint.specs.Bodies.{is_reserved, of_peer, with_value}
use Rattle.stun_client_endpoint.specs.declared.body.BodyError.{BodyError}
use Rattle.stun_client_endpoint.specs.declared.body.BodyError.TheVariants as of_body
use Rattle.stun_client_endpoint.specs.declared.ended.DropReason.{DropReason}
use Rattle.stun_client_endpoint.specs.declared.ended.DropReason.TheVariants as reason
use Rattle.stun_client_endpoint.specs.declared.ended.RequestEnd.{RequestEnd}
use Rattle.stun_client_endpoint.specs.declared.ended.RequestEnd.TheVariants as how
use Rattle.stun_client_endpoint.specs.declared.told.Received.{Received}
use Rattle.stun_client_endpoint.specs.declared.told.Received.TheVariants as what
use Rattle.stun_client_endpoint.specs.declared.told.RequestError.{RequestError}
use Rattle.stun_client_requests.specs.Requests.{bytes_at, datum_of}
use Rattle.stun_extra.specs.AttributeTypes.{XOR_PEER_ADDRESS}
use Rattle.stun_handles.specs.Addresses.{socket_address}
use Rattle.stun_handles.specs.declared.address.Address.{Address}
use Rattle.stun_numbers.specs.Refusals.{refusal_number}
use Rattle.stun_numbers.specs.declared.refusal.Refusal.{Refusal}
use Rattle.stun_numbers.specs.declared.refusal.Refusal.TheVariants as r
use Rattle.stun_types.specs.Attribute.{TypedValue, first_attribute}
use Rattle.stun_c_endpoint.specs.Attributes.{Reads, breaks_off, goes_on, peer_of, stops}
use Rattle.stun_c_endpoint.specs.Attributes.{ends as reads_all, unless_refused, with_attribute}
use Rattle.stun_c_endpoint.specs.Attributes.{with_peer}
use Rattle.stun_c_endpoint.specs.ClientLaws.{AreAllowed, IsHandedOut, TellsEnd, TellsOutcome}
use Rattle.stun_c_endpoint.specs.ClientLaws.{TellsPoll, TellsReceived}
use Rattle.stun_c_endpoint.specs.Clients.{AsksAs, AsksBy, AsksWith, CancelsAs, HearsAs, HearsFrom, PollsAs}
use Rattle.stun_c_endpoint.specs.Clients.{PollsBy, Start, StartsAs, TellsDropped, WritesTold, bit}
use Rattle.stun_c_endpoint.specs.Clients.{bytes_told, event_number, event_told}
use Rattle.stun_c_endpoint.specs.Clients.{or_no_bytes, received_number}
use Rattle.stun_c_endpoint.specs.Clients.{refusal_of_request, start_unless, starting, why_told}
use Rattle.stun_c_endpoint.specs.Events.{EVENT_SIZE, drop_told, drops_told, end_told, event_failed}
use Rattle.stun_c_endpoint.specs.Events.{event_unless, outcome_told}
use Rattle.stun_c_endpoint.specs.HandleLaws.{IsErrorNumber}
use Rattle.stun_c_endpoint.specs.RequestsGiven.{options_if_any}
use Rattle.stun_c_endpoint.specs.declared.client.options.RequestOptions.{RequestOptions}
use Rattle.stun_c_endpoint.specs.Told.{integrity_number}
use Rattle.stun_c_endpoint.specs.declared.client.event.Dropped.{Dropped}
use Rattle.stun_c_endpoint.specs.declared.client.event.Event.{Event}
use Rattle.stun_c_endpoint.specs.declared.handle.endpoint.Kept.{Kept}
use Rattle.stun_c_endpoint.specs.declared.handle.endpoint.Kept.TheVariants as kind
use Rattle.stun_c_endpoint.proofs.HandleLawLemmas.{no_error_is}
use Rattle.stun_c_endpoint.proofs.IceLawLemmas.{as_long}
use Rattle.stun_c_endpoint.proofs.NumberLemmas.{no_refusal, same_number}

-- ---- requests

start_by : (o : Option RequestError) (number : ℕ) (left : ClientSeen) (id named : ℕ)
    (before after : Option Kept)
    → StartsAs (start_unless o number left) (pos 0) id named before after
    → (o ≡ None) × (named ≡ number) × (after ≡ Some (kind.Client left))
start_by None number left id named before after call = (refl, call.1, call.2)
start_by (Some error) number left id named before after call =
    no_refusal 0 (refusal_of_request error) call.0

module _ (c : ClientSeen) (method : ℕ) (bytes : List ℕ) (given : Option RequestOptions)
    (now id named : ℕ) (before after : Option Kept) where
  abbrev IsStarted : Result (Option Options) Refusal → Type 0
  IsStarted wanted = (body : Body) × (options : Option Options) × (method ≤ 4095)
      × (wanted ≡ Ok options) × Reads [] bytes (Ok body)
      × (refusal_to_start c method body options ≡ None) × (named ≡ next_number c)
      × (after ≡ Some (kind.Client (started method body options now c)))

  started_by : (options : Option Options) (body : Result Body Refusal) → method ≤ 4095
      → Reads [] bytes body
      → StartsAs (starting method options now c body) (pos 0) id named before after
      → IsStarted (Ok options)
  started_by options (Ok body) small reads call =
      let one = start_by (refusal_to_start c method body options) (next_number c)
      (started method body options now c) id named before after call in
      (body, options, small, refl, reads, one.0, one.1, one.2)
  started_by options (Err why) small reads call = no_refusal 0 why call.0

  started_with : (wanted : Result (Option Options) Refusal) → method ≤ 4095
      → AsksWith wanted method bytes now c (pos 0) id named before after → IsStarted wanted
  started_with (Ok options) small (inl call) =
      started_by options call.body small call.reads call.starts
  started_with (Ok options) small (inr failed) = no_refusal 0 r.OutOfMemory failed.0
  started_with (Err why) small call = no_refusal 0 why call.0

  pub started_if : (b : Bool) → nat_lt 4095 method ≡ b
      → AsksBy b method bytes given now c (pos 0) id named before after
      → IsStarted (options_if_any given c)
  started_if true is call = no_refusal 0 r.BadArgument call.0
  started_if false is call =
      started_with (options_if_any given c) (ltb-false 4095 method is) call

-- ---- bodies

allowed_after : (body : Body) (p : Piece) → AreAllowed body → AreAllowed (p ∷ [])
    → AreAllowed (body ++ p ∷ [])
allowed_after [] p are is = is
allowed_after (with_value a ∷ rest) p are is = (are.0, allowed_after rest p are.1 is)
allowed_after (of_peer address ∷ rest) p are is = allowed_after rest p are is

abbrev a_body : Body → Result Body Refusal
a_body body = Ok body

same_body : (one other : Body) → a_body one ≡ Ok other → other ≡ one
same_body one other h = cc

unless : (o : Option BodyError) (x next : Body) → unless_refused o x ≡ Ok next
    → (o ≡ None) × (next ≡ x)
unless None x next h = (refl, same_body x next h)
unless (Some error) x next h = cc

not_reserved : (b : Bool) (o : Option BodyError)
    → (if b then Some of_body.NotAllowed else o) ≡ None → b ≡ false
not_reserved true o h = cc
not_reserved false o h = refl

peer_allowed : (body next : Body) (o : Option SocketAddr) → AreAllowed body
    → with_peer body o ≡ Ok next → AreAllowed next
peer_allowed body next None are h = cc
peer_allowed body next (Some address) are h =
    subst AreAllowed
    (sym (unless (body_size_refusal body 20) (body ++ of_peer address ∷ []) next h).1)
    (allowed_after body (of_peer address) are tt)

allowed_if : (body next : Body) (a : TypedValue) (b : Bool) → AreAllowed body
    → (if b then with_peer body (peer_of a.value)
    else unless_refused (body_refusal body a.kind (length a.value)) (body ++ with_value a ∷ []))
    ≡ Ok next
    → AreAllowed next
allowed_if body next a true are h = peer_allowed body next (peer_of a.value) are h
allowed_if body next a false are h =
    let one =
    unless (body_refusal body a.kind (length a.value)) (body ++ with_value a ∷ []) next h in
    subst AreAllowed (sym one.1)
    (allowed_after body (with_value a) are
    (not_reserved (is_reserved a.kind) (body_size_refusal body (length a.value)) one.0, tt))

allowed_by : (body next : Body) (a : TypedValue) → AreAllowed body
    → with_attribute body a ≡ Ok next → AreAllowed next
allowed_by body next a are h = allowed_if body next a (a.kind == XOR_PEER_ADDRESS) are h

all_allowed : (body : Body) (bytes : List ℕ) (result : Result Body Refusal) → Reads body bytes result
    → AreAllowed body → (last : Body) → result ≡ Ok last → AreAllowed last
all_allowed body bytes result (reads_all _) are last is =
    subst AreAllowed (sym (same_body body last is)) are
all_allowed body bytes result (breaks_off _ _ some broken) are last is = cc
all_allowed body bytes result (stops _ _ why whole refused) are last is = cc
all_allowed body bytes result (goes_on _ next _ _ whole ok rest) are last is =
    all_allowed next _ result rest (allowed_by body next (first_attribute bytes) are ok) last is

pub body_allowed : (bytes : List ℕ) (body : Body) → Reads [] bytes (Ok body) → AreAllowed body
body_allowed bytes body reads = all_allowed [] bytes (Ok body) reads tt body refl

-- ---- outstanding requests

is_bit : (b : Bool) (n : ℕ) → pos n ≡ bit b → b ≡ (n == 1)
is_bit true n is = sym (ap (λ k. k == 1) (same_number n 1 is))
is_bit false n is = sym (ap (λ k. k == 1) (same_number n 0 is))

pub cancelled_is : (c : ClientSeen) (number n : ℕ) (before after : Option Kept)
    → CancelsAs (Ok c) number (pos n) before after
    → (is_some (datum_of number c.requests) ≡ (n == 1))
    × (after ≡ Some (kind.Client (cancelled number c)))
cancelled_is c number n before after call =
    (is_bit (is_some (datum_of number c.requests)) n call.0, call.1)

outstanding_by : (o : Option AskedSeen) (d now : Dropped) → pos 1 ≡ bit (is_some o)
    → now ≡ option_map_or (λ a. drops_told a.drops) o d
    → (a : AskedSeen) × (o ≡ Some a) × (now ≡ drops_told a.drops)
outstanding_by None d now is told = let e : 1 ≡ 0 = same_number 1 0 is in absurd (omega (arith, e))
outstanding_by (Some a) d now is told = (a, refl, told)

pub outstanding_is : (c : ClientSeen) (number : ℕ) (d now : Dropped)
    → TellsDropped (Ok c) number (pos 1) d now
    → (a : AskedSeen) × (datum_of number c.requests ≡ Some a) × (now ≡ drops_told a.drops)
outstanding_is c number d now call = outstanding_by (datum_of number c.requests) d now call.0 call.1

ended_by : (o : Option AskedSeen) (d now : Dropped) → pos 0 ≡ bit (is_some o)
    → now ≡ option_map_or (λ a. drops_told a.drops) o d → (o ≡ None) × (now ≡ d)
ended_by None d now is told = (refl, told)
ended_by (Some a) d now is told = let e : 0 ≡ 1 = same_number 0 1 is in absurd (omega (arith, e))

pub ended_is : (c : ClientSeen) (number : ℕ) (d now : Dropped)
    → TellsDropped (Ok c) number (pos 0) d now → (datum_of number c.requests ≡ None) × (now ≡ d)
ended_is c number d now call = ended_by (datum_of number c.requests) d now call.0 call.1

-- ---- datagrams

tells_received : (x : Received) (n why told : ℕ) → n ≡ received_number x → told ≡ why_told x why
    → TellsReceived x n why told
tells_received (what.Dropped reason) n why told is told_is = (is, told_is)
tells_received (what.Indication message) n why told is told_is = (is, told_is)
tells_received what.Consumed n why told is told_is = (is, told_is)
tells_received what.NotOurs n why told is told_is = (is, told_is)

pub heard_at : (c : ClientSeen) (bytes : List ℕ) (now n why told : ℕ) (before after : Option Kept)
    (o : Option SocketAddr) → HearsFrom o bytes now c (pos n) why told before after
    → (address : SocketAddr) × (answer : Answer) × (o ≡ Some address)
    × UnlessMemory (λ memory. received memory address bytes now c) bytes
    (heard_in address bytes c) c answer
    × TellsReceived answer.0 n why told × (after ≡ Some (kind.Client answer.1))
heard_at c bytes now n why told before after None call = no_refusal n r.BadArgument call.0
heard_at c bytes now n why told before after (Some address) call = (
  address,
  call.answer,
  refl,
  call.receives,
  tells_received call.answer.0 n why told (same_number n _ call.number) call.why_is,
  call.left_is,
)

-- ---- polls

-- how a request ended changes nothing else of an event
abbrev Keeps : Event → Event → Type 0
Keeps now v = (now.kind ≡ v.kind) × (now.request ≡ v.request) × (now.length ≡ v.length)
    × (now.round_trip ≡ v.round_trip)

keeps_outcome : (o : Outcome) (v : Event)
    → Keeps (outcome_told o v) v × ((outcome_told o v).signed_by ≡ v.signed_by)
keeps_outcome outcome.Success v = ((refl, refl, refl, refl), refl)
keeps_outcome (outcome.Refused code) v = ((refl, refl, refl, refl), refl)
keeps_outcome outcome.Redirected v = ((refl, refl, refl, refl), refl)
keeps_outcome (outcome.NotUnderstood kind) v = ((refl, refl, refl, refl), refl)
keeps_outcome outcome.Malformed v = ((refl, refl, refl, refl), refl)

keeps_end : (e : RequestEnd) (v : Event) → Keeps (end_told e v) v
keeps_end (how.Answered o by) v = (keeps_outcome o (record v { signed_by = integrity_number by })).0
keeps_end (how.TimedOut drops) v = (refl, refl, refl, refl)
keeps_end how.Unauthorized v = (refl, refl, refl, refl)
keeps_end how.TooManyChallenges v = (refl, refl, refl, refl)
keeps_end how.Cancelled v = (refl, refl, refl, refl)

tells_outcome : (o : Outcome) (v : Event) → TellsOutcome o (outcome_told o v)
tells_outcome outcome.Success v = refl
tells_outcome (outcome.Refused code) v = (refl, refl)
tells_outcome outcome.Redirected v = (refl, refl)
tells_outcome (outcome.NotUnderstood kind) v = (refl, refl)
tells_outcome outcome.Malformed v = refl

tells_end : (e : RequestEnd) (v : Event) → TellsEnd e (end_told e v)
tells_end (how.Answered o by) v =
    ((keeps_outcome o (record v { signed_by = integrity_number by })).1, tells_outcome o _)
tells_end (how.TimedOut drops) v = (refl, refl)
tells_end how.Unauthorized v = refl
tells_end how.TooManyChallenges v = refl
tells_end how.Cancelled v = refl

handed_out : (bytes out after : List ℕ) (count : ℕ) → nat_lt (length out) (length bytes) ≡ false
    → count ≡ length bytes → after ≡ bytes ++ drop (length bytes) out
    → IsHandedOut bytes out after count
handed_out bytes out after count room is front =
    let fits : length bytes ≤ length out = ltb-false (length out) (length bytes) room in record {
      count_is = is;
      room = fits;
      rest = drop (length bytes) out;
      front = front;
      size = ap length front ∙ as_long bytes out fits;
    }

module _ (c : ClientSeen) (n : ℕ) (out after : List ℕ) (v event : Event) where
  tells_by : (says : Told) (b : Bool) → nat_lt (length out) (length (bytes_told c says)) ≡ b
      → event ≡ event_unless b (length (bytes_told c says)) (event_told c says v)
      → WritesTold b (bytes_told c says) (event_number says) (pos n) out after
      → TellsPoll c says n out after event
  tells_by says true room is call = no_refusal n r.BufferTooSmall call.0
  tells_by (transmit number) false room is call = (
    same_number n 1 call.0,
    ap (λ (x : Event). x.request) is,
    handed_out (or_no_bytes (bytes_at number c.requests)) out after event.length room
        (ap (λ (x : Event). x.length) is) call.1,
  )
  tells_by (ends number x) false room is call =
      let keeps = keeps_end x.end _ in (
        same_number n 2 call.0,
        ap (λ (y : Event). y.request) is ∙ keeps.1,
        handed_out x.response out after event.length room
            (ap (λ (y : Event). y.length) is ∙ keeps.2) call.1,
        subst (TellsEnd x.end) (sym is) (tells_end x.end _),
        ap (λ (y : Event). y.round_trip) is ∙ keeps.3,
      )
  tells_by (waits until) false room is call =
      (same_number n 0 call.0, ap (λ (x : Event). x.until) is, call.1)

pub polled_if : (c : ClientSeen) (now n : ℕ) (out written : List ℕ) (v event : Event)
    (before after : Option Kept) (b : Bool)
    → PollsBy b now c (pos n) out written v event before after
    → TellsPoll (told now c).1 (told now c).0 n out written event
    × (after ≡ Some (kind.Client (told now c).1))
polled_if c now n out written v event before after true call = (
  tells_by (told now c).1 n out written v event (told now c).0 _ refl call.tells.0 call.tells.1,
  call.left_is,
)
polled_if c now n out written v event before after false call = no_refusal n r.BadArgument call.0

kind_told : (c : ClientSeen) (says : Told) (v : Event)
    → (event_told c says v).kind ≡ event_number says
kind_told c (transmit number) v = refl
kind_told c (ends number x) v = (keeps_end x.end _).0
kind_told c (waits until) v = refl

kind_by : (c : ClientSeen) (says : Told) (n count : ℕ) (out after : List ℕ) (v event : Event) (b : Bool)
    → event ≡ event_unless b count (event_told c says v)
    → WritesTold b (bytes_told c says) (event_number says) (pos n) out after → event.kind ≡ n
kind_by c says n count out after v event true is call = no_refusal n r.BufferTooSmall call.0
kind_by c says n count out after v event false is call =
    ap (λ (x : Event). x.kind) is ∙ kind_told c says v ∙ sym (same_number n _ call.0)

kind_if : (c : ClientSeen) (now n : ℕ) (out written : List ℕ) (v event : Event)
    (before after : Option Kept) (b : Bool)
    → PollsBy b now c (pos n) out written v event before after → event.kind ≡ n
kind_if c now n out written v event before after true call =
    kind_by (told now c).1 (told now c).0 n _ out written v event _ call.tells.0 call.tells.1
kind_if c now n out written v event before after false call = no_refusal n r.BadArgument call.0

pub poll_kind : (c : Result ClientSeen Refusal) (now n : ℕ) (out written : List ℕ) (v event : Event)
    (before after : Option Kept) → PollsAs c now (pos n) out written v event before after
    → event.kind ≡ n
poll_kind (Ok c) now n out written v event before after call =
    kind_if c now n out written v event before after (v.size == EVENT_SIZE) call
poll_kind (Err why) now n out written v event before after call = no_refusal n why call.0

-- ---- errors

starts_left : (x : Start) (result : ℤ) (id named : ℕ) (before after : Option Kept)
    → StartsAs x result id named before after → IsErrorNumber result
    → (after ≡ before) × (named ≡ id)
starts_left (Ok s) result id named before after call e = no_error_is result 0 call.0 e
starts_left (Err why) result id named before after call e = (call.2, call.1)

asks_left : (wanted : Result (Option Options) Refusal) (method : ℕ) (bytes : List ℕ) (now : ℕ)
    (c : ClientSeen) (result : ℤ) (id named : ℕ) (before after : Option Kept)
    → AsksWith wanted method bytes now c result id named before after → IsErrorNumber result
    → (after ≡ before) × (named ≡ id)
asks_left (Ok options) method bytes now c result id named before after (inl call) e =
    starts_left _ result id named before after call.starts e
asks_left (Ok options) method bytes now c result id named before after (inr failed) e =
    (failed.2, failed.1)
asks_left (Err why) method bytes now c result id named before after call e = (call.2, call.1)

asked_left : (b : Bool) (method : ℕ) (bytes : List ℕ) (given : Option RequestOptions) (now : ℕ)
    (c : ClientSeen) (result : ℤ) (id named : ℕ) (before after : Option Kept)
    → AsksBy b method bytes given now c result id named before after → IsErrorNumber result
    → (after ≡ before) × (named ≡ id)
asked_left true method bytes given now c result id named before after call e = (call.2, call.1)
asked_left false method bytes given now c result id named before after call e =
    asks_left (options_if_any given c) method bytes now c result id named before after call e

pub request_left : (c : Result ClientSeen Refusal) (method : ℕ) (bytes : List ℕ)
    (given : Option RequestOptions) (now : ℕ) (result : ℤ) (id named : ℕ)
    (before after : Option Kept)
    → AsksAs c method bytes given now result id named before after → IsErrorNumber result
    → (after ≡ before) × (named ≡ id)
request_left (Ok c) method bytes given now result id named before after call e =
    asked_left (nat_lt 4095 method) method bytes given now c result id named before after call e
request_left (Err why) method bytes given now result id named before after call e =
    (call.2, call.1)

heard_left : (o : Option SocketAddr) (bytes : List ℕ) (now : ℕ) (c : ClientSeen) (result : ℤ)
    (why told : ℕ) (before after : Option Kept)
    → HearsFrom o bytes now c result why told before after → IsErrorNumber result
    → (after ≡ before) × (told ≡ why)
heard_left None bytes now c result why told before after call e = (call.2, call.1)
heard_left (Some address) bytes now c result why told before after call e =
    no_error_is result (received_number call.answer.0) call.number e

pub datagram_left : (c : Result ClientSeen Refusal) (from : Address) (bytes : List ℕ) (now : ℕ)
    (result : ℤ) (why told : ℕ) (before after : Option Kept)
    → HearsAs c from bytes now result why told before after → IsErrorNumber result
    → (after ≡ before) × (told ≡ why)
datagram_left (Ok c) from bytes now result why told before after call e =
    heard_left (socket_address from) bytes now c result why told before after call e
datagram_left (Err refusal) from bytes now result why told before after call e = (call.2, call.1)

no_error_bit : {A : Type 0} (b : Bool) (result : ℤ) → result ≡ bit b → IsErrorNumber result → A
no_error_bit true result is e = no_error_is result 1 is e
no_error_bit false result is e = no_error_is result 0 is e

pub cancel_left : (c : Result ClientSeen Refusal) (number : ℕ) (result : ℤ)
    (before after : Option Kept) → CancelsAs c number result before after → IsErrorNumber result
    → after ≡ before
cancel_left (Ok c) number result before after call e = no_error_bit _ result call.0 e
cancel_left (Err why) number result before after call e = call.1

written_left : {A : Type 0} (b : Bool) (bytes : List ℕ) (n : ℕ) (result : ℤ) (out after : List ℕ)
    → WritesTold b bytes n result out after → IsErrorNumber result
    → result ≢ refusal_number r.BufferTooSmall → A
written_left true bytes n result out after call e other = absurd (other call.0)
written_left false bytes n result out after call e other = no_error_is result n call.0 e

polls_left : (b : Bool) (now : ℕ) (c : ClientSeen) (result : ℤ) (out written : List ℕ) (v event : Event)
    (before after : Option Kept) → PollsBy b now c result out written v event before after
    → IsErrorNumber result → result ≢ refusal_number r.BufferTooSmall
    → (after ≡ before) × (event ≡ v)
polls_left true now c result out written v event before after call e other =
    written_left _ _ _ result out written call.tells.1 e other
polls_left false now c result out written v event before after call e other = (call.3, call.2)

pub poll_left : (c : Result ClientSeen Refusal) (now : ℕ) (result : ℤ) (out written : List ℕ)
    (v event : Event) (before after : Option Kept)
    → PollsAs c now result out written v event before after → IsErrorNumber result
    → result ≢ refusal_number r.BufferTooSmall → (after ≡ before) × (event ≡ v)
poll_left (Ok c) now result out written v event before after call e other =
    polls_left (v.size == EVENT_SIZE) now c result out written v event before after call e other
poll_left (Err why) now result out written v event before after call e other = (call.3, call.2)

abbrev IsFailed : List ℕ → List ℕ → Event → Type 0
IsFailed out written event = (written ≡ out) × (event.kind ≡ 7) × (event.length ≡ 0)

failed_as : (out written : List ℕ) (v event : Event) → written ≡ out → event ≡ event_failed v
    → IsFailed out written event
failed_as out written v event same is =
    (same, ap (λ (x : Event). x.kind) is, ap (λ (x : Event). x.length) is)

failed_by : (b : Bool) (count n : ℕ) (bytes : List ℕ) (result : ℤ) (out written : List ℕ)
    (v event : Event) → event ≡ event_unless b count v → WritesTold b bytes n result out written
    → IsErrorNumber result → IsFailed out written event
failed_by true count n bytes result out written v event is call e =
    (call.1, ap (λ (x : Event). x.kind) is, ap (λ (x : Event). x.length) is)
failed_by false count n bytes result out written v event is call e =
    no_error_is result n call.0 e

failed_if : (b : Bool) (now : ℕ) (c : ClientSeen) (result : ℤ) (out written : List ℕ) (v event : Event)
    (before after : Option Kept)
    → PollsBy b now c result out written (event_failed v) event before after
    → IsErrorNumber result → IsFailed out written event
failed_if true now c result out written v event before after call e =
    failed_by _ _ _ _ result out written _ event call.tells.0 call.tells.1 e
failed_if false now c result out written v event before after call e =
    failed_as out written v event call.1 call.2

pub poll_failed : (c : Result ClientSeen Refusal) (now : ℕ) (result : ℤ) (out written : List ℕ)
    (v event : Event) (before after : Option Kept)
    → PollsAs c now result out written (event_failed v) event before after → IsErrorNumber result
    → (written ≡ out) × (event.kind ≡ 7) × (event.length ≡ 0)
poll_failed (Ok c) now result out written v event before after call e =
    failed_if ((event_failed v).size == EVENT_SIZE) now c result out written v event before after
    call e
poll_failed (Err why) now result out written v event before after call e =
    failed_as out written v event call.1 call.2

-- how far a number is below 0
abbrev depth : ℤ → ℕ
depth (pos n) = 0
depth (negsuc n) = n

lost_by : (b : Bool) (n : ℕ) (bytes : List ℕ) (out written : List ℕ) (v event : Event)
    → nat_lt (length out) (length bytes) ≡ b → event ≡ event_unless b (length bytes) v
    → WritesTold b bytes n (refusal_number r.BufferTooSmall) out written
    → length out < event.needed
lost_by true n bytes out written v event room is call =
    let more : length out < length bytes = ltb-true (length out) (length bytes) room in
    let needs : event.needed ≡ length bytes = ap (λ (x : Event). x.needed) is in
    omega (arith, more, needs)
lost_by false n bytes out written v event room is call =
    no_refusal n r.BufferTooSmall (sym call.0)

pub lost_if : (b : Bool) (c : ClientSeen) (now : ℕ) (out written : List ℕ) (v event : Event)
    (before after : Option Kept)
    → PollsBy b now c (refusal_number r.BufferTooSmall) out written v event before after
    → (length out < event.needed) × (after ≡ Some (kind.Client (told now c).1))
lost_if true c now out written v event before after call =
    (lost_by _ _ _ out written _ event refl call.tells.0 call.tells.1, call.left_is)
lost_if false c now out written v event before after call =
    let e : 9 ≡ 6 = ap depth call.0 in absurd (omega (arith, e))

-- ---- reasons

abbrev reason_numbered : ℕ → Option DropReason
reason_numbered n =
    if n == 3 then Some reason.WrongFingerprint
    else if n == 13 then Some reason.MissingFingerprint
    else if n == 9 then Some reason.NotVerified
    else if n == 10 then Some reason.UnanswerableChallenge
    else if n == 11 then Some reason.WeakerChallenge
    else if n == 12 then Some reason.OutOfMemory
    else if n == 14 then Some reason.LateChallenge
    else if n == 15 then Some reason.Refused else None

reason_again : (why : DropReason) → reason_numbered (drop_told why) ≡ Some why
reason_again reason.WrongFingerprint = refl
reason_again reason.MissingFingerprint = refl
reason_again reason.NotVerified = refl
reason_again reason.UnanswerableChallenge = refl
reason_again reason.WeakerChallenge = refl
reason_again reason.OutOfMemory = refl
reason_again reason.LateChallenge = refl
reason_again reason.Refused = refl

same_reason : (one other : DropReason) → Some one ≡ Some other → one ≡ other
same_reason one other is = cc

pub reasons_apart : (one other : DropReason) → drop_told one ≡ drop_told other → one ≡ other
reasons_apart one other is =
    same_reason one other
    (sym (reason_again one) ∙ ap reason_numbered is ∙ reason_again other)
