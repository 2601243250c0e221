-- A client of one server whose requests are each stored once, and how each call changes it (RFC
-- 8489, sections 6.2, 6.3 and 9.2.5).
use Rattle.std.specs.Prelude.{ℕ, ◌+◌, Bool, List, [], if◌then◌else◌, Option, Some, None}
use Rattle.std.specs.Prelude.{Ok, Err}
use Rattle.std.specs.Option.{is_none, option_map, option_map_or}
use Rattle.std.specs.declared.net.socket_addr.SocketAddr.{SocketAddr}
use Rattle.stun_base.specs.Moments.{moment_after}
use Rattle.stun_base.specs.declared.wire.attribute_type.AttributeType.{AttributeType}
use Rattle.stun_base.specs.declared.wire.transport.TransportType.{TransportType}
use Rattle.stun_agent.specs.Timing.{Settings}
use Rattle.stun_client.specs.Ids.{id_of}
use Rattle.stun_client.specs.Judging.{Identity}
use Rattle.stun_client.specs.Standing.{StandingSeen, new_standing}
use Rattle.stun_client_endpoint.specs.Bodies.{Body}
use Rattle.stun_client_endpoint.specs.Settings.{plan_of}
use Rattle.stun_client_endpoint.specs.Written.{Form, Page?, is_text_too_long, request_bytes}
use Rattle.stun_client_endpoint.specs.declared.ended.RequestEnd.TheVariants as how
use Rattle.stun_client_endpoint.specs.declared.told.RequestError.{RequestError}
use Rattle.stun_client_endpoint.specs.declared.told.RequestError.TheVariants as Errors
use Rattle.stun_client_requests.specs.Requests.{RequestsSeen, after_canceling, after_removing}
use Rattle.stun_client_requests.specs.Requests.{after_replacing, after_start, datum_of}
use Rattle.stun_client_requests.specs.Requests.{new_requests, polled, start_refusal}
use Rattle.stun_client_requests.specs.declared.requests.Polled.{Polled as OfRequests}
use Rattle.stun_client_requests.specs.declared.requests.Polled.TheVariants as Of
use Rattle.stun_client_requests.specs.declared.requests.StartRefusal.{StartRefusal}
use Rattle.stun_client_requests.specs.declared.requests.StartRefusal.TheVariants as Refusals
use Rattle.stun_client_calls.specs.Endpoints.{EndSeen, bare_end, without_all}
use Rattle.stun_client_calls.specs.Ids.{Earlier, free_number}
use Rattle.stun_client_calls.specs.declared.told.Polled.{Polled}
use Rattle.stun_client_calls.specs.declared.told.Polled.TheVariants as Polleds
use Rattle.stun_client_calls.specs.Messages.{AskedSeen, is_late, new_asked, noting, refusing}
use Rattle.stun_client_calls.specs.Messages.{sent_out, stepped_back}
use Rattle.stun_client_calls.specs.Options.{Options, address_by, challenge_by, identity_by, plan_by}
use Rattle.stun_client_calls.specs.declared.asked.Change.{Change}
use Rattle.stun_client_calls.specs.declared.asked.Change.TheVariants.{Noted, Refused, SentOut}

-- A client has:
--
-- - the address of the server, and whether each response must have a FINGERPRINT;
-- - what each request has besides its body, and the types of attributes that are understood;
-- - the limit on how often another message of a request becomes the current one;
-- - the plan of each message;
-- - the seed of the transaction IDs, and the number of the next one;
-- - how the client proves who it is;
-- - the challenge that new requests are signed for;
-- - the requests, and the request that each earlier message belongs to, by transaction ID.
pub record Client : Type 0 where
  pub server : SocketAddr
  pub requires_fingerprint : Bool
  pub form : Form
  pub understood : List AttributeType
  pub turns : ℕ
  pub plan : Settings
  pub seed : List ℕ
  pub next_id : ℕ
  pub identity : Identity
  pub standing : StandingSeen
  pub requests : RequestsSeen AskedSeen EndSeen
  pub earlier : Earlier

-- a client that has no requests yet
abbrev pub new_client : TransportType → SocketAddr → Bool → Bool → Identity → Form → List AttributeType
    → ℕ → Settings → List ℕ → Client
new_client transport server counts requires_fingerprint identity form understood turns plan seed =
    record {
      server = server;
      requires_fingerprint = requires_fingerprint;
      form = form;
      understood = understood;
      turns = turns;
      plan = plan;
      seed = seed;
      next_id = 0;
      identity = identity;
      standing = new_standing;
      requests = new_requests transport server counts;
      earlier = [];
    }

abbrev pub with_requests : RequestsSeen AskedSeen EndSeen → Client → Client
with_requests requests c = record c { requests = requests }

-- ---- options

-- the identity of a client for a request, the plan of its messages, and the address that its
-- responses come from
abbrev pub identity_for : Client → AskedSeen → Identity
identity_for c a = identity_by a.options c.identity

abbrev pub plan_for : Client → AskedSeen → Settings
plan_for c a = plan_by a.options c.plan

abbrev pub address_for : Client → AskedSeen → SocketAddr
address_for c a = address_by a.options c.server

-- ---- requests

-- the number of the transaction ID of the next message
abbrev pub chosen : Client → Option ℕ
chosen c = free_number c.seed c.requests.table.attached c.earlier c.next_id

-- a new request is signed for the standing challenge, unless it is not signed
abbrev pub first_message : Client → ℕ → ℕ → Body → Option Options → Page?
first_message c method number body options =
    request_bytes c.form (identity_by options c.identity) (challenge_by options c.standing.current)
    method (id_of c.seed number) body

-- why a request is not started, given why it is not stored
abbrev pub error_of : StartRefusal → RequestError
error_of Refusals.IdTaken = Errors.NoId
error_of Refusals.NoNumber = Errors.NoId
error_of Refusals.OutOfMemory = Errors.OutOfMemory

abbrev pub refusal_of_page : Client → ℕ → Page? → Option RequestError
refusal_of_page c number (Err why) = Some Errors.TooLarge
refusal_of_page c number (Ok bytes) =
    option_map error_of (start_refusal c.requests (id_of c.seed number))

abbrev pub refusal_of_number : Client → ℕ → Body → Option Options → Option ℕ → Option RequestError
refusal_of_number c method body options None = Some Errors.NoId
refusal_of_number c method body options (Some number) =
    refusal_of_page c number (first_message c method number body options)

-- why a request is not started, the first reason that applies: no ID is left, the message cannot be
-- written, or no number is left
abbrev pub refusal_to_start : Client → ℕ → Body → Option Options → Option RequestError
refusal_to_start c method body options = refusal_of_number c method body options (chosen c)

-- the reasons among these that need no memory to be known: no ID is left, or SOFTWARE is too long
abbrev pub refusal_at_once : Client → Option RequestError
refusal_at_once c =
    if is_none (chosen c) then Some Errors.NoId
    else if is_text_too_long c.form.software then Some Errors.TooLarge else None

-- what is stored of a request that starts: its first plan ends once a whole plan has passed
abbrev pub first_asked : Client → ℕ → Body → Option Options → ℕ → AskedSeen
first_asked c method body options now =
    new_asked method body options (moment_after now (plan_of (plan_by options c.plan)))
    (challenge_by options c.standing.current)

-- a request is started, with these bytes as its first message and the ID of this number
abbrev pub started_by : Client → ℕ → ℕ → Body → Option Options → List ℕ → ℕ → Client
started_by c number method body options bytes now = record c {
  next_id = number + 1;
  requests = after_start (id_of c.seed number) bytes (plan_by options c.plan)
      (first_asked c method body options now) now c.requests;
}

abbrev pub started_with : Client → ℕ → ℕ → Body → Option Options → ℕ → Page? → Client
started_with c number method body options now (Err why) = c
started_with c number method body options now (Ok bytes) =
    started_by c number method body options bytes now

abbrev pub started_at : Client → ℕ → Body → Option Options → ℕ → Option ℕ → Client
started_at c method body options now None = c
started_at c method body options now (Some number) =
    started_with c number method body options now (first_message c method number body options)

-- the client after a request is started
abbrev pub started : ℕ → Body → Option Options → ℕ → Client → Client
started method body options now c = started_at c method body options now (chosen c)

-- ---- changes of what is stored of a request

-- its bytes are returned, or a response to it is dropped, which may be the challenge that it was
-- signed for
abbrev pub changed : Change → AskedSeen → AskedSeen
changed (SentOut now) a = sent_out now a
changed (Noted why code) a = noting why code a
changed (Refused code) a = refusing code a

-- what is stored of an outstanding request is changed
abbrev pub changed_at : Change → ℕ → RequestsSeen AskedSeen EndSeen → RequestsSeen AskedSeen EndSeen
changed_at change number r =
    option_map_or (λ a. after_replacing number (changed change a) r) (datum_of number r) r

-- ---- ends

-- the transaction IDs of the earlier messages of a request that ends are forgotten
abbrev pub forgetting : Option AskedSeen → Earlier → Earlier
forgetting asked earlier = option_map_or (λ a. without_all a.earlier earlier) asked earlier

-- an outstanding request ends as canceled
abbrev pub cancelled : ℕ → Client → Client
cancelled number c = record c {
  requests = after_canceling number (bare_end how.Cancelled) c.requests;
  earlier = forgetting (datum_of number c.requests) c.earlier;
}

-- ---- polling

-- the result of a poll: the request whose bytes are to be sent, the end of a request, or until when
-- to wait, if any request is outstanding
pub data Told : Type 0 where
  transmit : ℕ → Told
  ends : ℕ → EndSeen → Told
  waits : Option ℕ → Told

-- the result of `poll`, as this type
abbrev pub told_of : {A : Type 0} → Polled A → Told
told_of (Polleds.Transmit number) = transmit number
told_of (Polleds.Ended number end) = ends number end
told_of (Polleds.Wait until) = waits until

-- the result of a poll, and the client after it
abbrev pub Poll : Type 0
Poll = Told × Client

-- a request has ended without an answer in time. The standing challenge may be forged
abbrev pub timed_out : ℕ → AskedSeen → Client → Poll
timed_out number a c = (
  ends number (bare_end (how.TimedOut a.drops)),
  record c {
    standing = stepped_back a c.standing;
    earlier = without_all a.earlier c.earlier;
  },
)

-- a request ends at once, because its first plan is over
abbrev pub given_up : ℕ → AskedSeen → Client → Poll
given_up number a c = timed_out number a (with_requests (after_removing number c.requests) c)

-- the bytes of a request are returned
abbrev pub sent_by : ℕ → ℕ → Client → Poll
sent_by now number c =
    (transmit number, with_requests (changed_at (SentOut now) number c.requests) c)

-- the bytes of a request are due. After its first plan they are no longer sent: the request ends
abbrev pub handed_out_of : ℕ → ℕ → Client → Option AskedSeen → Poll
handed_out_of now number c None = (transmit number, c)
handed_out_of now number c (Some a) =
    if is_late now a then given_up number a c else sent_by now number c

abbrev pub handed_out : ℕ → ℕ → Client → Poll
handed_out now number c = handed_out_of now number c (datum_of number c.requests)

abbrev pub by_polled : ℕ → Client → OfRequests AskedSeen EndSeen → Poll
by_polled now c (Of.Transmit number) = handed_out now number c
by_polled now c (Of.Ended number end) = (ends number end, c)
by_polled now c (Of.TimedOut number a) = timed_out number a c
by_polled now c (Of.Wait until) = (waits until, c)

-- the result of a poll: first bytes that were not returned yet, then bytes that are retransmitted,
-- then an end, then a request whose time is over, and then until when to wait
abbrev pub told : ℕ → Client → Poll
told now c =
    by_polled now (with_requests (polled now c.requests).1 c) (polled now c.requests).0
