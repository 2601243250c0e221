-- When the requests of a client end (RFC 8489, sections 6.2.1 and 9.2.5).
use Rattle.std.specs.Prelude.{◌≡◌, ◌<◌, ◌≤◌, ℕ, Bool, List, Option, None, Some}
use Rattle.std.specs.declared.net.socket_addr.SocketAddr.{SocketAddr}
use Rattle.stun_base.specs.Moments.{last_moment, moment_after}
use Rattle.stun_base.specs.declared.wire.attribute_type.AttributeType.{AttributeType}
use Rattle.stun_base.specs.declared.wire.transport.TransportType.{TransportType}
use Rattle.stun_agent.specs.Timing.{Settings}
use Rattle.stun_client.specs.Judging.{Identity}
use Rattle.stun_client_endpoint.specs.Bodies.{Body}
use Rattle.stun_client_endpoint.specs.Settings.{plan_of}
use Rattle.stun_client_endpoint.specs.Written.{Form}
use Rattle.stun_client_requests.specs.Laws.{IsOver, IsRequests}
use Rattle.stun_client_requests.specs.Requests.{datum_of}
use Rattle.stun_client_requests.specs.Timely.{IsInTime, IsTimely}
use Rattle.stun_client_requests.specs.declared.requests.Request.{Request}
use Rattle.stun_client_calls.specs.Clients.{Client, new_client, plan_for, refusal_to_start, started}
use Rattle.stun_client_calls.specs.Clients.{told, waits}
use Rattle.stun_client_calls.specs.Messages.{AskedSeen}
use Rattle.stun_client_calls.specs.Options.{Options, plan_by}
use Rattle.stun_client_calls.specs.Runs.{Call, Calls, Event, next_number}

-- when the first plan of a request ends
abbrev pub until_of : Request AskedSeen → ℕ
until_of q = q.datum.until

-- the plan of each message of a request
abbrev pub plan_in : Client → Request AskedSeen → Settings
plan_in c q = plan_for c q.datum

-- each outstanding request has a timer that follows its plan, and was sent for the last time no
-- later than the end of its first plan
abbrev pub IsPunctual : Client → Type 0
IsPunctual c = IsTimely (plan_in c) until_of c.requests

-- ---- what each call preserves

-- in a new client, each request is stored once, because it has no requests
abbrev pub BeginsStored : Type 0
BeginsStored = (transport : TransportType) (server : SocketAddr) (counts requires_fingerprint : Bool)
    (identity : Identity) (form : Form) (understood : List AttributeType) (turns : ℕ) (plan : Settings)
    (seed : List ℕ)
    → IsRequests
    (new_client transport server counts requires_fingerprint identity form understood turns plan
    seed).requests

-- each call preserves this property
abbrev pub StaysStored : Type 0
StaysStored = (c after : Client) (event : Event) → IsRequests c.requests → IsPunctual c
    → Call c event after → IsRequests after.requests

-- in a new client, all requests are punctual
abbrev pub BeginsPunctual : Type 0
BeginsPunctual = (transport : TransportType) (server : SocketAddr) (counts requires_fingerprint : Bool)
    (identity : Identity) (form : Form) (understood : List AttributeType) (turns : ℕ) (plan : Settings)
    (seed : List ℕ)
    → IsPunctual
    (new_client transport server counts requires_fingerprint identity form understood turns plan seed)

-- each call preserves this property
abbrev pub StaysPunctual : Type 0
StaysPunctual = (c after : Client) (event : Event) → IsRequests c.requests → IsPunctual c
    → Call c event after → IsPunctual after

-- the first plan of the request with this number ends at this time, if the request is outstanding
abbrev pub HasPlan : ℕ → ℕ → Client → Type 0
HasPlan number until c = (a : AskedSeen) → datum_of number c.requests ≡ Some a → a.until ≡ until

-- the first plan of a new request ends one plan after the start of the request
abbrev pub StartsPlan : Type 0
StartsPlan = (c : Client) (method : ℕ) (body : Body) (options : Option Options) (now : ℕ)
    → IsRequests c.requests
    → HasPlan (next_number c) (moment_after now (plan_of (plan_by options c.plan)))
    (started method body options now c)

-- no call changes the time at which the first plan of a request ends
abbrev pub KeepsPlan : Type 0
KeepsPlan = (c after : Client) (event : Event) (number until : ℕ) → IsRequests c.requests
    → IsPunctual c → number < c.requests.next → Call c event after → HasPlan number until c
    → HasPlan number until after

-- if a poll says to wait, then two plans of each request that is still outstanding have not passed
-- yet, and the wait ends no later than the end of its second plan
abbrev pub WaitsInTime : Type 0
WaitsInTime = (now : ℕ) (until : Option ℕ) (c after : Client) (number : ℕ) (a : AskedSeen)
    → IsPunctual c → told now c ≡ (waits until, after)
    → datum_of number after.requests ≡ Some a
    → IsInTime now (moment_after a.until (plan_of (plan_for c a))) until

-- ---- for a caller

-- the end of two plans, one after the other, from a time on (section 6.2.1)
abbrev pub two_plans_after : Settings → ℕ → ℕ
two_plans_after plan start = moment_after (moment_after start (plan_of plan)) (plan_of plan)

-- for every sequence of calls of a new client, one of which starts a request: the request is over
-- once two plans have passed since its start and a poll says to wait. Its end was returned, and
-- nothing of it is stored
abbrev pub EndsWithinTwoPlans : Type 0
EndsWithinTwoPlans = (transport : TransportType) (server : SocketAddr)
    (counts requires_fingerprint : Bool) (identity : Identity) (form : Form)
    (understood : List AttributeType) (turns : ℕ) (plan : Settings) (seed : List ℕ)
    (c later last : Client) (before between : List Event) (method : ℕ) (body : Body)
    (options : Option Options) (start now : ℕ) (until : Option ℕ)
    → Calls (new_client transport server counts requires_fingerprint identity form understood turns
    plan seed) before c
    → start ≤ last_moment → refusal_to_start c method body options ≡ None
    → Calls (started method body options start c) between later
    → two_plans_after (plan_by options plan) start ≤ now
    → told now later ≡ (waits until, last) → IsOver (next_number c) last.requests
