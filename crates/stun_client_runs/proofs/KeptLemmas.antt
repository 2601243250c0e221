-- Every sequence of calls leaves a client in order.
use Rattle.std.proofs.Common.{◌≡◌, ◌≤◌, ℕ, Bool, List, Option, Some, None, Ok, Err, ap, arith}
use Rattle.std.proofs.Common.{refl}
use Rattle.std.proofs.Common.{subst, sym}
use Rattle.std.specs.declared.net.socket_addr.SocketAddr.{SocketAddr}
use Rattle.stun_base.specs.declared.wire.attribute_type.AttributeType.{AttributeType}
use Rattle.stun_base.specs.declared.wire.transport.TransportType.{TransportType}
use Rattle.stun_agent.specs.Timing.{Settings}
use Rattle.stun_client.specs.Ids.{id_of}
use Rattle.stun_client.specs.Judging.{Identity}
use Rattle.stun_client_endpoint.specs.Bodies.{Body}
use Rattle.stun_client_endpoint.specs.Written.{Form, Page?}
use Rattle.stun_client_endpoint.specs.declared.ended.RequestEnd.TheVariants as how
use Rattle.stun_client_requests.specs.Requests.{after_canceling, datum_of}
use Rattle.stun_client_calls.specs.Clients.{Client, Poll, cancelled, chosen, first_message}
use Rattle.stun_client_calls.specs.Clients.{new_client}
use Rattle.stun_client_calls.specs.Clients.{started, started_at, started_with}
use Rattle.stun_client_calls.specs.Clients.{first_asked, forgetting}
use Rattle.stun_client_calls.specs.Endpoints.{EndSeen, bare_end}
use Rattle.stun_client_calls.specs.Options.{Options}
use Rattle.stun_client_calls.specs.Runs.{Call, Calls, Event, call, changes_nothing, ends_one}
use Rattle.stun_client_calls.specs.Runs.{no_call}
use Rattle.stun_client_calls.specs.Runs.{polls, receives, requests}
use Rattle.stun_client_calls.specs.Messages.{AskedSeen}
use Rattle.stun_client_calls.proofs.EachLemmas.{cancel_each}
use Rattle.stun_client_calls.proofs.HeardLemmas.{chosen_is_free}
use Rattle.stun_client_runs.specs.Kept.{IsClient}
use Rattle.stun_client_runs.specs.Noted.{AreNoted, AreRanked, NotesMessages}
use Rattle.stun_client_runs.proofs.ChangeLemmas.{none_at, started_client, there_by_datum}
use Rattle.stun_client_runs.proofs.EachLemmas.{IsAfter, Was, after_around, was_same}
use Rattle.stun_client_runs.proofs.EntryLemmas.{no_keys}
use Rattle.stun_client_runs.proofs.NotedLemmas.{noted_put}
use Rattle.stun_client_runs.proofs.PollLemmas.{canceling_client, canceling_noted, told_after}
use Rattle.stun_client_runs.proofs.ReceivingLemmas.{heard_after}

pub new_is : (transport : TransportType) (server : SocketAddr) (counts requires_fingerprint : Bool)
    (identity : Identity) (form : Form) (understood : List AttributeType) (turns : ℕ)
    (plan : Settings) (seed : List ℕ)
    → IsClient
    (new_client transport server counts requires_fingerprint identity form understood turns plan
    seed)
new_is transport server counts requires_fingerprint identity form understood turns plan
    seed = record {
      requests = record {
        one = record {
          in_order = no_keys;
          named = λ id number there. cc;
          timed = λ number id there. cc;
          fresh = λ number high. refl;
        };
        ascending = no_keys;
      };
      timers = no_keys;
      owned = λ id t there. cc;
      in_order = no_keys;
      unsent = λ number hit. cc;
      server = refl;
      current = λ id q there. cc;
      earlier = λ id q there. cc;
    }

pub started_is : (method : ℕ) (body : Body) (options : Option Options) (now : ℕ) (c : Client)
    → IsClient c → IsClient (started method body options now c)
started_is method body options now c is = by (chosen c) refl
  where
    written : (number : ℕ) → chosen c ≡ Some number → (page : Page?)
        → first_message c method number body options ≡ page
        → IsClient (started_with c number method body options now page)
    written number some (Err why) page = is
    written number some (Ok bytes) page =
        started_client c number method body options bytes now is some page

    by : (o : Option ℕ) → chosen c ≡ o → IsClient (started_at c method body options now o)
    by None some = is
    by (Some number) some = written number some (first_message c method number body options) refl

pub cancelled_after : (number : ℕ) (a : AskedSeen) (c : Client) → IsClient c
    → datum_of number c.requests ≡ Some a → IsAfter c (cancelled number c)
cancelled_after number a c is some =
    after_around c (after_canceling number last c.requests) c.standing c.next_id
    (forgetting (datum_of number c.requests) c.earlier) (canceling_client number last c is)
    (cancel_each (Was c) c.requests (was_same c) is.requests.one.in_order number last)
    (λ notes.
    subst (λ (o : Option AskedSeen). AreNoted c.turns (forgetting o c.earlier)
    (after_canceling number last c.requests).table.attached) (sym some)
    (canceling_noted number last c a is (there_by_datum c.requests number a is.requests some)
    notes))
  where
    last : EndSeen
    last = bare_end how.Cancelled

pub call_is : (c after : Client) (event : Event) → IsClient c → Call c event after → IsClient after
call_is c after event is (requests _ _ method body options now low none made) =
    subst IsClient (sym made) (started_is method body options now c is)
call_is c after event is (receives _ _ from bytes now answer low heard made) =
    subst IsClient (sym made) (heard_after from bytes now c answer is heard).client
call_is c after event is (polls _ _ now says said) =
    subst IsClient (ap (λ (p : Poll). p.1) said) (told_after now c is).client
call_is c after event is (ends_one _ _ number a some made) =
    subst IsClient (sym made) (cancelled_after number a c is some).client
call_is c after event is (changes_nothing _) = is

pub stays_kept : (c after : Client) (events : List Event) → IsClient c → Calls c events after
    → IsClient after
stays_kept c after events is (no_call _) = is
stays_kept c after events is (call _ next _ event others made rest) =
    stays_kept next after others (call_is c next event is made) rest

-- ---- what is noted

pub new_noted : (transport : TransportType) (server : SocketAddr)
    (counts requires_fingerprint : Bool) (identity : Identity) (form : Form)
    (understood : List AttributeType) (turns : ℕ) (plan : Settings) (seed : List ℕ)
    → turns ≤ 4294967295
    → NotesMessages
    (new_client transport server counts requires_fingerprint identity form understood turns plan
    seed)
new_noted transport server counts requires_fingerprint identity form understood turns plan seed
    low = record {
      limit = low;
      in_order = no_keys;
      ranked = λ id q there. cc;
      noted = λ id number there. cc;
    }

started_noted : (method : ℕ) (body : Body) (options : Option Options) (now : ℕ) (c : Client)
    → NotesMessages c → NotesMessages (started method body options now c)
started_noted method body options now c notes = by (chosen c) refl
  where
    first : AreRanked c.turns (first_asked c method body options now)
    first = record {
      ascending = no_keys;
      turns = omega arith;
      current = omega arith;
      apart = refl;
      above = λ rank s there. cc;
    }

    written : (number : ℕ) → chosen c ≡ Some number → (page : Page?)
        → NotesMessages (started_with c number method body options now page)
    written number some (Err why) = notes
    written number some (Ok bytes) =
        noted_put c.turns c.earlier c.requests.table.attached notes (id_of c.seed number)
        (record { number = c.requests.next; datum = first_asked c method body options now })
        (none_at (id_of c.seed number) c.requests.table.attached (chosen_is_free c number some)) first

    by : (o : Option ℕ) → chosen c ≡ o → NotesMessages (started_at c method body options now o)
    by None some = notes
    by (Some number) some = written number some (first_message c method number body options)

call_noted : (c after : Client) (event : Event) → IsClient c → NotesMessages c
    → Call c event after → NotesMessages after
call_noted c after event is notes (requests _ _ method body options now low none made) =
    subst NotesMessages (sym made) (started_noted method body options now c notes)
call_noted c after event is notes (receives _ _ from bytes now answer low heard made) =
    subst NotesMessages (sym made) ((heard_after from bytes now c answer is heard).noted notes)
call_noted c after event is notes (polls _ _ now says said) =
    subst NotesMessages (ap (λ (p : Poll). p.1) said) ((told_after now c is).noted notes)
call_noted c after event is notes (ends_one _ _ number a some made) =
    subst NotesMessages (sym made) ((cancelled_after number a c is some).noted notes)
call_noted c after event is notes (changes_nothing _) = notes

pub stays_noted : (c after : Client) (events : List Event) → IsClient c → NotesMessages c
    → Calls c events after → NotesMessages after
stays_noted c after events is notes (no_call _) = notes
stays_noted c after events is notes (call _ next _ event others made rest) =
    stays_noted next after others (call_is c next event is made)
    (call_noted c next event is notes made) rest
