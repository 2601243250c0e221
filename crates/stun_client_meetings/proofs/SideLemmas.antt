-- Every sequence of calls leaves the server, user, form and FINGERPRINT of a client as they are.
use Rattle.std.proofs.Common.{◌≡◌, ◌∙◌, ℕ, Bool, true, false, List, [], ◌∷◌, Option, Some, None, Ok}
use Rattle.std.proofs.Common.{Err}
use Rattle.std.proofs.Common.{ap, cond, refl, sym}
use Rattle.std.specs.Option.{is_some}
use Rattle.std.specs.declared.net.socket_addr.SocketAddr.{SocketAddr}
use Rattle.stun_base.specs.MessageType.{class_in}
use Rattle.stun_base.specs.declared.wire.message_type.MessageClass.{MessageClass}
use Rattle.stun_base.specs.declared.wire.message_type.MessageClass.TheVariants as Classes
use Rattle.stun_types.specs.Message.{refusal}
use Rattle.stun_extra.specs.CanonicalAddress.{is_same_address}
use Rattle.stun_client.specs.Challenges.{Answered}
use Rattle.stun_client.specs.Judging.{Identity}
use Rattle.stun_client_endpoint.specs.Bodies.{Body}
use Rattle.stun_client_endpoint.specs.Written.{Form, Page?}
use Rattle.stun_client_endpoint.specs.declared.told.Received.TheVariants.{Indication, NotOurs}
use Rattle.stun_client_requests.specs.Requests.{datum_of, polled}
use Rattle.stun_client_requests.specs.declared.requests.Polled.{Polled as OfRequests}
use Rattle.stun_client_requests.specs.declared.requests.Polled.TheVariants as Of
use Rattle.stun_client_calls.specs.Clients.{Client, Poll, by_polled, chosen, first_message}
use Rattle.stun_client_calls.specs.Clients.{given_up}
use Rattle.stun_client_calls.specs.Clients.{handed_out_of, sent_by, started, started_at}
use Rattle.stun_client_calls.specs.Clients.{started_with}
use Rattle.stun_client_calls.specs.Clients.{told, with_requests}
use Rattle.stun_client_calls.specs.Deciding.{DecisionSeen, answered, drops, refuses, turns}
use Rattle.stun_client_calls.specs.Deciding.{challenged_out}
use Rattle.stun_client_calls.specs.Endpoints.{EndSeen}
use Rattle.stun_client_calls.specs.Messages.{AskedSeen, is_late}
use Rattle.stun_client_calls.specs.Options.{Options}
use Rattle.stun_client_calls.specs.Receiving.{Answer, Memory, Met, Spot, UnlessMemory, as_expected}
use Rattle.stun_client_calls.specs.Receiving.{by_class, by_decision, by_met, decision_for, forgone}
use Rattle.stun_client_calls.specs.Receiving.{heard_in, received, spot_of, turned_at, turned_by}
use Rattle.stun_client_calls.specs.Receiving.{without_memory}
use Rattle.stun_client_calls.specs.Runs.{Call, Calls, Event, call, changes_nothing, ends_one}
use Rattle.stun_client_calls.specs.Runs.{no_call, polls, receives, requests}
use Rattle.stun_client_calls.specs.Writing.{message_bytes}
use Rattle.stun_client_calls.specs.declared.turning.Why.{Why}

-- ---- what stays

abbrev pub Parts : Type 0
Parts = SocketAddr × Identity × Bool × Form

abbrev pub parts : Client → Parts
parts c = (c.server, c.identity, c.requires_fingerprint, c.form)

-- ---- polls

handed_parts : (now number : ℕ) (c : Client) (o : Option AskedSeen)
    → parts (handed_out_of now number c o).1 ≡ parts c
handed_parts now number c None = refl
handed_parts now number c (Some a) = by (is_late now a)
  where
    by : (b : Bool) → parts (cond b (given_up number a c) (sent_by now number c)).1 ≡ parts c
    by true = refl
    by false = refl

polled_parts : (now : ℕ) (c : Client) (says : OfRequests AskedSeen EndSeen)
    → parts (by_polled now c says).1 ≡ parts c
polled_parts now c (Of.Transmit number) = handed_parts now number c (datum_of number c.requests)
polled_parts now c (Of.Ended number end) = refl
polled_parts now c (Of.TimedOut number a) = refl
polled_parts now c (Of.Wait until) = refl

told_parts : (now : ℕ) (c : Client) → parts (told now c).1 ≡ parts c
told_parts now c =
    polled_parts now (with_requests (polled now c.requests).1 c) (polled now c.requests).0

-- ---- datagrams

module _ (memory : Memory) (now : ℕ) (bytes : List ℕ) (c : Client) where
  turned_parts : (m : Met) (why : Why) (d : Option Answered) (o : Option Spot)
      → parts (turned_at memory c now bytes m why d o).1 ≡ parts c
  turned_parts m why d None = refl
  turned_parts m why d (Some s) = by (message_bytes c.form c.identity d s.id m.asked)
    where
      by : (page : Page?) → parts (turned_by memory c now bytes m why d s page).1 ≡ parts c
      by (Err refused) = refl
      by (Ok message) = refl

  decision_parts : (m : Met) (d : DecisionSeen)
      → parts (by_decision memory c now bytes m d).1 ≡ parts c
  decision_parts m (answered by) = refl
  decision_parts m challenged_out = refl
  decision_parts m (turns why place d) = turned_parts m why d (spot_of c m.asked place)
  decision_parts m refuses = refl
  decision_parts m (drops why) = refl

  met_parts : (o : Option Met) → parts (by_met memory c now bytes o).1 ≡ parts c
  met_parts None = refl
  met_parts (Some m) = decision_parts m (decision_for c now bytes m)

  abbrev nothing : Answer
  nothing = (NotOurs, c)

  abbrev indication : Answer
  indication = (Indication bytes, c)

  module _ (from : SocketAddr) where
    indicated_parts : (b : Bool) → parts (cond b indication nothing).1 ≡ parts c
    indicated_parts true = refl
    indicated_parts false = refl

    class_parts : (class : MessageClass)
        → parts (by_class memory from c now bytes class).1 ≡ parts c
    class_parts Classes.Request = refl
    class_parts Classes.Indication = indicated_parts (is_same_address from c.server)
    class_parts Classes.Success = met_parts (heard_in from bytes c)
    class_parts Classes.Error = met_parts (heard_in from bytes c)

    received_parts : parts (received memory from bytes now c).1 ≡ parts c
    received_parts = by (is_some (refusal bytes))
      where
        by : (r : Bool)
            → parts (cond r nothing (by_class memory from c now bytes (class_in bytes))).1 ≡ parts c
        by true = refl
        by false = class_parts (class_in bytes)

forgone_parts : (bytes : List ℕ) (c : Client) (o : Option Met)
    → parts (without_memory bytes c o).1 ≡ parts c
forgone_parts bytes c None = refl
forgone_parts bytes c (Some m) = refl

receives_parts : (from : SocketAddr) (bytes : List ℕ) (now : ℕ) (c : Client) (answer : Answer)
    → UnlessMemory (λ memory. received memory from bytes now c) bytes (heard_in from bytes c) c
    answer
    → parts answer.1 ≡ parts c
receives_parts from bytes now c answer (as_expected memory is) =
    ap (λ (x : Answer). parts x.1) is ∙ received_parts memory now bytes c from
receives_parts from bytes now c answer (forgone is) =
    ap (λ (x : Answer). parts x.1) is ∙ forgone_parts bytes c (heard_in from bytes c)

-- ---- any call

started_parts : (method : ℕ) (body : Body) (options : Option Options) (now : ℕ) (c : Client)
    → parts (started method body options now c) ≡ parts c
started_parts method body options now c = by (chosen c)
  where
    page_is : (number : ℕ) (page : Page?)
        → parts (started_with c number method body options now page) ≡ parts c
    page_is number (Err why) = refl
    page_is number (Ok bytes) = refl

    by : (o : Option ℕ) → parts (started_at c method body options now o) ≡ parts c
    by None = refl
    by (Some number) = page_is number (first_message c method number body options)

call_parts : (c after : Client) (event : Event) → Call c event after → parts after ≡ parts c
call_parts c after event (requests _ _ method body options now low none so) =
    ap parts so ∙ started_parts method body options now c
call_parts c after event (receives _ _ from bytes now answer low made so) =
    ap parts so ∙ receives_parts from bytes now c answer made
call_parts c after event (polls _ _ now says said) =
    sym (ap (λ (p : Poll). parts p.1) said) ∙ told_parts now c
call_parts c after event (ends_one _ _ number a out so) = ap parts so
call_parts c after event (changes_nothing _) = refl

calls_parts : (c after : Client) (events : List Event) → Calls c events after
    → parts after ≡ parts c
calls_parts c after events (no_call _) = refl
calls_parts c after events (call _ next _ event others made rest) =
    calls_parts next after others rest ∙ call_parts c next event made

-- from before the start of a request on
pub since_start : (c later : Client) (method : ℕ) (body : Body) (options : Option Options)
    (start : ℕ) (events : List Event) → Calls (started method body options start c) events later
    → parts later ≡ parts c
since_start c later method body options start events calls =
    calls_parts (started method body options start c) later events calls
    ∙ started_parts method body options start c

-- ---- one call more

pub with_event : List Event → Event → List Event
with_event [] last = last ∷ []
with_event (event ∷ events) last = event ∷ with_event events last

pub one_more : (c later next : Client) (events : List Event) (last : Event) → Calls c events later
    → Call later last next → Calls c (with_event events last) next
unfolding with_event
one_more c later next events last (no_call _) made = call later next next last [] made (no_call
    next)
one_more c later next events last (call _ mid _ event others first rest) made =
    call c mid next event (with_event others last) first (one_more mid later next others last rest
    made)
