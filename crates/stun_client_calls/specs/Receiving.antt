-- What a client returns for a datagram, and the client after it (RFC 8489, sections 5, 6.3 and
-- 9.2.5).
use Rattle.std.specs.Prelude.{◌≡◌, ◌+◌, ◌&&◌, ◌||◌, ℕ, Bool, true, false, List, [], length, Option}
use Rattle.std.specs.Prelude.{if◌then◌else◌, Some, None, Ok, Err}
use Rattle.std.specs.BTreeMap.{insert_entry, is_at}
use Rattle.std.specs.Map.{remove_entry}
use Rattle.std.specs.Option.{is_none, is_some, option_and_then, option_map}
use Rattle.std.specs.Ordering.{nat_cmp}
use Rattle.std.specs.declared.net.socket_addr.SocketAddr.{SocketAddr}
use Rattle.stun_base.specs.Header.{transaction_id_field}
use Rattle.stun_base.specs.MessageType.{class_in}
use Rattle.stun_base.specs.declared.wire.message_type.MessageClass.{MessageClass}
use Rattle.stun_base.specs.declared.wire.message_type.MessageClass.TheVariants as Classes
use Rattle.stun_types.specs.Message.{refusal}
use Rattle.stun_extra.specs.CanonicalAddress.{is_same_address}
use Rattle.stun_judging.specs.Reading.{UNAUTHORIZED, is_code}
use Rattle.stun_client.specs.Challenges.{Answered}
use Rattle.stun_client.specs.Challenging.{code_in}
use Rattle.stun_client.specs.Standing.{answering, confirming}
use Rattle.stun_client.specs.Ids.{id_of}
use Rattle.stun_client.specs.Judging.{Verdict, judged, needs_memory}
use Rattle.stun_client.specs.Outcomes.{outcome_of}
use Rattle.stun_client.specs.Answers.{is_answer}
use Rattle.stun_client_endpoint.specs.Settings.{is_reliable}
use Rattle.stun_client_endpoint.specs.Written.{Page?}
use Rattle.stun_client_endpoint.specs.declared.ended.DropReason.{DropReason}
use Rattle.stun_client_endpoint.specs.declared.ended.DropReason.TheVariants as Reasons
use Rattle.stun_client_endpoint.specs.declared.ended.RequestEnd.{RequestEnd}
use Rattle.stun_client_endpoint.specs.declared.ended.RequestEnd.TheVariants as how
use Rattle.stun_client_endpoint.specs.declared.told.Received.{Received}
use Rattle.stun_client_endpoint.specs.declared.told.Received.TheVariants.{Consumed, Dropped}
use Rattle.stun_client_endpoint.specs.declared.told.Received.TheVariants.{Indication, NotOurs}
use Rattle.stun_client_requests.specs.Requests.{after_again, after_answering, after_replacing}
use Rattle.stun_client_requests.specs.Requests.{datum_of, number_at}
use Rattle.stun_client_calls.specs.Clients.{Client, address_for, changed_at, chosen, forgetting}
use Rattle.stun_client_calls.specs.Clients.{identity_for, plan_for, with_requests}
use Rattle.stun_client_calls.specs.Deciding.{DecisionSeen, Place, answered, drops, refuses, turns}
use Rattle.stun_client_calls.specs.Deciding.{is_doubted, challenged_out}
use Rattle.stun_client_calls.specs.Endpoints.{EndSeen, bare_end}
use Rattle.stun_client_calls.specs.Ids.{Earlier, number_in}
use Rattle.stun_client_calls.specs.Laws.{Judge, decision_on}
use Rattle.stun_client_calls.specs.Messages.{AskedSeen, SentSeen, TurnSeen, counted_on, is_doubt}
use Rattle.stun_client_calls.specs.Messages.{message_at, new_asked, rank_after, turned}
use Rattle.stun_client_calls.specs.Options.{round_trip}
use Rattle.stun_client_calls.specs.Writing.{message_bytes}
use Rattle.stun_client_calls.specs.declared.asked.Change.TheVariants.{Noted, Refused}
use Rattle.stun_client_calls.specs.declared.turning.Why.{Why}

-- what a client returns for a datagram, and the client after it
abbrev pub Answer : Type 0
Answer = Received × Client

-- ---- the message that a response answers

-- a message of an outstanding request: the number of the request and what is stored of it, whether
-- the message is the current one, and the challenge that it is signed for
pub record Met : Type 0 where
  pub number : ℕ
  pub asked : AskedSeen
  pub is_current : Bool
  pub signed_for : Option Answered

abbrev pub as_current : ℕ → AskedSeen → Met
as_current number a =
    record { number = number; asked = a; is_current = true; signed_for = a.signed_for }

abbrev pub as_earlier : ℕ → AskedSeen → ℕ × SentSeen → Met
as_earlier number a e =
    record { number = number; asked = a; is_current = false; signed_for = e.1.signed_for }

abbrev pub current_of : Client → ℕ → Option Met
current_of c number = option_map (as_current number) (datum_of number c.requests)

abbrev pub earlier_of : ℕ → Client → ℕ → Option Met
earlier_of id c number =
    option_and_then (λ a. option_map (as_earlier number a) (message_at id a.earlier))
    (datum_of number c.requests)

abbrev pub met_by : ℕ → Client → Option ℕ → Option Met
met_by id c (Some number) = current_of c number
met_by id c None = option_and_then (earlier_of id c) (number_in id c.earlier)

-- the message with a transaction ID
abbrev pub met : ℕ → Client → Option Met
met id c = met_by id c (number_at id c.requests.table.attached)

-- a response has the method of the request that it answers
abbrev pub if_method : List ℕ → Option Met → Option Met
if_method bytes None = None
if_method bytes (Some m) = if is_answer m.asked.method bytes then Some m else None

-- ---- what follows from the response

abbrev pub judge_for : Client → AskedSeen → Judge
judge_for c a = record {
  required = c.requires_fingerprint;
  identity = identity_for c a;
  limits = record { turns = c.turns; is_reliable = is_reliable c.requests.table.transport };
  standing = c.standing;
}

abbrev pub decision_for : Client → ℕ → List ℕ → Met → DecisionSeen
decision_for c now bytes m = decision_on (judge_for c m.asked) m.is_current now m.asked m.signed_for bytes

-- the response is dropped
abbrev pub dropping : ℕ → DropReason → List ℕ → Client → Answer
dropping number why bytes c = (
  Dropped why,
  with_requests (changed_at (Noted why (code_in bytes)) number c.requests) c,
)

-- the challenge that the message is signed for is dropped, and counts
abbrev pub dropping_refusal : ℕ → List ℕ → Client → Answer
dropping_refusal number bytes c = (
  Dropped Reasons.Refused,
  with_requests (changed_at (Refused (code_in bytes)) number c.requests) c,
)

-- when the response arrived, if it answers the current message. Earlier messages measure no round
-- trip
abbrev pub moment_of : ℕ → Met → Option ℕ
moment_of now m = if m.is_current then Some now else None

-- the time between the response and its message, if it is known
abbrev pub round_trip_of : ℕ → Met → Option ℕ
round_trip_of now m = if m.is_current then round_trip now m.asked.handed_out else None

-- a request ends
abbrev pub ended_by : EndSeen → List ℕ → ℕ → Met → Client → Client
ended_by end bytes now m c = record c {
  requests = after_answering m.number (length bytes) (moment_of now m) end c.requests;
  earlier = forgetting (Some m.asked) c.earlier;
}

abbrev pub is_success_class : MessageClass → Bool
is_success_class Classes.Request = false
is_success_class Classes.Indication = false
is_success_class Classes.Success = true
is_success_class Classes.Error = false

-- a response that is believed ends its request. A success confirms the challenge of its message
abbrev pub answered_by : Client → ℕ → List ℕ → Met → EndSeen → Answer
answered_by c now bytes m end = (
  Consumed,
  ended_by end bytes now m (record c {
    standing = confirming (is_success_class (class_in bytes)) c.standing m.signed_for;
  }),
)

-- how a challenge ends the request whose current message it answers (section 9.2.5): as
-- unauthorized if it is a 401 and the message is signed, and otherwise as challenged too often
abbrev pub end_after : Option Answered → List ℕ → RequestEnd
end_after signed_for bytes =
    if is_some signed_for && is_code UNAUTHORIZED (code_in bytes) then how.Unauthorized
    else how.TooManyChallenges

abbrev pub challenged_out_by : Client → ℕ → List ℕ → Met → Answer
challenged_out_by c now bytes m =
    (Consumed, ended_by (bare_end (end_after m.asked.signed_for bytes)) bytes now m c)

-- ---- another message

-- another message: its transaction ID and its rank, and the number of the next ID
pub record Spot : Type 0 where
  pub id : ℕ
  pub rank : ℕ
  pub next_id : ℕ

-- an earlier message has its own ID, and a new one gets the next. There may be no ID left. Nor is
-- there one for an earlier message whose ID could not be recorded for lack of memory, if another
-- request's current message has it now
abbrev pub spot_of : Client → AskedSeen → Option Place → Option Spot
spot_of c a (Some p) =
    if is_some (number_at p.1 c.requests.table.attached) then None
    else Some (record { id = p.1; rank = p.0; next_id = c.next_id })
spot_of c a None =
    option_map
    (λ number. record {
      id = id_of c.seed number;
      rank = rank_after (counted_on a.turns);
      next_id = number + 1;
    }) (chosen c)

abbrev pub turn_to : Spot → Why → Option Answered → TurnSeen
turn_to s why d = record {
  id = s.id;
  rank = s.rank;
  signed_for = d;
  next_id = s.next_id;
  answered = d;
  why = why;
}

-- the number of the request that earlier messages belong to, after one of them has become the
-- current one in place of another, which may be recorded
abbrev pub exchanged_ids : Bool → ℕ → ℕ → ℕ → Earlier → Earlier
exchanged_ids is_noted former id number earlier =
    if is_noted then insert_entry nat_cmp (remove_entry (is_at (nat_cmp id)) earlier) former number
    else remove_entry (is_at (nat_cmp id)) earlier

-- whether there was memory to store the former message as an earlier one, and to record its
-- transaction ID
pub record Memory : Type 0 where
  pub is_kept : Bool
  pub is_noted : Bool

-- if all memory is granted, it is stored and recorded
abbrev pub all_memory : Memory
all_memory = record { is_kept = true; is_noted = true }

-- only a message that is stored is recorded
abbrev pub notes : Memory → Bool
notes memory = memory.is_kept && memory.is_noted

-- another message becomes the current one, with these bytes. Its challenge becomes the standing
-- one. The response answers the former message
abbrev pub turned_to : Memory → Client → ℕ → List ℕ → Met → Why → Option Answered → Spot → List ℕ
    → Answer
turned_to memory c now response m why d s bytes = (
  Consumed,
  record c {
    next_id = s.next_id;
    standing = answering c.standing d;
    requests = after_replacing m.number
        (turned memory.is_kept (transaction_id_field response) (turn_to s why d) m.asked)
        (after_again m.number (record { count = length response; moment = Some now }) s.id bytes
        (plan_for c m.asked) (new_asked m.asked.method [] None 0 None) now c.requests);
    earlier = exchanged_ids (notes memory) (transaction_id_field response) s.id m.number c.earlier;
  },
)

-- a response is dropped because there is no memory, or no transaction ID
abbrev pub out_of_memory : List ℕ → Client → Met → Answer
out_of_memory bytes c m = dropping m.number Reasons.OutOfMemory bytes c

-- why a response is dropped for which a message could not be written
abbrev pub unwritten : Why → DropReason
unwritten why = if is_doubt why then Reasons.NotVerified else Reasons.UnanswerableChallenge

abbrev pub turned_by : Memory → Client → ℕ → List ℕ → Met → Why → Option Answered → Spot → Page?
    → Answer
turned_by memory c now response m why d s (Err refused) =
    dropping m.number (unwritten why) response c
turned_by memory c now response m why d s (Ok bytes) =
    turned_to memory c now response m why d s bytes

abbrev pub turned_at : Memory → Client → ℕ → List ℕ → Met → Why → Option Answered → Option Spot
    → Answer
turned_at memory c now response m why d None = out_of_memory response c m
turned_at memory c now response m why d (Some s) =
    turned_by memory c now response m why d s (message_bytes c.form c.identity d s.id m.asked)

-- ---- all of it

abbrev pub by_decision : Memory → Client → ℕ → List ℕ → Met → DecisionSeen → Answer
by_decision memory c now bytes m (answered by) =
    answered_by c now bytes m (record {
      end = how.Answered (outcome_of c.understood bytes) by;
      response = bytes;
      round_trip = round_trip_of now m;
    })
by_decision memory c now bytes m challenged_out = challenged_out_by c now bytes m
by_decision memory c now bytes m (turns why place d) =
    turned_at memory c now bytes m why d (spot_of c m.asked place)
by_decision memory c now bytes m refuses = dropping_refusal m.number bytes c
by_decision memory c now bytes m (drops why) = dropping m.number why bytes c

abbrev pub by_met : Memory → Client → ℕ → List ℕ → Option Met → Answer
by_met memory c now bytes None = (NotOurs, c)
by_met memory c now bytes (Some m) = by_decision memory c now bytes m (decision_for c now bytes m)

-- the message that a response answers, wherever the response comes from
abbrev pub answered_in : List ℕ → Client → Option Met
answered_in bytes c = if_method bytes (met (transaction_id_field bytes) c)

-- a response comes from the address that answers its request
abbrev pub if_from : SocketAddr → Client → Option Met → Option Met
if_from from c None = None
if_from from c (Some m) = if is_same_address from (address_for c m.asked) then Some m else None

-- the message that a response from an address answers
abbrev pub heard_in : SocketAddr → List ℕ → Client → Option Met
heard_in from bytes c = if_from from c (answered_in bytes c)

-- an indication comes from the server
abbrev pub indicated : SocketAddr → List ℕ → Client → Answer
indicated from bytes c =
    if is_same_address from c.server then (Indication bytes, c) else (NotOurs, c)

abbrev pub by_class : Memory → SocketAddr → Client → ℕ → List ℕ → MessageClass → Answer
by_class memory from c now bytes Classes.Request = (NotOurs, c)
by_class memory from c now bytes Classes.Indication = indicated from bytes c
by_class memory from c now bytes Classes.Success = by_met memory c now bytes (heard_in from bytes c)
by_class memory from c now bytes Classes.Error = by_met memory c now bytes (heard_in from bytes c)

-- what a client returns for a datagram from an address, and the client after it
abbrev pub received : Memory → SocketAddr → List ℕ → ℕ → Client → Answer
received memory from bytes now c =
    if is_some (refusal bytes) then (NotOurs, c)
    else by_class memory from c now bytes (class_in bytes)

abbrev pub without_memory : List ℕ → Client → Option Met → Answer
without_memory bytes c None = (NotOurs, c)
without_memory bytes c (Some m) = out_of_memory bytes c m

-- the answer to a response to this message, whether or not there was memory for the former message.
-- Otherwise an allocation failed, and the response is dropped
pub data UnlessMemory (expected : Memory → Answer) (bytes : List ℕ) (m : Option Met) (c : Client)
    (answer : Answer) : Type 0 where
  as_expected : (memory : Memory) → answer ≡ expected memory
      → UnlessMemory expected bytes m c answer
  forgone : answer ≡ without_memory bytes c m → UnlessMemory expected bytes m c answer

-- ---- what is decided without memory

-- whether a datagram is a response to a message of an outstanding request, from the address that
-- answers it
abbrev pub is_heeded : SocketAddr → List ℕ → Client → Bool
is_heeded from bytes c = is_none (refusal bytes) && is_some (heard_in from bytes c)

abbrev pub verdict_on : Client → List ℕ → Met → Verdict
verdict_on c bytes m =
    judged c.requires_fingerprint m.is_current (identity_for c m.asked) c.standing m.signed_for bytes

-- whether the decision on a response may need memory: to judge it, or for a doubt
abbrev pub takes_memory : Client → List ℕ → Met → Bool
takes_memory c bytes m =
    needs_memory c.requires_fingerprint (identity_for c m.asked) m.signed_for bytes
    || is_doubted (verdict_on c bytes m)

-- a response is dropped for this reason, if no memory is needed to decide that
abbrev pub IsDropped : SocketAddr → List ℕ → ℕ → Client → Answer → Type 0
IsDropped from bytes now c answer =
    (m : Met) (why : DropReason) → is_heeded from bytes c ≡ true → heard_in from bytes c ≡ Some m
    → decision_for c now bytes m ≡ drops why → takes_memory c bytes m ≡ false
    → answer ≡ dropping m.number why bytes c
