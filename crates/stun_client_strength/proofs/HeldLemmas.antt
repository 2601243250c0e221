-- What holds of the standing challenges of a client, and of each request, after each change that a
-- call makes, holds for every sequence of calls.
use Rattle.std.proofs.Common.{◌≡◌, ◌∙◌, ◌≤◌, ℕ, Bool, true, false, List, [], ◌∷◌, length}
use Rattle.std.proofs.Common.{Option, Some, None, Ok, Err, ap, arith, cond, refl, subst, sym}
use Rattle.std.specs.Option.{is_some, option_and_then, option_map, option_map_or}
use Rattle.std.specs.Prelude.{◌==◌, find}
use Rattle.std.specs.declared.net.socket_addr.SocketAddr.{SocketAddr}
use Rattle.stun_base.specs.Header.{transaction_id_field}
use Rattle.stun_base.specs.MessageType.{class_in}
use Rattle.stun_base.specs.declared.wire.message_type.MessageClass.{MessageClass}
use Rattle.stun_base.specs.declared.wire.message_type.MessageClass.TheVariants as Classes
use Rattle.stun_types.specs.Message.{refusal}
use Rattle.stun_agent.specs.Timing.{Settings}
use Rattle.stun_extra.specs.CanonicalAddress.{is_same_address}
use Rattle.stun_client.specs.Challenges.{Answered}
use Rattle.stun_client.specs.Challenging.{code_in}
use Rattle.stun_client.specs.Standing.{answering, confirming}
use Rattle.stun_client.specs.Ids.{id_of}
use Rattle.stun_client.specs.Judging.{Identity}
use Rattle.stun_client.specs.Outcomes.{outcome_of}
use Rattle.stun_client.specs.Standing.{StandingSeen, after_success}
use Rattle.stun_client_calls.specs.Receiving.{end_after}
use Rattle.stun_client_calls.specs.Receiving.{is_success_class, Answer, Memory, Met, Spot}
use Rattle.stun_client_calls.specs.Receiving.{UnlessMemory, answered_by, answered_in, as_current}
use Rattle.stun_client_calls.specs.Receiving.{as_earlier, as_expected, by_class, by_decision}
use Rattle.stun_client_calls.specs.Receiving.{by_met, decision_for, dropping, earlier_of, ended_by}
use Rattle.stun_client_calls.specs.Receiving.{forgone, heard_in, if_from, judge_for, met, met_by}
use Rattle.stun_client_calls.specs.Receiving.{moment_of, round_trip_of, received, spot_of, turn_to}
use Rattle.stun_client_calls.specs.Receiving.{turned_at, turned_by, turned_to, unwritten}
use Rattle.stun_client_calls.specs.Receiving.{without_memory}
use Rattle.stun_client_endpoint.specs.Bodies.{Body}
use Rattle.stun_client_endpoint.specs.Written.{Form, Page?}
use Rattle.stun_client_endpoint.specs.declared.ended.DropReason.{DropReason}
use Rattle.stun_client_endpoint.specs.declared.ended.DropReason.TheVariants as Reasons
use Rattle.stun_client_endpoint.specs.declared.ended.RequestEnd.TheVariants as how
use Rattle.stun_client_endpoint.specs.declared.told.Received.TheVariants.{Indication, NotOurs}
use Rattle.stun_client_requests.specs.Numbers.{id_at}
use Rattle.stun_client_requests.specs.Requests.{Answering, Poll as PollOf, after_again}
use Rattle.stun_client_requests.specs.Requests.{after_replacing, datum_of, number_at, polled}
use Rattle.stun_client_requests.specs.declared.requests.Polled.TheVariants as Of
use Rattle.stun_client_requests.specs.declared.requests.Request.{Request}
use Rattle.stun_client_requests.proofs.TimelyLemmas.{named_is_one}
use Rattle.stun_client_calls.specs.Clients.{Client, Poll, Told, address_for, by_polled, cancelled}
use Rattle.stun_client_calls.specs.Clients.{changed, plan_for}
use Rattle.stun_client_calls.specs.Clients.{changed_at, chosen, ends, first_asked, first_message}
use Rattle.stun_client_calls.specs.Clients.{given_up, handed_out_of, sent_by, started, started_at}
use Rattle.stun_client_calls.specs.Clients.{started_with, told, with_requests}
use Rattle.stun_client_calls.specs.Deciding.{DecisionSeen, Place, answered, drops, refuses, turns}
use Rattle.stun_client_calls.specs.Deciding.{challenged_out}
use Rattle.stun_client_calls.specs.Endpoints.{EndSeen, bare_end}
use Rattle.stun_client_calls.specs.Ids.{number_in}
use Rattle.stun_client_calls.specs.Laws.{Judge, decision_on}
use Rattle.stun_client_calls.specs.Messages.{AskedSeen, SentSeen, TurnSeen, is_late, message_at}
use Rattle.stun_client_calls.specs.Messages.{new_asked, stepped_back, turned}
use Rattle.stun_client_calls.specs.OptionLaws.{is_unsigned}
use Rattle.stun_client_calls.specs.Options.{Options, challenge_by, plan_by}
use Rattle.stun_client_calls.specs.Runs.{Call, Calls, Event, call, changes_nothing, ends_one}
use Rattle.stun_client_calls.specs.Runs.{no_call, polls, receives, requests}
use Rattle.stun_client_calls.specs.Writing.{message_bytes}
use Rattle.stun_client_calls.specs.declared.asked.Change.{Change}
use Rattle.stun_client_calls.specs.declared.asked.Change.TheVariants.{Noted, Refused, SentOut}
use Rattle.stun_client_calls.specs.declared.turning.Why.{Why}
use Rattle.stun_client_calls.proofs.DecidingLemmas.{earlier_answers_or_drops}
use Rattle.stun_client_calls.proofs.ReceivingLemmas.{if_method_is, met_is_stored}
use Rattle.stun_client_calls.proofs.TurnLemmas.{All, IsOne}
use Rattle.stun_client_runs.specs.Kept.{IsClient, StaysAClient}
use Rattle.stun_client_strength.specs.Strength.{OfCall, OfEachPoll}
use Rattle.stun_client_runs.proofs.EachAtLemmas.{Each, answer_each, asked_at, cancel_each, is_there}
use Rattle.stun_client_runs.proofs.EachAtLemmas.{numbered, remove_each, replace_each, same_next}
use Rattle.stun_client_runs.proofs.EachAtLemmas.{start_each, turn_each}
use Rattle.stun_client_runs.proofs.PollAtLemmas.{poll_next, polls_each, sent_datum, timed_is}
use Rattle.stun_client_strength.proofs.UnsignedLemmas.{for_signed, no_turn_of_answer}
use Rattle.stun_client_strength.proofs.UnsignedLemmas.{turn_is_signed}

-- ---- messages

-- a message of a request, the current one or an earlier one, is signed for this challenge
pub data IsSignedAs (a : AskedSeen) (o : Option Answered) : Type 0 where
  current_is : a.signed_for ≡ o → IsSignedAs a o
  earlier_is : (e : ℕ × SentSeen) (p : ℕ × SentSeen → Bool) → find p a.earlier ≡ Some e
      → e.1.signed_for ≡ o → IsSignedAs a o

-- the message that a response answers is one of an outstanding request
pub record IsMet (c : Client) (m : Met) : Type 0 where
  pub stored : datum_of m.number c.requests ≡ Some m.asked
  pub signed : IsSignedAs m.asked m.signed_for
  pub current : m.is_current ≡ true → m.signed_for ≡ m.asked.signed_for

record IsMessage (m : Met) : Type 0 where
  signed : IsSignedAs m.asked m.signed_for
  current : m.is_current ≡ true → m.signed_for ≡ m.asked.signed_for

met_is : (x y : Met) → ◌≡◌ {A = Option Met} (Some x) (Some y) → x ≡ y
met_is x y e = cc

current_message : (number : ℕ) (m : Met) (o : Option AskedSeen)
    → option_map (as_current number) o ≡ Some m → IsMessage m
current_message number m None is = cc
current_message number m (Some a) is =
    subst IsMessage (met_is (as_current number a) m is)
    (record { signed = current_is refl; current = λ so. refl })

earlier_message : (id number : ℕ) (m : Met) (o : Option AskedSeen)
    → option_and_then (λ a. option_map (as_earlier number a) (message_at id a.earlier)) o ≡ Some m
    → IsMessage m
earlier_message id number m None is = cc
earlier_message id number m (Some a) is = by (message_at id a.earlier) refl is
  where
    by : (o : Option (ℕ × SentSeen)) → message_at id a.earlier ≡ o
        → option_map (as_earlier number a) o ≡ Some m → IsMessage m
    by None found is = cc
    by (Some e) found is =
        subst IsMessage (met_is (as_earlier number a e) m is) (record {
          signed = earlier_is e (λ (x : ℕ × SentSeen). x.1.id == id) found refl;
          current = λ so. cc;
        })

met_message : (id : ℕ) (c : Client) (m : Met) (o : Option ℕ) → met_by id c o ≡ Some m → IsMessage m
met_message id c m (Some number) is = current_message number m (datum_of number c.requests) is
met_message id c m None is = by (number_in id c.earlier) is
  where
    by : (o : Option ℕ) → option_and_then (earlier_of id c) o ≡ Some m → IsMessage m
    by None is = cc
    by (Some number) is = earlier_message id number m (datum_of number c.requests) is

pub met_of : (bytes : List ℕ) (c : Client) (m : Met) → answered_in bytes c ≡ Some m → IsMet c m
met_of bytes c m found =
    let id = transaction_id_field bytes in
    let message = met_message id c m (number_at id c.requests.table.attached)
    (if_method_is bytes (met id c) m found) in
    record {
      stored = met_is_stored bytes c m m.number found refl;
      signed = message.signed;
      current = message.current;
    }

-- a response that comes from the address that answers its request
pub heard_is : (from : SocketAddr) (bytes : List ℕ) (c : Client) (m : Met)
    → heard_in from bytes c ≡ Some m → answered_in bytes c ≡ Some m
heard_is from bytes c m = by (answered_in bytes c)
  where
    of_address : (n : Met) (b : Bool)
        → ◌≡◌ {A = Option Met} (cond b (Some n) None) (Some m)
        → ◌≡◌ {A = Option Met} (Some n) (Some m)
    of_address n true is = is
    of_address n false is = cc

    by : (o : Option Met) → if_from from c o ≡ Some m → o ≡ Some m
    by None is = cc
    by (Some n) is = of_address n (is_same_address from (address_for c n.asked)) is

-- an indication, of the server or not
abbrev indicated_if : Bool → List ℕ → Client → Answer
indicated_if b bytes c = cond b (Indication bytes, c) (NotOurs, c)

-- ---- rules

-- a fact of the standing challenges of a client and one of each of its requests, which hold after
-- each change. The number of a request that is started is not below this one. Another message
-- becomes the current one only of a request that is to be signed
pub record AreRules (identity : Identity) (from : ℕ) (Stands : StandingSeen → Type 0)
    (Asked : ℕ → Request AskedSeen → Type 0) (Lapses : StandingSeen → AskedSeen → Type 0)
    : Type 0 where
  pub starts : (s : StandingSeen) (id number method until : ℕ) (body : Body)
      (options : Option Options) → from ≤ number → Stands s
      → Asked id (numbered number (new_asked method body options until (challenge_by options
      s.current)))
  pub changes : (id number : ℕ) (change : Change) (a : AskedSeen) → Asked id (numbered number a)
      → Asked id (numbered number (changed change a))
  pub turns_so : (j : Judge) (now id new number former : ℕ) (a : AskedSeen) (bytes : List ℕ)
      (place : Option Place) (t : TurnSeen) (is_kept : Bool) → is_unsigned a.options ≡ false
      → j.identity ≡ identity → Stands j.standing → Asked id (numbered number a)
      → decision_on j true now a a.signed_for bytes ≡ turns t.why place t.signed_for
      → Asked new (numbered number (turned is_kept former t a))
  pub answers : (j : Judge) (now id number : ℕ) (a : AskedSeen) (bytes : List ℕ)
      (place : Option Place) (why : Why) (d : Option Answered) → is_unsigned a.options ≡ false
      → j.identity ≡ identity → Stands j.standing → Asked id (numbered number a)
      → decision_on j true now a a.signed_for bytes ≡ turns why place d
      → Stands (answering j.standing d)
  pub succeeds : (s : StandingSeen) (id number : ℕ) (a : AskedSeen) (o : Option Answered) → Stands s
      → Asked id (numbered number a) → IsSignedAs a o → Stands (after_success s o)
  pub lapses : (s : StandingSeen) (a : AskedSeen) → Lapses s a → Stands s
      → Stands (stepped_back a s)

-- both hold of a client
pub record AreHeld (identity : Identity) (form : Form) (from : ℕ) (Stands : StandingSeen → Type 0)
    (Asked : ℕ → Request AskedSeen → Type 0) (c : Client) : Type 0 where
  pub identity_is : c.identity ≡ identity
  pub form_is : c.form ≡ form
  pub next_is : from ≤ c.requests.next
  pub standing : Stands c.standing
  pub asked : Each Asked c.requests.table.attached

changed_next : (change : Change) (n : ℕ) (r : All) → (changed_at change n r).next ≡ r.next
changed_next change n r = by (datum_of n r)
  where
    by : (o : Option AskedSeen)
        → (option_map_or (λ a. after_replacing n (changed change a) r) o r).next ≡ r.next
    by None = refl
    by (Some a) = same_next r _ (id_at n r.numbers) (λ id. refl)

replaced_next : (n : ℕ) (w : AskedSeen) (r : All) → (after_replacing n w r).next ≡ r.next
replaced_next n w r = same_next r _ (id_at n r.numbers) (λ id. refl)

again_next : (n : ℕ) (a : Answering) (id : ℕ) (bytes : List ℕ) (plan : Settings)
    (datum : AskedSeen) (now : ℕ) (r : All)
    → (after_again n a id bytes plan datum now r).next ≡ r.next
again_next n a id bytes plan datum now r = same_next r _ (id_at n r.numbers) (λ former. refl)

up_to_next : (from x y : ℕ) → y ≡ x → from ≤ x → from ≤ y
up_to_next from x y same low = subst (λ n. from ≤ n) (sym same) low

module _ (identity : Identity) (form : Form) (from : ℕ) (Stands : StandingSeen → Type 0)
    (Asked : ℕ → Request AskedSeen → Type 0) (Lapses : StandingSeen → AskedSeen → Type 0)
    (rules : AreRules identity from Stands Asked Lapses) where
  abbrev Held : Client → Type 0
  Held c = AreHeld identity form from Stands Asked c

  -- ---- requests that start

  pub started_held : (method : ℕ) (body : Body) (options : Option Options) (now : ℕ) (c : Client)
      → Held c → Held (started method body options now c)
  started_held method body options now c held = by (chosen c)
    where
      page : (number : ℕ) (p : Page?) → Held (started_with c number method body options now p)
      page number (Err why) = held
      page number (Ok bytes) = record {
        identity_is = held.identity_is;
        form_is = held.form_is;
        next_is = omega (arith, held.next_is);
        standing = held.standing;
        asked = start_each Asked c.requests held.asked (id_of c.seed number) bytes
            (plan_by options c.plan) (first_asked c method body options now) now
            (rules.starts c.standing (id_of c.seed number) c.requests.next method
            (first_asked c method body options now).until body options held.next_is held.standing);
      }

      by : (o : Option ℕ) → Held (started_at c method body options now o)
      by None = held
      by (Some number) = page number (first_message c method number body options)

  -- ---- changes and ends

  changed_held : (change : Change) (n : ℕ) (c : Client) → IsOne c.requests → Held c
      → Held (with_requests (changed_at change n c.requests) c)
  changed_held change n c one held = record {
    identity_is = held.identity_is;
    form_is = held.form_is;
    next_is = up_to_next from c.requests.next (changed_at change n c.requests).next
        (changed_next change n c.requests) held.next_is;
    standing = held.standing;
    asked = by (datum_of n c.requests) refl;
  }
    where
      by : (o : Option AskedSeen) → datum_of n c.requests ≡ o
          → Each Asked (option_map_or (λ a. after_replacing n (changed change a) c.requests) o
          c.requests).table.attached
      by None none = held.asked
      by (Some a) some =
          replace_each Asked c.requests held.asked n (changed change a)
          (λ id named. rules.changes id n change a
          (asked_at Asked c.requests held.asked one n a some id named))

  ended_held : (end : EndSeen) (bytes : List ℕ) (now : ℕ) (m : Met) (c : Client)
      → IsOne c.requests → Held c → Held (ended_by end bytes now m c)
  ended_held end bytes now m c one held = record {
    identity_is = held.identity_is;
    form_is = held.form_is;
    next_is = up_to_next from c.requests.next (ended_by end bytes now m c).requests.next
        (same_next c.requests _ (id_at m.number c.requests.numbers) (λ id. refl)) held.next_is;
    standing = held.standing;
    asked = answer_each Asked c.requests held.asked one.in_order m.number (length bytes)
        (moment_of now m) end;
  }

  cancelled_held : (number : ℕ) (c : Client) → IsOne c.requests → Held c
      → Held (cancelled number c)
  cancelled_held number c one held = record {
    identity_is = held.identity_is;
    form_is = held.form_is;
    next_is = up_to_next from c.requests.next (cancelled number c).requests.next
        (same_next c.requests _ (id_at number c.requests.numbers) (λ id. refl)) held.next_is;
    standing = held.standing;
    asked = cancel_each Asked c.requests held.asked one.in_order number
        (bare_end how.Cancelled);
  }

  -- ---- responses

  module _ (memory : Memory) (c : Client) (now : ℕ) (bytes : List ℕ) (m : Met)
      (one : IsOne c.requests) (is : IsMet c m) (held : Held c) where
    dropping_held : (why : DropReason) → Held (dropping m.number why bytes c).1
    dropping_held why = changed_held (Noted why (code_in bytes)) m.number c one held

    -- what is known of the request that is answered
    its_own : (P : Type 0) → ((id : ℕ) → Asked id (numbered m.number m.asked) → P) → P
    its_own P use_it =
        let t = is_there m.number m.asked c.requests one is.stored in
        use_it t.id (held.asked t.id (numbered m.number m.asked) t.there)

    answered_held : (end : EndSeen) → Held (answered_by c now bytes m end).1
    answered_held end =
        ended_held end bytes now m
        (record c {
          standing = confirming (is_success_class (class_in bytes)) c.standing m.signed_for;
        }) one (record {
          identity_is = held.identity_is;
          form_is = held.form_is;
          next_is = held.next_is;
          standing = by (is_success_class (class_in bytes));
          asked = held.asked;
        })
      where
        by : (b : Bool) → Stands (confirming b c.standing m.signed_for)
        by true =
            its_own (Stands (after_success c.standing m.signed_for))
            (λ id own. rules.succeeds c.standing id m.number m.asked m.signed_for held.standing own
            is.signed)
        by false = held.standing

    -- another message becomes the current one only of a request that is to be signed
    signed_turn : (why : Why) (place : Option Place) (d : Option Answered)
        → decision_for c now bytes m ≡ turns why place d
        → is_unsigned m.asked.options ≡ false
    signed_turn why place d decides =
        turn_is_signed (judge_for c m.asked) m.is_current now m.asked m.signed_for bytes why place d
        c.identity refl decides

    judge_is : (why : Why) (place : Option Place) (d : Option Answered)
        → decision_for c now bytes m ≡ turns why place d
        → (judge_for c m.asked).identity ≡ identity
    judge_is why place d decides =
        for_signed m.asked.options c.identity (signed_turn why place d decides)
        ∙ held.identity_is

    -- and only for a response to the current one
    on_current : (why : Why) (place : Option Place) (d : Option Answered)
        → decision_for c now bytes m ≡ turns why place d
        → decision_on (judge_for c m.asked) true now m.asked m.asked.signed_for bytes
        ≡ turns why place d
    on_current why place d decides = by m.is_current refl
      where
        by : (b : Bool) → m.is_current ≡ b
            → decision_on (judge_for c m.asked) true now m.asked m.asked.signed_for bytes
            ≡ turns why place d
        by true so =
            sym (ap (λ b. decision_on (judge_for c m.asked) b now m.asked m.signed_for bytes) so
            ∙ ap (λ (o : Option Answered).
            decision_on (judge_for c m.asked) true now m.asked o bytes) (is.current so))
            ∙ decides
        by false so =
            absurd (no_turn_of_answer
            (decision_on (judge_for c m.asked) false now m.asked m.signed_for bytes) why place d
            (earlier_answers_or_drops (judge_for c m.asked) now m.asked m.signed_for bytes)
            (sym (ap (λ b. decision_on (judge_for c m.asked) b now m.asked m.signed_for bytes) so)
            ∙ decides))

    turned_held : (why : Why) (place : Option Place) (d : Option Answered) (s : Spot)
        (page : List ℕ) → decision_for c now bytes m ≡ turns why place d
        → Held (turned_to memory c now bytes m why d s page).1
    turned_held why place d s page decides = record {
      identity_is = held.identity_is;
      form_is = held.form_is;
      next_is = up_to_next from c.requests.next
          (turned_to memory c now bytes m why d s page).1.requests.next
          (replaced_next m.number
          (turned memory.is_kept (transaction_id_field bytes) (turn_to s why d) m.asked)
          (after_again m.number (record { count = length bytes; moment = Some now }) s.id page
          (plan_for c m.asked) (new_asked m.asked.method [] None 0 None) now c.requests)
          ∙ again_next m.number (record { count = length bytes; moment = Some now }) s.id page
          (plan_for c m.asked) (new_asked m.asked.method [] None 0 None) now c.requests)
          held.next_is;
      standing = its_own (Stands (answering c.standing d))
          (λ id own. rules.answers (judge_for c m.asked) now id m.number m.asked bytes place why d
          (signed_turn why place d decides) (judge_is why place d decides) held.standing own
          (on_current why place d decides));
      asked = turn_each Asked c.requests held.asked one.in_order m.number
          (turned memory.is_kept (transaction_id_field bytes) (turn_to s why d) m.asked)
          (record { count = length bytes; moment = Some now }) s.id page (plan_for c m.asked)
          (new_asked m.asked.method [] None 0 None) now
          (its_own (Asked s.id (numbered m.number
          (turned memory.is_kept (transaction_id_field bytes) (turn_to s why d) m.asked)))
          (λ id own. rules.turns_so (judge_for c m.asked) now id s.id m.number
          (transaction_id_field bytes) m.asked bytes place (turn_to s why d) memory.is_kept
          (signed_turn why place d decides) (judge_is why place d decides) held.standing own
          (on_current why place d decides)));
    }

    decided_held : (d : DecisionSeen) → decision_for c now bytes m ≡ d
        → Held (by_decision memory c now bytes m d).1
    decided_held (answered by) decides =
        answered_held (record {
          end = how.Answered (outcome_of c.understood bytes) by;
          response = bytes;
          round_trip = round_trip_of now m;
        })
    decided_held challenged_out decides =
        ended_held (bare_end (end_after m.asked.signed_for bytes)) bytes now m c one held
    decided_held (turns why place d) decides = at_spot (spot_of c m.asked place)
      where
        by_page : (s : Spot) (page : Page?)
            → Held (turned_by memory c now bytes m why d s page).1
        by_page s (Err refused) = dropping_held (unwritten why)
        by_page s (Ok page) = turned_held why place d s page decides

        at_spot : (o : Option Spot) → Held (turned_at memory c now bytes m why d o).1
        at_spot None = dropping_held Reasons.OutOfMemory
        at_spot (Some s) = by_page s (message_bytes c.form c.identity d s.id m.asked)
    decided_held refuses decides =
        changed_held (Refused (code_in bytes)) m.number c one held
    decided_held (drops why) decides = dropping_held why

  module _ (c : Client) (one : IsOne c.requests) (held : Held c) where
    response_held : (memory : Memory) (now : ℕ) (from_address : SocketAddr) (bytes : List ℕ)
        (o : Option Met) → heard_in from_address bytes c ≡ o → Held (by_met memory c now bytes o).1
    response_held memory now from_address bytes None found = held
    response_held memory now from_address bytes (Some m) found =
        decided_held memory c now bytes m one
        (met_of bytes c m (heard_is from_address bytes c m found)) held
        (decision_for c now bytes m) refl

    received_held : (memory : Memory) (from_address : SocketAddr) (bytes : List ℕ) (now : ℕ)
        → Held (received memory from_address bytes now c).1
    received_held memory from_address bytes now = by (is_some (refusal bytes)) (class_in bytes)
      where
        of_server : (b : Bool) → Held (indicated_if b bytes c).1
        of_server true = held
        of_server false = held

        by : (r : Bool) (class : MessageClass)
            → Held (cond r (NotOurs, c) (by_class memory from_address c now bytes class)).1
        by true class = held
        by false Classes.Request = held
        by false Classes.Indication = of_server (is_same_address from_address c.server)
        by false Classes.Success =
            response_held memory now from_address bytes (heard_in from_address bytes c) refl
        by false Classes.Error =
            response_held memory now from_address bytes (heard_in from_address bytes c) refl

    forgone_held : (bytes : List ℕ) (o : Option Met) → Held (without_memory bytes c o).1
    forgone_held bytes None = held
    forgone_held bytes (Some m) =
        changed_held (Noted Reasons.OutOfMemory (code_in bytes)) m.number c one held

    heard_held : (bytes : List ℕ) (o : Option Met) (expected : Memory → Answer) (answer : Answer)
        → ((memory : Memory) → Held (expected memory).1)
        → UnlessMemory expected bytes o c answer → Held answer.1
    heard_held bytes o expected answer each (as_expected memory is) =
        subst (λ (a : Answer). Held a.1) (sym is) (each memory)
    heard_held bytes o expected answer each (forgone is) =
        subst (λ (a : Answer). Held a.1) (sym is) (forgone_held bytes o)

  -- ---- polls

  -- a fact of each poll, which lets a request lapse
  module _ (fact : Client → Told → Type 0)
      (lets : (c : Client) (n : ℕ) (a : AskedSeen)
      → fact c (ends n (bare_end (how.TimedOut a.drops)))
      → datum_of n c.requests ≡ Some a → Lapses c.standing a) where
    module _ (now : ℕ) (c : Client) (one : IsOne c.requests) (held : Held c) where
      left_held : (p : PollOf AskedSeen EndSeen) → polled now c.requests ≡ p
          → Held (with_requests p.1 c)
      left_held p same = record {
        identity_is = held.identity_is;
        form_is = held.form_is;
        next_is = up_to_next from c.requests.next p.1.next
            (sym (ap (λ (x : PollOf AskedSeen EndSeen). x.1.next) same) ∙ poll_next now c.requests)
            held.next_is;
        standing = held.standing;
        asked = subst (λ (x : PollOf AskedSeen EndSeen). Each Asked x.1.table.attached) same
            (polls_each Asked c.requests held.asked one.in_order now);
      }

      out_held : (n : ℕ) (r : All) → polled now c.requests ≡ (Of.Transmit n, r)
          → (o : Option AskedSeen) → datum_of n r ≡ o
          → fact c (handed_out_of now n (with_requests r c) o).0
          → Held (handed_out_of now n (with_requests r c) o).1
      out_held n r same None none said = left_held (Of.Transmit n, r) same
      out_held n r same (Some a) some said = by (is_late now a) said
        where
          left : Held (with_requests r c)
          left = left_held (Of.Transmit n, r) same

          still : IsOne r
          still =
              subst (λ (x : PollOf AskedSeen EndSeen). IsOne x.1) same
              (named_is_one now n c.requests one
              (ap (λ (x : PollOf AskedSeen EndSeen). x.0) same))

          before : datum_of n c.requests ≡ Some a
          before =
              sent_datum now c.requests n a one (ap (λ (x : PollOf AskedSeen EndSeen). x.0) same)
              (ap (λ (x : PollOf AskedSeen EndSeen). datum_of n x.1) same ∙ some)

          by : (b : Bool)
              → fact c
              (cond b (given_up n a (with_requests r c)) (sent_by now n (with_requests r c))).0
              → Held
              (cond b (given_up n a (with_requests r c)) (sent_by now n (with_requests r c))).1
          by true said = record {
            identity_is = left.identity_is;
            form_is = left.form_is;
            next_is = up_to_next from r.next
                (given_up n a (with_requests r c)).1.requests.next
                (same_next r _ (id_at n r.numbers) (λ id. refl)) left.next_is;
            standing = rules.lapses c.standing a (lets c n a said before) held.standing;
            asked = remove_each Asked r left.asked still.in_order n;
          }
          by false said = changed_held (SentOut now) n (with_requests r c) still left

      told_held : fact c (told now c).0 → Held (told now c).1
      told_held = by (polled now c.requests) refl
        where
          by : (p : PollOf AskedSeen EndSeen) → polled now c.requests ≡ p
              → fact c (by_polled now (with_requests p.1 c) p.0).0
              → Held (by_polled now (with_requests p.1 c) p.0).1
          by (Of.Transmit n, r) same said = out_held n r same (datum_of n r) refl said
          by (Of.Ended n end, r) same said = left_held (Of.Ended n end, r) same
          by (Of.TimedOut n a, r) same said =
              let left = left_held (Of.TimedOut n a, r) same in
              record {
                identity_is = left.identity_is;
                form_is = left.form_is;
                next_is = left.next_is;
                standing = rules.lapses c.standing a (lets c n a said
                    (timed_is now c.requests n a one
                    (ap (λ (x : PollOf AskedSeen EndSeen). x.0) same))) held.standing;
                asked = left.asked;
              }
          by (Of.Wait until, r) same said = left_held (Of.Wait until, r) same

    -- a poll says this
    pub poll_held : (now : ℕ) (c after : Client) (says : Told) → IsClient c
        → told now c ≡ (says, after) → fact c says → Held c → Held after
    poll_held now c after says is said its held =
        subst Held (ap (λ (p : Poll). p.1) said)
        (told_held now c is.requests.one held
        (subst (λ (t : Told). fact c t) (sym (ap (λ (p : Poll). p.0) said)) its))

    -- ---- calls

    pub call_held : (c : Client) (event : Event) (after : Client) → IsClient c
        → (made : Call c event after) → OfCall fact c event after made → Held c → Held after
    call_held c event after is (requests _ _ method body options now low none so) its held =
        subst Held (sym so) (started_held method body options now c held)
    call_held c event after is (receives _ _ address bytes now answer low made so) its held =
        subst Held (sym so)
        (heard_held c is.requests.one held bytes (heard_in address bytes c)
        (λ memory. received memory address bytes now c)
        answer (λ memory. received_held c is.requests.one held memory address bytes now) made)
    call_held c event after is (polls _ _ now says said) its held =
        poll_held now c after says is said its held
    call_held c event after is (ends_one _ _ number a there so) its held =
        subst Held (sym so) (cancelled_held number c is.requests.one held)
    call_held c event after is (changes_nothing _) its held = held

    pub calls_held : StaysAClient → (c : Client) (events : List Event) (after : Client) → IsClient c
        → (calls : Calls c events after) → OfEachPoll fact c events after calls → Held c
        → Held after
    calls_held stays c events after is (no_call _) its held = held
    calls_held stays c events after is (call _ next _ event others made rest) its held =
        calls_held stays next others after (stays c next (event ∷ []) is
        (call c next next event [] made (no_call next))) rest its.1
        (call_held c event next is made its.0 held)
