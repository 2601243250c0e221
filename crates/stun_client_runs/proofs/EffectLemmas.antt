-- Each call leaves a request stored, or hands out its end, and names none that is over.
use Rattle.std.proofs.Common.{◌≡◌, ◌∙◌, ◌⊎◌, ◌<◌, ◌≤◌, ℕ, Bool, true, false, List, [], ◌∷◌, Option}
use Rattle.std.proofs.Common.{Some}
use Rattle.std.proofs.Common.{None, Ok, Err, ap, arith, cond, inl, inr, length, refl, subst, sym}
use Rattle.std.specs.BTreeMap.{insert_entry, is_at}
use Rattle.std.specs.Cmp.{ranked}
use Rattle.std.specs.Option.{IsSome, is_some, option_and_then, option_map, option_map_or}
use Rattle.std.specs.Ordering.{nat_cmp}
use Rattle.std.specs.Prelude.{◌==◌, ⊤}
use Rattle.std.specs.declared.cmp.Ordering.{Ordering}
use Rattle.std.specs.declared.cmp.Ordering.TheVariants.{Less, Equal, Greater}
use Rattle.std.specs.declared.net.socket_addr.SocketAddr.{SocketAddr}
use Rattle.std.proofs.lemmas.Bool.{ne_eqb}
use Rattle.stun_base.specs.Header.{transaction_id_field}
use Rattle.stun_base.specs.MessageType.{class_in}
use Rattle.stun_base.specs.declared.wire.message_type.MessageClass.{MessageClass}
use Rattle.stun_base.specs.declared.wire.message_type.MessageClass.TheVariants as Classes
use Rattle.stun_types.specs.Message.{refusal}
use Rattle.stun_extra.specs.CanonicalAddress.{is_same_address}
use Rattle.stun_agent.specs.Tables.{after_answer, after_cancel, after_sending, after_transmission}
use Rattle.stun_agent.specs.Tables.{datum_at, with_other_datum}
use Rattle.stun_agent.specs.Timing.{Settings}
use Rattle.stun_client.specs.Challenges.{Answered}
use Rattle.stun_client.specs.Challenging.{code_in}
use Rattle.stun_client.specs.Ids.{id_of}
use Rattle.stun_client.specs.Outcomes.{outcome_of}
use Rattle.stun_client_endpoint.specs.Bodies.{Body}
use Rattle.stun_client_endpoint.specs.Written.{Page?}
use Rattle.stun_client_endpoint.specs.declared.ended.DropReason.{DropReason}
use Rattle.stun_client_endpoint.specs.declared.ended.DropReason.TheVariants as Reasons
use Rattle.stun_client_endpoint.specs.declared.ended.RequestEnd.TheVariants as how
use Rattle.stun_client_endpoint.specs.declared.told.Received.TheVariants.{Indication, NotOurs}
use Rattle.stun_client_requests.specs.Laws.{IsOver as IsOverIn, IsRequests}
use Rattle.stun_client_requests.specs.Laws.{polls as polls_in, removes, starts_one}
use Rattle.stun_client_requests.specs.Numbers.{AllKnown, after_end, after_mark, after_removal}
use Rattle.stun_client_requests.specs.Numbers.{after_rename, end_of_first, first_unsent, id_at}
use Rattle.stun_client_requests.specs.Numbers.{id_in}
use Rattle.stun_client_requests.specs.Numbers.{known_at}
use Rattle.stun_client_requests.specs.Requests.{Answering, Poll as PollOf, after_again}
use Rattle.stun_client_requests.specs.Requests.{after_answering, after_canceling, after_removing}
use Rattle.stun_client_requests.specs.Requests.{after_replacing, datum_of, ends_or, over, over_or}
use Rattle.stun_client_requests.specs.Requests.{polled as polled_in, repeated, repeats_or}
use Rattle.stun_client_requests.specs.Requests.{start_refusal, unsent_or}
use Rattle.stun_client_requests.specs.declared.numbers.Known.{Known}
use Rattle.stun_client_requests.specs.declared.numbers.Known.TheVariants.{Ended, Outstanding}
use Rattle.stun_client_requests.specs.declared.requests.Polled.TheVariants as Of
use Rattle.stun_client_requests.specs.declared.requests.Request.{Request}
use Rattle.stun_client_requests.specs.declared.requests.StartRefusal.{StartRefusal}
use Rattle.stun_client_requests.proofs.LawLemmas.{effect, has}
use Rattle.stun_client_requests.proofs.NumberLemmas.{own_key, same_key}
use Rattle.stun_client_requests.proofs.RequestLemmas.{at_insert}
use Rattle.stun_client_calls.specs.Clients.{Client, Poll, by_polled, changed}
use Rattle.stun_client_calls.specs.Clients.{changed_at, chosen, ends, error_of, first_asked}
use Rattle.stun_client_calls.specs.Clients.{first_message, given_up, handed_out_of}
use Rattle.stun_client_calls.specs.Clients.{plan_for, refusal_of_number}
use Rattle.stun_client_calls.specs.Clients.{refusal_of_page, refusal_to_start, sent_by, started}
use Rattle.stun_client_calls.specs.Clients.{started_at, started_by, started_with, told, transmit}
use Rattle.stun_client_calls.specs.Clients.{waits, with_requests}
use Rattle.stun_client_calls.specs.Deciding.{DecisionSeen, answered, drops, refuses, turns}
use Rattle.stun_client_calls.specs.Deciding.{challenged_out}
use Rattle.stun_client_calls.specs.Endpoints.{EndSeen, bare_end}
use Rattle.stun_client_calls.specs.Options.{Options, plan_by}
use Rattle.stun_client_calls.specs.Messages.{AskedSeen, is_late, new_asked, turned}
use Rattle.stun_client_calls.specs.Receiving.{end_after}
use Rattle.stun_client_calls.specs.Receiving.{Answer, Memory, Met, Spot, UnlessMemory}
use Rattle.stun_client_calls.specs.Receiving.{as_expected, by_class, by_decision, by_met, dropping}
use Rattle.stun_client_calls.specs.Receiving.{decision_for, forgone, heard_in, moment_of, received}
use Rattle.stun_client_calls.specs.Receiving.{round_trip_of, spot_of}
use Rattle.stun_client_calls.specs.Receiving.{turn_to, turned_at, turned_by, turned_to, unwritten}
use Rattle.stun_client_calls.specs.Receiving.{without_memory}
use Rattle.stun_client_calls.specs.Runs.{Call, Calls, Event, call, cancels, changes_nothing}
use Rattle.stun_client_calls.specs.Runs.{count_ends}
use Rattle.stun_client_calls.specs.Runs.{count_names, ends_one, hands_out, names, no_call}
use Rattle.stun_client_calls.specs.Runs.{polled, polls, receives, requests, silent, starts}
use Rattle.stun_client_calls.specs.Writing.{message_bytes}
use Rattle.stun_client_calls.specs.declared.asked.Change.{Change}
use Rattle.stun_client_calls.specs.declared.asked.Change.TheVariants.{Noted, Refused, SentOut}
use Rattle.stun_client_calls.specs.declared.turning.Why.{Why}
use Rattle.stun_client_calls.proofs.TurnLemmas.{All}
use Rattle.stun_client_runs.specs.Kept.{IsClient}
use Rattle.stun_client_runs.proofs.KeptLemmas.{call_is}
use Rattle.stun_client_runs.proofs.PollLemmas.{IsPolled, polled_client}

-- ---- what is stored under a number

id_has : (k id : ℕ) (r : All) → id_at k r.numbers ≡ Some id → has k r.numbers.known ≡ true
id_has k id r some = by (known_at k r.numbers.known) some
  where
    by : (o : Option (Known EndSeen)) → option_and_then id_in o ≡ Some id → is_some o ≡ true
    by None some = cc
    by (Some v) some = refl

pub some_has : (k : ℕ) (r : All) → IsSome (id_at k r.numbers) → has k r.numbers.known ≡ true
some_has k r some = by (id_at k r.numbers) refl some
  where
    by : (o : Option ℕ) → id_at k r.numbers ≡ o → IsSome o → has k r.numbers.known ≡ true
    by None is there = cc
    by (Some id) is there = id_has k id r is

put_again : (n k : ℕ) (v : Known EndSeen) (known : AllKnown EndSeen) → has k known ≡ true
    → has n (insert_entry nat_cmp known k v) ≡ has n known
put_again n k v known there = ap is_some (at_insert k v known n) ∙ by (is_at (nat_cmp k) n) refl
  where
    by : (b : Bool) → is_at (nat_cmp k) n ≡ b
        → is_some (cond b (Some v) (known_at n known)) ≡ has n known
    by true is = sym (subst (λ m. has m known ≡ true) (sym (same_key k n is)) there)
    by false is = refl

pub stored_low : (n : ℕ) (r : All) → IsRequests r → has n r.numbers.known ≡ true → n < r.next
stored_low n r i there = by (nat_cmp n r.next) refl
  where
    none : r.next ≤ n → ⊥
    none high =
        let gone : has n r.numbers.known ≡ false = ap is_some (i.one.fresh n high) in cc

    by : (o : Ordering) → nat_cmp n r.next ≡ o → n < r.next
    by Less is = ranked n r.next Less (sym is)
    by Equal is =
        let same : n ≡ r.next = ranked n r.next Equal (sym is) in absurd (none (omega arith))
    by Greater is =
        let high : r.next < n = ranked n r.next Greater (sym is) in absurd (none (omega arith))

-- ---- calls that return nothing

-- the same requests are stored, and the next number is the same
pub record IsQuiet (r after : All) : Type 0 where
  pub next : after.next ≡ r.next
  pub still : (n : ℕ) → has n after.numbers.known ≡ has n r.numbers.known

quiet_same : (r : All) → IsQuiet r r
quiet_same r = record { next = refl; still = λ n. refl }

quiet_then : (r s after : All) → IsQuiet r s → IsQuiet s after → IsQuiet r after
quiet_then r s after one other = record {
  next = other.next ∙ one.next;
  still = λ n. other.still n ∙ one.still n;
}

quiet_replacing : (k : ℕ) (b : AskedSeen) (r : All) → IsQuiet r (after_replacing k b r)
quiet_replacing k b r = by (id_at k r.numbers)
  where
    by : (o : Option ℕ) → IsQuiet r (option_map_or (λ id. record r {
      table = with_other_datum id (record { number = k; datum = b }) r.table;
    }) o r)
    by None = quiet_same r
    by (Some id) = record { next = refl; still = λ n. refl }

quiet_changed : (change : Change) (k : ℕ) (r : All) → IsQuiet r (changed_at change k r)
quiet_changed change k r = by (datum_of k r)
  where
    by : (o : Option AskedSeen)
        → IsQuiet r (option_map_or (λ a. after_replacing k (changed change a) r) o r)
    by None = quiet_same r
    by (Some a) = quiet_replacing k (changed change a) r

quiet_answering : (k count : ℕ) (moment : Option ℕ) (end : EndSeen) (r : All)
    → IsQuiet r (after_answering k count moment end r)
quiet_answering k count moment end r = by (id_at k r.numbers) refl
  where
    by : (o : Option ℕ) → id_at k r.numbers ≡ o → IsQuiet r (option_map_or (λ id. record r {
      table = after_answer id count moment r.table;
      numbers = after_end k end r.numbers;
    }) o r)
    by None is = quiet_same r
    by (Some id) is = record {
      next = refl;
      still = λ n. put_again n k (Ended end) r.numbers.known (id_has k id r is);
    }

quiet_canceling : (k : ℕ) (end : EndSeen) (r : All) → IsQuiet r (after_canceling k end r)
quiet_canceling k end r = by (id_at k r.numbers) refl
  where
    by : (o : Option ℕ) → id_at k r.numbers ≡ o → IsQuiet r (option_map_or (λ id. record r {
      table = after_cancel id r.table;
      numbers = after_end k end r.numbers;
    }) o r)
    by None is = quiet_same r
    by (Some id) is = record {
      next = refl;
      still = λ n. put_again n k (Ended end) r.numbers.known (id_has k id r is);
    }

quiet_again : (k : ℕ) (x : Answering) (id : ℕ) (bytes : List ℕ) (plan : Settings)
    (empty : AskedSeen) (now : ℕ) (r : All) → IsQuiet r (after_again k x id bytes plan empty now r)
quiet_again k x id bytes plan empty now r = by (id_at k r.numbers) refl
  where
    by : (o : Option ℕ) → id_at k r.numbers ≡ o → IsQuiet r (option_map_or (λ former. record r {
      table = after_answer former x.count x.moment
          (after_sending id bytes plan (record { number = k; datum = empty }) now r.table);
      numbers = after_rename k id (after_mark k r.numbers);
    }) o r)
    by None is = quiet_same r
    by (Some former) is = record {
      next = refl;
      still = λ n. put_again n k (Outstanding id) r.numbers.known (id_has k former r is);
    }

quiet_dropping : (n : ℕ) (why : DropReason) (bytes : List ℕ) (c : Client)
    → IsQuiet c.requests (dropping n why bytes c).1.requests
quiet_dropping n why bytes c = quiet_changed (Noted why (code_in bytes)) n c.requests

quiet_turned_to : (memory : Memory) (c : Client) (now : ℕ) (response : List ℕ) (m : Met) (why : Why)
    (d : Option Answered) (s : Spot) (bytes : List ℕ)
    → IsQuiet c.requests (turned_to memory c now response m why d s bytes).1.requests
quiet_turned_to memory c now response m why d s bytes =
    quiet_then c.requests again (after_replacing m.number turned_one again)
    (quiet_again m.number (record { count = length response; moment = Some now }) s.id bytes
    (plan_for c m.asked) (new_asked m.asked.method [] None 0 None) now c.requests)
    (quiet_replacing m.number turned_one again)
  where
    again : All
    again =
        after_again m.number (record { count = length response; moment = Some now }) s.id bytes
        (plan_for c m.asked) (new_asked m.asked.method [] None 0 None) now c.requests

    turned_one : AskedSeen
    turned_one =
        turned memory.is_kept (transaction_id_field response) (turn_to s why d) m.asked

quiet_turned : (memory : Memory) (c : Client) (now : ℕ) (response : List ℕ) (m : Met) (why : Why)
    (d : Option Answered) (o : Option Spot)
    → IsQuiet c.requests (turned_at memory c now response m why d o).1.requests
quiet_turned memory c now response m why d None =
    quiet_dropping m.number Reasons.OutOfMemory response c
quiet_turned memory c now response m why d (Some s) =
    by (message_bytes c.form c.identity d s.id m.asked)
  where
    by : (page : Page?)
        → IsQuiet c.requests (turned_by memory c now response m why d s page).1.requests
    by (Err error) = quiet_dropping m.number (unwritten why) response c
    by (Ok bytes) = quiet_turned_to memory c now response m why d s bytes

quiet_decided : (memory : Memory) (c : Client) (now : ℕ) (bytes : List ℕ) (m : Met)
    (v : DecisionSeen) → IsQuiet c.requests (by_decision memory c now bytes m v).1.requests
quiet_decided memory c now bytes m (answered by) =
    quiet_answering m.number (length bytes) (moment_of now m)
    (record {
      end = how.Answered (outcome_of c.understood bytes) by;
      response = bytes;
      round_trip = round_trip_of now m;
    }) c.requests
quiet_decided memory c now bytes m challenged_out =
    quiet_answering m.number (length bytes) (moment_of now m)
    (bare_end (end_after m.asked.signed_for bytes)) c.requests
quiet_decided memory c now bytes m (turns why place d) =
    quiet_turned memory c now bytes m why d (spot_of c m.asked place)
quiet_decided memory c now bytes m refuses =
    quiet_changed (Refused (code_in bytes)) m.number c.requests
quiet_decided memory c now bytes m (drops why) = quiet_dropping m.number why bytes c

quiet_met : (memory : Memory) (c : Client) (now : ℕ) (bytes : List ℕ) (o : Option Met)
    → IsQuiet c.requests (by_met memory c now bytes o).1.requests
quiet_met memory c now bytes None = quiet_same c.requests
quiet_met memory c now bytes (Some m) =
    quiet_decided memory c now bytes m (decision_for c now bytes m)

quiet_class : (memory : Memory) (from : SocketAddr) (c : Client) (now : ℕ) (bytes : List ℕ)
    (class : MessageClass)
    → IsQuiet c.requests (by_class memory from c now bytes class).1.requests
quiet_class memory from c now bytes Classes.Request = quiet_same c.requests
quiet_class memory from c now bytes Classes.Indication = by (is_same_address from c.server)
  where
    by : (b : Bool)
        → IsQuiet c.requests (cond {A = Answer} b (Indication bytes, c) (NotOurs, c)).1.requests
    by true = quiet_same c.requests
    by false = quiet_same c.requests
quiet_class memory from c now bytes Classes.Success =
    quiet_met memory c now bytes (heard_in from bytes c)
quiet_class memory from c now bytes Classes.Error =
    quiet_met memory c now bytes (heard_in from bytes c)

quiet_received : (memory : Memory) (from : SocketAddr) (bytes : List ℕ) (now : ℕ) (c : Client)
    → IsQuiet c.requests (received memory from bytes now c).1.requests
quiet_received memory from bytes now c = by (is_some (refusal bytes))
  where
    by : (b : Bool)
        → IsQuiet c.requests
        (cond b (NotOurs, c) (by_class memory from c now bytes (class_in bytes))).1.requests
    by true = quiet_same c.requests
    by false = quiet_class memory from c now bytes (class_in bytes)

quiet_heard : (from : SocketAddr) (bytes : List ℕ) (now : ℕ) (c : Client) (answer : Answer)
    → UnlessMemory (λ memory. received memory from bytes now c) bytes (heard_in from bytes c) c
    answer
    → IsQuiet c.requests answer.1.requests
quiet_heard from bytes now c answer (as_expected memory same) =
    subst (λ (a : Answer). IsQuiet c.requests a.1.requests) (sym same)
    (quiet_received memory from bytes now c)
quiet_heard from bytes now c answer (forgone same) =
    subst (λ (a : Answer). IsQuiet c.requests a.1.requests) (sym same) (by (heard_in from bytes c))
  where
    by : (o : Option Met) → IsQuiet c.requests (without_memory bytes c o).1.requests
    by None = quiet_same c.requests
    by (Some m) = quiet_dropping m.number Reasons.OutOfMemory bytes c

-- ---- what each call does

-- a call keeps what is stored under a number, or takes it away and hands out its end
abbrev pub Effect : ℕ → All → Event → All → Type 0
Effect n r event after =
    ((has n after.numbers.known ≡ has n r.numbers.known) × (hands_out n event ≡ false))
    ⊎ ((has n r.numbers.known ≡ true) × (has n after.numbers.known ≡ false)
    × (hands_out n event ≡ true))

-- a call names a request that is stored, or starts the next one
abbrev pub IsNamed : All → Event → Type 0
IsNamed r (starts k) = k ≡ r.next
IsNamed r (cancels k) = has k r.numbers.known ≡ true
IsNamed r (polled (transmit k)) = has k r.numbers.known ≡ true
IsNamed r (polled (ends k end)) = has k r.numbers.known ≡ true
IsNamed r (polled (waits until)) = ⊤
IsNamed r silent = ⊤

pub record IsStep (c : Client) (event : Event) (after : Client) : Type 0 where
  pub up : c.requests.next ≤ after.requests.next
  pub effect : (n : ℕ) → n < c.requests.next → Effect n c.requests event after.requests
  pub named : IsNamed c.requests event

quiet_step : (c after : Client) → IsQuiet c.requests after.requests → IsStep c silent after
quiet_step c after quiet = record {
  up = let same = quiet.next in omega (arith, same);
  effect = λ n low. inl (quiet.still n, refl);
  named = tt;
}

-- ---- a request is started

pub record IsStart (c : Client) (method : ℕ) (body : Body) (options : Option Options) (now : ℕ)
    : Type 0 where
  pub id_number : ℕ
  pub bytes : List ℕ
  pub chosen_is : chosen c ≡ Some id_number
  pub written : first_message c method id_number body options ≡ Ok bytes
  pub unrefused : start_refusal c.requests (id_of c.seed id_number) ≡ None
  pub made : started method body options now c
      ≡ started_by c id_number method body options bytes now

pub start_is : (c : Client) (method : ℕ) (body : Body) (options : Option Options) (now : ℕ)
    → refusal_to_start c method body options ≡ None → IsStart c method body options now
start_is c method body options now none = by (chosen c) refl none
  where
    unmapped : (o : Option StartRefusal) → option_map error_of o ≡ None → o ≡ None
    unmapped None is = refl
    unmapped (Some why) is = cc

    written : (number : ℕ) → chosen c ≡ Some number → (page : Page?)
        → first_message c method number body options ≡ page → refusal_of_page c number page ≡ None
        → IsStart c method body options now
    written number some (Err why) page is = cc
    written number some (Ok bytes) page is = record {
      id_number = number;
      bytes = bytes;
      chosen_is = some;
      written = page;
      unrefused = unmapped (start_refusal c.requests (id_of c.seed number)) is;
      made =
          ap (λ o. started_at c method body options now o) some
          ∙ ap (λ p. started_with c number method body options now p) page;
    }

    by : (o : Option ℕ) → chosen c ≡ o → refusal_of_number c method body options o ≡ None
        → IsStart c method body options now
    by None some is = cc
    by (Some number) some is =
        written number some (first_message c method number body options) refl is

started_step : (c : Client) (method : ℕ) (body : Body) (options : Option Options) (now : ℕ)
    → IsClient c → refusal_to_start c method body options ≡ None
    → IsStep c (starts c.requests.next) (started method body options now c)
started_step c method body options now is none =
    let start = start_is c method body options now none in
    subst (λ (x : Client). IsStep c (starts c.requests.next) x) (sym start.made) (record {
      up = omega arith;
      effect = λ n low.
          effect n c.requests
          (started_by c start.id_number method body options start.bytes now).requests _ is.requests
          low
          (starts_one c.requests _ (id_of c.seed start.id_number) start.bytes
          (plan_by options c.plan) (first_asked c method body options now) now start.unrefused
          refl);
      named = refl;
    })

-- ---- polls

next_polled : (now : ℕ) (r : All) → (polled_in now r).1.next ≡ r.next
unfolding polled_in
next_polled now r = unsent (first_unsent r.numbers)
  where
    sent : All
    sent = record r { table = after_transmission now r.table }

    times : (o : Option (Request AskedSeen)) → (over_or now sent o).1.next ≡ r.next
    times None = refl
    times (Some q) = refl

    ended : (o : Option (ℕ × EndSeen)) → (ends_or now sent o).1.next ≡ r.next
    ended None = times (over now sent.table)
    ended (Some p) = refl

    again : (o : Option ℕ) → (repeats_or now sent o).1.next ≡ r.next
    again (Some k) = refl
    again None = ended (end_of_first sent.numbers)

    unsent : (o : Option ℕ) → (unsent_or now r o).1.next ≡ r.next
    unsent (Some k) = refl
    unsent None = again (repeated now r.table)

next_removing : (k : ℕ) (r : All) → (after_removing k r).next ≡ r.next
next_removing k r = by (id_at k r.numbers)
  where
    by : (o : Option ℕ) → (option_map_or (λ id. record r {
      table = after_cancel id r.table;
      numbers = after_removal k r.numbers;
    }) o r).next ≡ r.next
    by None = refl
    by (Some id) = refl

-- a request that a poll of the requests names, so that it is sent
module _ (now k : ℕ) (c : Client) (r : All) (is : IsClient c)
    (said : polled_in now c.requests ≡ (Of.Transmit k, r)) (client : IsClient (with_requests r c))
    (there : IsSome (id_at k r.numbers)) where
  next_is : r.next ≡ c.requests.next
  next_is = sym (ap (λ (p : PollOf AskedSeen EndSeen). p.1.next) said) ∙ next_polled now c.requests

  still : (n : ℕ) → n < c.requests.next → has n r.numbers.known ≡ has n c.requests.numbers.known
  still n low = elim (effect n c.requests r _ is.requests low
      (polls_in c.requests r now (Of.Transmit k) said)) [
        | inl same ↦ same.0
        | inr out ↦ let no = out.2 in cc
      ]

  stored : has k c.requests.numbers.known ≡ true
  stored =
      let here = some_has k r there in
      let low = stored_low k r client.requests here in
      sym (still k (omega (arith, low, next_is))) ∙ here

  sent_step : (after : All) → IsQuiet r after
      → IsStep c (polled (transmit k)) (with_requests after c)
  sent_step after quiet = record {
    up = let same = quiet.next in omega (arith, same, next_is);
    effect = λ n low. inl (quiet.still n ∙ still n low, refl);
    named = stored;
  }

  given_step : (a : AskedSeen)
      → IsStep c (polled (given_up k a (with_requests r c)).0)
      (given_up k a (with_requests r c)).1
  given_step a = record {
    up = let same = next_removing k r in omega (arith, same, next_is);
    effect = λ n low. over_it n low
        (effect n r (after_removing k r) _ client.requests (omega (arith, low, next_is))
        (removes r (after_removing k r) k there refl));
    named = stored;
  }
    where
      over_it : (n : ℕ) → n < c.requests.next
          → ((has n (after_removing k r).numbers.known ≡ has n r.numbers.known)
          × ((k == n) ≡ false))
          ⊎ ((has n r.numbers.known ≡ true) × (has n (after_removing k r).numbers.known ≡ false)
          × ((k == n) ≡ true))
          → ((has n (after_removing k r).numbers.known ≡ has n c.requests.numbers.known)
          × ((k == n) ≡ false))
          ⊎ ((has n c.requests.numbers.known ≡ true)
          × (has n (after_removing k r).numbers.known ≡ false) × ((k == n) ≡ true))
      over_it n low (inl same) = inl (same.0 ∙ still n low, same.1)
      over_it n low (inr out) = inr (sym (still n low) ∙ out.0, out.1, out.2)

  handed_step : (o : Option AskedSeen)
      → IsStep c (polled (handed_out_of now k (with_requests r c) o).0)
      (handed_out_of now k (with_requests r c) o).1
  handed_step None = sent_step r (quiet_same r)
  handed_step (Some a) = by (is_late now a)
    where
      by : (b : Bool)
          → IsStep c
          (polled (cond b (given_up k a (with_requests r c)) (sent_by now k (with_requests r c))).0)
          (cond b (given_up k a (with_requests r c)) (sent_by now k (with_requests r c))).1
      by true = given_step a
      by false = sent_step (changed_at (SentOut now) k r) (quiet_changed (SentOut now) k r)

told_step : (now : ℕ) (c : Client) → IsClient c
    → IsStep c (polled (told now c).0) (told now c).1
told_step now c is = by (polled_in now c.requests) refl (polled_client now c is)
  where
    next_is : (p : PollOf AskedSeen EndSeen) → polled_in now c.requests ≡ p
        → p.1.next ≡ c.requests.next
    next_is p said =
        sym (ap (λ (x : PollOf AskedSeen EndSeen). x.1.next) said) ∙ next_polled now c.requests

    by : (p : PollOf AskedSeen EndSeen) → polled_in now c.requests ≡ p → IsPolled c p
        → IsStep c (polled (by_polled now (with_requests p.1 c) p.0).0)
        (by_polled now (with_requests p.1 c) p.0).1
    by (Of.Transmit k, r) said well =
        handed_step now k c r is said well.client well.named (datum_of k r)
    by (Of.Ended k end, r) said well = record {
      up = let same = next_is (Of.Ended k end, r) said in omega (arith, same);
      effect = λ n low. effect n c.requests r _ is.requests low
          (polls_in c.requests r now (Of.Ended k end) said);
      named = well.named;
    }
    by (Of.TimedOut k a, r) said well = record {
      up = let same = next_is (Of.TimedOut k a, r) said in omega (arith, same);
      effect = λ n low. effect n c.requests r _ is.requests low
          (polls_in c.requests r now (Of.TimedOut k a) said);
      named = well.named;
    }
    by (Of.Wait until, r) said well = record {
      up = let same = next_is (Of.Wait until, r) said in omega (arith, same);
      effect = λ n low. effect n c.requests r _ is.requests low
          (polls_in c.requests r now (Of.Wait until) said);
      named = tt;
    }

-- ---- one call

datum_has : (k : ℕ) (a : AskedSeen) (r : All) → datum_of k r ≡ Some a
    → has k r.numbers.known ≡ true
datum_has k a r some = by (id_at k r.numbers) refl some
  where
    by : (o : Option ℕ) → id_at k r.numbers ≡ o
        → option_map (λ (x : Request AskedSeen). x.datum)
        (option_and_then (λ id. datum_at id r.table.attached) o) ≡ Some a
        → has k r.numbers.known ≡ true
    by None is some = cc
    by (Some id) is some = id_has k id r is

pub call_step : (c after : Client) (event : Event) → IsClient c → Call c event after
    → IsStep c event after
call_step c after event is (requests _ _ method body options now low none made) =
    subst (λ (x : Client). IsStep c (starts c.requests.next) x) (sym made)
    (started_step c method body options now is none)
call_step c after event is (receives _ _ from bytes now answer low heard made) =
    subst (λ (x : Client). IsStep c silent x) (sym made)
    (quiet_step c answer.1 (quiet_heard from bytes now c answer heard))
call_step c after event is (polls _ _ now says said) =
    subst (λ (p : Poll). IsStep c (polled p.0) p.1) said (told_step now c is)
call_step c after event is (ends_one _ _ number a some made) =
    let quiet =
    quiet_canceling number (bare_end how.Cancelled) c.requests in
    subst (λ (x : Client). IsStep c (cancels number) x) (sym made) (record {
      up = let same = quiet.next in omega (arith, same);
      effect = λ n low. inl (quiet.still n, refl);
      named = datum_has number a c.requests some;
    })
call_step c after event is (changes_nothing _) = quiet_step c c (quiet_same c.requests)

-- ---- any calls

not_named : (n : ℕ) (r : All) (event : Event) → n < r.next → has n r.numbers.known ≡ false
    → IsNamed r event → names n event ≡ false
not_named n r (starts k) low none named =
    ne_eqb k n (λ same. omega (arith, same, low, named))
not_named n r (cancels k) low none named = ne_eqb k n (λ same. differs same)
  where
    differs : k ≡ n → ⊥
    differs same =
        let gone : has k r.numbers.known ≡ false =
        subst (λ j. has j r.numbers.known ≡ false) (sym same) none in
        let there : has k r.numbers.known ≡ true = named in
        cc
not_named n r (polled (transmit k)) low none named = ne_eqb k n (λ same. differs same)
  where
    differs : k ≡ n → ⊥
    differs same =
        let gone : has k r.numbers.known ≡ false =
        subst (λ j. has j r.numbers.known ≡ false) (sym same) none in
        let there : has k r.numbers.known ≡ true = named in
        cc
not_named n r (polled (ends k end)) low none named = ne_eqb k n (λ same. differs same)
  where
    differs : k ≡ n → ⊥
    differs same =
        let gone : has k r.numbers.known ≡ false =
        subst (λ j. has j r.numbers.known ≡ false) (sym same) none in
        let there : has k r.numbers.known ≡ true = named in
        cc
not_named n r (polled (waits until)) low none named = refl
not_named n r silent low none named = refl

not_some : (o : Option (Known EndSeen)) → is_some o ≡ false → o ≡ None
not_some None gone = refl
not_some (Some x) gone = cc

abbrev one_if : Bool → ℕ
one_if b = cond b 1 0

-- a request that is over, which no call names or hands out
abbrev pub IsSilent : ℕ → Client → List Event → Type 0
IsSilent n after events =
    IsOverIn n after.requests × (count_names n events ≡ 0) × (count_ends n events ≡ 0)

pub over_all : (n : ℕ) (c after : Client) (events : List Event) → IsClient c
    → IsOverIn n c.requests → Calls c events after → IsSilent n after events
over_all n c after events is over (no_call _) = (over, refl, refl)
over_all n c after events is over (call _ next _ event others made rest) =
    by step (step.effect n over.started)
    (λ o. over_all n next after others (call_is c next event is made) o rest)
  where
    step : IsStep c event next
    step = call_step c next event is made

    none : has n c.requests.numbers.known ≡ false
    none = ap is_some over.gone

    by : IsStep c event next → Effect n c.requests event next.requests
        → (IsOverIn n next.requests → IsSilent n after others)
        → IsSilent n after (event ∷ others)
    by step (inl same) again =
        let before = over.started in
        let up = step.up in
        let all = again (record {
          started = omega (arith, before, up);
          gone = not_some (known_at n next.requests.numbers.known) (same.0 ∙ none);
        }) in
        let named : one_if (names n event) ≡ 0 =
        ap one_if (not_named n c.requests event over.started none step.named) in
        let handed : one_if (hands_out n event) ≡ 0 = ap one_if same.1 in
        (all.0, omega (arith, named, all.1), omega (arith, handed, all.2))
    by step (inr out) again = let yes = out.0 in let no = none in cc

-- a request that was started is stored, or its end was handed out
abbrev pub IsOnce : ℕ → Client → List Event → Type 0
IsOnce n after events =
    ((has n after.requests.numbers.known ≡ true) × (count_ends n events ≡ 0))
    ⊎ (IsOverIn n after.requests × (count_ends n events ≡ 1))

pub ends_once : (n : ℕ) (c after : Client) (events : List Event) → IsClient c
    → has n c.requests.numbers.known ≡ true → Calls c events after → IsOnce n after events
ends_once n c after events is there (no_call _) = inl (there, refl)
ends_once n c after events is there (call _ next _ event others made rest) =
    by step (step.effect n low)
    (λ s. ends_once n next after others (call_is c next event is made) s rest)
    (λ o. over_all n next after others (call_is c next event is made) o rest)
  where
    step : IsStep c event next
    step = call_step c next event is made

    low : n < c.requests.next
    low = stored_low n c.requests is.requests there

    later : hands_out n event ≡ false → IsOnce n after others → IsOnce n after (event ∷ others)
    later quiet (inl still) =
        let handed : one_if (hands_out n event) ≡ 0 = ap one_if quiet in
        inl (still.0, omega (arith, handed, still.1))
    later quiet (inr over) =
        let handed : one_if (hands_out n event) ≡ 0 = ap one_if quiet in
        inr (over.0, omega (arith, handed, over.1))

    by : IsStep c event next → Effect n c.requests event next.requests
        → (has n next.requests.numbers.known ≡ true → IsOnce n after others)
        → (IsOverIn n next.requests → IsSilent n after others)
        → IsOnce n after (event ∷ others)
    by step (inl same) again done = later same.1 (again (same.0 ∙ there))
    by step (inr out) again done =
        let before = low in
        let up = step.up in
        let all = done (record {
          started = omega (arith, before, up);
          gone = not_some (known_at n next.requests.numbers.known) out.1;
        }) in
        let handed : one_if (hands_out n event) ≡ 1 = ap one_if out.2 in
        inr (all.0, omega (arith, handed, all.2))

-- ---- a start

pub starts_new : (c after : Client) (number : ℕ) → IsClient c → Call c (starts number) after
    → (has number after.requests.numbers.known ≡ true)
    × (known_at number c.requests.numbers.known ≡ None)
starts_new c after number is (requests _ _ method body options now low none made) =
    let start = start_is c method body options now none in (
      ap (λ (x : Client). has c.requests.next x.requests.numbers.known) (made ∙ start.made)
          ∙ ap is_some (at_insert c.requests.next (Outstanding (id_of c.seed start.id_number))
          c.requests.numbers.known c.requests.next
          ∙ ap (λ b. cond b (Some (Outstanding (id_of c.seed start.id_number)))
          (known_at c.requests.next c.requests.numbers.known)) (own_key c.requests.next)),
      is.requests.one.fresh c.requests.next (omega arith),
    )
