-- Each request stays stored once over each call, and the number of the next one does not go back.
use Rattle.std.proofs.Common.{◌≡◌, ◌∙◌, ◌≤◌, ◌+◌, ℕ, Bool, true, false, List, Option, Some}
use Rattle.std.proofs.Common.{None, Ok, Err, ap, arith, cond, length, refl, subst, sym}
use Rattle.std.specs.BTreeMap.{is_at}
use Rattle.std.specs.Map.{remove_entry}
use Rattle.std.specs.Option.{option_and_then, option_map, option_map_or}
use Rattle.std.specs.Ordering.{nat_cmp}
use Rattle.std.specs.declared.net.socket_addr.SocketAddr.{SocketAddr}
use Rattle.stun_agent.specs.Tables.{after_answer, after_cancel, after_end as after_end_in}
use Rattle.stun_agent.specs.Tables.{after_sending, after_transmission, datum_at, over_in, set_datum}
use Rattle.stun_agent.specs.Tables.{with_datum}
use Rattle.stun_agent.specs.Tables.{with_other_datum}
use Rattle.stun_agent.specs.Timing.{Settings}
use Rattle.stun_agent.specs.Transactions.{Transaction, at}
use Rattle.stun_agent.proofs.Ascending.{IsAscending-insert, IsAscending-remove}
use Rattle.stun_client.specs.Ids.{id_of}
use Rattle.stun_client_endpoint.specs.Bodies.{Body}
use Rattle.stun_client_endpoint.specs.Written.{Page?}
use Rattle.stun_client_endpoint.specs.declared.ended.RequestEnd.TheVariants as how
use Rattle.stun_client_requests.specs.Laws.{IsRequests}
use Rattle.stun_client_requests.specs.Numbers.{NumbersSeen, after_end, after_mark, after_put}
use Rattle.stun_client_requests.specs.Numbers.{after_removal, after_rename, end_of_first}
use Rattle.stun_client_requests.specs.Numbers.{first_unsent, id_at, without_first}
use Rattle.stun_client_requests.specs.OneTable.{IsOneTable}
use Rattle.stun_client_requests.specs.Requests.{Answering, Poll as PollOf, after_again}
use Rattle.stun_client_requests.specs.Requests.{after_answering}
use Rattle.stun_client_requests.specs.Requests.{after_canceling, after_removing, after_replacing}
use Rattle.stun_client_requests.specs.Requests.{after_start, datum_of, ends_or, number_at, over}
use Rattle.stun_client_requests.specs.Requests.{over_or, polled, repeated, repeats_or, unsent_or}
use Rattle.stun_client_requests.specs.Timely.{IsTimely, bound_after}
use Rattle.stun_client_requests.specs.declared.numbers.Known.TheVariants.{Ended, Outstanding}
use Rattle.stun_client_requests.specs.declared.requests.Polled.TheVariants as Of
use Rattle.stun_client_requests.specs.declared.requests.Request.{Request}
use Rattle.stun_client_requests.proofs.IndexLemmas.{without_some}
use Rattle.stun_client_requests.proofs.LawLemmas.{first_end}
use Rattle.stun_client_requests.proofs.RequestLemmas.{at_insert, at_remove, attached_answer}
use Rattle.stun_client_requests.proofs.RequestLemmas.{attached_cancel, attached_over, attached_sent}
use Rattle.stun_client_requests.proofs.RequestLemmas.{one_handed_out, one_out, one_replaced}
use Rattle.stun_client_requests.proofs.RequestLemmas.{one_started}
use Rattle.stun_client_requests.proofs.TimelyLemmas.{polls_keep_time}
use Rattle.stun_client_calls.specs.Bounds.{IsPunctual, plan_in, until_of}
use Rattle.stun_client_calls.specs.Clients.{Client, Poll, by_polled, changed, changed_at, chosen}
use Rattle.stun_client_calls.specs.Clients.{first_asked, first_message, given_up, handed_out_of}
use Rattle.stun_client_calls.specs.Clients.{plan_for}
use Rattle.stun_client_calls.specs.Clients.{sent_by, started_at, started_with, told, with_requests}
use Rattle.stun_client_calls.specs.Endpoints.{EndSeen, bare_end}
use Rattle.stun_client_calls.specs.Messages.{AskedSeen, is_late}
use Rattle.stun_client_calls.specs.Options.{Options, plan_by}
use Rattle.stun_client_calls.specs.Receiving.{Answer, UnlessMemory, heard_in, moment_of, received}
use Rattle.stun_client_calls.specs.Runs.{Call, Event, changes_nothing, ends_one, polls, receives}
use Rattle.stun_client_calls.specs.Runs.{requests}
use Rattle.stun_client_calls.specs.declared.asked.Change.{Change}
use Rattle.stun_client_calls.specs.declared.asked.Change.TheVariants.{SentOut}
use Rattle.stun_client_calls.proofs.HeardLemmas.{answering_of, chosen_is_free, heard, nothing_of}
use Rattle.stun_client_calls.proofs.HeardLemmas.{turned_of}
use Rattle.stun_client_calls.proofs.TurnLemmas.{All, no_more, requests_after}

-- ---- calls of the table

module _ (r : All) (i : IsRequests r) where
  start_stored : (id : ℕ) (bytes : List ℕ) (plan : Settings) (datum : AskedSeen) (now : ℕ)
      → number_at id r.table.attached ≡ None
      → IsRequests (after_start id bytes plan datum now r)
  start_stored id bytes plan datum now free =
      let q : Request AskedSeen = record { number = r.next; datum = datum } in
      record {
        one = one_started r.table.attached (with_datum id q r.table.attached) r.numbers
            (after_put r.next id r.numbers) r.next id q i.one refl free refl
            (at_insert r.next (Outstanding id) r.numbers.known);
        ascending = IsAscending-insert r.numbers.known r.next (Outstanding id) i.ascending;
      }

  replace_stored : (n : ℕ) (datum : AskedSeen) → IsRequests (after_replacing n datum r)
  replace_stored n datum = by (id_at n r.numbers) refl
    where
      by : (o : Option ℕ) → id_at n r.numbers ≡ o
          → IsRequests (option_map_or (λ id. record r {
            table = with_other_datum id (record { number = n; datum = datum }) r.table;
          }) o r)
      by None named = i
      by (Some id) named =
          let q : Request AskedSeen = record { number = n; datum = datum } in
          record {
            one = one_replaced r.table.attached (set_datum id q r.table.attached) r.numbers r.next id
                n q i.one named refl refl;
            ascending = i.ascending;
          }

  changed_stored : (change : Change) (n : ℕ) → IsRequests (changed_at change n r)
  changed_stored change n = by (datum_of n r)
    where
      by : (o : Option AskedSeen)
          → IsRequests (option_map_or (λ a. after_replacing n (changed change a) r) o r)
      by None = i
      by (Some a) = replace_stored n (changed change a)

-- a request is outstanding no more
module _ (r : All) (plan : Request AskedSeen → Settings) (bound : Request AskedSeen → ℕ)
    (i : IsRequests r) (a : IsTimely plan bound r) where
  -- it has a timer
  bytes_of : (n id : ℕ) → id_at n r.numbers ≡ Some id
      → (bytes : List ℕ) × (Some bytes ≡ option_map (λ t. t.bytes) (at id r.table.requests))
  bytes_of n id named = by (datum_at id r.table.attached) refl (i.one.timed n id named)
    where
      by : (o : Option (Request AskedSeen)) → datum_at id r.table.attached ≡ o
          → option_map (λ q. q.number) o ≡ Some n
          → (bytes : List ℕ) × (Some bytes ≡ option_map (λ t. t.bytes) (at id r.table.requests))
      by None is some = cc
      by (Some q) is some =
          let h = a.timed id q is in (
            h.timer.bytes,
            sym (ap (λ (o : Option Transaction). option_map (λ t. t.bytes) o) h.there),
          )

  answer_stored : (n count : ℕ) (moment : Option ℕ) (end : EndSeen)
      → IsRequests (after_answering n count moment end r)
  answer_stored n count moment end = by (id_at n r.numbers) refl
    where
      by : (o : Option ℕ) → id_at n r.numbers ≡ o → IsRequests (option_map_or (λ id. record r {
        table = after_answer id count moment r.table;
        numbers = after_end n end r.numbers;
      }) o r)
      by None named = i
      by (Some id) named =
          let t = bytes_of n id named in
          record {
            one = one_out r.table.attached (after_answer id count moment r.table).attached r.numbers
                (after_end n end r.numbers) r.next id n (Some (Ended end)) i.one named
                (attached_answer r.table id count moment t.0 t.1) refl
                (at_insert n (Ended end) r.numbers.known);
            ascending = IsAscending-insert r.numbers.known n (Ended end) i.ascending;
          }

  cancel_stored : (n : ℕ) (end : EndSeen) → IsRequests (after_canceling n end r)
  cancel_stored n end = by (id_at n r.numbers) refl
    where
      by : (o : Option ℕ) → id_at n r.numbers ≡ o → IsRequests (option_map_or (λ id. record r {
        table = after_cancel id r.table;
        numbers = after_end n end r.numbers;
      }) o r)
      by None named = i
      by (Some id) named =
          let t = bytes_of n id named in
          record {
            one = one_out r.table.attached (after_cancel id r.table).attached r.numbers
                (after_end n end r.numbers) r.next id n (Some (Ended end)) i.one named
                (attached_cancel r.table id t.0 t.1) refl (at_insert n (Ended end) r.numbers.known);
            ascending = IsAscending-insert r.numbers.known n (Ended end) i.ascending;
          }

  remove_stored : (n : ℕ) → IsRequests (after_removing n r)
  remove_stored n = by (id_at n r.numbers) refl
    where
      by : (o : Option ℕ) → id_at n r.numbers ≡ o → IsRequests (option_map_or (λ id. record r {
        table = after_cancel id r.table;
        numbers = after_removal n r.numbers;
      }) o r)
      by None named = i
      by (Some id) named =
          let t = bytes_of n id named in
          record {
            one = one_out r.table.attached (after_cancel id r.table).attached r.numbers
                (after_removal n r.numbers) r.next id n None i.one named
                (attached_cancel r.table id t.0 t.1) refl
                (at_remove n r.numbers.known i.ascending);
            ascending = IsAscending-remove (is_at (nat_cmp n)) r.numbers.known i.ascending;
          }

-- ---- polling

module _ (r : All) (i : IsRequests r) where
  ended_stored : (p : ℕ × EndSeen) → end_of_first r.numbers ≡ Some p
      → IsRequests (record r { numbers = without_first r.numbers })
  ended_stored p some =
      let e = first_end r.numbers p some in
      subst (λ (s : NumbersSeen EndSeen). IsRequests (record r { numbers = s }))
      (sym (without_some r.numbers p.0 e.first))
      (record {
        one = one_handed_out r.table.attached r.numbers (record r.numbers {
          known = remove_entry (is_at (nat_cmp p.0)) r.numbers.known;
        }) r.next p.0 p.1 i.one e.there (at_remove p.0 r.numbers.known i.ascending);
        ascending = IsAscending-remove (is_at (nat_cmp p.0)) r.numbers.known i.ascending;
      })

  over_stored : (now : ℕ) (q : Request AskedSeen) → over now r.table ≡ Some q
      → IsRequests (over_or now r (Some q)).1
  over_stored now q some = by (over_in now r.table) refl some
    where
      by : (o : Option (ℕ × Transaction)) → over_in now r.table ≡ o
          → option_and_then (λ e. datum_at e.0 r.table.attached) o ≡ Some q
          → IsRequests (over_or now r (Some q)).1
      by None is some = cc
      by (Some e) is some = record {
        one = one_out r.table.attached (after_end_in now r.table).attached r.numbers
            (after_removal q.number r.numbers) r.next e.0 q.number None i.one
            (i.one.named e.0 q.number
            (ap (λ (o : Option (Request AskedSeen)). option_map (λ x. x.number) o) some))
            (attached_over r.table now e.0
            (ap (λ (o : Option (ℕ × Transaction)). option_map (λ x. x.0) o) is))
            refl (at_remove q.number r.numbers.known i.ascending);
        ascending = IsAscending-remove (is_at (nat_cmp q.number)) r.numbers.known i.ascending;
      }

polls_stored : (now : ℕ) (r : All) → IsRequests r → IsRequests (polled now r).1
unfolding polled
polls_stored now r i = unsent (first_unsent r.numbers)
  where
    again_at : All
    again_at = record r { table = after_transmission now r.table }

    still : IsRequests again_at
    still = record {
      one = subst (λ es. IsOneTable es r.numbers r.next) (sym (attached_sent r.table now)) i.one;
      ascending = i.ascending;
    }

    times : (o : Option (Request AskedSeen)) → over now again_at.table ≡ o
        → IsRequests (over_or now again_at o).1
    times None is = still
    times (Some q) is = over_stored again_at still now q is

    ended : (o : Option (ℕ × EndSeen)) → end_of_first r.numbers ≡ o
        → IsRequests (ends_or now again_at o).1
    ended None is = times (over now again_at.table) refl
    ended (Some p) is = ended_stored again_at still p is

    again : (o : Option ℕ) → IsRequests (repeats_or now again_at o).1
    again (Some k) = still
    again None = ended (end_of_first r.numbers) refl

    unsent : (o : Option ℕ) → IsRequests (unsent_or now r o).1
    unsent (Some k) = record {
      one = record {
        in_order = i.one.in_order;
        named = i.one.named;
        timed = i.one.timed;
        fresh = i.one.fresh;
      };
      ascending = i.ascending;
    }
    unsent None = again (repeated now r.table)

told_stored : (now : ℕ) (c : Client) → IsRequests c.requests → IsPunctual c
    → IsRequests (told now c).1.requests
told_stored now c i is = by (polled now c.requests) refl
  where
    stored : (p : PollOf AskedSeen EndSeen) → polled now c.requests ≡ p → IsRequests p.1
    stored p same =
        subst (λ (x : PollOf AskedSeen EndSeen). IsRequests x.1) same
        (polls_stored now c.requests i)

    timely : (p : PollOf AskedSeen EndSeen) → polled now c.requests ≡ p
        → IsTimely (plan_in c) (bound_after now p.0 until_of) p.1
    timely p same =
        subst (λ (x : PollOf AskedSeen EndSeen).
        IsTimely (plan_in c) (bound_after now x.0 until_of) x.1) same
        (polls_keep_time (plan_in c) until_of now c.requests i is)

    handed : (m : ℕ) (r : All) → polled now c.requests ≡ (Of.Transmit m, r)
        → (o : Option AskedSeen)
        → IsRequests (handed_out_of now m (with_requests r c) o).1.requests
    handed m r same None = stored (Of.Transmit m, r) same
    handed m r same (Some x) = at_hand (is_late now x)
      where
        at_hand : (b : Bool) → IsRequests (cond b (given_up m x (with_requests r c))
            (sent_by now m (with_requests r c))).1.requests
        at_hand true =
            remove_stored r (plan_in c) (bound_after {E = EndSeen} now (Of.Transmit m) until_of)
            (stored (Of.Transmit m, r) same) (timely (Of.Transmit m, r) same) m
        at_hand false = changed_stored r (stored (Of.Transmit m, r) same) (SentOut now) m

    by : (p : PollOf AskedSeen EndSeen) → polled now c.requests ≡ p
        → IsRequests (by_polled now (with_requests p.1 c) p.0).1.requests
    by (Of.Transmit m, r) same = handed m r same (datum_of m r)
    by (Of.Ended number end, r) same = stored (Of.Ended number end, r) same
    by (Of.TimedOut number x, r) same = stored (Of.TimedOut number x, r) same
    by (Of.Wait until, r) same = stored (Of.Wait until, r) same

-- ---- calls of a client

abbrev IsStored : Client → Type 0
IsStored c = IsRequests c.requests

pub started_stored : (c : Client) (method : ℕ) (body : Body) (options : Option Options) (now : ℕ)
    → IsStored c → (o : Option ℕ) → chosen c ≡ o
    → IsStored (started_at c method body options now o)
started_stored c method body options now i None some = i
started_stored c method body options now i (Some number) some =
    by (first_message c method number body options)
  where
    by : (page : Page?) → IsStored (started_with c number method body options now page)
    by (Err why) = i
    by (Ok bytes) =
        start_stored c.requests i (id_of c.seed number) bytes (plan_by options c.plan)
        (first_asked c method body options now) now (chosen_is_free c number some)

heard_stored : (from : SocketAddr) (bytes : List ℕ) (now : ℕ) (c : Client) (answer : Answer)
    → IsStored c → IsPunctual c
    → UnlessMemory (λ memory. received memory from bytes now c) bytes (heard_in from bytes c) c answer
    → IsStored answer.1
heard_stored from bytes now c answer i is =
    heard IsStored c now bytes i (λ change n drop. changed_stored c.requests i change n)
    (λ end m standing. answer_stored c.requests (plan_in c) until_of i is m.number (length bytes)
    (moment_of now m) end)
    (λ memory m why d s page t. requests_after c.requests (plan_for c) now m.number s.id
    (answering_of now bytes) page (nothing_of m) m.asked (turned_of memory bytes m why d s) i.one is
    t.there t.free t.in_time refl refl i.ascending)
    from answer

pub stays_stored : (c after : Client) (event : Event) → IsRequests c.requests → IsPunctual c
    → Call c event after → IsRequests after.requests
stays_stored c after event i is (requests _ _ method body options now low none made) =
    subst IsStored (sym made) (started_stored c method body options now i (chosen c) refl)
stays_stored c after event i is (receives _ _ from bytes now answer low hears made) =
    subst IsStored (sym made) (heard_stored from bytes now c answer i is hears)
stays_stored c after event i is (polls _ _ now says said) =
    subst IsStored (ap (λ (p : Poll). p.1) said) (told_stored now c i is)
stays_stored c after event i is (ends_one _ _ number a some made) =
    subst IsStored (sym made) (cancel_stored c.requests (plan_in c) until_of i is number _)
stays_stored c after event i is (changes_nothing _) = i

-- ---- the plan of all messages, and the number of the next request

pub record GoesOn (c after : Client) : Type 0 where
  pub plan : after.plan ≡ c.plan
  pub next : c.requests.next ≤ after.requests.next

next_kept : (f : ℕ → All) (o : Option ℕ) (r : All) → ((id : ℕ) → (f id).next ≡ r.next)
    → (option_map_or f o r).next ≡ r.next
next_kept f None r same = refl
next_kept f (Some id) r same = same id

next_replaced : (n : ℕ) (datum : AskedSeen) (r : All) → (after_replacing n datum r).next ≡ r.next
next_replaced n datum r =
    next_kept (λ id. record r {
      table = with_other_datum id (record { number = n; datum = datum }) r.table;
    }) (id_at n r.numbers) r (λ id. refl)

next_again : (n : ℕ) (x : Answering) (id : ℕ) (bytes : List ℕ) (plan : Settings) (datum : AskedSeen)
    (now : ℕ) (r : All) → (after_again n x id bytes plan datum now r).next ≡ r.next
next_again n x id bytes plan datum now r =
    next_kept (λ former. record r {
      table = after_answer former x.count x.moment
          (after_sending id bytes plan (record { number = n; datum = datum }) now r.table);
      numbers = after_rename n id (after_mark n r.numbers);
    }) (id_at n r.numbers) r (λ former. refl)

next_changed : (change : Change) (n : ℕ) (r : All) → (changed_at change n r).next ≡ r.next
next_changed change n r = by (datum_of n r)
  where
    by : (o : Option AskedSeen)
        → (option_map_or (λ a. after_replacing n (changed change a) r) o r).next ≡ r.next
    by None = refl
    by (Some a) = next_replaced n (changed change a) r

next_polled : (now : ℕ) (r : All) → (polled now r).1.next ≡ r.next
unfolding polled
next_polled now r = unsent (first_unsent r.numbers)
  where
    again_at : All
    again_at = record r { table = after_transmission now r.table }

    times : (o : Option (Request AskedSeen)) → (over_or now again_at o).1.next ≡ r.next
    times None = refl
    times (Some q) = refl

    ended : (o : Option (ℕ × EndSeen)) → (ends_or now again_at o).1.next ≡ r.next
    ended None = times (over now again_at.table)
    ended (Some p) = refl

    again : (o : Option ℕ) → (repeats_or now again_at o).1.next ≡ r.next
    again (Some k) = refl
    again None = ended (end_of_first r.numbers)

    unsent : (o : Option ℕ) → (unsent_or now r o).1.next ≡ r.next
    unsent (Some k) = refl
    unsent None = again (repeated now r.table)

goes_on : (c after : Client) → after.plan ≡ c.plan → after.requests.next ≡ c.requests.next
    → GoesOn c after
goes_on c after plan next = record {
  plan = plan;
  next = no_more c.requests.next after.requests.next (sym next);
}

up_one : (n : ℕ) → n ≤ n + 1
up_one n = omega arith

started_goes_on : (c : Client) (method : ℕ) (body : Body) (options : Option Options) (now : ℕ)
    (o : Option ℕ) → GoesOn c (started_at c method body options now o)
started_goes_on c method body options now None = goes_on c c refl refl
started_goes_on c method body options now (Some number) =
    by (first_message c method number body options)
  where
    by : (page : Page?) → GoesOn c (started_with c number method body options now page)
    by (Err why) = goes_on c c refl refl
    by (Ok bytes) = record { plan = refl; next = up_one c.requests.next }

heard_goes_on : (from : SocketAddr) (bytes : List ℕ) (now : ℕ) (c : Client) (answer : Answer)
    → UnlessMemory (λ memory. received memory from bytes now c) bytes (heard_in from bytes c) c answer
    → GoesOn c answer.1
heard_goes_on from bytes now c answer =
    heard (λ (x : Client). GoesOn c x) c now bytes (goes_on c c refl refl)
    (λ change n drop. goes_on c _ refl (next_changed change n c.requests))
    (λ end m standing. goes_on c _ refl
    (next_kept (λ id. record c.requests {
      table = after_answer id (length bytes) (moment_of now m) c.requests.table;
      numbers = after_end m.number end c.requests.numbers;
    }) (id_at m.number c.requests.numbers) c.requests (λ id. refl)))
    (λ memory m why d s page t. goes_on c _ refl
    (next_replaced m.number (turned_of memory bytes m why d s)
    (after_again m.number (answering_of now bytes) s.id page (plan_for c m.asked) (nothing_of m) now
    c.requests)
    ∙ next_again m.number (answering_of now bytes) s.id page (plan_for c m.asked) (nothing_of m) now
    c.requests))
    from answer

told_goes_on : (now : ℕ) (c : Client) → GoesOn c (told now c).1
told_goes_on now c = by (polled now c.requests) (next_polled now c.requests)
  where
    handed : (m : ℕ) (r : All) (o : Option AskedSeen) → r.next ≡ c.requests.next
        → GoesOn c (handed_out_of now m (with_requests r c) o).1
    handed m r None next = goes_on c (with_requests r c) refl next
    handed m r (Some x) next = at_hand (is_late now x)
      where
        at_hand : (b : Bool) → GoesOn c (cond b (given_up m x (with_requests r c))
            (sent_by now m (with_requests r c))).1
        at_hand true =
            goes_on c _ refl
            (next_kept (λ id. record r {
              table = after_cancel id r.table;
              numbers = after_removal m r.numbers;
            }) (id_at m r.numbers) r (λ id. refl) ∙ next)
        at_hand false = goes_on c _ refl (next_changed (SentOut now) m r ∙ next)

    by : (p : PollOf AskedSeen EndSeen) → p.1.next ≡ c.requests.next
        → GoesOn c (by_polled now (with_requests p.1 c) p.0).1
    by (Of.Transmit m, r) next = handed m r (datum_of m r) next
    by (Of.Ended number end, r) next = goes_on c _ refl next
    by (Of.TimedOut number x, r) next = goes_on c _ refl next
    by (Of.Wait until, r) next = goes_on c _ refl next

pub call_goes_on : (c after : Client) (event : Event) → Call c event after → GoesOn c after
call_goes_on c after event (requests _ _ method body options now low none made) =
    subst (λ (x : Client). GoesOn c x) (sym made)
    (started_goes_on c method body options now (chosen c))
call_goes_on c after event (receives _ _ from bytes now answer low hears made) =
    subst (λ (x : Client). GoesOn c x) (sym made) (heard_goes_on from bytes now c answer hears)
call_goes_on c after event (polls _ _ now says said) =
    subst (λ (x : Client). GoesOn c x) (ap (λ (p : Poll). p.1) said) (told_goes_on now c)
call_goes_on c after event (ends_one _ _ number a some made) =
    subst (λ (x : Client). GoesOn c x) (sym made)
    (goes_on c _ refl
    (next_kept (λ id. record c.requests {
      table = after_cancel id c.requests.table;
      numbers = after_end number (bare_end how.Cancelled) c.requests.numbers;
    }) (id_at number c.requests.numbers) c.requests (λ id. refl)))
call_goes_on c after event (changes_nothing _) = goes_on c c refl refl
