-- What a poll says of a request that gets no answer, and what it leaves of it.
use Rattle.std.proofs.Common.{◌≡◌, ◌∙◌, ◌⊎◌, ◌+◌, ◌*◌, ◌<◌, ◌≤◌, ℕ, zero, suc, Bool, true, false}
use Rattle.std.proofs.Common.{Option, Some, None, ap, arith, cond, inl, inr, max, min, refl, subst}
use Rattle.std.proofs.Common.{sym}
use Rattle.std.specs.BTreeMap.{is_at}
use Rattle.std.specs.Option.{option_and_then, option_map, option_map_or}
use Rattle.std.specs.Ordering.{nat_cmp}
use Rattle.std.specs.Prelude.{◌==◌, ◌&&◌, ◌||◌, nat_le, nat_lt, not}
use Rattle.std.proofs.lemmas.Bool.{eq-eqb, leb-true, ltb-false, ltb-true}
use Rattle.stun_base.specs.Moments.{last_moment, moment_after}
use Rattle.stun_base.specs.declared.wire.transport.TransportType.{TransportType}
use Rattle.stun_agent.specs.Tables.{after_cancel, datum_at}
use Rattle.stun_agent.specs.Timing.{Settings, final_wait, slots, timeout}
use Rattle.stun_agent.specs.Transactions.{Transaction, after_slot, awaited_moment, has_slots}
use Rattle.stun_agent.specs.Transactions.{is_cancelled, is_due, is_over}
use Rattle.stun_agent.specs.declared.state.transaction.Sending.TheVariants.{Repeats}
use Rattle.stun_client_endpoint.specs.declared.ended.Drops.{Drops}
use Rattle.stun_client_requests.specs.Numbers.{after_removal, known_at}
use Rattle.stun_client_requests.specs.Requests.{after_replacing, datum_of, polled}
use Rattle.stun_client_requests.specs.declared.requests.Polled.{Polled}
use Rattle.stun_client_requests.specs.declared.requests.Polled.TheVariants as Of
use Rattle.stun_client_requests.specs.declared.requests.Request.{Request}
use Rattle.stun_client_requests.proofs.NumberLemmas.{Ascend, own_key}
use Rattle.stun_client_requests.proofs.RequestLemmas.{at_remove}
use Rattle.stun_client_requests.proofs.TimelyLemmas.{named_is_one}
use Rattle.stun_client_calls.specs.Clients.{Client, Poll, by_polled, changed, ends, given_up}
use Rattle.stun_client_calls.specs.Clients.{handed_out, handed_out_of, sent_by, told, transmit}
use Rattle.stun_client_calls.specs.Clients.{waits, with_requests}
use Rattle.stun_client_calls.specs.Endpoints.{EndSeen}
use Rattle.stun_client_calls.specs.Messages.{AskedSeen, is_late, sent_out}
use Rattle.stun_client_calls.specs.Runs.{is_told_of}
use Rattle.stun_client_calls.specs.declared.asked.Change.TheVariants.{SentOut}
use Rattle.stun_client_runs.specs.Kept.{IsClient}
use Rattle.stun_client_plans.specs.Plan.{ComesWithin, due_after, plan_ends, request_due}
use Rattle.stun_client_plans.specs.Plan.{timeouts_of, unanswered_end}
use Rattle.stun_client_plans.proofs.HoldLemmas.{All, Holds, IsOne, own_holds, removing_holds}
use Rattle.stun_client_plans.proofs.HoldLemmas.{replacing_holds}
use Rattle.stun_client_plans.proofs.MomentLemmas.{awaited_after, awaited_slot, late_wait, one_more}
use Rattle.stun_client_plans.proofs.MomentLemmas.{sent_at}
use Rattle.stun_client_plans.proofs.PolledLemmas.{IsAgain, IsFirst, IsOver, IsQuiet, Polls}
use Rattle.stun_client_plans.proofs.PolledLemmas.{polled_goes}
use Rattle.stun_client_plans.proofs.TimesLemmas.{times, times_remove_none}
use Rattle.stun_client_plans.proofs.WalkLemmas.{named_known}

-- ---- the request

-- a request: when it was started, under which number, how late its client is polled at most, and
-- the client that it was started at, whose transport its timers go by, and their plan
pub record Sent : Type 0 where
  pub start : ℕ
  pub number : ℕ
  pub late : ℕ
  pub client : Client
  pub plan : Settings

abbrev pub transport_of : Sent → TransportType
transport_of r = r.client.requests.table.transport

-- the time that it awaits after k timeouts, the last of which passed at a time
abbrev pub awaited : Sent → ℕ → ℕ → ℕ
awaited r k last = request_due r.client r.plan k last

-- the one that it awaits by its plan
abbrev pub planned : Sent → ℕ → ℕ
planned r k = awaited_after r.start (transport_of r) r.plan k

abbrev pub slots_of : Sent → ℕ
slots_of r = timeouts_of r.client r.plan

-- the end of its plan
abbrev pub end_at : Sent → ℕ
end_at r = plan_ends r.client r.plan r.start

-- it is due at a time: at most so late, and in its plan at most so late for each timeout
abbrev pub IsDue : Sent → ℕ → ℕ → ℕ → Type 0
IsDue r k last now =
    ComesWithin r.late (awaited r k last) now × ComesWithin (suc k * r.late) (planned r k) now

-- nothing of it has passed
pub record AtStart (r : Sent) (k last due : ℕ) : Type 0 where
  pub none : k ≡ 0
  pub last_is : last ≡ r.start
  pub at_once : due ≤ r.start

-- what is stored of it
abbrev pub stored : Sent → AskedSeen → Request AskedSeen
stored r a = record { number = r.number; datum = a }

-- it stands after k timeouts, the last of which passed at a time, with so many left, in a client
-- that is to be polled at a time: it is outstanding, with its timer, and its bytes were handed out
-- or were not
pub record Stands (r : Sent) (is_unsent : Bool) (k more last due : ℕ) (c : Client) : Type 0 where
  pub id : ℕ
  pub asked : AskedSeen
  pub timer : Transaction
  pub holds : Holds (transport_of r) r.number id (stored r asked) timer is_unsent c.requests
  pub until_is : asked.until ≡ end_at r
  pub settings_is : timer.settings ≡ r.plan
  pub goes_on : timer.sending ≡ Repeats
  pub slot_is : timer.slot ≡ k
  pub last_is : timer.last ≡ last
  pub all : k + more ≡ slots_of r
  pub on_plan : ComesWithin (k * r.late) (sent_at r.start r.plan k) last
  pub low : due ≤ awaited r k last
  pub first : is_unsent ≡ true → AtStart r k last due

-- ---- what a poll says of it

-- it has ended, and its end was handed out: nothing is known of it, and nothing of it is to be sent
pub record IsGone (n : ℕ) (c : Client) : Type 0 where
  pub started : n < c.requests.next
  pub unknown : known_at n c.requests.numbers.known ≡ None
  pub unsent : times n c.requests.numbers.unsent ≡ 0

-- nothing is said of it
pub record IsSilent (r : Sent) (is_unsent : Bool) (k more last due now : ℕ)
    (p : Poll) : Type 0 where
  pub unnamed : is_told_of r.number p.0 ≡ false
  pub stands : Stands r is_unsent k more last (due_after due now p.0) p.1

-- it is retransmitted
pub record IsRepeated (r : Sent) (k more last now was now_left was_last : ℕ) : Type 0 where
  pub was_is : was ≡ suc k
  pub left_is : suc now_left ≡ more
  pub last_is : was_last ≡ now
  pub is_due : IsDue r k last now

-- it is sent: for the first time, or again
pub record IsSent (r : Sent) (is_unsent : Bool) (k more last due now : ℕ) (p : Poll) : Type 0 where
  pub told : p.0 ≡ transmit r.number
  pub in_plan : now ≤ end_at r
  pub was : ℕ
  pub now_left : ℕ
  pub was_last : ℕ
  pub which : cond is_unsent ((was ≡ k) × (now_left ≡ more) × (was_last ≡ last))
      (IsRepeated r k more last now was now_left was_last)
  pub stands : Stands r false was now_left was_last due p.1

-- it would be retransmitted after k timeouts, with some left
pub record IsToRepeat (r : Sent) (k more last now : ℕ) : Type 0 where
  pub left : ℕ
  pub left_is : suc left ≡ more
  pub is_due : IsDue r k last now

-- it would be sent after its plan, and ends instead
pub record IsGivenUp (r : Sent) (is_unsent : Bool) (k more last now : ℕ) (p : Poll) : Type 0 where
  pub drops : Drops
  pub told : p.0 ≡ ends r.number (unanswered_end drops)
  pub after_plan : end_at r < now
  pub which : cond is_unsent (is_unsent ≡ true) (IsToRepeat r k more last now)
  pub unknown : known_at r.number p.1.requests.numbers.known ≡ None
  pub unsent : times r.number p.1.requests.numbers.unsent ≡ 0

-- it ends, because its time is over
pub record IsTimedOut (r : Sent) (is_unsent : Bool) (k more last now : ℕ) (p : Poll) : Type 0 where
  pub drops : Drops
  pub told : p.0 ≡ ends r.number (unanswered_end drops)
  pub was_sent : is_unsent ≡ false
  pub none_left : more ≡ 0
  pub is_due : IsDue r k last now
  pub unknown : known_at r.number p.1.requests.numbers.known ≡ None
  pub unsent : times r.number p.1.requests.numbers.unsent ≡ 0

-- one of these
abbrev pub Says : Sent → Bool → ℕ → ℕ → ℕ → ℕ → ℕ → Poll → Type 0
Says r is_unsent k more last due now p =
    IsSilent r is_unsent k more last due now p
    ⊎ (IsSent r is_unsent k more last due now p
    ⊎ (IsGivenUp r is_unsent k more last now p ⊎ IsTimedOut r is_unsent k more last now p))

-- ---- its times

some_left : (k more n : ℕ) → k + more ≡ n → nat_lt k n ≡ true → (less : ℕ) × (suc less ≡ more)
some_left k zero n all is = let less : k < n = ltb-true k n is in absurd (omega (arith, all, less))
some_left k (suc less) n all is = (less, refl)

none_left : (k more n : ℕ) → k + more ≡ n → nat_lt k n ≡ false → more ≡ 0
none_left k zero n all is = refl
none_left k (suc less) n all is =
    let low : n ≤ k = ltb-false k n is in absurd (omega (arith, all, low))

due_parts : (c s w : Bool) → (not c && (s && w)) ≡ true → (s ≡ true) × (w ≡ true)
due_parts true s w is = cc
due_parts false true true is = (refl, refl)
due_parts false true false is = cc
due_parts false false w is = cc

over_parts : (c s w : Bool) → c ≡ false → (c || (not s && w)) ≡ true → (s ≡ false) × (w ≡ true)
over_parts true s w on is = cc
over_parts false true w on is = cc
over_parts false false true on is = (refl, refl)
over_parts false false false on is = cc

module _ (r : Sent) (u : Bool) (k more last due : ℕ) (c : Client) (s : Stands r u k more last due c)
  where
    -- the time that its timer awaits
    awaits_is : awaited_moment (transport_of r) s.timer ≡ awaited r k last
    awaits_is = λ i.
        moment_after (s.last_is i)
        (cond (nat_lt (s.slot_is i) (slots (transport_of r) (s.settings_is i)))
        (timeout (s.settings_is i) (s.slot_is i)) (final_wait (transport_of r) (s.settings_is i)))

    slots_left : has_slots (transport_of r) s.timer ≡ nat_lt k (slots_of r)
    slots_left = λ i. nat_lt (s.slot_is i) (slots (transport_of r) (s.settings_is i))

    -- a poll that comes once it is due, and at most so late
    due_now : (now : ℕ) → awaited r k last ≤ now → now ≤ due + r.late → IsDue r k last now
    due_now now come soon =
        let both = late_wait r.late (k * r.late) (sent_at r.start r.plan k)
        (cond (nat_lt k (slots_of r)) (timeout r.plan k)
        (final_wait (transport_of r) r.plan))
        last due now s.on_plan s.low come soon in
        (both.0, subst (λ l. ComesWithin l (planned r k) now) (times_more (k * r.late)) both.1)
      where
        times_more : (m : ℕ) → k * r.late + r.late ≡ suc k * r.late
        times_more m = omega arith

    to_repeat : (now : ℕ) → now ≤ due + r.late → is_due (transport_of r) now s.timer ≡ true
        → IsToRepeat r k more last now
    to_repeat now soon due_so =
        let parts = due_parts (is_cancelled s.timer.sending) (has_slots (transport_of r) s.timer)
        (nat_le (awaited_moment (transport_of r) s.timer) now) due_so in
        let less = some_left k more (slots_of r) s.all (sym slots_left ∙ parts.0) in
        record {
          left = less.0;
          left_is = less.1;
          is_due = due_now now
              (subst (λ m. m ≤ now) awaits_is
              (leb-true (awaited_moment (transport_of r) s.timer) now parts.1)) soon;
        }

    time_over : (now : ℕ) → now ≤ due + r.late → is_over (transport_of r) now s.timer ≡ true
        → (more ≡ 0) × IsDue r k last now
    time_over now soon over =
        let parts = over_parts (is_cancelled s.timer.sending) (has_slots (transport_of r) s.timer)
        (nat_le (awaited_moment (transport_of r) s.timer) now) (ap is_cancelled s.goes_on) over in (
          none_left k more (slots_of r) s.all (sym slots_left ∙ parts.0),
          due_now now
              (subst (λ m. m ≤ now) awaits_is
              (leb-true (awaited_moment (transport_of r) s.timer) now parts.1)) soon,
        )

    -- the time at which the client is to be polled then is not later than it awaits
    wait_low : (now : ℕ) (until : Option ℕ)
        → ((m : ℕ) → until ≡ Some m → m ≤ max now (awaited_moment (transport_of r) s.timer))
        → due_after due now (waits until) ≤ awaited r k last
    wait_low now None each = s.low
    wait_low now (Some m) each = by (nat_lt now m) refl
      where
        no_later : m ≤ max now (awaited r k last)
        no_later = subst (λ x. m ≤ max now x) awaits_is (each m refl)

        by : (b : Bool) → nat_lt now m ≡ b → cond b m due ≤ awaited r k last
        by true is =
            let above : now < m = ltb-true now m is in
            least (awaited r k last) no_later above
          where
            least : (top : ℕ) → m ≤ max now top → now < m → m ≤ top
            least top low above = omega (arith, low, above)
        by false is = s.low

-- ---- what is left of it

-- the request in another client that has the same of it
stands_with : (r : Sent) (u : Bool) (k more last due next : ℕ) (c after : Client)
    (s : Stands r u k more last due c) (a : AskedSeen)
    → Holds (transport_of r) r.number s.id (stored r a) s.timer u after.requests
    → a.until ≡ s.asked.until → next ≤ awaited r k last → (u ≡ true → AtStart r k last next)
    → Stands r u k more last next after
stands_with r u k more last due next c after s a holds until low first = record {
  id = s.id;
  asked = a;
  timer = s.timer;
  holds = holds;
  until_is = until ∙ s.until_is;
  settings_is = s.settings_is;
  goes_on = s.goes_on;
  slot_is = s.slot_is;
  last_is = s.last_is;
  all = s.all;
  on_plan = s.on_plan;
  low = low;
  first = first;
}

datum_is : (n id : ℕ) (q : Request AskedSeen) (t : Transaction) (u : Bool)
    (transport : TransportType)
    (r : All) → Holds transport n id q t u r → datum_of n r ≡ Some q.datum
datum_is n id q t u transport r h =
    ap (λ o. option_map (λ (x : Request AskedSeen). x.datum)
    (option_and_then (λ k. datum_at k r.table.attached) o)) h.named
    ∙ ap (λ o. option_map (λ (x : Request AskedSeen). x.datum) o) h.there

not_late : (until now : ℕ) → nat_lt until now ≡ false → now ≤ until
not_late until now is = ltb-false until now is

too_late : (until now : ℕ) → nat_lt until now ≡ true → until < now
too_late until now is = ltb-true until now is

-- ---- bytes that are due

-- another request is sent, or given up
module _ (transport : TransportType) (n id : ℕ) (q : Request AskedSeen) (t : Transaction) (u : Bool)
    (m now : ℕ) (c : Client) (one : IsOne c.requests)
    (h : Holds transport n id q t u c.requests) (differ : m ≡ n → ⊥) where
  pub handed_holds : Holds transport n id q t u (handed_out now m c).1.requests
  handed_holds = of (datum_of m c.requests) refl
    where
      of : (o : Option AskedSeen) → datum_of m c.requests ≡ o
          → Holds transport n id q t u (handed_out_of now m c o).1.requests
      of None there = h
      of (Some a) there = by (is_late now a)
        where
          by : (b : Bool)
              → Holds transport n id q t u (cond b (given_up m a c) (sent_by now m c)).1.requests
          by true = removing_holds transport n id q t u c.requests one h m differ
          by false =
              subst (λ o. Holds transport n id q t u
              (option_map_or (λ x. after_replacing m (changed (SentOut now) x) c.requests) o
              c.requests))
              (sym there)
              (replacing_holds transport n id q t u c.requests one h m (sent_out now a) differ)

-- it is named, and the client is to be polled as before
pub handed_named : (n m now : ℕ) (c : Client) → is_told_of n (handed_out now m c).0 ≡ (m == n)
handed_named n m now c = of (datum_of m c.requests)
  where
    of : (o : Option AskedSeen) → is_told_of n (handed_out_of now m c o).0 ≡ (m == n)
    of None = refl
    of (Some a) = by (is_late now a)
      where
        by : (b : Bool) → is_told_of n (cond b (given_up m a c) (sent_by now m c)).0 ≡ (m == n)
        by true = refl
        by false = refl

handed_due : (due m now : ℕ) (c : Client) → due_after due now (handed_out now m c).0 ≡ due
handed_due due m now c = of (datum_of m c.requests)
  where
    of : (o : Option AskedSeen) → due_after due now (handed_out_of now m c o).0 ≡ due
    of None = refl
    of (Some a) = by (is_late now a)
      where
        by : (b : Bool) → due_after due now (cond b (given_up m a c) (sent_by now m c)).0 ≡ due
        by true = refl
        by false = refl

pub eqb_differs : (m n : ℕ) → (m == n) ≡ false → m ≡ n → ⊥
eqb_differs m n off same = let on : (m == n) ≡ true = eq-eqb m n same in cc

-- ---- a poll

module _ (r : Sent) (u : Bool) (k more last due now : ℕ) (c : Client) (is : IsClient c)
    (s : Stands r u k more last due c) (soon : now ≤ due + r.late) where
  abbrev q : Request AskedSeen
  q = stored r s.asked

  abbrev transport : TransportType
  transport = transport_of r

  abbrev mid : Polls → Client
  mid p = with_requests p.1 c

  -- ---- of another request, or of none

  silent_with : (p : Poll) → is_told_of r.number p.0 ≡ false
      → Holds transport r.number s.id q s.timer u p.1.requests
      → due_after due now p.0 ≡ due → IsSilent r u k more last due now p
  silent_with p unnamed holds same = record {
    unnamed = unnamed;
    stands = subst (λ d. Stands r u k more last d p.1) (sym same)
        (stands_with r u k more last due due c p.1 s s.asked holds refl s.low s.first);
  }

  quiet_says : (p : Polls) → ((m : ℕ) → p.0 ≡ Of.Transmit m → IsOne p.1)
      → IsQuiet transport r.number s.id q s.timer u now p
      → IsSilent r u k more last due now (by_polled now (mid p) p.0)
  quiet_says (Of.Transmit m, x) ones quiet =
      let differ = eqb_differs m r.number quiet.unnamed in
      silent_with (handed_out now m (with_requests x c))
      (handed_named r.number m now (with_requests x c) ∙ quiet.unnamed)
      (handed_holds transport r.number s.id q s.timer u m now (with_requests x c) (ones m refl)
      quiet.holds differ)
      (handed_due due m now (with_requests x c))
  quiet_says (Of.Ended m end, x) ones quiet =
      silent_with (ends m end, with_requests x c) quiet.unnamed quiet.holds refl
  quiet_says (Of.TimedOut m a, x) ones quiet =
      silent_with (by_polled now (with_requests x c) (Of.TimedOut m a))
      quiet.unnamed quiet.holds refl
  quiet_says (Of.Wait until, x) ones quiet = record {
    unnamed = refl;
    stands = stands_with r u k more last due (due_after due now (waits until)) c (with_requests x c)
        s s.asked quiet.holds refl
        (wait_low r u k more last due c s now until
        (λ m some. quiet.awaits m (ap (λ o. Of.Wait o) some)))
        (λ on. absurd (quiet.sent_first on until refl));
  }

  -- ---- its bytes are due

  module _ (p : Polls) (timer : Transaction)
      (h : Holds transport r.number s.id q timer false p.1) (one : IsOne p.1)
      (sorted : Ascend p.1.numbers.known) where
    handed_as : (X : Poll → Type 0)
        → X (cond (is_late now s.asked) (given_up r.number s.asked (mid p))
        (sent_by now r.number (mid p)))
        → X (handed_out now r.number (mid p))
    handed_as X it =
        subst (λ o. X (handed_out_of now r.number (mid p) o))
        (sym (datum_is r.number s.id q timer false transport p.1 h)) it

    sent_holds : Holds transport r.number s.id (stored r (sent_out now s.asked)) timer false
        (sent_by now r.number (mid p)).1.requests
    sent_holds =
        subst (λ o. Holds transport r.number s.id (stored r (sent_out now s.asked)) timer false
        (option_map_or (λ x. after_replacing r.number (changed (SentOut now) x) p.1) o p.1))
        (sym (datum_is r.number s.id q timer false transport p.1 h))
        (own_holds transport r.number s.id q timer false p.1 one h (sent_out now s.asked))

    given_unknown : known_at r.number (given_up r.number s.asked (mid p)).1.requests.numbers.known
        ≡ None
    given_unknown =
        subst (λ o. known_at r.number (option_map_or (λ id. record p.1 {
          table = after_cancel id p.1.table;
          numbers = after_removal r.number p.1.numbers;
        }) o p.1).numbers.known ≡ None) (sym h.named)
        (at_remove r.number p.1.numbers.known sorted r.number
        ∙ ap (λ b. cond b None (known_at r.number p.1.numbers.known)) (own_key r.number))

    given_unsent : times r.number (given_up r.number s.asked (mid p)).1.requests.numbers.unsent ≡ 0
    given_unsent =
        subst (λ o. times r.number (option_map_or (λ id. record p.1 {
          table = after_cancel id p.1.table;
          numbers = after_removal r.number p.1.numbers;
        }) o p.1).numbers.unsent ≡ 0) (sym h.named)
        (times_remove_none r.number (is_at (nat_cmp r.number)) p.1.numbers.unsent h.unsent)

    given : is_late now s.asked ≡ true → cond u (u ≡ true) (IsToRepeat r k more last now)
        → IsGivenUp r u k more last now (given_up r.number s.asked (mid p))
    given late which = record {
      drops = s.asked.drops;
      told = refl;
      after_plan = subst (λ m. m < now) s.until_is (too_late s.asked.until now late);
      which = which;
      unknown = given_unknown;
      unsent = given_unsent;
    }

  in_plan : is_late now s.asked ≡ false → now ≤ end_at r
  in_plan early = subst (λ m. now ≤ m) s.until_is (not_late s.asked.until now early)

  first_says : (p : Polls) → IsOne p.1 → Ascend p.1.numbers.known
      → IsFirst transport r.number s.id q s.timer u p
      → Says r u k more last due now (handed_out now r.number (mid p))
  first_says p one sorted first =
      handed_as p s.timer first.holds one sorted (Says r u k more last due now)
      (by (is_late now s.asked) refl)
    where
      by : (b : Bool) → is_late now s.asked ≡ b → Says r u k more last due now
          (cond b (given_up r.number s.asked (mid p)) (sent_by now r.number (mid p)))
      by true late =
          inr (inr (inl (given p s.timer first.holds one sorted late
          (subst (λ b. cond b (b ≡ true) (IsToRepeat r k more last now)) (sym first.was_unsent)
          refl))))
      by false early = inr (inl (record {
        told = refl;
        in_plan = in_plan early;
        was = k;
        now_left = more;
        was_last = last;
        which = subst (λ b. cond b ((k ≡ k) × (more ≡ more) × (last ≡ last))
            (IsRepeated r k more last now k more last)) (sym first.was_unsent) (refl, refl, refl);
        stands = record {
          id = s.id;
          asked = sent_out now s.asked;
          timer = s.timer;
          holds = sent_holds p s.timer first.holds one sorted;
          until_is = s.until_is;
          settings_is = s.settings_is;
          goes_on = s.goes_on;
          slot_is = s.slot_is;
          last_is = s.last_is;
          all = s.all;
          on_plan = s.on_plan;
          low = s.low;
          first = λ on. cc;
        };
      }))

  again_says : (p : Polls) → IsOne p.1 → Ascend p.1.numbers.known
      → IsAgain transport r.number s.id q s.timer u now p
      → Says r u k more last due now (handed_out now r.number (mid p))
  again_says p one sorted again =
      handed_as p (after_slot now s.timer) again.holds one sorted (Says r u k more last due now)
      (by (is_late now s.asked) refl)
    where
      repeats : IsToRepeat r k more last now
      repeats = to_repeat r u k more last due c s now soon again.due

      next : planned r k ≡ sent_at r.start r.plan (suc k)
      next =
          awaited_slot r.start transport r.plan k repeats.left
          (ap (λ n. k + n) repeats.left_is ∙ s.all)
          ∙ ap (sent_at r.start r.plan) (one_more k)

      counted : (k more less n : ℕ) → k + more ≡ n → suc less ≡ more → suc k + less ≡ n
      counted k more less n all is = omega (arith, all, is)

      -- the next time is later than the one that has come
      later : (wait : ℕ) → due ≤ awaited r k last → awaited r k last ≤ now
          → due ≤ moment_after now wait
      later wait low come =
          capped last (cond (nat_lt k (slots_of r)) (timeout r.plan k)
          (final_wait transport r.plan)) low come
        where
          capped : (last some : ℕ) → due ≤ min (last + some) last_moment
              → min (last + some) last_moment ≤ now → due ≤ min (now + wait) last_moment
          capped last some low come = omega (arith, low, come)

      by : (b : Bool) → is_late now s.asked ≡ b → Says r u k more last due now
          (cond b (given_up r.number s.asked (mid p)) (sent_by now r.number (mid p)))
      by true late =
          inr (inr (inl (given p (after_slot now s.timer) again.holds one sorted late
          (subst (λ b. cond b (b ≡ true) (IsToRepeat r k more last now)) (sym again.was_sent)
          repeats))))
      by false early = inr (inl (record {
        told = refl;
        in_plan = in_plan early;
        was = suc k;
        now_left = repeats.left;
        was_last = now;
        which = subst (λ b. cond b ((suc k ≡ k) × (repeats.left ≡ more) × (now ≡ last))
            (IsRepeated r k more last now (suc k) repeats.left now)) (sym again.was_sent) (record {
              was_is = refl;
              left_is = repeats.left_is;
              last_is = refl;
              is_due = repeats.is_due;
            });
        stands = record {
          id = s.id;
          asked = sent_out now s.asked;
          timer = after_slot now s.timer;
          holds = sent_holds p (after_slot now s.timer) again.holds one sorted;
          until_is = s.until_is;
          settings_is = s.settings_is;
          goes_on = s.goes_on;
          slot_is = ap (λ n. n + 1) s.slot_is ∙ one_more k;
          last_is = refl;
          all = counted k more repeats.left (slots_of r) s.all repeats.left_is;
          on_plan = subst (λ d. ComesWithin (suc k * r.late) d now) next repeats.is_due.1;
          low = later (cond (nat_lt (suc k) (slots_of r)) (timeout r.plan (suc k))
              (final_wait transport r.plan)) s.low repeats.is_due.0.no_earlier;
          first = λ on. cc;
        };
      }))

  -- ---- its time is over

  over_says : (p : Polls) → IsOver transport r.number q s.timer u now p
      → IsTimedOut r u k more last now (by_polled now (mid p) (Of.TimedOut r.number s.asked))
  over_says p over =
      let ended = time_over r u k more last due c s now soon over.over in
      record {
        drops = s.asked.drops;
        told = refl;
        was_sent = over.was_sent;
        none_left = ended.0;
        is_due = ended.1;
        unknown = over.gone;
        unsent = over.unsent;
      }

  -- ---- all of it

  pub told_says : Says r u k more last due now (told now c)
  told_says =
      elim (polled_goes transport r.number s.id q s.timer now c.requests is.requests.one
      is.requests.ascending is.timers s.goes_on u s.holds) [
        | inl quiet ↦ inl (quiet_says (polled now c.requests)
            (λ m said. named_is_one now m c.requests is.requests.one said) quiet)
        | inr (inl first) ↦
            subst (λ (x : Polled AskedSeen EndSeen). Says r u k more last due now
            (by_polled now (mid (polled now c.requests)) x)) (sym first.told)
            (first_says (polled now c.requests)
            (named_is_one now r.number c.requests is.requests.one first.told)
            (subst Ascend (sym (named_known now r.number c.requests first.told))
            is.requests.ascending) first)
        | inr (inr (inl again)) ↦
            subst (λ (x : Polled AskedSeen EndSeen). Says r u k more last due now
            (by_polled now (mid (polled now c.requests)) x)) (sym again.told)
            (again_says (polled now c.requests)
            (named_is_one now r.number c.requests is.requests.one again.told)
            (subst Ascend (sym (named_known now r.number c.requests again.told))
            is.requests.ascending) again)
        | inr (inr (inr over)) ↦
            subst (λ (x : Polled AskedSeen EndSeen). Says r u k more last due now
            (by_polled now (mid (polled now c.requests)) x)) (sym over.told)
            (inr (inr (inr (over_says (polled now c.requests) over))))
      ]
