-- The timers of the requests stay those of one plan, and a poll that says to wait finds all in time.
use Rattle.std.proofs.Common.{◌≡◌, ◌∙◌, ◌<◌, ◌≤◌, ◌+◌, ◌-◌, ℕ, zero, suc, Bool, true, false, List}
use Rattle.std.proofs.Common.{[], ◌∷◌, Option, Some, None, ap, arith, cond, inl, inr, max, min, refl}
use Rattle.std.proofs.Common.{subst, sym}
use Rattle.std.specs.BTreeMap.{is_at}
use Rattle.std.specs.List.Sorted.{IsStrictlySortedBy}
use Rattle.std.specs.Map.{lookup, remove_entry, set_value}
use Rattle.std.specs.Option.{IfSome, is_some, option_and_then, option_map, option_map_or}
use Rattle.std.specs.Ordering.{nat_cmp}
use Rattle.std.specs.Prelude.{◌==◌, ◌&&◌, ◌||◌, nat_le, nat_lt, not}
use Rattle.std.specs.Duration.{max_nanos}
use Rattle.std.proofs.lemmas.Bool.{eqb-true, ltb-true}
use Rattle.std.proofs.lemmas.Bool.Decides.{leb_tells}
use Rattle.stun_base.specs.Moments.{last_moment, moment_after}
use Rattle.stun_base.specs.declared.wire.transport.TransportType.{TransportType}
use Rattle.stun_base.specs.declared.wire.transport.TransportType.TheVariants.{Tcp, Udp}
use Rattle.stun_agent.specs.Agent.{tally_of_end}
use Rattle.stun_agent.specs.Statistics.{Tally, request_cancelled, response_received}
use Rattle.stun_agent.specs.Tables.{Attached, TableSeen, after_answer, after_cancel}
use Rattle.stun_agent.specs.Tables.{after_end as after_end_in, after_sending}
use Rattle.stun_agent.specs.Tables.{after_transmission, counted, counted_sent, datum_at, over_in}
use Rattle.stun_agent.specs.Tables.{request_in, sent_in, set_datum, until_in, with_datum, with_other_datum}
use Rattle.stun_agent.specs.Tables.{without_datum, without_request}
use Rattle.stun_agent.specs.Timing.{Settings, final_wait, repetitions, slots, sum_of_timeouts, timeout}
use Rattle.stun_agent.specs.Transactions.{IsAscending, Transaction, Transactions, after_slot}
use Rattle.stun_agent.specs.Transactions.{after_slots, at, awaited_moment, has_slots, is_cancelled}
use Rattle.stun_agent.specs.Transactions.{is_due, is_over, is_reached, next_sent, repeats, round_trip}
use Rattle.stun_agent.specs.Transactions.{slot_passed, with, without}
use Rattle.stun_agent.specs.declared.state.transaction.Sending.{Sending}
use Rattle.stun_agent.specs.declared.state.transaction.Sending.TheVariants.{Repeats}
use Rattle.stun_agent.proofs.Ascending.{IsAscending-insert, IsAscending-map, IsAscending-remove}
use Rattle.stun_agent.proofs.Ascending.{find-least, find-none, fold-min-le, lookup-set_other}
use Rattle.stun_agent.proofs.EntryLemmas.{lookup-map, lookup-map_entries}
use Rattle.stun_agent.proofs.LookupLemmas.{found_there}
use Rattle.stun_agent.proofs.TimingLemmas.{sum_of_timeouts-add_one}
use Rattle.stun_client_requests.specs.Laws.{IsRequests}
use Rattle.stun_client_requests.specs.Numbers.{after_end, after_mark, after_removal, after_rename}
use Rattle.stun_client_requests.specs.Numbers.{end_of_first}
use Rattle.stun_client_requests.specs.Numbers.{first_unsent, id_at}
use Rattle.stun_client_requests.specs.OneTable.{IsOneTable}
use Rattle.stun_client_requests.specs.Requests.{Answering, after_again, after_answering}
use Rattle.stun_client_requests.specs.Requests.{after_canceling, after_removing, after_replacing}
use Rattle.stun_client_requests.specs.Requests.{after_start, stored_at}
use Rattle.stun_client_requests.specs.Requests.{Poll, RequestsSeen, ends_or, number_at, over, over_or}
use Rattle.stun_client_requests.specs.Requests.{outstanding_count, polled, repeated, repeats_or}
use Rattle.stun_client_requests.specs.Requests.{unsent_or, wait_of}
use Rattle.stun_client_requests.specs.Timely.{AreTimely, HasTimer, IsInTime, IsTimely, bound_after}
use Rattle.stun_client_requests.specs.declared.requests.Polled.{Polled}
use Rattle.stun_client_requests.specs.declared.requests.Polled.TheVariants.{Ended, TimedOut}
use Rattle.stun_client_requests.specs.declared.requests.Polled.TheVariants.{Transmit, Wait}
use Rattle.stun_client_requests.specs.declared.requests.Request.{Request}
use Rattle.stun_client_requests.proofs.NumberLemmas.{Ascend, eqb-same, own_key, same_key}
use Rattle.stun_client_requests.proofs.RequestLemmas.{at_insert, at_remove, attached_cancel}
use Rattle.stun_client_requests.proofs.RequestLemmas.{attached_sent, differs, set_same}

-- ---- one timer

pub no_later : (plan : Settings) (a b id : ℕ) (ts : Transactions) → a ≤ b → HasTimer plan a id ts
    → HasTimer plan b id ts
no_later plan a b id ts less h = record {
  timer = h.timer;
  there = h.there;
  planned = h.planned;
  goes_on = h.goes_on;
  early = omega (arith, less, h.early);
}

-- the same timer in another list
moved : (plan : Settings) (bound id : ℕ) (ts us : Transactions) → at id us ≡ at id ts
    → HasTimer plan bound id ts → HasTimer plan bound id us
moved plan bound id ts us same h = record {
  timer = h.timer;
  there = same ∙ h.there;
  planned = h.planned;
  goes_on = h.goes_on;
  early = h.early;
}

-- ---- all of them

pub all_no_later : {D : Type 0} (plan : Request D → Settings) (f g : Request D → ℕ)
    (ts : Transactions) (all : Attached (Request D))
    → ((id : ℕ) (q : Request D) → datum_at id all ≡ Some q → f q ≤ g q)
    → AreTimely plan f ts all → AreTimely plan g ts all
all_no_later plan f g ts all less a = record {
  ordered = a.ordered;
  timed = λ id q there. no_later (plan q) (f q) (g q) id ts (less id q there) (a.timed id q there);
  owned = a.owned;
}

sorted_none : IsAscending []
unfolding IsStrictlySortedBy
sorted_none = tt

pub none_timely : {D : Type 0} (plan : Request D → Settings) (bound : Request D → ℕ)
    → AreTimely plan bound [] []
none_timely plan bound = record {
  ordered = sorted_none;
  timed = λ id q there. cc;
  owned = λ id t there. cc;
}

-- one is taken out
module _ {D : Type 0} (plan : Request D → Settings) (bound : Request D → ℕ) (ts : Transactions)
    (all : Attached (Request D)) (sorted : Ascend all) (a : AreTimely plan bound ts all) (k : ℕ) where
  left_timed : (id : ℕ) (q : Request D) (b : Bool) → is_at (nat_cmp k) id ≡ b
      → datum_at id (without_datum k all) ≡ Some q → HasTimer (plan q) (bound q) id (without k ts)
  left_timed id q true is there =
      let none : datum_at id (without_datum k all) ≡ None =
      at_remove k all sorted id ∙ ap (λ b. cond b None (datum_at id all)) is in
      cc
  left_timed id q false is there =
      let here : datum_at id all ≡ Some q =
      sym (at_remove k all sorted id ∙ ap (λ b. cond b None (datum_at id all)) is) ∙ there in
      moved (plan q) (bound q) id ts (without k ts)
      (at_remove k ts a.ordered id ∙ ap (λ b. cond b None (at id ts)) is) (a.timed id q here)

  left_owned : (id : ℕ) (t : Transaction) (b : Bool) → is_at (nat_cmp k) id ≡ b
      → at id (without k ts) ≡ Some t → is_some (datum_at id (without_datum k all)) ≡ true
  left_owned id t true is there =
      let none : at id (without k ts) ≡ None =
      at_remove k ts a.ordered id ∙ ap (λ b. cond b None (at id ts)) is in
      cc
  left_owned id t false is there =
      let here : at id ts ≡ Some t =
      sym (at_remove k ts a.ordered id ∙ ap (λ b. cond b None (at id ts)) is) ∙ there in
      ap is_some (at_remove k all sorted id ∙ ap (λ b. cond b None (datum_at id all)) is)
      ∙ a.owned id t here

  pub left_timely : AreTimely plan bound (without k ts) (without_datum k all)
  left_timely = record {
    ordered = IsAscending-remove (is_at (nat_cmp k)) ts a.ordered;
    timed = λ id q there. left_timed id q (is_at (nat_cmp k) id) refl there;
    owned = λ id t there. left_owned id t (is_at (nat_cmp k) id) refl there;
  }

-- one comes in
module _ {D : Type 0} (plan : Request D → Settings) (bound : Request D → ℕ) (ts : Transactions)
    (all : Attached (Request D)) (a : AreTimely plan bound ts all) (k : ℕ) (t : Transaction)
    (q : Request D) (planned : t.settings ≡ plan q) (goes_on : t.sending ≡ Repeats)
    (early : t.last ≤ bound q) where
  put_timed : (id : ℕ) (p : Request D) (b : Bool) → is_at (nat_cmp k) id ≡ b
      → datum_at id (with_datum k q all) ≡ Some p → HasTimer (plan p) (bound p) id (with k t ts)
  put_timed id p true is there =
      let same : q ≡ p =
      some_is q p (sym (at_insert k q all id ∙ ap (λ b. cond b (Some q) (datum_at id all)) is)
      ∙ there) in
      record {
        timer = t;
        there = at_insert k t ts id ∙ ap (λ b. cond b (Some t) (at id ts)) is;
        planned = subst (λ (x : Request D). t.settings ≡ plan x) same planned;
        goes_on = goes_on;
        early = subst (λ (x : Request D). t.last ≤ bound x) same early;
      }
    where
      some_is : (x y : Request D) → Some x ≡ Some y → x ≡ y
      some_is x y e = cc
  put_timed id p false is there =
      let here : datum_at id all ≡ Some p =
      sym (at_insert k q all id ∙ ap (λ b. cond b (Some q) (datum_at id all)) is) ∙ there in
      moved (plan p) (bound p) id ts (with k t ts)
      (at_insert k t ts id ∙ ap (λ b. cond b (Some t) (at id ts)) is) (a.timed id p here)

  put_owned : (id : ℕ) (u : Transaction) (b : Bool) → is_at (nat_cmp k) id ≡ b
      → at id (with k t ts) ≡ Some u → is_some (datum_at id (with_datum k q all)) ≡ true
  put_owned id u true is there =
      ap is_some (at_insert k q all id ∙ ap (λ b. cond b (Some q) (datum_at id all)) is)
  put_owned id u false is there =
      let here : at id ts ≡ Some u =
      sym (at_insert k t ts id ∙ ap (λ b. cond b (Some t) (at id ts)) is) ∙ there in
      ap is_some (at_insert k q all id ∙ ap (λ b. cond b (Some q) (datum_at id all)) is)
      ∙ a.owned id u here

  pub put_timely : AreTimely plan bound (with k t ts) (with_datum k q all)
  put_timely = record {
    ordered = IsAscending-insert ts k t a.ordered;
    timed = λ id p there. put_timed id p (is_at (nat_cmp k) id) refl there;
    owned = λ id u there. put_owned id u (is_at (nat_cmp k) id) refl there;
  }

-- ---- a transmission

sooner : (a b span other top : ℕ) → a ≤ b → span ≤ other → min (a + span) top ≤ min (b + other) top
sooner a b span other top before less = omega (arith, before, less)

not_yet : (now awaited : ℕ) → nat_le awaited now ≡ false → now < awaited
not_yet now awaited is = elim (leb_tells awaited now) [
  | inl p ↦ let yes = p.0 in cc
  | inr p ↦ omega (arith, p.1)
]

up_to : (a b : ℕ) → nat_le a b ≡ true → a ≤ b
up_to a b is = elim (leb_tells a b) [
  | inl p ↦ omega (arith, p.1)
  | inr p ↦ let no = p.0 in cc
]

abbrev sends : TransportType → ℕ → ℕ × Transaction → Bool
sends transport now e = is_due transport now e.1 && repeats e.1.sending

both : (a b : Bool) → a ≡ true → b ≡ true → (a && b) ≡ true
both true true one other = refl
both true false one other = cc
both false b one other = cc

parts : (a b : Bool) → (a && b) ≡ true → (a ≡ true) × (b ≡ true)
parts true b is = (refl, is)
parts false b is = cc

repeating : (s : Sending) → s ≡ Repeats → repeats s ≡ true
repeating s is = ap repeats is

module _ {D : Type 0} (plan : Request D → Settings) (bound after : Request D → ℕ)
    (transport : TransportType) (now : ℕ) (ts : Transactions) (all : Attached (Request D)) (a : AreTimely plan bound ts all)
    (up : (q : Request D) → bound q ≤ after q)
    (named : (e : ℕ × Transaction) (q : Request D) → next_sent transport now ts ≡ Some e
    → datum_at e.0 all ≡ Some q → now ≤ after q) where
  abbrev found : Option (ℕ × Transaction)
  found = next_sent transport now ts

  abbrev later : Transactions
  later = after_slots transport now (option_map (λ e. e.0) found) ts

  abbrev next : ℕ → Transaction → Transaction
  next id t = slot_passed transport now (option_map (λ e. e.0) found) (id, t)

  -- one whose timeout passes is the one that is sent
  reached : (id : ℕ) (q : Request D) (t : Transaction) (o : Option (ℕ × Transaction)) → found ≡ o
      → at id ts ≡ Some t → datum_at id all ≡ Some q → t.sending ≡ Repeats
      → is_reached (option_map (λ e. e.0) o) id ≡ true → is_due transport now t ≡ true
      → now ≤ after q
  reached id q t None is there owner goes_on below due =
      let off : sends transport now (id, t) ≡ false =
      find-none (sends transport now) ts id t there is in
      let on : sends transport now (id, t) ≡ true =
      both (is_due transport now t) (repeats t.sending) due (repeating t.sending goes_on) in
      cc
  reached id q t (Some e) is there owner goes_on below due =
      let least : e.0 ≤ id =
      find-least (sends transport now) ts id e.0 t e.1 a.ordered there
      (both (is_due transport now t) (repeats t.sending) due (repeating t.sending goes_on)) is in
      let most : id ≤ e.0 = up_to id e.0 below in
      let same : id ≡ e.0 = omega (arith, least, most) in
      named e q is (subst (λ k. datum_at k all ≡ Some q) same owner)

  sent_timed : (id : ℕ) (q : Request D) → datum_at id all ≡ Some q
      → HasTimer (plan q) (after q) id later
  sent_timed id q owner =
      let h = a.timed id q owner in
      by h (is_reached (option_map (λ e. e.0) found) id && is_due transport now h.timer) refl
    where
      by : (h : HasTimer (plan q) (bound q) id ts) (b : Bool)
          → (is_reached (option_map (λ e. e.0) found) id && is_due transport now h.timer) ≡ b
          → HasTimer (plan q) (after q) id later
      by h false is = record {
        timer = h.timer;
        there = lookup-map_entries (slot_passed transport now (option_map (λ e. e.0) found)) id ts
            h.timer h.there
            ∙ ap (λ b. Some (cond b (after_slot now h.timer) h.timer)) is;
        planned = h.planned;
        goes_on = h.goes_on;
        early = omega (arith, h.early, up q);
      }
      by h true is =
          let two =
          parts (is_reached (option_map (λ e. e.0) found) id) (is_due transport now h.timer) is in
          record {
            timer = after_slot now h.timer;
            there =
                lookup-map_entries (slot_passed transport now (option_map (λ e. e.0) found)) id ts
                h.timer h.there
                ∙ ap (λ b. Some (cond b (after_slot now h.timer) h.timer)) is;
            planned = h.planned;
            goes_on = h.goes_on;
            early = reached id q h.timer found refl h.there owner h.goes_on two.0 two.1;
          }

  sent_owned : (id : ℕ) (t : Transaction) → at id later ≡ Some t
      → is_some (datum_at id all) ≡ true
  sent_owned id t there =
      by (at id ts) refl
      (sym (lookup-map (slot_passed transport now (option_map (λ e. e.0) found)) id ts) ∙ there)
    where
      by : (o : Option Transaction) → at id ts ≡ o
          → option_map (λ v. slot_passed transport now (option_map (λ e. e.0) found) (id, v)) o
          ≡ Some t
          → is_some (datum_at id all) ≡ true
      by None is some = cc
      by (Some u) is some = a.owned id u is

  pub sent_timely : AreTimely plan after later all
  sent_timely = record {
    ordered =
        IsAscending-map (slot_passed transport now (option_map (λ e. e.0) found)) ts a.ordered;
    timed = sent_timed;
    owned = sent_owned;
  }

-- ---- how long a timer waits

timeout_in_sum : (s : Settings) (k n : ℕ) → k < n → timeout s k ≤ sum_of_timeouts s n
timeout_in_sum s k zero low = absurd (omega arith)
timeout_in_sum s k (suc n) low =
    by (nat_le n k) refl (timeout_in_sum s k n)
  where
    grown : sum_of_timeouts s (suc n) ≡ sum_of_timeouts s n + timeout s n
    grown =
        let next : suc n ≡ n + 1 = omega arith in
        ap (sum_of_timeouts s) next ∙ sum_of_timeouts-add_one s n

    by : (b : Bool) → nat_le n k ≡ b → (k < n → timeout s k ≤ sum_of_timeouts s n)
        → timeout s k ≤ sum_of_timeouts s (suc n)
    by true is rest =
        let least = up_to n k is in
        let same : k ≡ n = omega (arith, least, low) in
        let one : timeout s k ≡ timeout s n = ap (timeout s) same in
        omega (arith, grown, one)
    by false is rest =
        let less = not_yet k n is in
        let sum = rest less in
        omega (arith, grown, sum)

-- the plan in one wait
abbrev whole : Settings → ℕ
whole s = s.last_wait + sum_of_timeouts s (repetitions s)

slot_waits : (transport : TransportType) (s : Settings) (slot : ℕ) (b : Bool)
    → nat_lt slot (slots transport s) ≡ b
    → cond b (timeout s slot) (final_wait transport s) ≤ whole s
slot_waits Udp s slot true is =
    let low = ltb-true slot (repetitions s) is in
    let one = timeout_in_sum s slot (repetitions s) (omega (arith, low)) in
    omega (arith, one)
slot_waits Udp s slot false is = omega arith
slot_waits Tcp s slot true is =
    let low = ltb-true slot 0 is in absurd (omega (arith, low))
slot_waits Tcp s slot false is = omega arith

shorter : (a b span long top : ℕ) → a ≤ b → span ≤ long → top ≤ max_nanos
    → min (a + span) top ≤ min (b + min long max_nanos) top
shorter a b span long top before less low = omega (arith, before, less, low)

-- a timer that is not over, and not due, waits no longer than a plan
module _ (plan : Settings) (bound : ℕ) (transport : TransportType) (now : ℕ) (t : Transaction)
    (planned : t.settings ≡ plan) (goes_on : t.sending ≡ Repeats) (early : t.last ≤ bound)
    (quiet : is_due transport now t ≡ false) (lives : is_over transport now t ≡ false) where
  neither : (b c : Bool) → (b && c) ≡ false → (not b && c) ≡ false → c ≡ false
  neither true c one other = one
  neither false c one other = other

  awaits : now < awaited_moment transport t
  awaits =
      not_yet now (awaited_moment transport t)
      (neither (has_slots transport t) (nat_le (awaited_moment transport t) now)
      (sym (ap
      (λ c. not c && (has_slots transport t && nat_le (awaited_moment transport t) now)) live)
      ∙ quiet)
      (sym (ap
      (λ c. c || (not (has_slots transport t) && nat_le (awaited_moment transport t) now)) live)
      ∙ lives))
    where
      live : is_cancelled t.sending ≡ false
      live = ap is_cancelled goes_on

  in_plan : awaited_moment transport t ≤ moment_after bound (final_wait Tcp plan)
  in_plan =
      subst (λ s. awaited_moment transport t ≤ moment_after bound (final_wait Tcp s)) planned
      (shorter t.last bound _ (whole t.settings) last_moment early
      (slot_waits transport t.settings t.slot (has_slots transport t) refl) (omega arith))

-- ---- polls

pub requests_sent : {D : Type 0} (t : TableSeen D) (now : ℕ)
    → (after_transmission now t).requests
    ≡ after_slots t.transport now (option_map (λ e. e.0) (next_sent t.transport now t.requests))
    t.requests
requests_sent t now = by (sent_in now t)
  where
    by : (o : Option (ℕ × Transaction)) → (counted_sent o (record t {
      requests = after_slots t.transport now (option_map (λ e. e.0) (sent_in now t)) t.requests;
    })).requests
        ≡ after_slots t.transport now (option_map (λ e. e.0) (next_sent t.transport now t.requests))
        t.requests
    by None = refl
    by (Some e) = refl

transport_sent : {D : Type 0} (t : TableSeen D) (now : ℕ)
    → (after_transmission now t).transport ≡ t.transport
transport_sent t now = by (sent_in now t)
  where
    by : (o : Option (ℕ × Transaction)) → (counted_sent o (record t {
      requests = after_slots t.transport now (option_map (λ e. e.0) (sent_in now t)) t.requests;
    })).transport ≡ t.transport
    by None = refl
    by (Some e) = refl

same_some : {X : Type 0} (x y : X) → Some x ≡ Some y → x ≡ y
same_some x y e = cc

module _ {D E : Type 0} (plan : Request D → Settings) (bound : Request D → ℕ) (now : ℕ)
    (r : RequestsSeen D E) (a : IsTimely plan bound r) where
  abbrev sent : RequestsSeen D E
  sent = record r { table = after_transmission now r.table }

  -- the one that is sent is the one that is named
  naming : (e : ℕ × Transaction) (q : Request D) (o : Option ℕ)
      → next_sent r.table.transport now r.table.requests ≡ Some e
      → datum_at e.0 r.table.attached ≡ Some q → repeated now r.table ≡ o → Some q.number ≡ o
  naming e q o is owner told =
      sym (ap (λ (x : Option (ℕ × Transaction)).
      option_and_then (λ y. number_at y.0 r.table.attached) x) is
      ∙ ap (λ (x : Option (Request D)). option_map (λ y. y.number) x) owner) ∙ told

  up_after : (told : Polled D E) (q : Request D) → bound q ≤ bound_after now told bound q
  up_after (Transmit n) q = by (n == q.number)
    where
      by : (b : Bool) → bound q ≤ cond b (max now (bound q)) (bound q)
      by true = omega arith
      by false = omega arith
  up_after (Ended n end) q = omega arith
  up_after (TimedOut n datum) q = omega arith
  up_after (Wait until) q = omega arith

  -- the table after the transmission
  over_sent : (after : Request D → ℕ) → ((q : Request D) → bound q ≤ after q)
      → ((e : ℕ × Transaction) (q : Request D)
      → next_sent r.table.transport now r.table.requests ≡ Some e
      → datum_at e.0 r.table.attached ≡ Some q → now ≤ after q)
      → IsTimely plan after sent
  over_sent after up named =
      subst (λ ts. AreTimely plan after ts sent.table.attached)
      (sym (requests_sent r.table now))
      (subst (λ es. AreTimely plan after (after_slots r.table.transport now
      (option_map (λ e. e.0) (next_sent r.table.transport now r.table.requests))
      r.table.requests) es) (sym (attached_sent r.table now))
      (sent_timely plan bound after r.table.transport now r.table.requests r.table.attached a up
      named))

  sent_named : (k : ℕ) → repeated now r.table ≡ Some k
      → IsTimely plan (bound_after {E = E} now (Transmit k) bound) sent
  sent_named k told =
      over_sent (bound_after {E = E} now (Transmit k) bound) (up_after (Transmit k))
      (λ e q is owner.
      let same : q.number ≡ k = same_some q.number k (naming e q (Some k) is owner told) in
      high q (k == q.number) (subst (λ m. (k == m) ≡ true) (sym same) (eqb-same k)))
    where
      high : (q : Request D) (b : Bool) → b ≡ true → now ≤ cond b (max now (bound q)) (bound q)
      high q true is = omega arith
      high q false is = cc

  sent_silent : repeated now r.table ≡ None → IsTimely plan bound sent
  sent_silent told =
      over_sent bound (λ q. omega arith)
      (λ e q is owner. let none = naming e q None is owner told in cc)

  -- none is due
  none_sent : repeated now r.table ≡ None
      → next_sent r.table.transport now r.table.requests ≡ None
  none_sent told = by (next_sent r.table.transport now r.table.requests) refl
    where
      owned_by : (e : ℕ × Transaction) (o : Option (Request D)) → datum_at e.0 r.table.attached ≡ o
          → is_some o ≡ true → next_sent r.table.transport now r.table.requests ≡ Some e
          → Some e ≡ None
      owned_by e None owner some is = cc
      owned_by e (Some q) owner some is =
          let none = naming e q None is owner told in cc

      by : (o : Option (ℕ × Transaction))
          → next_sent r.table.transport now r.table.requests ≡ o → o ≡ None
      by None is = refl
      by (Some e) is =
          let there = found_there (sends r.table.transport now) r.table.requests e is in
          let some = a.owned e.0 there.0 there.1 in
          owned_by e (datum_at e.0 r.table.attached) refl some is

-- a request whose time is over leaves
module _ {D E : Type 0} (plan : Request D → Settings) (bound : Request D → ℕ) (now : ℕ)
    (s : RequestsSeen D E) (sorted : Ascend s.table.attached) (a : IsTimely plan bound s) where
  ended_timely : AreTimely plan bound (after_end_in now s.table).requests
      (after_end_in now s.table).attached
  ended_timely = by (over_in now s.table)
    where
      by : (o : Option (ℕ × Transaction))
          → AreTimely plan bound
          (option_map_or (λ e. counted (tally_of_end e.1) (without_request e.0 s.table)) o
          s.table).requests
          (option_map_or (λ e. counted (tally_of_end e.1) (without_request e.0 s.table)) o
          s.table).attached
      by None = a
      by (Some e) =
          left_timely plan bound s.table.requests s.table.attached sorted a e.0

  pub over_timely : (o : Option (Request D)) → IsTimely plan bound (over_or now s o).1
  over_timely None = a
  over_timely (Some q) = ended_timely

pub polls_keep_time : {D E : Type 0} (plan : Request D → Settings) (bound : Request D → ℕ)
    (now : ℕ) (r : RequestsSeen D E) → IsRequests r → IsTimely plan bound r
    → IsTimely plan (bound_after now (polled now r).0 bound) (polled now r).1
unfolding polled
polls_keep_time {D} {E} plan bound now r i a = unsent (first_unsent r.numbers)
  where
    again_at : RequestsSeen D E
    again_at = record r { table = after_transmission now r.table }

    sorted : Ascend again_at.table.attached
    sorted = subst Ascend (sym (attached_sent r.table now)) i.one.in_order

    times : repeated now r.table ≡ None → (o : Option (Request D))
        → IsTimely plan (bound_after now (over_or now again_at o).0 bound)
        (over_or now again_at o).1
    times told None = sent_silent plan bound now r a told
    times told (Some q) =
        over_timely plan bound now again_at sorted (sent_silent plan bound now r a told) (Some q)

    ended : repeated now r.table ≡ None → (o : Option (ℕ × E))
        → IsTimely plan (bound_after now (ends_or now again_at o).0 bound)
        (ends_or now again_at o).1
    ended told None = times told (over now again_at.table)
    ended told (Some p) = sent_silent plan bound now r a told

    again : (o : Option ℕ) → repeated now r.table ≡ o
        → IsTimely plan (bound_after now (repeats_or now again_at o).0 bound)
        (repeats_or now again_at o).1
    again (Some k) told = sent_named plan bound now r a k told
    again None told = ended told (end_of_first r.numbers)

    unsent : (o : Option ℕ)
        → IsTimely plan (bound_after now (unsent_or now r o).0 bound) (unsent_or now r o).1
    unsent (Some k) =
        all_no_later plan bound (bound_after {E = E} now (Transmit k) bound) r.table.requests
        r.table.attached (λ id q there. up_after plan bound now r a (Transmit k) q) a
    unsent None = again (repeated now r.table) refl

-- ---- a wait

-- what a poll says of the requests that it leaves, if it says to wait
abbrev WaitsWell : {D E : Type 0} → (Request D → Settings) → (Request D → ℕ) → ℕ → Poll D E
    → Type 0
WaitsWell {D} plan bound now p = (until : Option ℕ) (id : ℕ) (q : Request D) → p.0 ≡ Wait until
    → datum_at id p.1.table.attached ≡ Some q
    → IsInTime now (moment_after (bound q) (final_wait Tcp (plan q))) until

module _ {D E : Type 0} (plan : Request D → Settings) (bound : Request D → ℕ) (now : ℕ)
    (r : RequestsSeen D E) (a : IsTimely plan bound r) where
  abbrev then_is : RequestsSeen D E
  then_is = record r { table = after_transmission now r.table }

  -- none is over
  none_ends : IsTimely plan bound then_is → over now then_is.table ≡ None
      → over_in now then_is.table ≡ None
  none_ends b told = by (over_in now then_is.table) refl
    where
      by : (o : Option (ℕ × Transaction)) → over_in now then_is.table ≡ o → o ≡ None
      by None is = refl
      by (Some e) is =
          let there =
          found_there (λ x. is_over then_is.table.transport now x.1) then_is.table.requests e is in
          let some = b.owned e.0 there.0 there.1 in
          let none : datum_at e.0 then_is.table.attached ≡ None =
          sym (ap (λ (x : Option (ℕ × Transaction)).
          option_and_then (λ y. datum_at y.0 then_is.table.attached) x) is) ∙ told in
          let off : is_some (datum_at e.0 then_is.table.attached) ≡ false = ap is_some none in
          cc

  -- so each waits for a moment in its plan
  waits_for : repeated now r.table ≡ None → over now then_is.table ≡ None → (id : ℕ)
      → (q : Request D) → datum_at id then_is.table.attached ≡ Some q
      → (t : Transaction) × (at id then_is.table.requests ≡ Some t)
      × (now < awaited_moment then_is.table.transport t)
      × (awaited_moment then_is.table.transport t ≤ moment_after (bound q) (final_wait Tcp (plan q)))
  waits_for told over_none id q owner =
      let here : datum_at id r.table.attached ≡ Some q =
      subst (λ es. datum_at id es ≡ Some q) (attached_sent r.table now) owner in
      let h = a.timed id q here in
      let silent = none_sent plan bound now r a told in
      let b = sent_silent plan bound now r a told in
      let quiet = not_due h (find-none (sends r.table.transport now) r.table.requests id h.timer
      h.there silent) in
      let there : at id then_is.table.requests ≡ Some h.timer =
      subst (λ ts. at id ts ≡ Some h.timer) (sym (requests_sent r.table now))
      (lookup-map_entries (slot_passed r.table.transport now
      (option_map (λ e. e.0) (next_sent r.table.transport now r.table.requests))) id
      r.table.requests h.timer h.there
      ∙ ap (λ c. Some (cond (is_reached
      (option_map (λ e. e.0) (next_sent r.table.transport now r.table.requests)) id && c)
      (after_slot now h.timer) h.timer)) quiet
      ∙ stays h.timer (is_reached
      (option_map (λ e. e.0) (next_sent r.table.transport now r.table.requests)) id)) in
      let lives : is_over then_is.table.transport now h.timer ≡ false =
      find-none (λ x. is_over then_is.table.transport now x.1) then_is.table.requests id h.timer
      there (none_ends b over_none) in
      let same = transport_sent r.table now in
      let calm : is_due then_is.table.transport now h.timer ≡ false =
      ap (λ x. is_due x now h.timer) same ∙ quiet in (
        h.timer,
        there,
        awaits (plan q) (bound q) then_is.table.transport now h.timer h.planned h.goes_on h.early calm
            lives,
        in_plan (plan q) (bound q) then_is.table.transport now h.timer h.planned h.goes_on h.early calm
            lives,
      )
    where
      stays : (t : Transaction) (c : Bool)
          → Some (cond (c && false) (after_slot now t) t) ≡ Some t
      stays t true = refl
      stays t false = refl

      not_due : (h : HasTimer (plan q) (bound q) id r.table.requests)
          → sends r.table.transport now (id, h.timer) ≡ false
          → is_due r.table.transport now h.timer ≡ false
      not_due h off = by (is_due r.table.transport now h.timer) refl
        where
          by : (c : Bool) → is_due r.table.transport now h.timer ≡ c → c ≡ false
          by false is = refl
          by true is =
              let on =
              both (is_due r.table.transport now h.timer) (repeats h.timer.sending) is
              (repeating h.timer.sending h.goes_on) in
              cc

  waits_well : repeated now r.table ≡ None → over now then_is.table ≡ None
      → WaitsWell plan bound now (over_or now then_is None)
  waits_well told over_none until id q said owner =
      let w = waits_for told over_none id q owner in
      record {
        early = before now (awaited_moment then_is.table.transport w.0)
            (moment_after (bound q) (final_wait Tcp (plan q))) w.2 w.3;
        awaited =
            subst (λ (u : Option ℕ).
            IfSome u (λ moment. moment ≤ moment_after (bound q) (final_wait Tcp (plan q))))
            (same_wait (wait_of now then_is) until said)
            (by (outstanding_count then_is.numbers == 0)
            (up now _ (awaited_moment then_is.table.transport w.0)
            (moment_after (bound q) (final_wait Tcp (plan q))) w.2 w.3
            (fold-min-le (λ e. awaited_moment then_is.table.transport e.1) then_is.table.requests _
            id w.0 w.1)));
      }
    where
      before : (x y z : ℕ) → x < y → y ≤ z → x < z
      before x y z one other = omega (arith, one, other)

      same_wait : (u v : Option ℕ) → ◌≡◌ {A = Polled D E} (Wait u) (Wait v) → u ≡ v
      same_wait u v e = cc

      up : (x least y z : ℕ) → x < y → y ≤ z → least ≤ y → max x least ≤ z
      up x least y z one other low = omega (arith, one, other, low)

      by : (b : Bool)
          → until_in now then_is.table ≤ moment_after (bound q) (final_wait Tcp (plan q))
          → IfSome (cond b None (Some (until_in now then_is.table)))
          (λ moment. moment ≤ moment_after (bound q) (final_wait Tcp (plan q)))
      by true low = tt
      by false low = low

pub waits_in_time : {D E : Type 0} (plan : Request D → Settings) (bound : Request D → ℕ) (now : ℕ)
    (until : Option ℕ) (r after : RequestsSeen D E) (id : ℕ) (q : Request D)
    → IsTimely plan bound r → polled now r ≡ (Wait until, after)
    → datum_at id after.table.attached ≡ Some q
    → IsInTime now (moment_after (bound q) (final_wait Tcp (plan q))) until
unfolding polled
waits_in_time {D} {E} plan bound now until r after id q a told owner =
    unsent (first_unsent r.numbers) until id q (ap (λ (p : Poll D E). p.0) told)
    (subst (λ (x : RequestsSeen D E). datum_at id x.table.attached ≡ Some q)
    (sym (ap (λ (p : Poll D E). p.1) told)) owner)
  where
    again_at : RequestsSeen D E
    again_at = record r { table = after_transmission now r.table }

    times : repeated now r.table ≡ None → (o : Option (Request D)) → over now again_at.table ≡ o
        → WaitsWell plan bound now (over_or now again_at o)
    times silent None is = waits_well plan bound now r a silent is
    times silent (Some p) is = λ u k x said there. cc

    ended : repeated now r.table ≡ None → (o : Option (ℕ × E))
        → WaitsWell plan bound now (ends_or now again_at o)
    ended silent None = times silent (over now again_at.table) refl
    ended silent (Some p) = λ u k x said there. cc

    again : (o : Option ℕ) → repeated now r.table ≡ o
        → WaitsWell plan bound now (repeats_or now again_at o)
    again (Some n) silent = λ u k x said there. cc
    again None silent = ended silent (end_of_first r.numbers)

    unsent : (o : Option ℕ) → WaitsWell plan bound now (unsent_or now r o)
    unsent (Some n) = λ u k x said there. cc
    unsent None = again (repeated now r.table) refl

-- ---- the other calls

-- nothing is stored anew where nothing is stored
pub set_none : {X : Type 0} (n : ℕ) (w : X) (es : List (ℕ × X)) → lookup (is_at (nat_cmp n)) es ≡ None
    → lookup (is_at (nat_cmp n)) (set_value (is_at (nat_cmp n)) es w) ≡ None
set_none n w [] none = refl
set_none {X} n w (e ∷ es) none = by (is_at (nat_cmp n) e.0) refl none (set_none n w es)
  where
    by : (b : Bool) → is_at (nat_cmp n) e.0 ≡ b
        → cond b (Some e.1) (lookup (is_at (nat_cmp n)) es) ≡ None
        → (lookup (is_at (nat_cmp n)) es ≡ None
        → lookup (is_at (nat_cmp n)) (set_value (is_at (nat_cmp n)) es w) ≡ None)
        → lookup (is_at (nat_cmp n))
        (cond b ((e.0, w) ∷ es) (e ∷ set_value (is_at (nat_cmp n)) es w)) ≡ None
    by true is none rest = cc
    by false is none rest =
        ap (λ b. cond b (Some e.1)
        (lookup (is_at (nat_cmp n)) (set_value (is_at (nat_cmp n)) es w))) is
        ∙ rest none

-- another datum is stored of one
module _ {D : Type 0} (plan : Request D → Settings) (bound : Request D → ℕ) (ts : Transactions)
    (all : Attached (Request D)) (a : AreTimely plan bound ts all) (k : ℕ) (w : Request D)
    (as_planned : (q : Request D) → datum_at k all ≡ Some q → plan q ≡ plan w)
    (less : (q : Request D) → datum_at k all ≡ Some q → bound q ≤ bound w) where
  set_timed : (id : ℕ) (q : Request D) (b : Bool) → is_at (nat_cmp k) id ≡ b
      → datum_at id (set_datum k w all) ≡ Some q → HasTimer (plan q) (bound q) id ts
  set_timed id q true is there =
      at_own (datum_at k all) refl
      (subst (λ m. datum_at m (set_datum k w all) ≡ Some q) (same_key k id is) there)
    where
      at_own : (o : Option (Request D)) → datum_at k all ≡ o
          → datum_at k (set_datum k w all) ≡ Some q → HasTimer (plan q) (bound q) id ts
      at_own None owner there = let none = set_none k w all owner in cc
      at_own (Some p) owner there =
          let same : w ≡ q = same_some w q (sym (set_same k p w all owner) ∙ there) in
          subst (λ (x : Request D). HasTimer (plan x) (bound x) id ts) same
          (subst (λ m. HasTimer (plan w) (bound w) m ts) (sym (same_key k id is))
          (subst (λ s. HasTimer s (bound w) k ts) (as_planned p owner)
          (no_later (plan p) (bound p) (bound w) k ts (less p owner) (a.timed k p owner))))
  set_timed id q false is there =
      a.timed id q (sym (lookup-set_other id k w all (differs k id is)) ∙ there)

  set_owned : (id : ℕ) (t : Transaction) (b : Bool) → is_at (nat_cmp k) id ≡ b
      → at id ts ≡ Some t → is_some (datum_at id (set_datum k w all)) ≡ true
  set_owned id t true is there = by (datum_at k all) refl
      (subst (λ m. is_some (datum_at m all) ≡ true) (same_key k id is) (a.owned id t there))
    where
      by : (o : Option (Request D)) → datum_at k all ≡ o → is_some (datum_at k all) ≡ true
          → is_some (datum_at id (set_datum k w all)) ≡ true
      by None owner some = let off : is_some (datum_at k all) ≡ false = ap is_some owner in cc
      by (Some p) owner some =
          subst (λ m. is_some (datum_at m (set_datum k w all)) ≡ true) (sym (same_key k id is))
          (ap is_some (set_same k p w all owner))
  set_owned id t false is there =
      ap is_some (lookup-set_other id k w all (differs k id is)) ∙ a.owned id t there

  pub set_timely : AreTimely plan bound ts (set_datum k w all)
  set_timely = record {
    ordered = a.ordered;
    timed = λ id q there. set_timed id q (is_at (nat_cmp k) id) refl there;
    owned = λ id t there. set_owned id t (is_at (nat_cmp k) id) refl there;
  }

module _ {D E : Type 0} (plan : Request D → Settings) (bound : Request D → ℕ) (r : RequestsSeen D E)
    (a : IsTimely plan bound r) where
  pub start_timely : (id : ℕ) (bytes : List ℕ) (settings : Settings) (datum : D) (now : ℕ)
      → settings ≡ plan (record { number = r.next; datum = datum })
      → now ≤ bound (record { number = r.next; datum = datum })
      → IsTimely plan bound (after_start id bytes settings datum now r)
  start_timely id bytes settings datum now planned early =
      put_timely plan bound r.table.requests r.table.attached a id
      (request_in r.table bytes settings now) (record { number = r.next; datum = datum }) planned refl
      early

  pub replace_timely : (n : ℕ) (datum : D)
      → ((q : Request D) → stored_at n r ≡ Some q
      → plan q ≡ plan (record { number = n; datum = datum }))
      → ((q : Request D) → stored_at n r ≡ Some q
      → bound q ≤ bound (record { number = n; datum = datum }))
      → IsTimely plan bound (after_replacing n datum r)
  replace_timely n datum as_planned less = by (id_at n r.numbers) refl
    where
      by : (o : Option ℕ) → id_at n r.numbers ≡ o
          → IsTimely plan bound (option_map_or (λ id. record r {
            table = with_other_datum id (record { number = n; datum = datum }) r.table;
          }) o r)
      by None is = a
      by (Some id) is =
          set_timely plan bound r.table.requests r.table.attached a id
          (record { number = n; datum = datum })
          (λ q there. as_planned q
          (ap (λ o. option_and_then (λ k. datum_at k r.table.attached) o) is ∙ there))
          (λ q there. less q
          (ap (λ o. option_and_then (λ k. datum_at k r.table.attached) o) is ∙ there))

  -- a request is taken out of the table
  out_timely : Ascend r.table.attached → (id : ℕ) (tally : Tally)
      → AreTimely plan bound
      (option_map_or (λ t. counted tally (without_request id r.table)) (at id r.table.requests)
      r.table).requests
      (option_map_or (λ t. counted tally (without_request id r.table)) (at id r.table.requests)
      r.table).attached
  out_timely sorted id tally = by (at id r.table.requests)
    where
      by : (o : Option Transaction)
          → AreTimely plan bound
          (option_map_or (λ t. counted tally (without_request id r.table)) o r.table).requests
          (option_map_or (λ t. counted tally (without_request id r.table)) o r.table).attached
      by None = a
      by (Some t) = left_timely plan bound r.table.requests r.table.attached sorted a id

  pub cancel_timely : Ascend r.table.attached → (n : ℕ) (end : E)
      → IsTimely plan bound (after_canceling n end r)
  cancel_timely sorted n end = by (id_at n r.numbers)
    where
      by : (o : Option ℕ) → IsTimely plan bound (option_map_or (λ id. record r {
        table = after_cancel id r.table;
        numbers = after_end n end r.numbers;
      }) o r)
      by None = a
      by (Some id) = out_timely sorted id request_cancelled

  pub remove_timely : Ascend r.table.attached → (n : ℕ)
      → IsTimely plan bound (after_removing n r)
  remove_timely sorted n = by (id_at n r.numbers)
    where
      by : (o : Option ℕ) → IsTimely plan bound (option_map_or (λ id. record r {
        table = after_cancel id r.table;
        numbers = after_removal n r.numbers;
      }) o r)
      by None = a
      by (Some id) = out_timely sorted id request_cancelled

-- ---- one table after a request is named

abbrev IsOne : {D E : Type 0} → RequestsSeen D E → Type 0
IsOne r = IsOneTable r.table.attached r.numbers r.next

abbrev StaysOne : {D E : Type 0} → Poll D E → Type 0
StaysOne p = (n : ℕ) → p.0 ≡ Transmit n → IsOne p.1

pub named_is_one : {D E : Type 0} (now n : ℕ) (r : RequestsSeen D E) → IsOne r
    → (polled now r).0 ≡ Transmit n → IsOne (polled now r).1
unfolding polled
named_is_one {D} {E} now n r one said = unsent (first_unsent r.numbers) n said
  where
    again_at : RequestsSeen D E
    again_at = record r { table = after_transmission now r.table }

    times : (o : Option (Request D)) → StaysOne (over_or now again_at o)
    times None = λ m named. cc
    times (Some q) = λ m named. cc

    ended : (o : Option (ℕ × E)) → StaysOne (ends_or now again_at o)
    ended None = times (over now again_at.table)
    ended (Some p) = λ m named. cc

    again : (o : Option ℕ) → StaysOne (repeats_or now again_at o)
    again (Some k) =
        λ m named.
        subst (λ es. IsOneTable es r.numbers r.next) (sym (attached_sent r.table now)) one
    again None = ended (end_of_first r.numbers)

    unsent : (o : Option ℕ) → StaysOne (unsent_or now r o)
    unsent (Some k) = λ m named. record {
      in_order = one.in_order;
      named = one.named;
      timed = one.timed;
      fresh = one.fresh;
    }
    unsent None = again (repeated now r.table)

-- ---- a request is removed

module _ {D E : Type 0} (plan : Request D → Settings) (f g : Request D → ℕ) (r : RequestsSeen D E)
    (one : IsOne r) (a : IsTimely plan f r) (n : ℕ) where
  -- nothing has its number any more
  gone_from : (id k : ℕ) (q : Request D) (t : Transaction) → q.number ≡ n
      → id_at n r.numbers ≡ Some k → at k r.table.requests ≡ Some t
      → datum_at id (after_cancel k r.table).attached ≡ Some q → ⊥
  gone_from id k q t number named timer there = by (is_at (nat_cmp k) id) refl
    where
      left : datum_at id (remove_entry (is_at (nat_cmp k)) r.table.attached) ≡ Some q
      left =
          subst (λ es. datum_at id es ≡ Some q)
          (attached_cancel r.table k t.bytes
          (sym (ap (λ (o : Option Transaction). option_map (λ x. x.bytes) o) timer))) there

      by : (b : Bool) → is_at (nat_cmp k) id ≡ b → ⊥
      by true is =
          let none =
          at_remove k r.table.attached one.in_order id
          ∙ ap (λ b. cond b None (datum_at id r.table.attached)) is in
          cc
      by false is =
          let here : datum_at id r.table.attached ≡ Some q =
          sym (at_remove k r.table.attached one.in_order id
          ∙ ap (λ b. cond b None (datum_at id r.table.attached)) is) ∙ left in
          let other : id_at n r.numbers ≡ Some id =
          one.named id n
          (ap (λ (o : Option (Request D)). option_map (λ x. x.number) o) here ∙ ap Some number) in
          let same : k ≡ id = same_some k id (sym named ∙ other) in
          let own : is_at (nat_cmp k) id ≡ true =
          subst (λ m. is_at (nat_cmp k) m ≡ true) same (own_key k) in
          cc

  gone : (id : ℕ) (q : Request D) (o : Option ℕ) → id_at n r.numbers ≡ o → q.number ≡ n
      → datum_at id (option_map_or (λ k. record r {
        table = after_cancel k r.table;
        numbers = after_removal n r.numbers;
      }) o r).table.attached ≡ Some q → ⊥
  gone id q None named number there =
      let other : id_at n r.numbers ≡ Some id =
      one.named id n
      (ap (λ (o : Option (Request D)). option_map (λ x. x.number) o) there ∙ ap Some number) in
      cc
  gone id q (Some k) named number there =
      by (datum_at k r.table.attached) refl (one.timed n k named)
    where
      by : (o : Option (Request D)) → datum_at k r.table.attached ≡ o
          → option_map (λ x. x.number) o ≡ Some n → ⊥
      by None owner some = cc
      by (Some p) owner some =
          let h = a.timed k p owner in
          gone_from id k q h.timer number named h.there there

  pub removed_timely : ((q : Request D) → (n == q.number) ≡ false → f q ≤ g q)
      → IsTimely plan g (after_removing n r)
  removed_timely less =
      all_no_later plan f g (after_removing n r).table.requests (after_removing n r).table.attached
      (λ id q there. by id q there (n == q.number) refl)
      (remove_timely plan f r a one.in_order n)
    where
      by : (id : ℕ) (q : Request D) → datum_at id (after_removing n r).table.attached ≡ Some q
          → (b : Bool) → (n == q.number) ≡ b → f q ≤ g q
      by id q there false is = less q is
      by id q there true is =
          absurd (gone id q (id_at n r.numbers) refl (sym (eqb-true n q.number is)) there)

-- ---- responses

-- a response ends a request
answered_timely : {D : Type 0} (plan : Request D → Settings) (bound : Request D → ℕ)
    (t : TableSeen (Request D))
    → Ascend t.attached → AreTimely plan bound t.requests t.attached
    → (id count : ℕ) (moment : Option ℕ)
    → AreTimely plan bound (after_answer id count moment t).requests
    (after_answer id count moment t).attached
answered_timely {D} plan bound t sorted a id count moment = by (at id t.requests)
  where
    by : (o : Option Transaction)
        → AreTimely plan bound
        (option_map_or
        (λ x. counted (response_received count (round_trip moment x)) (without_request id t)) o
        t).requests
        (option_map_or
        (λ x. counted (response_received count (round_trip moment x)) (without_request id t)) o
        t).attached
    by None = a
    by (Some x) = left_timely plan bound t.requests t.attached sorted a id

pub answer_timely : {D E : Type 0} (plan : Request D → Settings) (bound : Request D → ℕ)
    (r : RequestsSeen D E)
    → IsTimely plan bound r → Ascend r.table.attached → (n count : ℕ) (moment : Option ℕ) (end : E)
    → IsTimely plan bound (after_answering n count moment end r)
answer_timely plan bound r a sorted n count moment end = by (id_at n r.numbers)
  where
    by : (o : Option ℕ) → IsTimely plan bound (option_map_or (λ id. record r {
      table = after_answer id count moment r.table;
      numbers = after_end n end r.numbers;
    }) o r)
    by None = a
    by (Some id) = answered_timely plan bound r.table sorted a id count moment

-- another message of a request is sent by the plan
pub again_timely : {D E : Type 0} (plan : Request D → Settings) (bound : Request D → ℕ)
    (r : RequestsSeen D E)
    → IsTimely plan bound r → Ascend r.table.attached → (n : ℕ) (x : Answering) (id : ℕ)
    → (bytes : List ℕ) (settings : Settings) (datum : D) (now : ℕ)
    → settings ≡ plan (record { number = n; datum = datum })
    → now ≤ bound (record { number = n; datum = datum })
    → IsTimely plan bound (after_again n x id bytes settings datum now r)
again_timely {D} {E} plan bound r a sorted n x id bytes settings datum now planned early =
    by (id_at n r.numbers)
  where
    sent_by : TableSeen (Request D)
    sent_by = after_sending id bytes settings (record { number = n; datum = datum }) now r.table

    by : (o : Option ℕ) → IsTimely plan bound (option_map_or (λ former. record r {
      table = after_answer former x.count x.moment sent_by;
      numbers = after_rename n id (after_mark n r.numbers);
    }) o r)
    by None = a
    by (Some former) =
        answered_timely plan bound sent_by
        (IsAscending-insert r.table.attached id (record { number = n; datum = datum }) sorted)
        (put_timely plan bound r.table.requests r.table.attached a id
        (request_in r.table bytes settings now) (record { number = n; datum = datum }) planned refl
        early)
        former x.count x.moment
