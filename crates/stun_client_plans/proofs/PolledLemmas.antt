-- What a poll of the requests returns of one of them, and what it leaves of it.
use Rattle.std.proofs.Common.{◌≡◌, ◌∙◌, ◌⊎◌, ◌≤◌, ◌+◌, ℕ, Bool, true, false, Option, Some, None, ap}
use Rattle.std.proofs.Common.{arith, cond, inl, inr, map, max, min, refl, subst, sym}
use Rattle.std.specs.BTreeMap.{is_at}
use Rattle.std.specs.Map.{remove_entry}
use Rattle.std.specs.Option.{option_and_then, option_map, option_map_or}
use Rattle.std.specs.Ordering.{nat_cmp}
use Rattle.std.specs.Prelude.{◌==◌, ◌&&◌, fold, nat_le}
use Rattle.std.proofs.lemmas.Bool.{eq-eqb, le-leb, ne_eqb}
use Rattle.stun_base.specs.Moments.{moment_after}
use Rattle.stun_base.specs.declared.wire.transport.TransportType.{TransportType}
use Rattle.stun_agent.specs.Agent.{tally_of_end}
use Rattle.stun_agent.specs.Tables.{after_transmission, counted, counted_sent, datum_at, over_in}
use Rattle.stun_agent.specs.Tables.{sent_in, until_in, without_request}
use Rattle.stun_agent.specs.Transactions.{IsAscending, Transaction, after_slot, after_slots}
use Rattle.stun_agent.specs.Transactions.{an_hour, awaited_moment, is_due, is_over, is_reached}
use Rattle.stun_agent.specs.Transactions.{next_sent, repeats, slot_passed, at as transaction_at}
use Rattle.stun_agent.specs.declared.state.transaction.Sending.TheVariants.{Repeats}
use Rattle.stun_agent.proofs.Ascending.{IsAscending-map, find-none, fold-min-le}
use Rattle.stun_agent.proofs.Ascending.{lookup-remove_other}
use Rattle.stun_agent.proofs.EntryLemmas.{lookup-map_entries, lookup_found}
use Rattle.stun_agent.proofs.LookupLemmas.{found_passes}
use Rattle.stun_client_requests.specs.Numbers.{end_in, end_of_first, first_ended, first_unsent}
use Rattle.stun_client_requests.specs.Numbers.{id_at, id_in, is_ended, known_at, others_in}
use Rattle.stun_client_requests.specs.Numbers.{without_first}
use Rattle.stun_client_requests.specs.OneTable.{IsOneTable}
use Rattle.stun_client_requests.specs.Requests.{Poll, ends_or, number_at, outstanding_count, over}
use Rattle.stun_client_requests.specs.Requests.{over_or, polled, repeated, repeats_or, unsent_or}
use Rattle.stun_client_requests.specs.Requests.{wait_of}
use Rattle.stun_client_requests.specs.declared.numbers.Known.{Known}
use Rattle.stun_client_requests.specs.declared.numbers.Known.TheVariants as Numbers
use Rattle.stun_client_requests.specs.declared.requests.Polled.{Polled}
use Rattle.stun_client_requests.specs.declared.requests.Polled.TheVariants.{Ended, TimedOut}
use Rattle.stun_client_requests.specs.declared.requests.Polled.TheVariants.{Transmit, Wait}
use Rattle.stun_client_requests.specs.declared.requests.Request.{Request}
use Rattle.stun_client_requests.proofs.NumberLemmas.{Ascend, IsFirst as IsFirstOf, apart, first_is}
use Rattle.stun_client_requests.proofs.NumberLemmas.{own_key, same_key}
use Rattle.stun_client_requests.proofs.RequestLemmas.{at_remove, attached_sent}
use Rattle.stun_client_requests.proofs.TimelyLemmas.{requests_sent}
use Rattle.stun_client_calls.specs.Endpoints.{EndSeen}
use Rattle.stun_client_calls.specs.Messages.{AskedSeen}
use Rattle.stun_client_plans.proofs.HoldLemmas.{All, Holds, IsOne, Leaves, Table, held_over}
use Rattle.stun_client_plans.proofs.HoldLemmas.{leaves_itself, number_is, out_leaves}
use Rattle.stun_client_plans.proofs.HoldLemmas.{removal_spares, some_is}
use Rattle.stun_client_plans.proofs.MomentLemmas.{found_first}
use Rattle.stun_client_plans.proofs.TimesLemmas.{one_if, times, times_first, times_none}
use Rattle.stun_client_plans.proofs.TimesLemmas.{times_remove_none}

abbrev pub Polls : Type 0
Polls = Poll AskedSeen EndSeen

-- the number that a poll names
abbrev pub is_named : ℕ → Polled AskedSeen EndSeen → Bool
is_named n (Transmit number) = number == n
is_named n (Ended number end) = number == n
is_named n (TimedOut number datum) = number == n
is_named n (Wait until) = false

-- ---- what it says of a request

-- nothing. If the poll says to wait, the wait ends no later than the request's, whose bytes were
-- handed out
pub record IsQuiet (transport : TransportType) (n id : ℕ) (q : Request AskedSeen) (t : Transaction)
    (u : Bool) (now : ℕ) (p : Polls) : Type 0 where
  pub unnamed : is_named n p.0 ≡ false
  pub holds : Holds transport n id q t u p.1
  pub awaits : (m : ℕ) → p.0 ≡ Wait (Some m) → m ≤ max now (awaited_moment transport t)
  pub sent_first : u ≡ true → (until : Option ℕ) → p.0 ≡ Wait until → ⊥

-- its bytes are to be handed out for the first time
pub record IsFirst (transport : TransportType) (n id : ℕ) (q : Request AskedSeen) (t : Transaction)
    (u : Bool) (p : Polls) : Type 0 where
  pub told : p.0 ≡ Transmit n
  pub was_unsent : u ≡ true
  pub holds : Holds transport n id q t false p.1

-- its bytes are due for retransmission
pub record IsAgain (transport : TransportType) (n id : ℕ) (q : Request AskedSeen) (t : Transaction)
    (u : Bool) (now : ℕ) (p : Polls) : Type 0 where
  pub told : p.0 ≡ Transmit n
  pub was_sent : u ≡ false
  pub due : is_due transport now t ≡ true
  pub holds : Holds transport n id q (after_slot now t) false p.1

-- its time is over
pub record IsOver (transport : TransportType) (n : ℕ) (q : Request AskedSeen) (t : Transaction)
    (u : Bool) (now : ℕ) (p : Polls) : Type 0 where
  pub told : p.0 ≡ TimedOut n q.datum
  pub was_sent : u ≡ false
  pub over : is_over transport now t ≡ true
  pub gone : known_at n p.1.numbers.known ≡ None
  pub unsent : times n p.1.numbers.unsent ≡ 0

abbrev pub Goes : TransportType → ℕ → ℕ → Request AskedSeen → Transaction → Bool → ℕ → Polls
    → Type 0
Goes transport n id q t u now p =
    IsQuiet transport n id q t u now p
    ⊎ (IsFirst transport n id q t u p
    ⊎ (IsAgain transport n id q t u now p ⊎ IsOver transport n q t u now p))

-- ---- what a poll for transmissions leaves

transport_sent : (t : Table) (now : ℕ) → (after_transmission now t).transport ≡ t.transport
transport_sent t now = by (sent_in now t)
  where
    by : (o : Option (ℕ × Transaction)) → (counted_sent o (record t {
      requests = after_slots t.transport now (option_map (λ e. e.0) (sent_in now t)) t.requests;
    })).transport ≡ t.transport
    by None = refl
    by (Some e) = refl

both : (a b : Bool) → a ≡ true → b ≡ true → (a && b) ≡ true
both true true one other = refl
both true false one other = cc
both false b one other = cc

undue : (d again : Bool) → (d && again) ≡ false → again ≡ true → d ≡ false
undue true true none is = cc
undue true false none is = cc
undue false again none is = refl

left_part : (a b : Bool) → (a && b) ≡ true → a ≡ true
left_part true b is = refl
left_part false b is = cc

unpassed : (a b : Bool) → b ≡ false → (a && b) ≡ false
unpassed true b is = is
unpassed false b is = refl

pub not_same : (k x : ℕ) → is_at (nat_cmp k) x ≡ false → x ≡ k → ⊥
not_same k x off same =
    let on : is_at (nat_cmp k) x ≡ true =
    subst (λ y. is_at (nat_cmp k) y ≡ true) (sym same) (own_key k) in
    cc

-- an outstanding request has not ended
pub not_ended : (o : Option (Known EndSeen)) (id : ℕ) → option_and_then id_in o ≡ Some id
    → option_map_or is_ended o false ≡ false
not_ended None id is = cc
not_ended (Some (Numbers.Outstanding other)) id is = refl
not_ended (Some (Numbers.Ended end)) id is = cc

none_unsent : (u : Bool) → one_if u ≡ 0 → u ≡ false
none_unsent true is = absurd (omega (arith, is))
none_unsent false is = refl

module _ (transport : TransportType) (n id : ℕ) (q : Request AskedSeen) (t : Transaction)
    (now : ℕ) (r : All) (one : IsOne r) (known : Ascend r.numbers.known)
    (timers : IsAscending r.table.requests) (goes_on : t.sending ≡ Repeats) where
  abbrev sent : Option (ℕ × Transaction)
  sent = next_sent r.table.transport now r.table.requests

  abbrev sent_id : Option ℕ
  sent_id = option_map (λ (e : ℕ × Transaction). e.0) sent

  abbrev mid : All
  mid = record r { table = after_transmission now r.table }

  repeating : repeats t.sending ≡ true
  repeating = ap repeats goes_on

  -- its timer then
  passed_at : (u : Bool) → Holds transport n id q t u r → transaction_at id mid.table.requests
      ≡ Some (cond (is_reached sent_id id && is_due r.table.transport now t) (after_slot now t) t)
  passed_at u h =
      ap (λ ts. transaction_at id ts) (requests_sent r.table now)
      ∙ lookup-map_entries (slot_passed r.table.transport now sent_id) id r.table.requests t h.timed

  -- it holds with the timer that is there
  mid_holds : (u : Bool) (b : Bool) → Holds transport n id q t u r
      → (is_reached sent_id id && is_due r.table.transport now t) ≡ b
      → Holds transport n id q (cond b (after_slot now t) t) u mid
  mid_holds u b h is = record {
    transport_is = transport_sent r.table now ∙ h.transport_is;
    named = h.named;
    there = ap (λ es. datum_at id es) (attached_sent r.table now) ∙ h.there;
    timed = passed_at u h ∙ ap (λ c. Some (cond c (after_slot now t) t)) is;
    unsent = h.unsent;
  }

  mid_one : IsOne mid
  mid_one = subst (λ es. IsOneTable es r.numbers r.next) (sym (attached_sent r.table now)) one

  mid_timers : IsAscending mid.table.requests
  mid_timers =
      subst IsAscending (sym (requests_sent r.table now))
      (IsAscending-map (slot_passed r.table.transport now sent_id) r.table.requests timers)

  -- ---- times that are over

  -- a wait ends no later than its
  until_low : Holds transport n id q t false mid
      → until_in now mid.table ≤ max now (awaited_moment transport t)
  until_low h =
      subst (λ x. until_in now mid.table ≤ max now (awaited_moment x t)) h.transport_is
      (least (fold min (moment_after now an_hour)
      (map (λ (e : ℕ × Transaction). awaited_moment mid.table.transport e.1) mid.table.requests))
      (awaited_moment mid.table.transport t)
      (fold-min-le (λ (e : ℕ × Transaction). awaited_moment mid.table.transport e.1)
      mid.table.requests (moment_after now an_hour) id t h.timed))
    where
      least : (m top : ℕ) → m ≤ top → max now m ≤ max now top
      least m top low = omega (arith, low)

  waits_low : Holds transport n id q t false mid → (m : ℕ) → wait_of now mid ≡ Some m
      → m ≤ max now (awaited_moment transport t)
  waits_low h m is = by (outstanding_count mid.numbers == 0) is
    where
      by : (b : Bool) → cond b None (Some (until_in now mid.table)) ≡ Some m
          → m ≤ max now (awaited_moment transport t)
      by true is = cc
      by false is =
          subst (λ k. k ≤ max now (awaited_moment transport t))
          (some_is (until_in now mid.table) m is) (until_low h)

  waits_on : Holds transport n id q t false mid
      → IsQuiet transport n id q t false now (over_or now mid None)
  waits_on h = record {
    unnamed = refl;
    holds = h;
    awaits = λ m said. waits_low h m (wait_is (wait_of now mid) (Some m) said);
    sent_first = λ on. cc;
  }
    where
      wait_is : (x y : Option ℕ)
          → ◌≡◌ {A = Polled AskedSeen EndSeen} (Wait x) (Wait y) → x ≡ y
      wait_is x y e = cc

  over_goes : Holds transport n id q t false mid
      → Goes transport n id q t false now (over_or now mid (over now mid.table))
  over_goes h = by (over_in now mid.table) refl
    where
      by : (o : Option (ℕ × Transaction)) → over_in now mid.table ≡ o
          → Goes transport n id q t false now
          (over_or now mid (option_and_then (λ e. datum_at e.0 mid.table.attached) o))
      by None found = inl (waits_on h)
      by (Some e) found = of (datum_at e.0 mid.table.attached) refl
        where
          own : (p : Request AskedSeen) → datum_at e.0 mid.table.attached ≡ Some p → e.0 ≡ id
              → IsOver transport n q t false now (over_or now mid (Some p))
          own p there same =
              let its : p ≡ q =
              some_is p q
              (sym (subst (λ k. datum_at k mid.table.attached ≡ Some p) same there) ∙ h.there) in
              let number : p.number ≡ n =
              ap (λ (x : Request AskedSeen). x.number) its
              ∙ number_is transport n id q t false mid mid_one h in
              let timer : e.1 ≡ t =
              some_is e.1 t
              (sym (subst (λ k. transaction_at k mid.table.requests ≡ Some e.1) same
              (lookup_found (λ (y : ℕ × Transaction). is_over mid.table.transport now y.1)
              mid.table.requests e.0 e.1 mid_timers found)) ∙ h.timed) in
              record {
                told = ap (λ k. TimedOut k p.datum) number
                    ∙ ap (λ (x : Request AskedSeen). TimedOut n x.datum) its;
                was_sent = refl;
                over = subst (λ x. is_over x now t ≡ true) h.transport_is
                    (subst (λ (x : Transaction). is_over mid.table.transport now x ≡ true) timer
                    (found_passes (λ (y : ℕ × Transaction). is_over mid.table.transport now y.1)
                    mid.table.requests e found));
                gone = subst (λ k. known_at n (remove_entry (is_at (nat_cmp k)) r.numbers.known)
                    ≡ None)
                    (sym number)
                    (at_remove n r.numbers.known known n
                    ∙ ap (λ b. cond b None (known_at n r.numbers.known)) (own_key n));
                unsent =
                    times_remove_none n (is_at (nat_cmp p.number)) r.numbers.unsent h.unsent;
              }

          other : (p : Request AskedSeen) → datum_at e.0 mid.table.attached ≡ Some p
              → (e.0 ≡ id → ⊥) → IsQuiet transport n id q t false now (over_or now mid (Some p))
          other p there differ = record {
            unnamed = ne_eqb p.number n others;
            holds = held_over transport n id q t false mid (over_or now mid (Some p)).1 h
                (subst (λ o. Leaves id mid.table
                (option_map_or (λ x. counted (tally_of_end x.1) (without_request x.0 mid.table)) o
                mid.table)) (sym found)
                (out_leaves id e.0 (tally_of_end e.1) mid.table differ))
                (removal_spares n p.number mid.numbers others);
            awaits = λ m said. cc;
            sent_first = λ on. cc;
          }
            where
              others : p.number ≡ n → ⊥
              others number =
                  differ (some_is e.0 id
                  (sym (mid_one.named e.0 n
                  (ap (λ (o : Option (Request AskedSeen)). option_map (λ x. x.number) o) there
                  ∙ ap Some number)) ∙ h.named))

          at_id : (p : Request AskedSeen) → datum_at e.0 mid.table.attached ≡ Some p → (b : Bool)
              → is_at (nat_cmp id) e.0 ≡ b
              → Goes transport n id q t false now (over_or now mid (Some p))
          at_id p there true is = inr (inr (inr (own p there (same_key id e.0 is))))
          at_id p there false is = inl (other p there (not_same id e.0 is))

          of : (o : Option (Request AskedSeen)) → datum_at e.0 mid.table.attached ≡ o
              → Goes transport n id q t false now (over_or now mid o)
          of None there = inl (waits_on h)
          of (Some p) there = at_id p there (is_at (nat_cmp id) e.0) refl

  -- ---- ends

  ends_goes : Holds transport n id q t false mid
      → Goes transport n id q t false now (ends_or now mid (end_of_first mid.numbers))
  ends_goes h = by (first_ended r.numbers) refl
    where
      by : (o : Option ℕ) → first_ended r.numbers ≡ o
          → Goes transport n id q t false now
          (ends_or now mid
          (option_and_then
          (λ k. option_map (λ end. (k, end)) (option_and_then end_in (known_at k r.numbers.known)))
          o))
      by None found = over_goes h
      by (Some k) found = of (known_at k r.numbers.known) refl
        where
          differ : k ≡ n → ⊥
          differ same =
              let ended : option_map_or is_ended (known_at k r.numbers.known) false ≡ true =
              (subst (λ o. IsFirstOf is_ended r.numbers.known o) found
              (first_is is_ended r.numbers.known known)).0 in
              let going : option_map_or is_ended (known_at k r.numbers.known) false ≡ false =
              subst (λ m. option_map_or is_ended (known_at m r.numbers.known) false ≡ false)
              (sym same)
              (not_ended (known_at n r.numbers.known) id h.named) in
              cc

          of : (o : Option (Known EndSeen)) → known_at k r.numbers.known ≡ o
              → Goes transport n id q t false now
              (ends_or now mid (option_map (λ end. (k, end)) (option_and_then end_in o)))
          of None is = over_goes h
          of (Some (Numbers.Outstanding other)) is = over_goes h
          of (Some (Numbers.Ended end)) is = inl (record {
            unnamed = ne_eqb k n differ;
            holds = held_over transport n id q t false mid
                (record mid { numbers = without_first r.numbers }) h (leaves_itself id mid.table)
                (record {
                  known = ap (λ o. known_at n (option_map_or
                      (λ m. remove_entry (is_at (nat_cmp m)) r.numbers.known) o r.numbers.known))
                      found
                      ∙ lookup-remove_other n k r.numbers.known
                      (apart n k (λ same. differ (sym same)));
                  unsent = refl;
                });
            awaits = λ m said. cc;
            sent_first = λ on. cc;
          })

  -- ---- bytes

  own_again : (x : ℕ × Transaction) → Holds transport n id q t false r → sent ≡ Some x → x.0 ≡ id
      → IsAgain transport n id q t false now (Transmit n, mid)
  own_again x h found same =
      let timer : x.1 ≡ t =
      some_is x.1 t
      (sym (subst (λ k. transaction_at k r.table.requests ≡ Some x.1) same
      (lookup_found
      (λ (y : ℕ × Transaction). is_due r.table.transport now y.1 && repeats y.1.sending)
      r.table.requests x.0 x.1 timers found)) ∙ h.timed) in
      let passes : (is_due r.table.transport now x.1 && repeats x.1.sending) ≡ true =
      found_passes (λ (y : ℕ × Transaction). is_due r.table.transport now y.1 && repeats
      y.1.sending) r.table.requests x found in
      let due : is_due r.table.transport now t ≡ true =
      subst (λ (y : Transaction). is_due r.table.transport now y ≡ true) timer
      (left_part (is_due r.table.transport now x.1) (repeats x.1.sending) passes) in
      let reached : is_reached sent_id id ≡ true =
      ap (λ (o : Option (ℕ × Transaction)).
      is_reached (option_map (λ (y : ℕ × Transaction). y.0) o) id) found
      ∙ le-leb id x.0 (omega (arith, same)) in
      record {
        told = refl;
        was_sent = refl;
        due = subst (λ y. is_due y now t ≡ true) h.transport_is due;
        holds = mid_holds false true h
            (both (is_reached sent_id id) (is_due r.table.transport now t) reached due);
      }

  not_passed : (x : ℕ × Transaction) → Holds transport n id q t false r → sent ≡ Some x
      → (x.0 ≡ id → ⊥) → (b c : Bool) → is_reached sent_id id ≡ b
      → is_due r.table.transport now t ≡ c → (b && c) ≡ false
  not_passed x h found differ false c reached due = refl
  not_passed x h found differ true false reached due = refl
  not_passed x h found differ true true reached due =
      let before : nat_le id x.0 ≡ true =
      sym (ap (λ (o : Option (ℕ × Transaction)).
      is_reached (option_map (λ (y : ℕ × Transaction). y.0) o) id) found) ∙ reached in
      absurd (differ (found_first
      (λ (y : ℕ × Transaction). is_due r.table.transport now y.1 && repeats y.1.sending)
      r.table.requests id t x timers h.timed
      (both (is_due r.table.transport now t) (repeats t.sending) due repeating) found before))

  repeats_goes : Holds transport n id q t false r
      → Goes transport n id q t false now (repeats_or now mid (repeated now r.table))
  repeats_goes h = by sent refl
    where
      by : (o : Option (ℕ × Transaction)) → sent ≡ o
          → Goes transport n id q t false now
          (repeats_or now mid (option_and_then (λ e. number_at e.0 r.table.attached) o))
      by None found =
          ends_goes (mid_holds false false h
          (unpassed (is_reached sent_id id) (is_due r.table.transport now t)
          (undue (is_due r.table.transport now t) (repeats t.sending)
          (find-none
          (λ (y : ℕ × Transaction). is_due r.table.transport now y.1 && repeats y.1.sending)
          r.table.requests id t h.timed found) repeating)))
      by (Some x) found = which (is_at (nat_cmp id) x.0) refl
        where
          beside : (x.0 ≡ id → ⊥) → (o : Option ℕ) → number_at x.0 r.table.attached ≡ o
              → Goes transport n id q t false now (repeats_or now mid o)
          beside differ o there =
              goes o there (mid_holds false false h
              (not_passed x h found differ (is_reached sent_id id) (is_due r.table.transport now t)
              refl refl))
            where
              goes : (o : Option ℕ) → number_at x.0 r.table.attached ≡ o
                  → Holds transport n id q t false mid
                  → Goes transport n id q t false now (repeats_or now mid o)
              goes None there holds = ends_goes holds
              goes (Some m) there holds = inl (record {
                unnamed = ne_eqb m n (λ same. differ (some_is x.0 id
                    (sym (subst (λ k. id_at k r.numbers ≡ Some x.0) same (one.named x.0 m there))
                    ∙ h.named)));
                holds = holds;
                awaits = λ k said. cc;
                sent_first = λ on. cc;
              })

          which : (b : Bool) → is_at (nat_cmp id) x.0 ≡ b
              → Goes transport n id q t false now
              (repeats_or now mid (number_at x.0 r.table.attached))
          which true is =
              let same = same_key id x.0 is in
              subst (λ o. Goes transport n id q t false now (repeats_or now mid o))
              (sym (ap (λ k. number_at k r.table.attached) same ∙ one.timed n id h.named))
              (inr (inr (inl (own_again x h found same))))
          which false is = beside (not_same id x.0 is) (number_at x.0 r.table.attached) refl

  pub polled_goes : (u : Bool) → Holds transport n id q t u r
      → Goes transport n id q t u now (polled now r)
  unfolding polled
  polled_goes u h = by (first_unsent r.numbers) refl
    where
      by : (o : Option ℕ) → first_unsent r.numbers ≡ o
          → Goes transport n id q t u now (unsent_or now r o)
      by None found =
          let none : u ≡ false =
          none_unsent u (sym h.unsent ∙ times_none n r.numbers.unsent found) in
          subst (λ b. Goes transport n id q t b now (repeats_or now mid (repeated now r.table)))
          (sym none)
          (repeats_goes (subst (λ b. Holds transport n id q t b r) none h))
      by (Some m) found = which (is_at (nat_cmp n) m) refl
        where
          others : times n r.numbers.unsent
              ≡ one_if (m == n) + times n (others_in r.numbers.unsent)
          others = times_first n m r.numbers.unsent found

          left : (k : ℕ) → times n (others_in r.numbers.unsent) ≡ one_if u → k ≡ m
              → Holds transport n id q t u (unsent_or now r (Some k)).1
          left k is same = record {
            transport_is = h.transport_is;
            named = h.named;
            there = h.there;
            timed = h.timed;
            unsent = is;
          }

          first : m ≡ n → IsFirst transport n id q t u (unsent_or now r (Some m))
          first same =
              let one_of : one_if (m == n) ≡ 1 = ap one_if (eq-eqb m n same) in
              let count = h.unsent in
              let none : times n (others_in r.numbers.unsent) ≡ 0 =
              few u (times n r.numbers.unsent) (times n (others_in r.numbers.unsent)) count
              (others ∙ ap (λ k. k + times n (others_in r.numbers.unsent)) one_of) in
              record {
                told = ap Transmit same;
                was_unsent = is_on u (times n r.numbers.unsent)
                    (times n (others_in r.numbers.unsent)) count
                    (others ∙ ap (λ k. k + times n (others_in r.numbers.unsent)) one_of);
                holds = record {
                  transport_is = h.transport_is;
                  named = h.named;
                  there = h.there;
                  timed = h.timed;
                  unsent = none;
                };
              }
            where
              few : (u : Bool) (all rest : ℕ) → all ≡ one_if u → all ≡ 1 + rest → rest ≡ 0
              few true all rest count is = omega (arith, count, is)
              few false all rest count is = absurd (omega (arith, count, is))

              is_on : (u : Bool) (all rest : ℕ) → all ≡ one_if u → all ≡ 1 + rest → u ≡ true
              is_on true all rest count is = refl
              is_on false all rest count is = absurd (omega (arith, count, is))

          which : (b : Bool) → is_at (nat_cmp n) m ≡ b
              → Goes transport n id q t u now (unsent_or now r (Some m))
          which true is = inr (inl (first (same_key n m is)))
          which false is =
              let differ = not_same n m is in
              let off : one_if (m == n) ≡ 0 = ap one_if (ne_eqb m n differ) in
              inl (record {
                unnamed = ne_eqb m n differ;
                holds = left m (rest (times n (others_in r.numbers.unsent)) (one_if (m == n)) off
                    (sym others ∙ h.unsent)) refl;
                awaits = λ k said. cc;
                sent_first = λ on until said. cc;
              })
            where
              rest : (k b : ℕ) → b ≡ 0 → b + k ≡ one_if u → k ≡ one_if u
              rest k b none is = omega (arith, none, is)
