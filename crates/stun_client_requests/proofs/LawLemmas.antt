-- For every sequence of calls: a request that is stored stays so until its end is returned, and
-- then it is gone.
use Rattle.std.proofs.Common.{◌≡◌, ◌∙◌, ◌⊎◌, ◌<◌, ◌≤◌, ◌+◌, ℕ, Bool, true, false, List, ◌∷◌}
use Rattle.std.proofs.Common.{Option, Some, None, IsSome, ap, arith, cond, inl, inr, refl, subst}
use Rattle.std.proofs.Common.{sym}
use Rattle.std.specs.BTreeMap.{insert_entry, is_at}
use Rattle.std.specs.Map.{remove_entry}
use Rattle.std.specs.Option.{is_some, option_and_then, option_map, option_map_or}
use Rattle.std.specs.Cmp.{ranked}
use Rattle.std.specs.Ordering.{nat_cmp}
use Rattle.std.specs.declared.cmp.Ordering.{Ordering}
use Rattle.std.specs.declared.cmp.Ordering.TheVariants.{Less, Equal, Greater}
use Rattle.stun_agent.proofs.Ascending.{lookup-insert_same}
use Rattle.stun_agent.specs.Timing.{Settings}
use Rattle.std.specs.Prelude.{◌==◌}
use Rattle.std.proofs.lemmas.Bool.{eqb-false, eqb-true}
use Rattle.stun_agent.specs.Tables.{TableSeen, after_cancel, after_transmission, datum_at, over_in}
use Rattle.stun_agent.specs.Transactions.{Transaction}
use Rattle.stun_client_requests.specs.Laws.{Call, Calls, Event, IsOver, IsRequests, IsStored}
use Rattle.stun_client_requests.specs.Laws.{answers}
use Rattle.stun_client_requests.specs.Laws.{call, cancels, count_ends, ends, event_of, is_end_of}
use Rattle.stun_client_requests.specs.Laws.{no_call, polls, removes, replaces, sends_again}
use Rattle.stun_client_requests.specs.Laws.{starts_one}
use Rattle.stun_client_requests.specs.Numbers.{AllKnown, NumbersSeen, after_removal, end_in, end_of_first}
use Rattle.stun_client_requests.specs.Numbers.{first_ended, first_unsent, id_at, id_in, known_at}
use Rattle.stun_client_requests.specs.Requests.{Poll, RequestsSeen, ends_or, number_at}
use Rattle.stun_client_requests.specs.Requests.{after_removing, over}
use Rattle.stun_client_requests.specs.Requests.{over_or, polled, repeated, repeats_or}
use Rattle.stun_client_requests.specs.Requests.{unsent_or, after_start}
use Rattle.stun_client_requests.specs.declared.numbers.Known.{Known}
use Rattle.stun_client_requests.specs.declared.numbers.Known.TheVariants.{Outstanding, Ended}
use Rattle.stun_client_requests.specs.declared.requests.Request.{Request}
use Rattle.stun_client_requests.proofs.NumberLemmas.{Ascend, apart, own_key, same_key}
use Rattle.stun_client_requests.proofs.RequestLemmas.{at_insert, at_remove, attached_sent}

-- whether something is stored under a number
abbrev pub has : {E : Type 0} → ℕ → AllKnown E → Bool
has n all = is_some (known_at n all)

-- a call keeps what is stored under a number, or takes it away and returns its end
abbrev pub Effect : {D E : Type 0} → ℕ → RequestsSeen D E → RequestsSeen D E → Event → Type 0
Effect n r after event =
    ((has n after.numbers.known ≡ has n r.numbers.known) × (is_end_of n event ≡ false))
    ⊎ ((has n r.numbers.known ≡ true) × (has n after.numbers.known ≡ false)
    × (is_end_of n event ≡ true))

-- ---- one change

stored_again : {E : Type 0} (n k : ℕ) (v : Known E) (all : AllKnown E) → has k all ≡ true
    → has n (insert_entry nat_cmp all k v) ≡ has n all
stored_again n k v all there =
    ap is_some (at_insert k v all n) ∙ by (is_at (nat_cmp k) n) refl
  where
    by : (b : Bool) → is_at (nat_cmp k) n ≡ b
        → is_some (cond b (Some v) (known_at n all)) ≡ has n all
    by true is = sym (subst (λ m. has m all ≡ true) (sym (same_key k n is)) there)
    by false is = refl

stored_other : {E : Type 0} (n k : ℕ) (v : Known E) (all : AllKnown E) → (k ≡ n → ⊥)
    → has n (insert_entry nat_cmp all k v) ≡ has n all
stored_other n k v all differ =
    ap is_some (at_insert k v all n)
    ∙ ap (λ b. is_some (cond b (Some v) (known_at n all))) (apart k n differ)

-- what is stored under a number is taken away, and its end is returned
removal : {D E : Type 0} (n k : ℕ) (r after : RequestsSeen D E) (event : Event)
    → Ascend r.numbers.known → has k r.numbers.known ≡ true
    → after.numbers.known ≡ remove_entry (is_at (nat_cmp k)) r.numbers.known
    → is_end_of n event ≡ (k == n) → Effect n r after event
removal n k r after event s there made named = by (k == n) refl
  where
    now : has n after.numbers.known
        ≡ is_some (cond (is_at (nat_cmp k) n) None (known_at n r.numbers.known))
    now = ap (λ es. has n es) made ∙ ap is_some (at_remove k r.numbers.known s n)

    by : (b : Bool) → (k == n) ≡ b → Effect n r after event
    by true is = inr (
      subst (λ m. has m r.numbers.known ≡ true) (eqb-true k n is) there,
      now ∙ ap (λ b. is_some (cond b None (known_at n r.numbers.known)))
          (subst (λ m. is_at (nat_cmp k) m ≡ true) (eqb-true k n is) (own_key k)),
      named ∙ is,
    )
    by false is = inl (
      now ∙ ap (λ b. is_some (cond b None (known_at n r.numbers.known)))
          (apart k n (eqb-false k n is)),
      named ∙ is,
    )

id_has : {E : Type 0} (k id : ℕ) (s : NumbersSeen E) → id_at k s ≡ Some id → has k s.known ≡ true
id_has {E} k id s some = by (known_at k s.known) some
  where
    by : (o : Option (Known E)) → option_and_then id_in o ≡ Some id → is_some o ≡ true
    by None some = cc
    by (Some v) some = refl

-- ---- one call

-- the first end is that of a request that has ended
pub record IsFirstEnd {E : Type 0} (s : NumbersSeen E) (p : ℕ × E) : Type 0 where
  pub first : first_ended s ≡ Some p.0
  pub there : known_at p.0 s.known ≡ Some (Ended p.1)

pub first_end : {E : Type 0} (s : NumbersSeen E) (p : ℕ × E) → end_of_first s ≡ Some p
    → IsFirstEnd s p
first_end {E} s p some = by (first_ended s) refl some
  where
    at : (k : ℕ) (o : Option (Known E)) → known_at k s.known ≡ o → first_ended s ≡ Some k
        → option_map (λ end. (k, end)) (option_and_then end_in o) ≡ Some p → IsFirstEnd s p
    at k None is first some = cc
    at k (Some (Outstanding id)) is first some = cc
    at k (Some (Ended end)) is first some =
        let same : (k, end) ≡ p = cc in
        subst (λ (x : ℕ × E). IsFirstEnd s x) same (record { first = first; there = is })

    by : (o : Option ℕ) → first_ended s ≡ o
        → option_and_then
        (λ k. option_map (λ end. (k, end)) (option_and_then end_in (known_at k s.known))) o
        ≡ Some p
        → IsFirstEnd s p
    by None is some = cc
    by (Some k) is some = at k (known_at k s.known) refl is some

-- a request whose time is over is outstanding
over_has : {D E : Type 0} (now : ℕ) (r : RequestsSeen D E) (t : TableSeen (Request D))
    (q : Request D) → IsRequests r → t.attached ≡ r.table.attached → over now t ≡ Some q
    → has q.number r.numbers.known ≡ true
over_has {D} now r t q i same some = by (over_in now t) some
  where
    by : (o : Option (ℕ × Transaction)) → option_and_then (λ e. datum_at e.0 t.attached) o ≡ Some q
        → has q.number r.numbers.known ≡ true
    by None some = cc
    by (Some e) some =
        id_has q.number e.0 r.numbers
        (i.one.named e.0 q.number
        (ap (λ all. number_at e.0 all) (sym same) ∙ ap (λ o. option_map (λ x. x.number) o) some))

poll_effect : {D E : Type 0} (n now : ℕ) (r : RequestsSeen D E) → IsRequests r
    → Effect n r (polled now r).1 (event_of (polled now r).0)
unfolding polled
poll_effect {D} {E} n now r i = unsent (first_unsent r.numbers)
  where
    sent : RequestsSeen D E
    sent = record r { table = after_transmission now r.table }

    times : (o : Option (Request D)) → over now sent.table ≡ o
        → Effect n r (over_or now sent o).1 (event_of (over_or now sent o).0)
    times None is = inl (refl, refl)
    times (Some q) is =
        removal n q.number r (over_or now sent (Some q)).1 (ends q.number) i.ascending
        (over_has now r sent.table q i (attached_sent r.table now) is) refl refl

    ended : (o : Option (ℕ × E)) → end_of_first r.numbers ≡ o
        → Effect n r (ends_or now sent o).1 (event_of (ends_or now sent o).0)
    ended None is = times (over now sent.table) refl
    ended (Some p) is =
        let first = first_end r.numbers p is in
        removal n p.0 r (ends_or now sent (Some p)).1 (ends p.0) i.ascending
        (ap is_some first.there)
        (ap (λ o. option_map_or (λ k. remove_entry (is_at (nat_cmp k)) r.numbers.known) o
        r.numbers.known) first.first)
        refl

    again : (o : Option ℕ)
        → Effect n r (repeats_or now sent o).1 (event_of (repeats_or now sent o).0)
    again (Some k) = inl (refl, refl)
    again None = ended (end_of_first r.numbers) refl

    unsent : (o : Option ℕ)
        → Effect n r (unsent_or now r o).1 (event_of (unsent_or now r o).0)
    unsent (Some k) = inl (refl, refl)
    unsent None = again (repeated now r.table)

-- a change of an outstanding request, if there is one
if_known : {D E : Type 0} (n : ℕ) (r : RequestsSeen D E) (f : ℕ → RequestsSeen D E) (k : ℕ)
    → ((id : ℕ) → id_at k r.numbers ≡ Some id
    → has n (f id).numbers.known ≡ has n r.numbers.known)
    → has n (option_map_or f (id_at k r.numbers) r).numbers.known ≡ has n r.numbers.known
if_known {D} {E} n r f k each = by (id_at k r.numbers) refl
  where
    by : (o : Option ℕ) → id_at k r.numbers ≡ o
        → has n (option_map_or f o r).numbers.known ≡ has n r.numbers.known
    by None is = refl
    by (Some id) is = each id is

-- a request is removed
removed_effect : {D E : Type 0} (n k : ℕ) (r after : RequestsSeen D E) → IsRequests r
    → IsSome (id_at k r.numbers) → after ≡ after_removing k r → Effect n r after (ends k)
removed_effect n k r after i there made = by (id_at k r.numbers) refl there
  where
    by : (o : Option ℕ) → id_at k r.numbers ≡ o → IsSome o → Effect n r after (ends k)
    by None is some = cc
    by (Some id) is some =
        removal n k r after (ends k) i.ascending (id_has k id r.numbers is)
        (ap (λ s. s.numbers.known) made
        ∙ ap (λ o. (option_map_or
        (λ x. record r {
          table = after_cancel x r.table;
          numbers = after_removal k r.numbers;
        }) o r).numbers.known) is)
        refl

pub effect : {D E : Type 0} (n : ℕ) (r after : RequestsSeen D E) (event : Event) → IsRequests r
    → n < r.next → Call r event after → Effect n r after event
effect n r after event i low (starts_one _ _ id bytes plan datum now free made) =
    inl (
      ap (λ s. has n s.numbers.known) made
          ∙ stored_other n r.next (Outstanding id) r.numbers.known (λ e. absurd (omega arith)),
      refl,
    )
effect n r after event i low (sends_again _ _ k id response bytes plan datum now free made) =
    inl (
      ap (λ s. has n s.numbers.known) made
          ∙ if_known n r _ k (λ former is.
          stored_again n k (Outstanding id) r.numbers.known (id_has k former r.numbers is)),
      refl,
    )
effect n r after event i low (replaces _ _ k datum made) =
    inl (ap (λ s. has n s.numbers.known) made ∙ if_known n r _ k (λ id is. refl), refl)
effect n r after event i low (answers _ _ k count moment end made) =
    inl (
      ap (λ s. has n s.numbers.known) made
          ∙ if_known n r _ k (λ id is.
          stored_again n k (Ended end) r.numbers.known (id_has k id r.numbers is)),
      refl,
    )
effect n r after event i low (cancels _ _ k end made) =
    inl (
      ap (λ s. has n s.numbers.known) made
          ∙ if_known n r _ k (λ id is.
          stored_again n k (Ended end) r.numbers.known (id_has k id r.numbers is)),
      refl,
    )
effect n r after event i low (removes _ _ k there made) =
    removed_effect n k r after i there made
effect n r after event i low (polls _ _ now told made) =
    subst (λ (p : Poll _ _). Effect n r p.1 (event_of p.0)) made (poll_effect n now r i)

-- ---- numbers below the next one

poll_next : {D E : Type 0} (now : ℕ) (r : RequestsSeen D E) → (polled now r).1.next ≡ r.next
unfolding polled
poll_next {D} {E} now r = unsent (first_unsent r.numbers)
  where
    sent : RequestsSeen D E
    sent = record r { table = after_transmission now r.table }

    times : (o : Option (Request D)) → (over_or now sent o).1.next ≡ r.next
    times None = refl
    times (Some q) = refl

    ended : (o : Option (ℕ × E)) → (ends_or now sent o).1.next ≡ r.next
    ended None = times (over now sent.table)
    ended (Some p) = refl

    again : (o : Option ℕ) → (repeats_or now sent o).1.next ≡ r.next
    again (Some k) = refl
    again None = ended (end_of_first r.numbers)

    unsent : (o : Option ℕ) → (unsent_or now r o).1.next ≡ r.next
    unsent (Some k) = refl
    unsent None = again (repeated now r.table)

if_next : {D E : Type 0} (r : RequestsSeen D E) (f : ℕ → RequestsSeen D E) (o : Option ℕ)
    → ((id : ℕ) → (f id).next ≡ r.next) → (option_map_or f o r).next ≡ r.next
if_next r f None each = refl
if_next r f (Some id) each = each id

next_up : {D E : Type 0} (r after : RequestsSeen D E) (event : Event) → Call r event after
    → r.next ≤ after.next
next_up r after event (starts_one _ _ id bytes plan datum now free made) =
    let next : after.next ≡ r.next + 1 = ap (λ s. s.next) made in omega arith
next_up r after event (sends_again _ _ k id response bytes plan datum now free made) =
    let next : after.next ≡ r.next =
    ap (λ s. s.next) made ∙ if_next r _ (id_at k r.numbers) (λ former. refl) in
    omega arith
next_up r after event (replaces _ _ k datum made) =
    let next : after.next ≡ r.next =
    ap (λ s. s.next) made ∙ if_next r _ (id_at k r.numbers) (λ id. refl) in
    omega arith
next_up r after event (answers _ _ k count moment end made) =
    let next : after.next ≡ r.next =
    ap (λ s. s.next) made ∙ if_next r _ (id_at k r.numbers) (λ id. refl) in
    omega arith
next_up r after event (cancels _ _ k end made) =
    let next : after.next ≡ r.next =
    ap (λ s. s.next) made ∙ if_next r _ (id_at k r.numbers) (λ id. refl) in
    omega arith
next_up r after event (removes _ _ k there made) =
    let next : after.next ≡ r.next =
    ap (λ s. s.next) made ∙ if_next r _ (id_at k r.numbers) (λ id. refl) in
    omega arith
next_up r after event (polls _ _ now told made) =
    let next : after.next ≡ r.next = sym (ap (λ (p : Poll _ _). p.1.next) made) ∙ poll_next now r in
    omega arith

stored_low : {D E : Type 0} (n : ℕ) (r : RequestsSeen D E) → IsRequests r
    → has n r.numbers.known ≡ true → n < r.next
stored_low n r i there = by (nat_cmp n r.next) refl
  where
    none : r.next ≤ n → ⊥
    none high = let gone : has n r.numbers.known ≡ false = ap is_some (i.one.fresh n high) in cc

    by : (o : Ordering) → nat_cmp n r.next ≡ o → n < r.next
    by Less is = ranked n r.next Less (sym is)
    by Equal is =
        let same : n ≡ r.next = ranked n r.next Equal (sym is) in absurd (none (omega arith))
    by Greater is =
        let high : r.next < n = ranked n r.next Greater (sym is) in absurd (none (omega arith))

-- ---- any calls

to_some : {X : Type 0} (o : Option X) → is_some o ≡ true → IsSome o
to_some o there = there

from_some : {X : Type 0} (o : Option X) → IsSome o → is_some o ≡ true
from_some o there = there

not_some : {X : Type 0} (o : Option X) → is_some o ≡ false → o ≡ None
not_some None gone = refl
not_some (Some x) gone = cc

abbrev one_if : Bool → ℕ
one_if b = cond b 1 0

pub stays_over : {D E : Type 0} (n : ℕ) (r after : RequestsSeen D E) (events : List Event)
    → IsOver n r
    → Calls r events after → IsOver n after × (count_ends n events ≡ 0)
stays_over n r after events gone (no_call _) = (gone, refl)
stays_over {D} {E} n r after events gone (call _ next _ event others i made rest) =
    by (effect n r next event i gone.started made) (λ o. stays_over n next after others o rest)
  where
    none : has n r.numbers.known ≡ false
    none = ap is_some gone.gone

    by : Effect n r next event → (IsOver n next → IsOver n after × (count_ends n others ≡ 0))
        → IsOver n after × (count_ends n (event ∷ others) ≡ 0)
    by (inl e) again =
        let low = gone.started in
        let up = next_up r next event made in
        let later = again (record {
          started = omega arith;
          gone = not_some (known_at n next.numbers.known) (e.0 ∙ none);
        }) in (
          later.0,
          (let nothing : one_if (is_end_of n event) ≡ 0 = ap one_if e.1 in
              let none_later = later.1 in
              omega arith),
        )
    by (inr e) again = let there = e.0 in let missing = none in cc

pub ends_once : {D E : Type 0} (n : ℕ) (r after : RequestsSeen D E) (events : List Event)
    → IsStored n r → Calls r events after
    → (IsStored n after × (count_ends n events ≡ 0)) ⊎ (IsOver n after × (count_ends n events ≡ 1))
ends_once n r after events stored (no_call _) = inl (stored, refl)
ends_once {D} {E} n r after events stored (call _ next _ event others i made rest) =
    by (effect n r next event i low made) (λ s. ends_once n next after others s rest)
    (λ o. stays_over n next after others o rest)
  where
    there : has n r.numbers.known ≡ true
    there = from_some (known_at n r.numbers.known) stored

    low : n < r.next
    low = stored_low n r i there

    later : is_end_of n event ≡ false
        → (IsStored n after × (count_ends n others ≡ 0)) ⊎ (IsOver n after × (count_ends n others
        ≡ 1))
        → (IsStored n after × (count_ends n (event ∷ others) ≡ 0))
        ⊎ (IsOver n after × (count_ends n (event ∷ others) ≡ 1))
    later is (inl s) =
        let nothing : one_if (is_end_of n event) ≡ 0 = ap one_if is in
        let none_later = s.1 in
        inl (s.0, omega arith)
    later is (inr o) =
        let nothing : one_if (is_end_of n event) ≡ 0 = ap one_if is in
        let one_later = o.1 in
        inr (o.0, omega arith)

    by : Effect n r next event
        → (IsStored n next → (IsStored n after × (count_ends n others ≡ 0))
        ⊎ (IsOver n after × (count_ends n others ≡ 1)))
        → (IsOver n next → IsOver n after × (count_ends n others ≡ 0))
        → (IsStored n after × (count_ends n (event ∷ others) ≡ 0))
        ⊎ (IsOver n after × (count_ends n (event ∷ others) ≡ 1))
    by (inl e) again done =
        later e.1 (again (to_some (known_at n next.numbers.known) (e.0 ∙ there)))
    by (inr e) again done =
        let under = low in
        let up = next_up r next event made in
        let gone = done (record {
          started = omega arith;
          gone = not_some (known_at n next.numbers.known) e.1;
        }) in
        let one : one_if (is_end_of n event) ≡ 1 = ap one_if e.2 in
        let none_later = gone.1 in
        inr (gone.0, omega arith)

pub starts_so : {D E : Type 0} (r : RequestsSeen D E) (id : ℕ) (bytes : List ℕ) (plan : Settings)
    (datum : D) (now : ℕ) → IsRequests r
    → IsStored r.next (after_start id bytes plan datum now r)
    × (known_at r.next r.numbers.known ≡ None)
starts_so r id bytes plan datum now i = (
  to_some (known_at r.next (insert_entry nat_cmp r.numbers.known r.next (Outstanding id)))
      (ap is_some (lookup-insert_same r.next (Outstanding id) r.numbers.known)),
  i.one.fresh r.next (omega arith),
)
