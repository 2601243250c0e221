-- What steps of forgetting leave, address by address, and that all of them together leave what
-- forgetting at once does.
use Rattle.std.proofs.Common.{◌≡◌, ◌<◌, ◌+◌, ◌-◌, ℕ, zero, suc, List, [], ◌∷◌, Bool, true, false}
use Rattle.std.proofs.Common.{Option, Some, None, refl, sym, ◌∙◌, ap, subst, true≢false, arith}
use Rattle.std.specs.Prelude.{cond, not, ◌&&◌, ◌||◌}
use Rattle.std.specs.Option.{is_some, option_and_then, option_map, option_map_or, IfSome}
use Rattle.std.specs.Option.{IsSome}
use Rattle.std.proofs.Math.Bool.{and-false, and-true}
use Rattle.std.specs.declared.cmp.Ordering.{Ordering}
use Rattle.std.specs.declared.cmp.Ordering.TheVariants.{Less, Equal, Greater}
use Rattle.std.specs.Ordering.{eq_by_cmp, is_eq, is_gt, is_le, is_lt, ordering_reverse}
use Rattle.std.specs.Cmp.{Equal-is}
use Rattle.std.specs.FinMap as fin
use Rattle.std.specs.FinMap.{contains_key-keys, entries_sorted}
use Rattle.std.specs.List.{find, list_any}
use Rattle.std.specs.BTreeMap as tree
use Rattle.std.specs.BTreeMap.{BTreeMap}
use Rattle.std.specs.BTreeMap.Range.{IsFromStart, IsRangeOf, is_from_start}
use Rattle.std.specs.declared.ops.Bound.{Bound}
use Rattle.std.specs.declared.ops.Bound.TheVariants.{Included, Excluded, Unbounded}
use Rattle.std.specs.declared.net.socket_addr.SocketAddr.{SocketAddr}
use Rattle.stun_base.specs.Address.{address_cmp, same_address}
use Rattle.stun_auth.specs.Forgetting.{after_forgetting, place_kept}
use Rattle.stun_auth.specs.ForgettingSteps.{after_step, after_steps, first_address_from}
use Rattle.stun_auth.specs.ForgettingSteps.{is_before, is_looked_at, next_address}
use Rattle.stun_auth.specs.ForgettingSteps.{next_address_from, places_kept_where, start_of}
use Rattle.stun_auth.specs.Places.{PlacesSeen}
use Rattle.stun_auth.specs.Validation.{ServerSeen}
use Rattle.stun_auth.specs.code.Places.{IsFirstFrom, place_seen, places_seen}
use Rattle.stun_auth.specs.declared.server.places.Place.{Place}
use Rattle.stun_base.proofs.Addresses.{address_total, address_exact}
use Rattle.stun_auth.proofs.KeptPlaces.{get-kept_where, places_kept_where-all}
use Rattle.stun_auth.proofs.KeptPlaces.{places_kept_where-none, places_kept_where-same}
use Rattle.stun_auth.proofs.KeptPlaces.{places_kept_where-twice}
use Rattle.stun_judging.proofs.LeastNames.{find-least, find-none}
use Rattle.stun_judging.proofs.ListSteps.{find-passes}
use Rattle.stun_judging.proofs.Maps.{get-seen}
use Rattle.stun_auth.proofs.PlaceMaps.{derived, derived_is}

-- ---- the order

is_less : (r : Ordering) → is_lt r ≡ true → r ≡ Less
is_less Less h = refl
is_less Equal h = absurd (true≢false (sym h))
is_less Greater h = absurd (true≢false (sym h))

-- what comes after an address that a start lets in is let in
pub from_start-later : (start : Bound SocketAddr) (a q : SocketAddr)
    → is_from_start address_cmp start a ≡ true → address_cmp a q ≡ Less
    → is_from_start address_cmp start q ≡ true
from_start-later Unbounded a q h later = refl
from_start-later (Excluded s) a q h later =
    ap is_lt (address_total.trans s a q (is_less (address_cmp s a) h) later)
from_start-later (Included s) a q h later = by (address_cmp s a) refl h
  where
    by : (r : Ordering) → address_cmp s a ≡ r → is_le r ≡ true → is_le (address_cmp s q) ≡ true
    by Less is h = ap is_le (address_total.trans s a q is later)
    by Equal is h = ap is_le (address_total.congr s a q is ∙ later)
    by Greater is h = absurd (true≢false (sym h))

-- an address is before another if and only if that one is not at it or before it
turned : (r : Ordering) → is_lt (ordering_reverse r) ≡ not (is_le r)
turned Less = refl
turned Equal = refl
turned Greater = refl

pub before-turned : (q b : SocketAddr)
    → is_before (Some b) q ≡ not (is_from_start address_cmp (Included b) q)
before-turned q b = ap is_lt (address_total.antisymm q b) ∙ turned (address_cmp b q)

-- an address that is not below another is that one, or comes after it
pub apart : (a q : SocketAddr) → is_gt (address_cmp a q) ≡ false → same_address a q ≡ false
    → address_cmp a q ≡ Less
apart a q up other = by (address_cmp a q) up other
  where
    by : (r : Ordering) → is_gt r ≡ false → is_eq r ≡ false → r ≡ Less
    by Less up other = refl
    by Equal up other = absurd (true≢false other)
    by Greater up other = absurd (true≢false up)

-- ---- the first address from a start on

there : (places : PlacesSeen) (q : SocketAddr)
    → list_any (eq_by_cmp address_cmp q) (fin.keys places) ≡ true → IsSome (fin.get places q)
there places q among = contains_key-keys places q ∙ among

pub first_is : (places : PlacesSeen) (start : Bound SocketAddr) (o : Option SocketAddr)
    → IsFirstFrom places start o → first_address_from places start ≡ o
first_is places start None none =
    find-none address_total address_exact (is_from_start address_cmp start) (fin.entries places)
    (λ q among.
    elim (is_from_start address_cmp start q) as (λ b. is_from_start address_cmp start q ≡ b
    → b ≡ false) [
      | true ↦ λ within. sym (there places q among) ∙ ap is_some (none q within)
      | false ↦ λ _. refl
    ] refl)
first_is places start (Some a) first =
    find-least address_total address_exact (is_from_start address_cmp start) (fin.entries places)
    (entries_sorted places) a
    (sym (contains_key-keys places a) ∙ first.0) first.1
    (λ q among within. first.2 q within (there places q among))

-- ---- the first of a range of the tree map

not_above : (r : Ordering) → is_gt r ≡ false → is_le r ≡ true
not_above Less h = refl
not_above Equal h = refl
not_above Greater h = absurd (true≢false h)

not_below : (r : Ordering) → is_le r ≡ true → is_gt r ≡ false
not_below Less h = refl
not_below Equal h = refl
not_below Greater h = absurd (true≢false (sym h))

as_fact : (start : Bound SocketAddr) (q : SocketAddr) → is_from_start address_cmp start q ≡ true
    → IsFromStart address_cmp start q
as_fact Unbounded q h = tt
as_fact (Excluded s) q h = is_less (address_cmp s q) h
as_fact (Included s) q h = not_below (address_cmp s q) h

as_test : (start : Bound SocketAddr) (q : SocketAddr) → IsFromStart address_cmp start q
    → is_from_start address_cmp start q ≡ true
as_test Unbounded q h = refl
as_test (Excluded s) q h = ap is_lt h
as_test (Included s) q h = not_above (address_cmp s q) h

module _ {A : Type 0} (m : BTreeMap SocketAddr (Place A)) (start : Bound SocketAddr)
    (r : List (SocketAddr × Place A)) (range : IsRangeOf derived start Unbounded m r) where
  in_order : IsRangeOf address_cmp start Unbounded m r
  in_order =
      subst (λ (R : SocketAddr → SocketAddr → Ordering). IsRangeOf R start Unbounded m r)
      derived_is range

  seen_at : (q : SocketAddr)
      → option_map place_seen (tree.get address_cmp m q) ≡ fin.get (places_seen m.entries) q
  seen_at q = sym (get-seen address_total address_exact (λ a. a) place_seen m.entries q)

  seen_there : (o : Option (Place A)) → is_some (option_map place_seen o) ≡ is_some o
  seen_there None = refl
  seen_there (Some p) = refl

  pub first_none : r ≡ [] → IsFirstFrom (places_seen m.entries) start None
  first_none none = λ q within. sym (seen_at q)
      ∙ ap (option_map place_seen) (in_order.5 none q (as_fact start q within, tt))

  pub first_some : (e : SocketAddr × Place A) (t : List (SocketAddr × Place A)) → r ≡ e ∷ t
      → IsFirstFrom (places_seen m.entries) start (Some e.0)
  first_some e t is =
      let first = subst (IsRangeOf address_cmp start Unbounded m) is in_order in (
        ap is_some (sym (seen_at e.0) ∙ ap (option_map place_seen) first.1.1),
        as_test start e.0 first.1.0.0,
        λ q within present. first.2 q (as_fact start q within, tt)
            (sym (seen_there (tree.get address_cmp m q)) ∙ ap is_some (seen_at q) ∙ present),
      )

  -- and its place is the one that the range has
  pub first_seen : (e : SocketAddr × Place A) (t : List (SocketAddr × Place A)) → r ≡ e ∷ t
      → fin.get (places_seen m.entries) e.0 ≡ Some (place_seen e.1)
  first_seen e t is =
      let first = subst (IsRangeOf address_cmp start Unbounded m) is in_order in
      sym (seen_at e.0) ∙ ap (option_map place_seen) first.1.1

-- ---- a step, an address after another

-- the addresses that were looked at, from one start on and not from another on
abbrev pub is_passed : Bound SocketAddr → Bound SocketAddr → SocketAddr → Bool
is_passed start next a = is_from_start address_cmp start a && not (is_from_start address_cmp next a)

nothing_passed : (b : Bool) → (b && not b) ≡ false
nothing_passed true = refl
nothing_passed false = refl

pub passed-none : (start : Bound SocketAddr) (now : ℕ) (places : PlacesSeen)
    → places_kept_where (is_passed start start) now places ≡ places
passed-none start now places =
    places_kept_where-same (is_passed start start) (λ a. false) now places
    (λ q there. nothing_passed (is_from_start address_cmp start q))
    ∙ places_kept_where-none now places

-- what is not passed is as it was
pub get-passed : (start next : Bound SocketAddr) (now : ℕ) (places : PlacesSeen) (q : SocketAddr)
    → is_from_start address_cmp next q ≡ true
    → fin.get (places_kept_where (is_passed start next) now places) q ≡ fin.get places q
get-passed start next now places q within =
    get-kept_where (is_passed start next) now places q
    ∙ ap (λ b. cond b (place_kept now (fin.get places q)) (fin.get places q))
    (ap (λ b. is_from_start address_cmp start q && not b) within
    ∙ and-false (is_from_start address_cmp start q))

-- so what comes first there is what came first
pub first_as_before : (start next : Bound SocketAddr) (now : ℕ) (places left : PlacesSeen)
    (o : Option SocketAddr) → left ≡ places_kept_where (is_passed start next) now places
    → IsFirstFrom left next o → IsFirstFrom places next o
first_as_before start next now places left None is none = λ q within.
    sym (get-passed start next now places q within) ∙ ap (λ (m : PlacesSeen). fin.get m q) (sym is)
    ∙ none q within
first_as_before start next now places left (Some a) is first =
    let same : (q : SocketAddr) → is_from_start address_cmp next q ≡ true
    → fin.get places q ≡ fin.get left q =
    λ q within. sym (get-passed start next now places q within)
    ∙ ap (λ (m : PlacesSeen). fin.get m q) (sym is) in (
      ap is_some (same a first.1) ∙ first.0,
      first.1,
      λ q within present. first.2 q within (sym (ap is_some (same q within)) ∙ present),
    )

-- an address more is passed, where the next start lets in nothing that the first does not
one_more : (lo hi here beyond : Bool) → (here ≡ true → (lo ≡ true) × (hi ≡ true) × (beyond ≡ false))
    → (here ≡ false → hi ≡ true → beyond ≡ true)
    → (hi ≡ false → beyond ≡ false) → ((lo && not hi) || here) ≡ (lo && not beyond)
one_more true true true true h o b = absurd (true≢false (h refl).2)
one_more true true true false h o b = refl
one_more true true false true h o b = refl
one_more true true false false h o b = absurd (true≢false (sym (o refl refl)))
one_more true false here true h o b = absurd (true≢false (b refl))
one_more true false here false h o b = refl
one_more false hi true beyond h o b = absurd (true≢false (sym (h refl).0))
one_more false hi false beyond h o b = refl

pub passed-more : (start next : Bound SocketAddr) (now : ℕ) (places : PlacesSeen) (a : SocketAddr)
    → IsFirstFrom places next (Some a)
    → ((q : SocketAddr) → is_from_start address_cmp next q ≡ true
    → is_from_start address_cmp start q ≡ true)
    → places_kept_where (same_address a) now (places_kept_where (is_passed start next) now places)
    ≡ places_kept_where (is_passed start (Excluded a)) now places
passed-more start next now places a first within =
    places_kept_where-twice (is_passed start next) (same_address a) now places
    ∙ places_kept_where-same (λ q. is_passed start next q || same_address a q)
    (is_passed start (Excluded a)) now places (λ q present.
    one_more (is_from_start address_cmp start q) (is_from_start address_cmp next q)
    (same_address a q) (is_from_start address_cmp (Excluded a) q)
    (λ here.
    let tied : address_cmp a q ≡ Equal = (Equal-is (address_cmp a q)).0 here in
    let is : a ≡ q = address_exact a q tied in (
      within q (ap (is_from_start address_cmp next) (sym is) ∙ first.1),
      ap (is_from_start address_cmp next) (sym is) ∙ first.1,
      ap is_lt tied,
    ))
    (λ other from_next. ap is_lt (apart a q (first.2 q from_next present) other))
    (λ not_from. by_next q not_from (is_lt (address_cmp a q)) refl))
  where
    by_next : (q : SocketAddr) → is_from_start address_cmp next q ≡ false → (b : Bool)
        → is_lt (address_cmp a q) ≡ b → b ≡ false
    by_next q not_from true later =
        absurd (true≢false
        (sym (from_start-later next a q first.1 (is_less (address_cmp a q) later)) ∙ not_from))
    by_next q not_from false later = refl

-- what comes after the address comes from the first start on too
pub still_within : (start next : Bound SocketAddr) (a : SocketAddr)
    → is_from_start address_cmp next a ≡ true
    → ((q : SocketAddr) → is_from_start address_cmp next q ≡ true
    → is_from_start address_cmp start q ≡ true)
    → (q : SocketAddr) → is_from_start address_cmp (Excluded a) q ≡ true
    → is_from_start address_cmp start q ≡ true
still_within start next a from_next within q later =
    within q (from_start-later next a q from_next (is_less (address_cmp a q) later))

-- at its end a step has looked at what is before the address that comes first then
pub passed-end : (from : Option SocketAddr) (next : Bound SocketAddr) (now : ℕ)
    (places : PlacesSeen) (o : Option SocketAddr) → IsFirstFrom places next o
    → places_kept_where (is_passed (start_of from) next) now places
    ≡ places_kept_where (is_looked_at from o) now places
passed-end from next now places None none =
    places_kept_where-same (is_passed (start_of from) next) (is_looked_at from None) now places
    (λ q present.
    ap (λ b. is_from_start address_cmp (start_of from) q && not b)
    (by q present (is_from_start address_cmp next q) refl))
  where
    by : (q : SocketAddr) → IsSome (fin.get places q) → (b : Bool)
        → is_from_start address_cmp next q ≡ b → b ≡ false
    by q present true within = sym present ∙ ap is_some (none q within)
    by q present false within = refl
passed-end from next now places (Some end) first =
    places_kept_where-same (is_passed (start_of from) next) (is_looked_at from (Some end))
    now places
    (λ q present.
    ap (λ b. is_from_start address_cmp (start_of from) q && b)
    (ap not (by q present (is_from_start address_cmp next q) refl) ∙ sym (before-turned q end)))
  where
    by : (q : SocketAddr) → IsSome (fin.get places q) → (b : Bool)
        → is_from_start address_cmp next q ≡ b → b ≡ is_from_start address_cmp (Included end) q
    by q present true within = sym (not_above (address_cmp end q) (first.2 q within present))
    by q present false within = below (address_cmp end q) refl
      where
        below : (r : Ordering) → address_cmp end q ≡ r → false ≡ is_le r
        below Less is = absurd (true≢false (sym (from_start-later next end q first.1 is) ∙ within))
        below Equal is =
            absurd (true≢false
            (sym (ap (is_from_start address_cmp next) (sym (address_exact end q is)) ∙ first.1)
            ∙ within))
        below Greater is = refl

-- ---- the loop

-- nothing is passed at first
pub begun_left : (from : Option SocketAddr) (start : Bound SocketAddr) (now : ℕ)
    (places : PlacesSeen) → start ≡ start_of from
    → places ≡ places_kept_where (is_passed (start_of from) start) now places
begun_left from start now places is =
    sym (passed-none (start_of from) now places)
    ∙ ap (λ (s : Bound SocketAddr). places_kept_where (is_passed (start_of from) s) now places)
    (sym is)

pub begun_within : (from : Option SocketAddr) (start : Bound SocketAddr) → start ≡ start_of from
    → (q : SocketAddr) → is_from_start address_cmp start q ≡ true
    → is_from_start address_cmp (start_of from) q ≡ true
begun_within from start is q h =
    ap (λ (s : Bound SocketAddr). is_from_start address_cmp s q) (sym is) ∙ h

pub begun_next : (from : Option SocketAddr) (start : Bound SocketAddr) (most : ℕ)
    (places : PlacesSeen) → start ≡ start_of from
    → next_address_from places (start_of from) most ≡ next_address_from places start (most - 0)
begun_next from start most places is =
    let all : most ≡ most - 0 = omega arith in
    ap (λ (s : Bound SocketAddr). next_address_from places s most) (sym is)
    ∙ ap (next_address_from places start) all

-- an address is forgotten if it has expired, and the next start comes after it
pub left_more : (start next : Bound SocketAddr) (now : ℕ) (places left after : PlacesSeen)
    (a : SocketAddr) → left ≡ places_kept_where (is_passed start next) now places
    → ((q : SocketAddr) → is_from_start address_cmp next q ≡ true
    → is_from_start address_cmp start q ≡ true) → IsFirstFrom left next (Some a)
    → after ≡ places_kept_where (same_address a) now left
    → after ≡ places_kept_where (is_passed start (Excluded a)) now places
left_more start next now places left after a is within first after_is =
    after_is ∙ ap (places_kept_where (same_address a) now) is
    ∙ passed-more start next now places a
    (first_as_before start next now places left (Some a) is first) within

-- so that one address less comes before the one to go on at
pub next_more : (start next : Bound SocketAddr) (now : ℕ) (places left : PlacesSeen)
    (a : SocketAddr) (goal : Option SocketAddr) (most looked : ℕ) → looked < most
    → left ≡ places_kept_where (is_passed start next) now places → IsFirstFrom left next (Some a)
    → goal ≡ next_address_from places next (most - looked)
    → goal ≡ next_address_from places (Excluded a) (most - (looked + 1))
next_more start next now places left a goal most looked few is first next_is =
    let rest : most - looked ≡ suc (most - (looked + 1)) = omega arith in
    next_is ∙ ap (next_address_from places next) rest
    ∙ ap (option_and_then (λ x. next_address_from places (Excluded x) (most - (looked + 1))))
    (first_is places next (Some a) (first_as_before start next now places left (Some a) is first))

-- where no address is left there is none to go on at
pub next_none : (start next : Bound SocketAddr) (now : ℕ) (places left : PlacesSeen)
    (goal : Option SocketAddr) (most looked : ℕ) → looked < most
    → left ≡ places_kept_where (is_passed start next) now places → IsFirstFrom left next None
    → goal ≡ next_address_from places next (most - looked)
    → None ≡ goal
next_none start next now places left goal most looked few is none next_is =
    let rest : most - looked ≡ suc (most - (looked + 1)) = omega arith in
    sym (next_is ∙ ap (next_address_from places next) rest
    ∙ ap (option_and_then (λ x. next_address_from places (Excluded x) (most - (looked + 1))))
    (first_is places next None (first_as_before start next now places left None is none)))

-- after the last turn it is the first that is left
pub next_last : (start next : Bound SocketAddr) (now : ℕ) (places left : PlacesSeen)
    (o goal : Option SocketAddr) (most looked : ℕ) → looked ≡ most
    → left ≡ places_kept_where (is_passed start next) now places → IsFirstFrom left next o
    → goal ≡ next_address_from places next (most - looked)
    → o ≡ goal
next_last start next now places left o goal most looked all is first next_is =
    let rest : most - looked ≡ 0 = omega arith in
    sym (next_is ∙ ap (next_address_from places next) rest
    ∙ first_is places next o (first_as_before start next now places left o is first))

-- and what was passed is what lies before it
pub left_last : (from : Option SocketAddr) (next : Bound SocketAddr) (now : ℕ)
    (places left : PlacesSeen) (o : Option SocketAddr)
    → left ≡ places_kept_where (is_passed (start_of from) next) now places → IsFirstFrom left next o
    → left ≡ places_kept_where (is_looked_at from o) now places
left_last from next now places left o is first =
    is ∙ passed-end from next now places o
    (first_as_before (start_of from) next now places left o is first)

-- ---- all steps

found_passes : (test : SocketAddr → Bool) (list : List SocketAddr) (a : SocketAddr)
    → find test list ≡ Some a → test a ≡ true
found_passes test list a found =
    subst (λ (o : Option SocketAddr). IfSome o (λ x. test x ≡ true)) found (find-passes test list)

-- the next address comes from the start on
pub next-within : (places : PlacesSeen) (start : Bound SocketAddr) (most : ℕ) (b : SocketAddr)
    → next_address_from places start most ≡ Some b → is_from_start address_cmp start b ≡ true
next-within places start zero b is =
    found_passes (is_from_start address_cmp start) (fin.keys places) b is
next-within places start (suc more) b is =
    elim (first_address_from places start) as (λ o. first_address_from places start ≡ o
    → option_and_then (λ a. next_address_from places (Excluded a) more) o ≡ Some b
    → is_from_start address_cmp start b ≡ true) [
      | None ↦ λ none is. cc
      | Some a ↦ λ first is.
          from_start-later start a b
          (found_passes (is_from_start address_cmp start) (fin.keys places) a first)
          (is_less (address_cmp a b) (next-within places (Excluded a) more b is))
    ] refl is

-- what comes before an address and what comes from it on is all
joined : (lo from : Bool) → (from ≡ true → lo ≡ true) → ((lo && not from) || from) ≡ lo
joined true true h = refl
joined true false h = refl
joined false true h = sym (h refl)
joined false false h = refl

is_looked_at-joined : (from : Option SocketAddr) (b q : SocketAddr)
    → is_from_start address_cmp (start_of from) b ≡ true
    → (is_looked_at from (Some b) q || is_from_start address_cmp (Included b) q)
    ≡ is_from_start address_cmp (start_of from) q
is_looked_at-joined from b q within =
    ap (λ t. (is_from_start address_cmp (start_of from) q && t)
    || is_from_start address_cmp (Included b) q) (before-turned q b)
    ∙ joined (is_from_start address_cmp (start_of from) q)
    (is_from_start address_cmp (Included b) q) (by (address_cmp b q) refl)
  where
    by : (r : Ordering) → address_cmp b q ≡ r → is_le r ≡ true
        → is_from_start address_cmp (start_of from) q ≡ true
    by Less is h = from_start-later (start_of from) b q within is
    by Equal is h = ap (is_from_start address_cmp (start_of from)) (sym (address_exact b q is))
        ∙ within
    by Greater is h = absurd (true≢false (sym h))

-- all that comes from a start on was looked at
abbrev forgotten_from : ServerSeen → ℕ → Option SocketAddr → ServerSeen
forgotten_from s now from =
    record s { places = places_kept_where (is_from_start address_cmp (start_of from)) now s.places }

all_steps : (s : ServerSeen) (now : ℕ) (from : Option SocketAddr) (sizes : List ℕ)
    (left : ServerSeen) → after_steps s now from sizes ≡ Some left
    → left ≡ forgotten_from s now from
all_steps s now from [] left is = cc
all_steps s now from (most ∷ sizes) left is =
    elim (next_address s from most) as (λ o. next_address s from most ≡ o
    → option_map_or (λ a. after_steps (after_step s now from most) now (Some a) sizes) o
    (Some (after_step s now from most)) ≡ Some left → left ≡ forgotten_from s now from) [
      | None ↦ λ none is.
          let last : left ≡ after_step s now from most = cc in
          last ∙ ap
          (λ (o : Option SocketAddr).
          record s { places = places_kept_where (is_looked_at from o) now s.places }) none
          ∙ ap (λ (m : PlacesSeen). record s { places = m })
          (places_kept_where-same (is_looked_at from None)
          (is_from_start address_cmp (start_of from)) now
          s.places (λ q there. and-true (is_from_start address_cmp (start_of from) q)))
      | Some b ↦ λ next is.
          all_steps (after_step s now from most) now (Some b) sizes left is
          ∙ ap (λ (m : PlacesSeen). record s { places = m })
          (ap (λ (o : Option SocketAddr).
          places_kept_where (is_from_start address_cmp (Included b)) now
          (places_kept_where (is_looked_at from o) now s.places)) next
          ∙ places_kept_where-twice (is_looked_at from (Some b))
          (is_from_start address_cmp (Included b))
          now s.places
          ∙ places_kept_where-same
          (λ q. is_looked_at from (Some b) q || is_from_start address_cmp (Included b) q)
          (is_from_start address_cmp (start_of from)) now s.places
          (λ q there. is_looked_at-joined from b q
          (next-within s.places (start_of from) most b next)))
    ] refl is

-- so after all steps the server is the one that forgetting at once leaves
pub steps_forget_all : (s : ServerSeen) (now : ℕ) (sizes : List ℕ) (left : ServerSeen)
    → after_steps s now None sizes ≡ Some left → left ≡ after_forgetting s now
steps_forget_all s now sizes left is =
    all_steps s now None sizes left is
    ∙ ap (λ (m : PlacesSeen). record s { places = m }) (places_kept_where-all now s.places)
