-- Only a validated message of a new address adds one, and then no more than one.
use Rattle.std.proofs.Common.{◌≡◌, ◌≤◌, ℕ, ◌+◌, List, Bool, true, false, Option, Some, None}
use Rattle.std.proofs.Common.{refl, ◌∙◌, ap, arith}
use Rattle.std.specs.Prelude.{cond, ◌-◌, ◌||◌, nat_lt}
use Rattle.std.specs.Option.{is_some}
use Rattle.std.specs.FinMap as fin
use Rattle.std.specs.declared.net.socket_addr.SocketAddr.{SocketAddr}
use Rattle.std.proofs.lemmas.Bool.{ltb-true}
use Rattle.stun_auth.specs.Places.{PlacesSeen, at_place}
use Rattle.stun_judging.specs.Reading.{Reading}
use Rattle.stun_auth.specs.Seen.{PlaceSeen}
use Rattle.stun_auth.specs.Validation.{ServerSeen, after_validation, place_after, put_place, sight}
use Rattle.stun_base.proofs.Addresses.{address_total}

-- a place at an address that has one already adds none
at_known : (places : PlacesSeen) (a : SocketAddr) (place : PlaceSeen)
    → fin.contains_key places a ≡ true → fin.len (fin.insert places a place) ≡ fin.len places
at_known places a place known =
    fin.len-insert address_total places a place
    ∙ ap (λ b. cond b (fin.len places) (fin.len places + 1)) known

pub grown_by_one : (places : PlacesSeen) (a : SocketAddr) (place : Option PlaceSeen)
    → fin.len (put_place places a place) ≤ fin.len places + 1
grown_by_one places a None = omega arith
grown_by_one places a (Some place) =
    by (fin.contains_key places a) (fin.len-insert address_total places a place)
  where
    by : (b : Bool)
        → fin.len (fin.insert places a place) ≡ cond b (fin.len places) (fin.len places + 1)
        → fin.len (fin.insert places a place) ≤ fin.len places + 1
    by true e = omega (arith, e)
    by false e = omega (arith, e)

within : (bound : ℕ) (places : PlacesSeen) (a : SocketAddr) (place : Option PlaceSeen)
    → fin.len places ≤ bound → (b : Bool) → nat_lt (fin.len places) bound ≡ b
    → (b || fin.contains_key places a) ≡ true
    → fin.len (put_place places a place) ≤ bound
within bound places a place least true less known =
    omega (arith, grown_by_one places a place, ltb-true (fin.len places) bound less)
within bound places a None least false less known = least
within bound places a (Some place) least false less known =
    omega (arith, least, at_known places a place known)

pub stays_within : (bound : ℕ) (s : ServerSeen) (from : SocketAddr) (now : ℕ) (words : List ℕ)
    (r : Reading) → fin.len s.places ≤ bound
    → (nat_lt (fin.len s.places) bound || fin.contains_key s.places from) ≡ true
    → fin.len (after_validation s from now words r).places ≤ bound
stays_within bound s from now words r least room =
    within bound s.places from (place_after (sight s from) now words r) least
    (nat_lt (fin.len s.places) bound) refl room

pub changed_in_place : (places : PlacesSeen) (a : SocketAddr) (change : PlaceSeen → PlaceSeen)
    → fin.len (at_place (fin.get places a) places a change) ≡ fin.len places
changed_in_place places a change = by (fin.get places a) refl
  where
    by : (o : Option PlaceSeen) → fin.get places a ≡ o
        → fin.len (at_place o places a change) ≡ fin.len places
    by None is = refl
    by (Some place) is = at_known places a (change place) (ap is_some is)

pub less_by_forgetting : (places : PlacesSeen) (a : SocketAddr)
    → fin.len (fin.remove places a) ≤ fin.len places
less_by_forgetting places a =
    by (fin.contains_key places a) (fin.len-remove address_total places a)
  where
    by : (b : Bool)
        → fin.len (fin.remove places a) ≡ cond b (fin.len places - 1) (fin.len places)
        → fin.len (fin.remove places a) ≤ fin.len places
    by true e = omega (arith, e)
    by false e = omega (arith, e)
