-- Forgetting what has expired in steps: each visits at most this many addresses, in their order.
use Rattle.std.specs.Prelude.{ℕ, zero, suc, List, [], ◌∷◌, Bool, true}
use Rattle.std.specs.Prelude.{not, ◌&&◌, ◌||◌, Option, Some, None}
use Rattle.std.specs.Option.{is_some, option_and_then, option_map_or}
use Rattle.std.specs.Ordering.{is_lt}
use Rattle.std.specs.FinMap as map
use Rattle.std.specs.List.{find}
use Rattle.std.specs.BTreeMap.Range.{is_from_start}
use Rattle.std.specs.declared.ops.Bound.{Bound}
use Rattle.std.specs.declared.ops.Bound.TheVariants.{Included, Excluded, Unbounded}
use Rattle.std.specs.declared.net.socket_addr.SocketAddr.{SocketAddr}
use Rattle.stun_base.specs.Address.{address_cmp}
use Rattle.stun_auth.specs.Forgetting.{place_kept}
use Rattle.stun_auth.specs.Places.{PlacesSeen}
use Rattle.stun_auth.specs.Validation.{ServerSeen}

-- the first address that has a record, from a start on
abbrev pub first_address_from : PlacesSeen → Bound SocketAddr → Option SocketAddr
first_address_from places start = find (is_from_start address_cmp start) (map.keys places)

-- the address after this many others
abbrev pub next_address_from : PlacesSeen → Bound SocketAddr → ℕ → Option SocketAddr
next_address_from places start zero = first_address_from places start
next_address_from places start (suc more) =
    option_and_then (λ a. next_address_from places (Excluded a) more)
    (first_address_from places start)

-- a step begins at this address, or at the first of all
abbrev pub start_of : Option SocketAddr → Bound SocketAddr
start_of None = Unbounded
start_of (Some a) = Included a

-- a step ends before this address, or with the last of all
abbrev pub is_before : Option SocketAddr → SocketAddr → Bool
is_before None a = true
is_before (Some end) a = is_lt (address_cmp a end)

-- whether a step visits an address
abbrev pub is_looked_at : Option SocketAddr → Option SocketAddr → SocketAddr → Bool
is_looked_at from end a = is_from_start address_cmp (start_of from) a && is_before end a

-- the chosen records, without those that `forget_expired` forgets, and all others
abbrev pub places_kept_where : (SocketAddr → Bool) → ℕ → PlacesSeen → PlacesSeen
places_kept_where chosen now places =
    map.retain_keys places (λ a. not (chosen a) || is_some (place_kept now (map.get places a)))

-- the address at which the next step begins: that of the first record that this step does not visit
abbrev pub next_address : ServerSeen → Option SocketAddr → ℕ → Option SocketAddr
next_address s from most = next_address_from s.places (start_of from) most

-- the server after a step
abbrev pub after_step : ServerSeen → ℕ → Option SocketAddr → ℕ → ServerSeen
after_step s now from most =
    record s
    { places = places_kept_where (is_looked_at from (next_address s from most)) now s.places }

-- the server after steps of these sizes, each of which begins where the one before ended, if they
-- reach the end
abbrev pub after_steps : ServerSeen → ℕ → Option SocketAddr → List ℕ → Option ServerSeen
after_steps s now from [] = None
after_steps s now from (most ∷ sizes) =
    option_map_or (λ a. after_steps (after_step s now from most) now (Some a) sizes)
    (next_address s from most) (Some (after_step s now from most))
