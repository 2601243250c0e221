-- When the record of an address is forgotten.
use Rattle.std.specs.Prelude.{ℕ, nat_lt, Bool, ◌&&◌, if◌then◌else◌, Option, Some, None}
use Rattle.std.specs.Option.{is_none, is_some}
use Rattle.std.specs.FinMap as map
use Rattle.std.specs.declared.net.socket_addr.SocketAddr.{SocketAddr}
use Rattle.stun_base.specs.Address.{address_cmp}
use Rattle.stun_auth.specs.Seen.{PlaceSeen}
use Rattle.stun_auth.specs.Validation.{ServerSeen}

-- whether a record is forgotten at a time: it has no client, and its nonce expired before
abbrev pub is_forgotten : ℕ → PlaceSeen → Bool
is_forgotten now place = is_none place.client && nat_lt place.expires now

-- the record of an address after forgetting: a forgotten one is gone, with its offered algorithms.
-- Any other stays
abbrev pub place_kept : ℕ → Option PlaceSeen → Option PlaceSeen
place_kept now None = None
place_kept now (Some place) = if is_forgotten now place then None else Some place

-- the records that are not forgotten at a time
abbrev pub places_kept : ℕ → map.FinMap address_cmp PlaceSeen → map.FinMap address_cmp PlaceSeen
places_kept now places =
    map.retain_keys places (λ address. is_some (place_kept now (map.get places address)))

-- the server after forgetting
abbrev pub after_forgetting : ServerSeen → ℕ → ServerSeen
after_forgetting s now = record s { places = places_kept now s.places }

-- the server without a record of this address, and with the records of all others
abbrev pub without_place : ServerSeen → SocketAddr → ServerSeen
without_place s address = record s { places = map.remove s.places address }
