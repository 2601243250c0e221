-- A record as the struct of the code stores it.
use Rattle.std.specs.Coded.{Coded, code_by, coded×, coded_list, coded_option}
use Rattle.std.specs.Prelude.{◌≡◌, ℕ, List, map, refl, true, false, if◌then◌else◌, Option, Some, None}
use Rattle.std.specs.Option.{option_map, option_or, IsSome}
use Rattle.std.specs.Ordering.{is_gt}
use Rattle.std.specs.BTreeMap.Range.{is_from_start}
use Rattle.std.specs.declared.ops.Bound.{Bound}
use Rattle.std.specs.FinMap as fin
use Rattle.std.specs.String.{string_bytes}
use Rattle.std.specs.declared.net.socket_addr.SocketAddr.{SocketAddr}
use Rattle.stun_base.specs.Address.{address_cmp}
use Rattle.stun_auth.specs.declared.server.places.ValidatedUser.{ValidatedUser}
use Rattle.stun_auth.specs.declared.server.places.Place.{Place}
use Rattle.stun_judging.specs.Verdict.{ClientSeen}
use Rattle.stun_auth.specs.Seen.{PlaceSeen, renewed_place}
use Rattle.stun_auth.specs.Places.{PlacesSeen, with_client}
use Rattle.stun_auth.specs.code.AddressCode.{coded_address}
use Rattle.stun_judging.specs.code.Judged.{coded_client}
use Rattle.stun_auth.specs.code.Seen.{coded_place}

abbrev pub client_seen : {A : Type 0} → ValidatedUser A → ClientSeen
client_seen c = record { name = string_bytes c.name; algorithm = c.algorithm }

abbrev pub place_seen : {A : Type 0} → Place A → PlaceSeen
place_seen p = record {
  nonce = string_bytes p.nonce.text;
  expires = p.expires;
  offered = p.offered;
  client = if p.is_removed then None else option_map client_seen p.last_user;
}

-- a record with a new nonce, and with a new client if there is one
abbrev pub renewed_with : Option PlaceSeen → List ℕ → ℕ → Option ClientSeen → PlaceSeen
renewed_with place nonce expires client =
    with_client (option_or client (renewed_place place nonce expires).client)
    (renewed_place place nonce expires)

-- an address is the first that has a record, from a start on; or none has one there
abbrev pub IsFirstFrom : PlacesSeen → Bound SocketAddr → Option SocketAddr → Type 0
IsFirstFrom places start None =
    (q : SocketAddr) → is_from_start address_cmp start q ≡ true → fin.get places q ≡ None
IsFirstFrom places start (Some a) =
    IsSome (fin.get places a) × (is_from_start address_cmp start a ≡ true)
    × ((q : SocketAddr) → is_from_start address_cmp start q ≡ true → IsSome (fin.get places q)
    → is_gt (address_cmp a q) ≡ false)

abbrev pub places_seen : {A : Type 0} → List (SocketAddr × Place A) → PlacesSeen
places_seen entries = fin.from_entries (map (λ e. (e.0, place_seen e.1)) entries)

-- the user who was validated last at each address, removed since or not
abbrev pub LastUsers : Type 0
LastUsers = List (SocketAddr × Option ClientSeen)

abbrev pub last_users_of : {A : Type 0} → List (SocketAddr × Place A) → LastUsers
last_users_of entries = map (λ e. (e.0, option_map client_seen e.1.last_user)) entries

-- what is stored of all addresses: their records as the contracts of the server see them, and the
-- users whose names are stored, so that a user who returns needs no memory
pub record PlacesKept : Type 0 where
  pub seen : PlacesSeen
  pub last_users : LastUsers

abbrev pub coded_places : Coded PlacesKept
coded_places = code_by (PlacesSeen × LastUsers)
    (coded× (fin.code coded_address coded_place)
    (coded_list (coded× coded_address (coded_option coded_client))))
    (λ p. (p.seen, p.last_users)) (λ q. record { seen = q.0; last_users = q.1 }) (λ _. refl)
