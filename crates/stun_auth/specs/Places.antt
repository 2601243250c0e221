-- The records of all addresses.
use Rattle.std.specs.Prelude.{if◌then◌else◌, Option, Some, None}
use Rattle.std.specs.Option.{is_some}
use Rattle.std.specs.FinMap as fin
use Rattle.std.specs.declared.net.socket_addr.SocketAddr.{SocketAddr}
use Rattle.stun_base.specs.Address.{address_cmp}
use Rattle.stun_judging.specs.declared.algorithm_set.AlgorithmSet.{AlgorithmSet}
use Rattle.stun_judging.specs.Verdict.{ClientSeen}
use Rattle.stun_auth.specs.Seen.{PlaceSeen}

-- a record for each address that has one
abbrev pub PlacesSeen : Type 0
PlacesSeen = fin.FinMap address_cmp PlaceSeen

-- the records with a change at an address, if it has one
abbrev pub at_place : Option PlaceSeen → PlacesSeen → SocketAddr → (PlaceSeen → PlaceSeen)
    → PlacesSeen
at_place None places address change = places
at_place (Some place) places address change = fin.insert places address (change place)

abbrev pub with_change : PlacesSeen → SocketAddr → (PlaceSeen → PlaceSeen) → PlacesSeen
with_change places address change = at_place (fin.get places address) places address change

-- a record with another client, or with none
abbrev pub with_client : Option ClientSeen → PlaceSeen → PlaceSeen
with_client client place = record place { client = client }

-- a record whose address was offered a set of algorithms: nothing is offered to a client
abbrev pub with_offer : AlgorithmSet → PlaceSeen → PlaceSeen
with_offer supported place =
    if is_some place.client then place else record place { offered = Some supported }
