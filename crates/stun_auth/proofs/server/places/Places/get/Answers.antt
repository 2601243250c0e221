-- The place is found by its address, in the map as it is seen.
use Rattle.std.proofs.Common.{◌∙◌, ap}
use Rattle.std.specs.Option.{option_map}
use Rattle.std.specs.FinMap as map
use Rattle.stun_auth.specs.code.Places.{place_seen}
use Rattle.stun_auth.proofs.PlaceMaps.{get-places_seen, seen_is}
use Rattle.stun_auth.proofs.server.places.Places.get.Goals as goal

pub returns : goal.returns
returns g c =
    ap (option_map place_seen) c.get.ensures.value
    ∙ get-places_seen c.self.inside.by_address c.args.address
    ∙ ap (λ m. map.get m c.args.address) (seen_is c.self.view_is)
