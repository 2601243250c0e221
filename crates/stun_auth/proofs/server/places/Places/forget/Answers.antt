-- The tree map without the entry of an address is the places without that of the address.
use Rattle.std.proofs.Common.{◌∙◌, ap}
use Rattle.std.specs.FinMap as map
use Rattle.stun_auth.proofs.PlaceMaps.{places_seen-removed, seen_is}
use Rattle.stun_auth.proofs.server.places.Places.forget.Goals as goal

pub returns : goal.returns
returns g c =
    places_seen-removed c.self.inside.by_address c.remove.new.self c.args.address
    c.remove.ensures.updates
    ∙ ap (λ m. map.remove m c.args.address) (seen_is c.self.view_is)
