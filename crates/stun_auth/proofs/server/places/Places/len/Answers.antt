-- The tree map has its keys in order, so that each entry is the place of an address of its own.
use Rattle.std.proofs.Common.{◌∙◌, ap, sym}
use Rattle.std.specs.FinMap as map
use Rattle.stun_auth.proofs.PlaceMaps.{len-places_seen, seen_is}
use Rattle.stun_auth.proofs.server.places.Places.len.Goals as goal

pub returns : goal.returns
returns g c =
    c.len.ensures.len ∙ sym (len-places_seen c.self.inside.by_address.entries c.len.ensures.ordered)
    ∙ ap map.len (seen_is c.self.view_is)
