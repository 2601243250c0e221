-- The client changes where the address has a place, and nothing changes where it has none.
use Rattle.std.proofs.Common.{◌∙◌, ap}
use Rattle.std.specs.Option.{option_map}
use Rattle.stun_auth.specs.Places.{with_client}
use Rattle.stun_auth.specs.code.Places.{client_seen, places_seen}
use Rattle.stun_auth.proofs.PlaceMaps.{is_found, places_seen-at, places_seen-none, seen_is}
use Rattle.stun_auth.proofs.server.places.Places.set_client.Goals as goal

pub returns-in-Some : goal.returns-in-Some
returns-in-Some g c =
    let map = c.self.inside.by_address in
    let old = c.in-Some.place.now in
    let new = c.set_client.new.self in
    let written =
    (c.get_mut.follows.holds new).3 (is_found map c.args.address old c.in-Some.ensures.value) in
    places_seen-at map (c.get_mut.follows.lender new) c.args.address c.args.self.now.seen old new
    (with_client (option_map client_seen c.args.client)) (seen_is c.self.view_is) c.in-Some.ensures.value
    written c.set_client.ensures

pub returns-in-None : goal.returns-in-None
returns-in-None g c =
    ap (λ m. places_seen m.entries) c.get_mut.follows.holds-at-none ∙ (seen_is c.self.view_is)
    ∙ places_seen-none c.self.inside.by_address c.args.address c.args.self.now.seen
    (with_client (option_map client_seen c.args.client)) (seen_is c.self.view_is) c.in-None.ensures.value
