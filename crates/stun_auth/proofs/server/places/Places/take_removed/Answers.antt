-- A place without the user who was removed is seen as before.
use Rattle.std.proofs.Common.{◌∙◌, ap, refl}
use Rattle.stun_auth.specs.code.Places.{places_seen}
use Rattle.stun_auth.proofs.PlaceMaps.{is_found, places_seen-at, seen_is}
use Rattle.stun_auth.proofs.Unchanged.{at_place-same}
use Rattle.stun_auth.proofs.server.places.Places.take_removed.Goals as goal

pub returns-in-Some : goal.returns-in-Some
returns-in-Some g c =
    let map = c.self.inside.by_address in
    let old = c.in-Some.place.now in
    let new = c.take_removed.new.self in
    let written =
    (c.get_mut.follows.holds new).3 (is_found map c.args.address old c.in-Some.ensures.value) in
    places_seen-at map (c.get_mut.follows.lender new) c.args.address c.args.self.now.seen old new
    (λ p. p) (seen_is c.self.view_is) c.in-Some.ensures.value written c.take_removed.ensures.state
    ∙ at_place-same c.args.self.now.seen c.args.address (λ p. p) (λ p. refl)

pub returns-in-None : goal.returns-in-None
returns-in-None g c =
    ap (λ m. places_seen m.entries) c.get_mut.follows.holds-at-none ∙ (seen_is c.self.view_is)
