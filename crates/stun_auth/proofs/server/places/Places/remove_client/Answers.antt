-- The client changes where the address has a record, whose user stays, and nothing changes where it
-- has none.
use Rattle.std.proofs.Common.{None, ◌∙◌, ap}
use Rattle.stun_auth.specs.Places.{with_client}
use Rattle.stun_auth.specs.code.Places.{PlacesKept, last_users_of, places_seen}
use Rattle.stun_auth.proofs.PlaceMaps.{is_found, last_users-written, places_seen-at, places_seen-none}
use Rattle.stun_auth.proofs.PlaceMaps.{seen_is}
use Rattle.stun_auth.proofs.server.places.Places.remove_client.Goals as goal

pub returns-in-Some-clause-state : goal.returns-in-Some-clause-state
returns-in-Some-clause-state g c =
    let map = c.self.inside.by_address in
    let old = c.in-Some.place.now in
    let new = c.remove_client.new.self in
    let written =
    (c.get_mut.follows.holds new).3 (is_found map c.args.address old c.in-Some.ensures.value) in
    places_seen-at map (c.get_mut.follows.lender new) c.args.address c.args.self.now.seen old new
    (with_client None) (seen_is c.self.view_is) c.in-Some.ensures.value written
    c.remove_client.ensures.state

pub returns-in-Some-clause-names : goal.returns-in-Some-clause-names
returns-in-Some-clause-names g c =
    let map = c.self.inside.by_address in
    let new = c.remove_client.new.self in
    ap last_users_of (c.get_mut.follows.holds new).0
    ∙ last_users-written map c.args.address c.in-Some.place.now new c.in-Some.ensures.value
    c.remove_client.ensures.kept
    ∙ ap (λ (p : PlacesKept). p.last_users) c.self.view_is

pub returns-in-None-clause-state : goal.returns-in-None-clause-state
returns-in-None-clause-state g c =
    ap (λ m. places_seen m.entries) c.get_mut.follows.holds-at-none
    ∙ seen_is c.self.view_is
    ∙ places_seen-none c.self.inside.by_address c.args.address c.args.self.now.seen (with_client None)
    (seen_is c.self.view_is) c.in-None.ensures.value

pub returns-in-None-clause-names : goal.returns-in-None-clause-names
returns-in-None-clause-names g c =
    ap (λ m. last_users_of m.entries) c.get_mut.follows.holds-at-none
    ∙ ap (λ (p : PlacesKept). p.last_users) c.self.view_is
