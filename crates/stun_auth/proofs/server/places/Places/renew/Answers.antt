-- The place is changed where it is there, or else made, and no other is touched.
use Rattle.std.proofs.Common.{Some, None, ◌∙◌, sym, ap}
use Rattle.std.specs.String.{string_bytes}
use Rattle.std.specs.Option.{option_map}
use Rattle.std.specs.BTreeMap as tree
use Rattle.stun_auth.specs.code.Places.{client_seen, places_seen, renewed_with}
use Rattle.stun_auth.proofs.PlaceMaps.{derived, is_found, places_seen-changed, places_seen-made}
use Rattle.stun_auth.proofs.PlaceMaps.{seen_is}
use Rattle.stun_auth.proofs.server.places.Places.renew.Goals as goal

pub returns-in-Some-clause-ok : goal.returns-in-Some-clause-ok
returns-in-Some-clause-ok g c =
    let map = c.self.inside.by_address in
    let written =
    (c.get_mut.follows.holds c.renew.new.self).3
    (is_found map c.args.address c.in-Some.place.now c.in-Some.ensures.value) in
    places_seen-changed map (c.get_mut.follows.lender c.renew.new.self) c.args.address
    c.args.self.now.seen (Some c.in-Some.place.now) c.renew.new.self
    (λ o. renewed_with o (string_bytes c.args.nonce.text) c.args.expires
    (option_map client_seen c.args.client)) (seen_is c.self.view_is) c.in-Some.ensures.value written
    c.renew.ensures

pub returns-in_ok-insert-in-None-clause-ok : goal.returns-in_ok-insert-in-None-clause-ok
returns-in_ok-insert-in-None-clause-ok g c =
    let map = c.get_mut.follows.lender-at-none in
    let same = c.get_mut.follows.holds-at-none in
    places_seen-made map c.insert.new.map c.args.address c.args.self.now.seen None c.new-place.result
    (λ o. renewed_with o (string_bytes c.args.nonce.text) c.args.expires
    (option_map client_seen c.args.client))
    (ap (λ m. places_seen m.entries) same ∙ (seen_is c.self.view_is))
    (c.in-None.ensures.value ∙ sym (ap (λ m. tree.get_by (derived c.args.address) m) same))
    c.in_ok-insert-in-None.ensures.entries c.new-place.ensures
