-- What `retain` leaves are the entries that are not forgotten.
use Rattle.std.proofs.Common.{List, ◌∙◌, ap, rules}
use Rattle.std.specs.Prelude.{not}
use Rattle.std.specs.declared.net.socket_addr.SocketAddr.{SocketAddr}
use Rattle.std.proofs.lemmas.Map.Made.{filter_same_pairs}
use Rattle.stun_auth.specs.declared.server.places.Place.{Place}
use Rattle.stun_auth.specs.Forgetting.{is_forgotten, places_kept}
use Rattle.stun_auth.specs.code.Places.{place_seen, places_seen}
use Rattle.stun_auth.proofs.PlaceMaps.{seen_is}
use Rattle.stun_auth.proofs.Forgotten.{places_seen-filter}
use Rattle.stun_auth.proofs.server.places.Places.forget_expired.Goals as goal

pub returns : goal.returns
returns g c =
    ap (λ (es : List (SocketAddr × Place g.row.A.Denot)). places_seen es)
    (filter_same_pairs _ (λ e. not (is_forgotten c.args.now (place_seen e.1))) _
    (λ k v b w f t. search rules) _ _ c.retain.ensures.filtered)
    ∙ places_seen-filter c.args.now c.self.inside.by_address.entries c.retain.ensures.was_ordered
    ∙ ap (places_kept c.args.now) (seen_is c.self.view_is)
