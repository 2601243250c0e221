-- The first of a range is the first address that its start lets in, with the place that it has
-- there, and an empty range has none.
use Rattle.std.proofs.Common.{Option, Some, None, sym, ap, ◌∙◌, subst, false}
use Rattle.std.specs.FinMap as map
use Rattle.std.specs.Option.{option_map, option_map_or}
use Rattle.stun_auth.specs.Forgetting.{is_forgotten}
use Rattle.stun_auth.specs.Places.{PlacesSeen}
use Rattle.stun_auth.specs.code.Places.{IsFirstFrom}
use Rattle.stun_auth.specs.declared.server.places.FirstPlace.{FirstPlace}
use Rattle.stun_auth.proofs.PlaceMaps.{seen_is}
use Rattle.stun_auth.proofs.SteppingLemmas.{first_none, first_seen, first_some}
use Rattle.stun_auth.proofs.server.places.Places.find_first_from.Goals as goal

pub returns-in_err-address-clause-first : goal.returns-in_err-address-clause-first
returns-in_err-address-clause-first g c =
    subst (λ (o : Option FirstPlace).
    IsFirstFrom c.args.self.now.seen c.args.start (option_map (λ f. f.address) o))
    (sym c.from_residual.ensures)
    (subst (λ (places : PlacesSeen). IsFirstFrom places c.args.start None) (seen_is c.self.view_is)
    (first_none c.self.inside.by_address c.args.start c.range.result (c.range.ensures.in_range tt)
    c.in_err-address.ensures.steps.0))

pub returns-clause-first : goal.returns-clause-first
returns-clause-first g c =
    subst (λ (places : PlacesSeen).
    IsFirstFrom places c.args.start (Some c.in_ok-address.address.now)) (seen_is c.self.view_is)
    (first_some c.self.inside.by_address c.args.start c.range.result (c.range.ensures.in_range tt) (
      c.in_ok-address.address.now,
      c.in_ok-address.place.now,
    ) c.next.new.self c.in_ok-address.ensures.steps)

pub returns-clause-expired : goal.returns-clause-expired
returns-clause-expired g c =
    c.is_forgotten.ensures
    ∙ ap (λ o. option_map_or (is_forgotten c.args.now) o false)
    (sym
    (ap (λ (places : PlacesSeen). map.get places c.in_ok-address.address.now) (sym (seen_is c.self.view_is))
    ∙ first_seen c.self.inside.by_address c.args.start c.range.result
    (c.range.ensures.in_range tt) (
      c.in_ok-address.address.now,
      c.in_ok-address.place.now,
    ) c.next.new.self c.in_ok-address.ensures.steps))
