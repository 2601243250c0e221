-- What signing changes at an address is what was offered there, which no signing adds.
use Rattle.std.proofs.Common.{◌≡◌, Bool, true, false, Option, Some, None, refl, ◌∙◌, ap}
use Rattle.std.specs.Prelude.{cond, if◌then◌else◌}
use Rattle.std.specs.Cmp.{eq_by_cmp_equiv}
use Rattle.std.specs.FinMap as map
use Rattle.std.specs.FinMap.{get-insert}
use Rattle.std.specs.Option.{is_some}
use Rattle.std.specs.declared.net.socket_addr.SocketAddr.{SocketAddr}
use Rattle.stun_judging.specs.declared.algorithm_set.AlgorithmSet.{AlgorithmSet}
use Rattle.stun_auth.specs.Places.{PlacesSeen, at_place, with_offer}
use Rattle.stun_judging.specs.Registered.{Registered}
use Rattle.stun_auth.specs.Seen.{PlaceSeen}
use Rattle.stun_auth.specs.ServerSigning.{after_signing}
use Rattle.stun_auth.specs.Signed.{added_at, added_by_server}
use Rattle.stun_auth.specs.Validation.{ServerSeen, sight}
use Rattle.stun_base.proofs.Addresses.{address_total}
use Rattle.stun_auth.proofs.laws.signing_leaves_what_is_added.Goals as goal

module _ (later : Bool) (users : Registered) (set : AlgorithmSet) where
  -- an offer adds nothing
  offered : (known : Bool) (p : PlaceSeen)
      → added_at later users (Some (if known then p else record p { offered = Some set }))
      ≡ added_at later users (Some p)
  offered true p = refl
  offered false p = refl

  at_address : (places : PlacesSeen) (to : SocketAddr) (place : Option PlaceSeen)
      → map.get places to ≡ place
      → added_at later users (map.get (at_place place places to (with_offer set)) to)
      ≡ added_at later users place
  at_address places to None is = ap (added_at later users) is
  at_address places to (Some p) is =
      ap (added_at later users)
      (get-insert address_total places to (with_offer set p) to
      ∙ ap (λ same. cond same (Some (with_offer set p)) (map.get places to))
      ((eq_by_cmp_equiv address_total).refl to))
      ∙ offered (is_some p.client) p

by_cases : (response later : Bool) (s : ServerSeen) (to : SocketAddr)
    → added_by_server (sight (after_signing s to response) to) later
    ≡ added_by_server (sight s to) later
by_cases false later s to = refl
by_cases true later s to =
    at_address later s.registered s.registered.algorithms s.places to (map.get s.places to) refl

pub returns : goal.returns
returns c = λ s to response later. by_cases response later s to
