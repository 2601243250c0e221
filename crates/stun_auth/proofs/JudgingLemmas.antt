-- Where no client is new the place that is left is the one before.
use Rattle.std.proofs.Common.{◌≡◌, Option, Some, None, false, refl, sym}
use Rattle.std.specs.Option.{is_some, option_map}
use Rattle.stun_auth.specs.declared.server.places.ValidatedUser.{ValidatedUser}
use Rattle.stun_auth.specs.declared.server.validation.Judgement.{Judgement}
use Rattle.stun_auth.specs.declared.server.validation.Judgement.TheVariants.{Refused, Known, New}
use Rattle.stun_auth.specs.code.Judging.{client_in, place_left}
use Rattle.stun_auth.specs.code.Places.{client_seen}
use Rattle.stun_auth.specs.Seen.{PlaceSeen}

-- no client is there where nobody else is accepted
pub no_client : {A : Type 0} (judged : Judgement A) (o : Option (ValidatedUser A))
    → option_map client_seen o ≡ client_in judged → is_some o ≡ false → client_in judged ≡ None
no_client judged None is empty = sym is
no_client judged (Some c) is empty = cc

-- where no client is new the place stays
pub stays : {A : Type 0} (judged : Judgement A) → client_in judged ≡ None → (p : PlaceSeen)
    → place_left p judged ≡ p
stays (Refused e) none p = refl
stays (Known a) none p = refl
stays (New c) none p = cc
