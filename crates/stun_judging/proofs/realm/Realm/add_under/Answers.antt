-- Nonce and realm are added, or refused, and then the algorithms where the nonce asks for them.
use Rattle.std.proofs.Common.{Err, ap, ◌∙◌, refl}
use Rattle.std.proofs.lemmas.Result.{err_from_is_err_and}
use Rattle.stun_judging.specs.Nonces.{asks_for_algorithms}
use Rattle.stun_judging.specs.Challenge.{offer}
use Rattle.stun_judging.proofs.Wanting.{refused_at_first, then_added}
use Rattle.stun_judging.proofs.realm.Realm.add_under.Goals as goal

pub returns-in_err-add_nonce_and_realm-clause-added :
    goal.returns-in_err-add_nonce_and_realm-clause-added
returns-in_err-add_nonce_and_realm-clause-added g c =
    let refused = err_from_is_err_and c.from_residual.result c.from_residual.ensures.1 in
    let asked = offer (asks_for_algorithms c.args.nonce.now) c.args.self.now.registered in
    refused_at_first _ _ asked _ _ _ _ _ _ _ _ (refused.1 ∙ ap (λ reason. Err reason) refused.2)
    refl c.in_err-add_nonce_and_realm.ensures.added

pub returns-clause-added : goal.returns-clause-added
returns-clause-added g c =
    let asked = offer (asks_for_algorithms c.args.nonce.now) c.args.self.now.registered in
    then_added _ _ asked _ _ _ _ _ _ _ _ refl c.in_ok-add_nonce_and_realm.ensures.added
    c.add_asked_offer.ensures.added
