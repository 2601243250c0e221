-- The nonce is added, or refused, and then the realm.
use Rattle.std.proofs.Common.{List, [], ◌∷◌, Err, ap, ◌∙◌, refl}
use Rattle.std.proofs.lemmas.Result.{err_from_is_err_and}
use Rattle.stun_judging.specs.AddedAttribute.{realm}
use Rattle.stun_judging.specs.Additions.{Addition, attribute}
use Rattle.stun_judging.proofs.Wanting.{refused_at_first, then_added}
use Rattle.stun_judging.proofs.realm.Realm.add_nonce_and_realm.Goals as goal

pub returns-in_err-add-clause-added : goal.returns-in_err-add-clause-added
returns-in_err-add-clause-added g c =
    let refused = err_from_is_err_and c.from_residual.result c.from_residual.ensures.1 in
    let others : List Addition = attribute (realm c.args.self.now.registered.realm) ∷ [] in
    refused_at_first _ _ others _ _ _ _ _ _ _ _ (refused.1 ∙ ap (λ reason. Err reason) refused.2)
    refl c.in_err-add.ensures.added

pub returns-clause-added : goal.returns-clause-added
returns-clause-added g c =
    let others : List Addition = attribute (realm c.name.result.now) ∷ [] in
    then_added _ _ others _ _ _ _ _ _ _ _ (rw c.name.ensures refl) c.in_ok-add.ensures.added
    c.add-2.ensures.added
