-- One attribute after another is added, or refused.
use Rattle.std.proofs.Common.{List, [], ◌∷◌, Err, ap, ◌∙◌, refl}
use Rattle.std.proofs.lemmas.Result.{err_from_is_err_and}
use Rattle.stun_judging.specs.AddedAttribute.{realm}
use Rattle.stun_judging.specs.Additions.{Addition, attribute}
use Rattle.stun_judging.specs.Naming.{name_attribute}
use Rattle.stun_judging.specs.Parts.{naming_seen}
use Rattle.stun_judging.proofs.Wanting.{refused_at_first, then_added}
use Rattle.stun_judging.proofs.naming.UserNaming.add_identity.Goals as goal

pub returns-in_err-add-clause-added : goal.returns-in_err-add-clause-added
returns-in_err-add-clause-added g c =
    let refused = err_from_is_err_and c.from_residual.result c.from_residual.ensures.1 in
    let name = name_attribute (naming_seen c.args.self.now) in
    let others : List Addition = attribute (realm c.args.realm.now) ∷ attribute name ∷ [] in
    refused_at_first _ _ others _ _ _ _ _ _ _ _ (refused.1 ∙ ap (λ reason. Err reason) refused.2)
    refl c.in_err-add.ensures.added

pub returns-in_err-add-2-clause-added : goal.returns-in_err-add-2-clause-added
returns-in_err-add-2-clause-added g c =
    let refused =
    err_from_is_err_and c.from_residual-in_err-add-2.result
    c.from_residual-in_err-add-2.ensures.1 in
    let name : List Addition = attribute (name_attribute (naming_seen c.args.self.now)) ∷ [] in
    let others : List Addition = attribute (realm c.args.realm.now) ∷ name in
    then_added _ _ others _ _ _ _ _ _ _ _ refl c.in_ok-add.ensures.added
    (refused_at_first others _ name _ _ _ _ _ _ _ _
    (refused.1 ∙ ap (λ reason. Err reason) refused.2) refl c.in_err-add-2.ensures.added)

pub returns-clause-added : goal.returns-clause-added
returns-clause-added g c =
    let name : List Addition = attribute (name_attribute (naming_seen c.args.self.now)) ∷ [] in
    let others : List Addition = attribute (realm c.args.realm.now) ∷ name in
    then_added _ _ others _ _ _ _ _ _ _ _ refl c.in_ok-add.ensures.added
    (then_added others _ name _ _ _ _ _ _ _ _ refl c.in_ok-add-2.ensures.added
    (rw (← c.as_attribute.ensures) c.add-3.ensures.added))
