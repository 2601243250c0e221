-- The list is added, or refused, and then the choice from it.
use Rattle.std.proofs.Common.{List, [], ◌∷◌, Err, ap, ◌∙◌}
use Rattle.std.proofs.lemmas.Result.{err_from_is_err_and}
use Rattle.stun_judging.specs.AddedAttribute.{password_algorithm}
use Rattle.stun_judging.specs.Additions.{Addition, attribute}
use Rattle.stun_auth.proofs.ChoiceWanting.{choice_of_list}
use Rattle.stun_judging.proofs.Wanting.{refused_at_first, then_added}
use Rattle.stun_auth.proofs.client.challenge.KeptChallenge.add_algorithm_choice.Goals as goal

pub returns-in_err-add-in_default-clause-added : goal.returns-in_err-add-in_default-clause-added
returns-in_err-add-in_default-clause-added g c =
    let refused = err_from_is_err_and c.from_residual.result c.from_residual.ensures.1 in
    let choice : List Addition = attribute (password_algorithm c.args.self.now.algorithm) ∷ [] in
    refused_at_first _ _ choice _ _ _ _ _ _ _ _ (refused.1 ∙ ap (λ reason. Err reason) refused.2)
    (rw (← c.as_slice.ensures.value)
    (choice_of_list c.as_slice.result.now c.args.self.now.algorithm c.in_default.len_at_least))
    c.in_err-add-in_default.ensures.added

pub returns-in_ok-add-in_default-clause-added : goal.returns-in_ok-add-in_default-clause-added
returns-in_ok-add-in_default-clause-added g c =
    let choice : List Addition = attribute (password_algorithm c.args.self.now.algorithm) ∷ [] in
    then_added _ _ choice _ _ _ _ _ _ _ _
    (rw (← c.as_slice.ensures.value)
    (choice_of_list c.as_slice.result.now c.args.self.now.algorithm c.in_default.len_at_least))
    c.in_ok-add-in_default.ensures.added
    c.add-in_default-2.ensures.added
