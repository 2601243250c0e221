-- The choice of the algorithm is added, or refused, and then the digest.
use Rattle.std.proofs.Common.{Err, ap, ◌∙◌, refl}
use Rattle.std.proofs.lemmas.Result.{err_from_is_err_and}
use Rattle.stun_auth.specs.ClientSigning.{algorithm_choice, protection}
use Rattle.stun_auth.specs.code.ClientKept.{challenge_seen}
use Rattle.stun_judging.proofs.Wanting.{refused_outcome, then_outcome}
use Rattle.stun_auth.proofs.client.challenge.KeptChallenge.add_protection.Goals as goal

pub returns-in_err-add_algorithm_choice-clause-outcome :
    goal.returns-in_err-add_algorithm_choice-clause-outcome
returns-in_err-add_algorithm_choice-clause-outcome g c =
    let refused = err_from_is_err_and c.from_residual.result c.from_residual.ensures.1 in
    let kept = challenge_seen c.args.self.now in
    refused_outcome _ (algorithm_choice kept.algorithms kept.algorithm) (protection kept) _ _ _ _ _
    _ _ (refused.1 ∙ ap (λ reason. Err reason) refused.2) refl
    c.in_err-add_algorithm_choice.ensures.added

pub returns-clause-outcome : goal.returns-clause-outcome
returns-clause-outcome g c =
    let kept = challenge_seen c.args.self.now in
    then_outcome _ (algorithm_choice kept.algorithms kept.algorithm) (protection kept) _ _ _ _ _ _
    _ refl
    c.in_ok-add_algorithm_choice.ensures.added c.add_integrity.ensures.outcome
