-- Who asks is added, or refused, and then the rest.
use Rattle.std.proofs.Common.{false, Err, ap, ◌∙◌, refl}
use Rattle.std.proofs.lemmas.Result.{err_from_is_err_and}
use Rattle.stun_client.specs.Challenge.{challenge_additions, identity}
use Rattle.stun_judging.proofs.Wanting.{refused_outcome, then_outcome}
use Rattle.stun_client.specs.code.Kept.{challenge_seen}
use Rattle.stun_client.proofs.challenge.kept.KeptChallenge.add_all.Goals as goal

pub returns-in_err-add_identity-clause-outcome :
    goal.returns-in_err-add_identity-clause-outcome
returns-in_err-add_identity-clause-outcome g c =
    let refused = err_from_is_err_and c.from_residual.result c.from_residual.ensures.1 in
    let kept = challenge_seen c.args.self.now in
    refused_outcome _ (identity kept) (challenge_additions false kept) _ _ _ _ _ _ _
    (refused.1 ∙ ap (λ reason. Err reason) refused.2) refl
    c.in_err-add_identity.ensures.added

pub returns-clause-outcome : goal.returns-clause-outcome
returns-clause-outcome g c =
    let kept = challenge_seen c.args.self.now in
    then_outcome _ (identity kept) (challenge_additions false kept) _ _ _ _ _ _ _ refl
    c.in_ok-add_identity.ensures.added c.add_protection.ensures.outcome
