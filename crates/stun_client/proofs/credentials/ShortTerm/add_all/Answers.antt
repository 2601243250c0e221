-- The name is added, or refused, and then the digest.
use Rattle.std.proofs.Common.{List, [], ◌∷◌, Err, ap, ◌∙◌, refl}
use Rattle.std.proofs.lemmas.Result.{err_from_is_err_and}
use Rattle.std.specs.Prelude.{string_bytes}
use Rattle.stun_judging.specs.AddedAttribute.{username}
use Rattle.stun_judging.specs.Additions.{Addition, attribute, integrity}
use Rattle.stun_judging.proofs.Wanting.{refused_outcome, then_outcome}
use Rattle.stun_client.proofs.credentials.ShortTerm.add_all.Goals as goal

pub returns-in_err-add-clause-outcome : goal.returns-in_err-add-clause-outcome
returns-in_err-add-clause-outcome g c =
    let refused = err_from_is_err_and c.from_residual.result c.from_residual.ensures.1 in
    let s = c.args.self.now in
    let name : List Addition = attribute (username (string_bytes s.name)) ∷ [] in
    let digest : List Addition = integrity s.algorithm s.password ∷ [] in
    refused_outcome _ name digest _ _ _ _ _ _ _
    (refused.1 ∙ ap (λ reason. Err reason) refused.2) refl
    (rw c.as_str.ensures.value at c.in_err-add.ensures.added)

pub returns-clause-outcome : goal.returns-clause-outcome
returns-clause-outcome g c =
    let s = c.args.self.now in
    let name : List Addition = attribute (username (string_bytes s.name)) ∷ [] in
    let digest : List Addition = integrity s.algorithm s.password ∷ [] in
    then_outcome _ name digest _ _ _ _ _ _ _ refl
    (rw c.as_str.ensures.value at c.in_ok-add.ensures.added) c.add_integrity.ensures.outcome
