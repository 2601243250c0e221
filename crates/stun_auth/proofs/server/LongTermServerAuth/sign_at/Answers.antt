-- The attributes are added, or refused, and then the digest.
use Rattle.std.proofs.Common.{Err, ap, ◌∙◌}
use Rattle.std.proofs.lemmas.Result.{err_from_is_err_and}
use Rattle.std.specs.String.{string_bytes}
use Rattle.stun_auth.specs.ServerSigning.{attributes_for, digest_for, protected_for}
use Rattle.stun_auth.specs.code.Places.{place_seen}
use Rattle.stun_judging.proofs.Wanting.{followed_as, refused_before}
use Rattle.stun_auth.proofs.server.LongTermServerAuth.sign_at.Goals as goal

pub returns-in_err-add_attributes-clause-outcome : goal.returns-in_err-add_attributes-clause-outcome
returns-in_err-add_attributes-clause-outcome g c =
    let refused = err_from_is_err_and c.from_residual.result c.from_residual.ensures.1 in
    let users = c.args.self.now.registered in
    let client = (place_seen c.args.place.now).client in
    refused_before
    (attributes_for c.args.is_response users (string_bytes c.args.place.now.nonce.text) client)
    (digest_for users client) _ _ _ _ _ _ _ (protected_for users client)
    (refused.1 ∙ ap (λ reason. Err reason) refused.2) c.in_err-add_attributes.ensures.added

pub returns-in-Some-clause-outcome : goal.returns-in-Some-clause-outcome
returns-in-Some-clause-outcome g c =
    let users = c.args.self.now.registered in
    followed_as _ (place_seen c.args.place.now).client (digest_for users) (protected_for users)
    (attributes_for c.args.is_response users (string_bytes c.args.place.now.nonce.text)
    (place_seen c.args.place.now).client) _ _ _ _ _ _ _ c.in-Some.ensures
    c.in_ok-add_attributes.ensures.added c.add_digest.ensures.outcome
