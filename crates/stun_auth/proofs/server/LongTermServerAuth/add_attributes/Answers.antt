-- Nonce and realm are added, or refused, and then the algorithms.
use Rattle.std.proofs.Common.{true, Err, ap, ◌∙◌, refl}
use Rattle.std.proofs.lemmas.Result.{err_from_is_err_and}
use Rattle.stun_auth.specs.ServerSigning.{algorithms_for}
use Rattle.stun_auth.specs.code.Places.{place_seen}
use Rattle.stun_judging.proofs.Wanting.{added_as, refused_at_first, then_added}
use Rattle.stun_auth.proofs.server.LongTermServerAuth.add_attributes.Goals as goal

pub returns-in_err-add_nonce_and_realm-clause-added :
    goal.returns-in_err-add_nonce_and_realm-clause-added
returns-in_err-add_nonce_and_realm-clause-added g c =
    let refused = err_from_is_err_and c.from_residual.result c.from_residual.ensures.1 in
    let users = c.args.self.now.registered in
    let client = (place_seen c.args.place.now).client in
    refused_at_first _ _ (algorithms_for true users client) _ _ _ _ _ _ _ _
    (refused.1 ∙ ap (λ reason. Err reason) refused.2)
    (rw (
      c.if-is_response.true,
      c.as_str.ensures.value,
      ap (λ s. s.registered.realm) c.self.view_is,
    ) refl)
    c.in_err-add_nonce_and_realm.ensures.added

pub returns-in_ok-add_nonce_and_realm-clause-added :
    goal.returns-in_ok-add_nonce_and_realm-clause-added
returns-in_ok-add_nonce_and_realm-clause-added g c =
    let users = c.args.self.now.registered in
    let client = (place_seen c.args.place.now).client in
    then_added _ _ (algorithms_for true users client) _ _ _ _ _ _ _ _
    (rw (
      c.if-is_response.true,
      c.as_str.ensures.value,
      ap (λ s. s.registered.realm) c.self.view_is,
    ) refl)
    c.in_ok-add_nonce_and_realm.ensures.added
    (added_as (algorithms_for true users) _ client _ _ _ _ _ c.client.ensures
    c.add_algorithms.ensures.added)
