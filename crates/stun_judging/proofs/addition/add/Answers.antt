-- A text past its limit is refused, and a list of algorithms is the one of their digests.
use Rattle.std.proofs.Common.{Err, ap, ◌∙◌}
use Rattle.std.proofs.lemmas.Result.{err_from_is_err_and}
use Rattle.stun_judging.specs.AddedAttribute.{nonce, realm, username}
use Rattle.stun_judging.proofs.AdditionLemmas.{all_named_again, long_nonce}
use Rattle.stun_judging.proofs.AdditionLemmas.{long_realm, long_username, too_long}
use Rattle.stun_judging.proofs.addition.add.Goals as goal

pub returns-in_err-new-in-Nonce-clause-added : goal.returns-in_err-new-in-Nonce-clause-added
returns-in_err-new-in-Nonce-clause-added g c =
    let refused = err_from_is_err_and c.from_residual.result c.from_residual.ensures.1 in
    let is_large = c.in_err-new-in-Nonce.ensures.only_too_large in
    let long =
    long_nonce c.in-Nonce.text.now
    (c.in_err-new-in-Nonce.ensures.too_large.0 (ap (λ reason. Err reason) is_large)) in
    rw (
      refused.1,
      c.in-Nonce.is,
    ) (too_long (nonce c.in-Nonce.text.now) _ _ _ _ refused.0 (refused.2 ∙ is_large) long)

pub returns-in_err-new-in-Realm-clause-added : goal.returns-in_err-new-in-Realm-clause-added
returns-in_err-new-in-Realm-clause-added g c =
    let refused =
    err_from_is_err_and c.from_residual-in_err-new-in-Realm.result
    c.from_residual-in_err-new-in-Realm.ensures.1 in
    let is_large = c.in_err-new-in-Realm.ensures.only_too_large in
    let long =
    long_realm c.in-Realm.text.now
    (c.in_err-new-in-Realm.ensures.too_large.0 (ap (λ reason. Err reason) is_large)) in
    rw (
      refused.1,
      c.in-Realm.is,
    ) (too_long (realm c.in-Realm.text.now) _ _ _ _ refused.0 (refused.2 ∙ is_large) long)

pub returns-in_err-new-in-Username-clause-added : goal.returns-in_err-new-in-Username-clause-added
returns-in_err-new-in-Username-clause-added g c =
    let refused =
    err_from_is_err_and c.from_residual-in_err-new-in-Username.result
    c.from_residual-in_err-new-in-Username.ensures.1 in
    let is_large = c.in_err-new-in-Username.ensures.only_too_large in
    let long =
    long_username c.in-Username.text.now
    (c.in_err-new-in-Username.ensures.too_large.0 (ap (λ reason. Err reason) is_large)) in
    rw (
      refused.1,
      c.in-Username.is,
    ) (too_long (username c.in-Username.text.now) _ _ _ _ refused.0 (refused.2 ∙ is_large) long)

pub returns-in-PasswordAlgorithms-clause-added : goal.returns-in-PasswordAlgorithms-clause-added
returns-in-PasswordAlgorithms-clause-added g c =
    rw (
      c.in-PasswordAlgorithms.is,
      all_named_again c.in-PasswordAlgorithms.list.now,
      ← c.new-in-PasswordAlgorithms.ensures,
    ) c.add_made-in-PasswordAlgorithms.ensures.added
