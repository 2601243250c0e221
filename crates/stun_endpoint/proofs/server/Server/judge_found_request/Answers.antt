-- What the code finds decides: the key of the user, or the refusal that the current nonce tells.
use Rattle.std.proofs.Common.{rules, arith, ◌≡◌, None, Some, subst, sym, ◌∙◌, ap}
use Rattle.std.specs.Prelude.{IfOk}
use Rattle.stun_judging.specs.Judged.{client_judged}
use Rattle.stun_judging.specs.Reading.{reading_of}
use Rattle.stun_judging.specs.Verdict.{verdict_offering}
use Rattle.stun_endpoint.specs.Nonces.{epoch_of, nonce_in}
use Rattle.stun_endpoint.specs.Outcomes.{outcome_of}
use Rattle.stun_endpoint.specs.Received.{outcome_of_accepted}
use Rattle.stun_endpoint.specs.Settings.{registered_of}
use Rattle.stun_endpoint.specs.code.Found.{IsFoundKey}
use Rattle.stun_endpoint.proofs.FoundLemmas.{accepted_comes, refused_comes}
use Rattle.stun_endpoint.proofs.server.Server.judge_found_request.Goals as goal

pub returns-in-Some-clause-received : goal.returns-in-Some-clause-received
returns-in-Some-clause-received g c =
    let s = c.args.self.now in
    let user = c.args.user.now in
    let bytes = c.args.read.now in
    let r = reading_of bytes in
    let algorithm = c.in-Some.algorithm in
    let key = c.in-Some.key in
    let at : IsFoundKey s user c.args.from c.compute_epoch-epoch.result r c.in_ok-algorithm.field-0 =
    search rules in
    let is : c.in_ok-algorithm.field-0 ≡ Some (algorithm, key) = search rules in
    let found =
    subst (λ e. IsFoundKey s user c.args.from e r (Some (algorithm, key))) c.compute_epoch-epoch.ensures
    (subst (λ o. IsFoundKey s user c.args.from c.compute_epoch-epoch.result r o) is at) in
    let same = accepted_comes s user c.args.from c.args.now bytes algorithm key found in
    rw (sym same)
    (subst (λ n. IfOk c.accept_from.result (λ received. outcome_of received
    ≡ outcome_of_accepted s key c.args.from bytes (record { name = n; algorithm = algorithm })))
    c.name-name.ensures c.accept_from.ensures.received)

pub returns-clause-received : goal.returns-clause-received
returns-clause-received g c =
    let s = c.args.self.now in
    let user = c.args.user.now in
    let bytes = c.args.read.now in
    let r = reading_of bytes in
    let one = c.deref-in-None.result.now in
    let two = c.deref-in-None-2.result.now in
    let v = c.judge_by_nobody-verdict.result in
    let at : IsFoundKey s user c.args.from c.compute_epoch-epoch.result r c.in_ok-algorithm.field-0 =
    search rules in
    let is : c.in_ok-algorithm.field-0 ≡ None = search rules in
    let found =
    subst (λ e. IsFoundKey s user c.args.from e r None) c.compute_epoch-epoch.ensures
    (subst (λ o. IsFoundKey s user c.args.from c.compute_epoch-epoch.result r o) is at) in
    let first : one ≡ nonce_in s s.secret c.args.from (epoch_of s c.args.now) =
    first_of (search rules, grind arith) in
    let made : two ≡ nonce_in s s.secret c.args.from (epoch_of s c.args.now) =
    first_of (search rules, grind arith) in
    let judges : client_judged v
    ≡ verdict_offering (registered_of s) s.feature two s.algorithms r =
    c.judge_by_nobody-verdict.ensures
    ∙ ap (λ n. verdict_offering (registered_of s) s.feature n s.algorithms r) (first ∙ sym made) in
    let same = refused_comes s user c.args.from c.args.now bytes two v found made judges in
    rw (sym same) c.apply_verdict.ensures.received

pub returns-in_err-nonce-clause-granted : goal.returns-in_err-nonce-clause-granted
returns-in_err-nonce-clause-granted g c = λ grants.
    let none = c.in_err-nonce.ensures.granted grants in cc
