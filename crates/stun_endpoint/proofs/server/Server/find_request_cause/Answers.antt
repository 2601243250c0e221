-- The cause by the verdict of the code is the one of the definitions.
use Rattle.std.proofs.Common.{rules, arith, ◌≡◌, ◌∙◌, ap, sym, None, Some, Ok, Err}
use Rattle.stun_judging.specs.Reading.{reading_of}
use Rattle.stun_endpoint.specs.Causes.{or_unknown}
use Rattle.stun_endpoint.specs.Judged.{judged}
use Rattle.stun_endpoint.specs.Nonces.{current_nonce}
use Rattle.stun_endpoint.specs.code.Judges.{realm_of}
use Rattle.stun_endpoint.specs.code.Refusing.{cause_by_refusal}
use Rattle.stun_endpoint.proofs.CauseLemmas.{accepted_cause, refused_cause}
use Rattle.stun_endpoint.proofs.server.Server.find_request_cause.Goals as goal

pub returns-in-Ok-clause-cause : goal.returns-in-Ok-clause-cause
returns-in-Ok-clause-cause g c =
    let s = c.args.self.now in
    let realm = realm_of s c.args.judges.now in
    let r = reading_of c.args.read.now in
    let client = c.in-Ok.field-0.client in
    let is : judged s realm c.args.from c.args.now r ≡ Ok client =
    first_of (search rules, grind arith) in
    c.find_unknown_cause.ensures ∙ ap (λ m. or_unknown s m None) c.message.ensures
    ∙ sym (ap (or_unknown s c.args.read.now)
    (accepted_cause s realm c.args.from r c.args.now client is))

pub returns-clause-cause : goal.returns-clause-cause
returns-clause-cause g c =
    let s = c.args.self.now in
    let realm = realm_of s c.args.judges.now in
    let r = reading_of c.args.read.now in
    let why = c.in-Err.refusal in
    let nonce = c.deref-in-Err.result.now in
    let is : judged s realm c.args.from c.args.now r ≡ Err why =
    first_of (search rules, grind arith) in
    let made : nonce ≡ current_nonce s c.args.from c.args.now =
    first_of (search rules, grind arith) in
    ap (λ cause. Some cause) (c.find_refusal_cause.ensures
    ∙ ap (λ n. cause_by_refusal s n r why) made)
    ∙ sym (ap (or_unknown s c.args.read.now)
    (refused_cause s realm c.args.from r c.args.now why is))
