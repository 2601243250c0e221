-- The verdict of the code is the one of the definitions, and so is the cause.
use Rattle.std.proofs.Common.{rules, arith, ◌≡◌, ◌∙◌, ap, sym, Some, Ok, Err}
use Rattle.stun_judging.specs.Judged.{HasVerifyingKey}
use Rattle.stun_judging.specs.Reading.{reading_of}
use Rattle.stun_endpoint.specs.Causes.{or_unknown}
use Rattle.stun_endpoint.specs.Judged.{judged}
use Rattle.stun_endpoint.specs.Nonces.{current_nonce}
use Rattle.stun_endpoint.specs.code.Judges.{realm_of}
use Rattle.stun_endpoint.specs.code.Refusing.{cause_by_refusal}
use Rattle.stun_endpoint.proofs.CauseLemmas.{refused_cause}
use Rattle.stun_endpoint.proofs.CausedLemmas.{told_cause, unknown_accepted}
use Rattle.stun_endpoint.proofs.JudgementLemmas.{judgement_is_verdict}
use Rattle.stun_endpoint.proofs.server.Server.judge_request_with_cause.Goals as goal

pub returns-in-Ok : goal.returns-in-Ok
returns-in-Ok g c =
    let s = c.args.self.now in
    let realm = realm_of s c.args.judges.now in
    let bytes = c.args.read.now in
    let r = reading_of bytes in
    let nonce = c.deref.result.now in
    let accepted = c.in-Ok.accepted in
    let is : judged s realm c.args.from c.args.now r ≡ Ok accepted.client =
    first_of (search rules, grind arith) in
    let key : HasVerifyingKey realm.users r accepted = search rules in
    let made : nonce ≡ current_nonce s c.args.from c.args.now =
    first_of (search rules, grind arith) in
    let same =
    judgement_is_verdict s realm c.args.from c.args.now bytes nonce (Ok accepted) (sym is) key made
    in record {
      received = rw (sym same) c.accept_with_cause.ensures.received;
      cause = told_cause c.accept_with_cause.result (λ both. both.1) _ _
          (unknown_accepted s realm c.args.from c.args.now bytes accepted.key accepted.client is)
          c.accept_with_cause.ensures.cause;
      granted = c.accept_with_cause.ensures.granted;
    }

pub returns : goal.returns
returns g c =
    let s = c.args.self.now in
    let realm = realm_of s c.args.judges.now in
    let bytes = c.args.read.now in
    let r = reading_of bytes in
    let why = c.in-Err.refusal in
    let nonce = c.as_str-text.result.now in
    let is : judged s realm c.args.from c.args.now r ≡ Err why =
    first_of (search rules, grind arith) in
    let made : nonce ≡ current_nonce s c.args.from c.args.now =
    first_of (search rules, grind arith) in
    let same =
    judgement_is_verdict s realm c.args.from c.args.now bytes nonce (Err why) (sym is) tt made in
    let cause =
    ap (λ n. Some (cause_by_refusal s n r why)) made
    ∙ sym (ap (or_unknown s bytes) (refused_cause s realm c.args.from r c.args.now why is))
    in record {
      received = rw (sym same) c.refuse_with_cause.ensures.received;
      cause = told_cause c.refuse_with_cause.result (λ both. both.1) _ _ cause
          c.refuse_with_cause.ensures.cause;
      granted = c.refuse_with_cause.ensures.granted;
    }
