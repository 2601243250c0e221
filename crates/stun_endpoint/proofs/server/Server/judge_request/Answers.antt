-- The verdict of the code is the one of the definitions.
use Rattle.std.specs.Prelude.{IfOk}
use Rattle.std.proofs.Common.{rules, arith, ◌≡◌, sym}
use Rattle.stun_judging.specs.Judged.{HasVerifyingKey, client_judged}
use Rattle.stun_judging.specs.Reading.{reading_of}
use Rattle.stun_endpoint.specs.Judged.{judged}
use Rattle.stun_endpoint.specs.Nonces.{current_nonce}
use Rattle.stun_endpoint.specs.code.Judges.{realm_of}
use Rattle.stun_endpoint.proofs.JudgementLemmas.{judgement_is_verdict}
use Rattle.stun_endpoint.proofs.server.Server.judge_request.Goals as goal

pub returns-clause-received : goal.returns-clause-received
returns-clause-received g c =
    let s = c.args.self.now in
    let realm = realm_of s c.args.judges.now in
    let bytes = c.args.read.now in
    let nonce = c.deref-2.result.now in
    let v = c.in_ok-verdict.verdict in
    let is : client_judged v ≡ judged s realm c.args.from c.args.now (reading_of bytes) =
    first_of (search rules, grind arith) in
    let key : IfOk v (HasVerifyingKey realm.users (reading_of bytes)) = search rules in
    let made : nonce ≡ current_nonce s c.args.from c.args.now =
    first_of (search rules, grind arith) in
    let same = judgement_is_verdict s realm c.args.from c.args.now bytes nonce v is key made in
    rw (sym same) c.apply_verdict.ensures.received
