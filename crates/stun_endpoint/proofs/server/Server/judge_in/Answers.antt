-- A request whose nonce is stale is accepted under the earlier nonce that it has, or is stale.
use Rattle.std.proofs.Common.{rules, ◌≡◌, Some, Ok, Err, sym}
use Rattle.std.specs.String.{string_bytes}
use Rattle.stun_judging.specs.Reading.{reading_of}
use Rattle.stun_judging.specs.declared.refusal.VerdictRefusal.TheVariants.{StaleNonce}
use Rattle.stun_endpoint.specs.Judged.{verdict_under}
use Rattle.stun_endpoint.specs.Nonces.{nonce_in}
use Rattle.stun_endpoint.specs.code.Earlier.{earlier_nonces, their_nonce_among}
use Rattle.stun_endpoint.specs.code.Judges.{realm_of}
use Rattle.stun_endpoint.proofs.EarlierLemmas.{earlier_accepts, earlier_refuses}
use Rattle.stun_endpoint.proofs.server.Server.judge_in.Goals as goal

pub returns-in-Ok-clause-verdict : goal.returns-in-Ok-clause-verdict
returns-in-Ok-clause-verdict g c =
    let s = c.args.self.now in
    let realm = realm_of s c.args.judges.now in
    let r = reading_of c.args.read.now in
    let earlier = string_bytes c.in-Some.earlier in
    let has : their_nonce_among r (earlier_nonces s c.args.from c.args.epoch) ≡ Some earlier =
    search rules in
    let is : verdict_under realm earlier r ≡ Ok c.in-Ok.accepted.client = search rules in
    sym (earlier_accepts s realm c.args.from c.args.epoch r earlier c.in-Ok.accepted.client has is)

pub returns-in-Err-StaleNonce-clause-verdict : goal.returns-in-Err-StaleNonce-clause-verdict
returns-in-Err-StaleNonce-clause-verdict g c =
    let s = c.args.self.now in
    let realm = realm_of s c.args.judges.now in
    let r = reading_of c.args.read.now in
    let earlier = string_bytes c.in-Some.earlier in
    let stale : verdict_under realm (nonce_in s s.secret c.args.from c.args.epoch) r
    ≡ Err StaleNonce = search rules in
    let has : their_nonce_among r (earlier_nonces s c.args.from c.args.epoch) ≡ Some earlier =
    search rules in
    let is : verdict_under realm earlier r ≡ Err c.in-Err.field-0 = search rules in
    sym (earlier_refuses s realm c.args.from c.args.epoch r earlier c.in-Err.field-0 stale has is)
