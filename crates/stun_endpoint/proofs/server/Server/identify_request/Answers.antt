-- A request that waits for nobody comes to what the current nonce tells.
use Rattle.std.proofs.Common.{rules, arith, ◌≡◌, None, sym, ◌∙◌, ap}
use Rattle.stun_judging.specs.Reading.{reading_of}
use Rattle.stun_endpoint.specs.Lookups.{done, identified_as, waits_for}
use Rattle.stun_endpoint.specs.Nonces.{epoch_of, nonce_in}
use Rattle.stun_endpoint.specs.code.Judgements.{by_judgement}
use Rattle.stun_endpoint.proofs.JudgementLemmas.{unnamed_done}
use Rattle.stun_endpoint.proofs.server.Server.identify_request.Goals as goal

pub returns-clause-identified : goal.returns-clause-identified
returns-clause-identified g c =
    let s = c.args.self.now in
    let r = reading_of c.args.read.now in
    let one = c.deref-in-None.result.now in
    let two = c.deref-in-None-2.result.now in
    let v = c.judge_by_nobody-verdict.result in
    let none : waits_for s c.args.from (epoch_of s c.args.now) r ≡ None =
    first_of (search rules, grind arith) in
    let made : one ≡ nonce_in s s.secret c.args.from (epoch_of s c.args.now) =
    first_of (search rules, grind arith) in
    let again : two ≡ nonce_in s s.secret c.args.from (epoch_of s c.args.now) =
    first_of (search rules, grind arith) in
    let same =
    unnamed_done s c.args.from c.args.now c.args.read.now one v
    c.requires.undropped c.requires.waits.request none made
    c.judge_by_nobody-verdict.ensures in
    ap done (c.in_ok-received-in-None.ensures.received
    ∙ ap (λ n. by_judgement s n c.args.from c.args.read.now v) (again ∙ sym made) ∙ same)
    ∙ sym (ap (identified_as s c.args.from c.args.now c.args.read.now) none)
