-- The responder is what the settings say of responses.
use Rattle.std.proofs.Common.{◌≡◌, ap, subst}
use Rattle.std.specs.Prelude.{IfOk}
use Rattle.stun_endpoint.specs.Received.{responding_of}
use Rattle.stun_endpoint.specs.Responding.{Responding, refusal_by}
use Rattle.stun_endpoint.specs.Settings.{Settings}
use Rattle.stun_endpoint.specs.declared.received.Refusal.TheVariants.{BadRequest}
use Rattle.stun_endpoint.proofs.server.Server.write_bad_answer.Goals as goal

pub returns-clause-answer : goal.returns-clause-answer
returns-clause-answer g c =
    let same : c.self.inside.responder ≡ responding_of c.args.self.now =
    ap (λ (s : Settings). responding_of s) c.self.view_is in
    subst (λ (r : Responding). IfOk c.write_refusal.result
    (λ answer. answer ≡ refusal_by r BadRequest c.args.from c.args.request.now)) same
    c.write_refusal.ensures.answer
