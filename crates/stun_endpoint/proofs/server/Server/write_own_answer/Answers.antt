-- The responder is what the settings say of responses.
use Rattle.std.proofs.Common.{◌≡◌, ap, subst}
use Rattle.std.specs.Prelude.{IfOk}
use Rattle.stun_endpoint.specs.Received.{responding_of}
use Rattle.stun_endpoint.specs.Responding.{Responding, own_answer}
use Rattle.stun_endpoint.specs.Settings.{Settings}
use Rattle.stun_endpoint.proofs.server.Server.write_own_answer.Goals as goal

pub returns-clause-answer : goal.returns-clause-answer
returns-clause-answer g c =
    let same : c.self.inside.responder ≡ responding_of c.args.self.now =
    ap (λ (s : Settings). responding_of s) c.self.view_is in
    subst (λ (r : Responding). IfOk c.write_own_answer.result
    (λ answer. answer ≡ own_answer r c.args.signature.now c.args.from c.args.request.now)) same
    c.write_own_answer.ensures.answer
