-- The answer is put together of its parts.
use Rattle.std.proofs.Common.{None, ◌∙◌, ap}
use Rattle.stun_endpoint.specs.Answers.{with_end}
use Rattle.stun_endpoint.specs.Settings.{Settings}
use Rattle.stun_endpoint.proofs.ChallengeLemmas.{challenge_from_parts}
use Rattle.stun_endpoint.proofs.server.Server.write_challenge_answer.Goals as goal

pub returns-clause-answer : goal.returns-clause-answer
returns-clause-answer g c =
    challenge_from_parts c.args.self.now c.args.refusal c.args.nonce.now c.args.from
    c.args.request.now c.new.result c.in_ok-page.page.bytes c.in_ok-bytes.bytes.items
    c.args.has_fingerprint
    (c.in_ok-bytes.ensures.bytes ∙ ap (λ (s : Settings). with_end (record {
      software = s.software;
      signature = None;
      has_fingerprint = c.args.has_fingerprint;
    }) c.in_ok-page.page.bytes) c.self.view_is) c.requires.fingerprint c.new.ensures
    c.in_ok-page.ensures.bytes

pub returns-in_err-bytes-clause-granted : goal.returns-in_err-bytes-clause-granted
returns-in_err-bytes-clause-granted g c = λ grants.
    let none = c.in_err-bytes.ensures.granted grants c.in_ok-page.ensures.room in cc
