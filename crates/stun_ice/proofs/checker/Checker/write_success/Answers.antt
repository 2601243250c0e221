-- The answer is put together of its parts.
use Rattle.std.proofs.Common.{Some, ◌∙◌, ap}
use Rattle.stun_ice.specs.Answers.{with_end}
use Rattle.stun_ice.proofs.checker.Checker.write_success.Goals as goal

pub returns-clause-bytes : goal.returns-clause-bytes
returns-clause-bytes g c =
    c.in_ok-answer.ensures.bytes
    ∙ ap (with_end c.args.self.now (Some c.args.algorithm)) c.in_ok-page.ensures.bytes
