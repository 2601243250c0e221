-- What a verdict finds has the status of the verdict.
use Rattle.std.proofs.Common.{◌∙◌, ap, subst}
use Rattle.stun_cli.specs.Verdict.{status_of}
use Rattle.stun_inspect.specs.Verify.{PrintsWithNotes}
use Rattle.stun_inspect.proofs.teller.Teller.tell.Goals as goal

pub returns-in_ok-verdict-in-Verify : goal.returns-in_ok-verdict-in-Verify
returns-in_ok-verdict-in-Verify g c =
    let before = g.W.Write.contents c.args.writer.now in
    let after = g.W.Write.contents c.verify.new.writer in
    let is_verdict = c.in_ok-verdict-in-Verify.ensures.verdict in
    rw c.in-Verify.is (
      c.of_verdict.ensures.status ∙ ap status_of is_verdict,
      subst (λ verdict. PrintsWithNotes verdict before after) is_verdict
          c.in_ok-verdict-in-Verify.ensures.prints,
    )
