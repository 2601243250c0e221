-- The notes follow the line of the verdict.
use Rattle.std.proofs.Common.{◌++◌, ◌∙◌, subst}
use Rattle.std.specs.Io.KnownBytes.{Appends}
use Rattle.std.proofs.KnownBytes.{Appends-trans}
use Rattle.stun_inspect.proofs.answers.verify.Goals as goal

pub returns-clause-prints : goal.returns-clause-prints
returns-clause-prints g c =
    let before = g.W.Write.contents c.args.writer.now in
    let after = g.W.Write.contents c.write_text-2.new.writer in
    let notes = c.as_bytes-2.result.now in (
      notes,
      subst (λ line. Appends before after (line ++ notes))
          (c.as_bytes.ensures.value ∙ c.line.ensures)
          (Appends-trans _ _ _ _ _ c.in_ok-write_text.ensures.ok c.in_ok-write_text-2.ensures.ok),
    )
