-- What is written is the line with that number.
use Rattle.std.proofs.Common.{◌∙◌, subst}
use Rattle.std.specs.Io.KnownBytes.{Appends}
use Rattle.stun_tool.proofs.serve.print_wrong_line.Goals as goal

pub returns : goal.returns
returns g c =
    let before = g.W.Write.contents c.args.writer.now in
    let after = g.W.Write.contents c.write_text.new.writer in (
      c.args.number,
      subst (Appends before after) (c.as_bytes.ensures.value ∙ c.in_ok-line.ensures.ok)
          c.in_ok-write_text.ensures.ok,
    )
