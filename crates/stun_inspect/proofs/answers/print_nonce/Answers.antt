-- What is printed is the line.
use Rattle.std.proofs.Common.{refl, subst}
use Rattle.std.specs.Prelude.{string_bytes}
use Rattle.std.specs.Io.KnownBytes.{Appends}
use Rattle.stun_inspect.proofs.answers.print_nonce.Goals as goal

pub returns : goal.returns
returns g c =
    let before = g.W.Write.contents c.args.writer.now in
    let after = g.W.Write.contents c.write_text.new.writer in (
      string_bytes c.in_ok-line.line,
      c.in_ok-line.ensures,
      (refl, subst (Appends before after) c.as_bytes.ensures.value c.in_ok-write_text.ensures.ok),
    )
