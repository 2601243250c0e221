-- The lines on the attributes follow those on the header.
use Rattle.std.proofs.Common.{◌∙◌, subst, rules}
use Rattle.std.specs.Prelude.{string_bytes}
use Rattle.stun_inspect.specs.Decode.{AreLinesOn}
use Rattle.stun_inspect.proofs.decode.describe.Goals as goal

pub returns : goal.returns
returns g c =
    let lines = string_bytes c.in_ok-lines.lines in (
      string_bytes c.in_ok-text.text,
      lines,
      c.in_ok-text.ensures,
      subst (λ told. AreLinesOn c.args.bytes.now told lines)
          (c.as_slice.ensures.value ∙ c.in_ok-told.ensures.told) c.in_ok-lines.ensures,
      search rules,
    )
