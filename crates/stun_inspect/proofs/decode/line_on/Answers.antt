-- The line has the columns of its name, its type and its place in front, and its ending after the
-- rest.
use Rattle.std.proofs.Common.{◌≡◌, ◌∙◌, ap, length, sym}
use Rattle.std.specs.Prelude.{string_bytes}
use Rattle.stun_inspect.specs.Decode.{line_with}
use Rattle.stun_inspect.proofs.LineLemmas.{line_with-is_line}
use Rattle.stun_inspect.proofs.decode.line_on.Goals as goal

pub returns : goal.returns
returns g c =
    let name = c.as_str-name.result.now in
    let rest = c.as_str-rest.result.now in
    let message = c.args.message.now in
    let told = c.args.told.now in
    let is : string_bytes c.in_ok-line.line ≡ line_with message told name rest =
    rw (sym c.ending_of-ending.ensures, sym c.get_type-kind.ensures) c.in_ok-line.ensures.ok in (
      name,
      rest,
      ap length c.as_str-name.ensures.text ∙ c.in_ok-column.ensures,
      line_with-is_line message told name rest (string_bytes c.in_ok-line.line)
          c.as_str-name.ensures.unbroken c.as_str-rest.ensures.unbroken is,
      is,
    )
