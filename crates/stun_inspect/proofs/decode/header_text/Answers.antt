-- The three lines follow one another.
use Rattle.std.specs.Prelude.{string_bytes}
use Rattle.stun_inspect.proofs.decode.header_text.Goals as goal

pub returns : goal.returns
returns g c = (
  string_bytes c.in_ok-first.first,
  string_bytes c.in_ok-second.second,
  string_bytes c.in_ok-third.third,
  c.in_ok-first.ensures,
  c.in_ok-second.ensures,
  c.in_ok-third.ensures,
  c.in_ok-text.ensures.ok,
)
