-- What writing lines keeps true from one attribute to the next.
use Rattle.std.specs.Prelude.{take, string_bytes}
use Rattle.stun_inspect.specs.Decode.{AreLinesOn}
use Rattle.stun_inspect.proofs.decode.lines_on.Given as goal

-- the text is the lines on the attributes so far
abbrev pub invariant-loop-attribute : goal.invariant-loop-attribute
invariant-loop-attribute g l =
    AreLinesOn l.message (take l.attribute-index l.told) (string_bytes l.text)
