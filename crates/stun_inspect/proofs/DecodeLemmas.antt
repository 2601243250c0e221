-- What lines on attributes are when one more is written.
use Rattle.std.proofs.Common.{ℕ, List, [], ◌∷◌, ◌++◌, refl, sym, ◌∙◌, ap, append-nil, append_assoc}
use Rattle.stun_inspect.specs.declared.telling.Told.{Told}
use Rattle.stun_inspect.specs.Decode.{IsLineOn, AreLinesOn}

-- lines on attributes, and then a line on one more
pub lines-more : (message : List ℕ) (told : List Told) (more : Told) (text line : List ℕ)
    → AreLinesOn message told text → IsLineOn message more line
    → AreLinesOn message (told ++ more ∷ []) (text ++ line)
lines-more message [] more text line none is_line =
    (line, [], is_line, refl, rw none (sym (append-nil line)))
lines-more message (first ∷ others) more text line lines is_line = (
  lines.0,
  lines.1 ++ line,
  lines.2,
  lines-more message others more lines.1 line lines.3 is_line,
  ap (λ all. all ++ line) lines.4 ∙ append_assoc lines.0 lines.1 line,
)
