-- What filling a column with blanks keeps true.
use Rattle.std.specs.Prelude.{◌≡◌, length, string_bytes}
use Rattle.stun_inspect.proofs.decode.column_of.Given as goal

-- the column is filled up to the place
abbrev pub invariant-loop-place : goal.invariant-loop-place
invariant-loop-place g l = length (string_bytes l.column.text) ≡ l._place
