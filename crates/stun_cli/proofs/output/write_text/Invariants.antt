-- What writing keeps true from one write to the next.
use Rattle.std.proofs.Common.{◌≤◌, length, take}
use Rattle.std.specs.Io.KnownBytes.{Appends}
use Rattle.stun_cli.proofs.output.write_text.Given as goal

-- what is written so far is a beginning of the text
abbrev pub invariant-loop : goal.invariant-loop
invariant-loop g l =
    (l.written ≤ length l.text)
    × Appends (g.W.Write.contents l.initial.writer) (g.W.Write.contents l.writer)
    (take l.written l.text)
