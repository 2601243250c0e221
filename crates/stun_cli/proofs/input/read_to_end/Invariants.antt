-- What reading keeps true from one read to the next.
use Rattle.std.proofs.Common.{◌≤◌, length}
use Rattle.std.specs.Io.KnownBytes.{Consumes}
use Rattle.stun_cli.proofs.Reading.{IsAsked}
use Rattle.stun_cli.proofs.input.read_to_end.Given as goal

-- the bytes so far are those that the reader has given, no more than it may give, and it was asked
-- once a turn
abbrev pub invariant-loop-turn : goal.invariant-loop-turn
invariant-loop-turn g l =
    Consumes (g.R.Read.remaining l.initial.reader) (g.R.Read.remaining l.reader) l.bytes.items
    × (length l.bytes.items ≤ l.most)
    × IsAsked l._turn (g.R.CountedRead.asked l.initial.reader) (g.R.CountedRead.asked l.reader)
