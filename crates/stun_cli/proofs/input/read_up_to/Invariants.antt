-- What reading on keeps true from one read to the next.
use Rattle.stun_cli.specs.Input.{IsReadOn}
use Rattle.stun_cli.proofs.Reading.{IsAsked}
use Rattle.stun_cli.proofs.input.read_up_to.Given as goal

-- the bytes so far are those before, and then those that the reader has given, and it was asked once
-- a turn
abbrev pub invariant-loop-turn : goal.invariant-loop-turn
invariant-loop-turn g l =
    IsReadOn (g.R.Read.remaining l.initial.reader) (g.R.Read.remaining l.reader)
    l.initial.bytes.items l.bytes.items
    × IsAsked l._turn (g.R.CountedRead.asked l.initial.reader) (g.R.CountedRead.asked l.reader)
