-- The letters of the numbers before the index are written.
use Rattle.std.proofs.Common.{◌≡◌, length, take, map}
use Rattle.stun_judging.specs.Nonces.{letter}
use Rattle.stun_judging.proofs.letters.to_letters.Given as goal

abbrev pub invariant-loop-i : goal.invariant-loop-i
invariant-loop-i l = record {
  written : take l.i l.letters ≡ map letter (take l.i l.numbers);
  sixteen : length l.letters ≡ 16;
}
