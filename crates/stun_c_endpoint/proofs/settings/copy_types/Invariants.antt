-- The types before the index are those of the numbers.
use Rattle.std.proofs.Common.{◌≡◌, length, take}
use Rattle.stun_extra.specs.Unknown.{types_of}
use Rattle.stun_c_endpoint.proofs.settings.copy_types.Given as goal

abbrev pub invariant-loop-i : goal.invariant-loop-i
invariant-loop-i l = record {
  done : take l.i l.types ≡ types_of (take l.i l.numbers);
  whole : length l.types ≡ length l.numbers;
}
