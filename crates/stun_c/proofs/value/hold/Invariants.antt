-- The types before the index are at the front of the caller's, as far as there is room.
use Rattle.std.proofs.Common.{◌≡◌, take}
use Rattle.stun_c.specs.Extra.{numbers_after}
use Rattle.stun_c.proofs.value.hold.Given as goal

abbrev pub invariant-loop-i : goal.invariant-loop-i
invariant-loop-i l = record {
  held : l.types ≡ numbers_after (take l.i l.fn.held) l.fn.types;
}
