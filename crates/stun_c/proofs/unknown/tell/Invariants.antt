-- The types that were told are at the front of the caller's, as far as there is room, and the
-- others are left.
use Rattle.std.proofs.Common.{◌≡◌, ◌+◌, drop, length, take}
use Rattle.stun_extra.specs.Unknown.{unknown_types}
use Rattle.stun_c.specs.Extra.{numbers_after}
use Rattle.stun_c.proofs.unknown.tell.Given as goal

abbrev pub invariant-loop-kind : goal.invariant-loop-kind
invariant-loop-kind l = record {
  told : l.types ≡ numbers_after (take l.count (unknown_types l.fn.known l.fn.message)) l.fn.types;
  left : drop l.count (unknown_types l.fn.known l.fn.message) ≡ l.kind-iterator;
  count : l.count + length l.kind-iterator ≡ length (unknown_types l.fn.known l.fn.message);
}
