-- What is written and what is left to write are all types.
use Rattle.std.proofs.Common.{◌≡◌, ◌+◌, ◌*◌, ◌++◌, length, take}
use Rattle.stun_extra.specs.Unknown.{spelled_types, unknown_types}
use Rattle.stun_c.proofs.unknown.write_types.Given as goal

abbrev pub invariant-loop-kind : goal.invariant-loop-kind
invariant-loop-kind l = record {
  bytes : take l.end l.place ++ spelled_types l.kind-iterator
      ≡ spelled_types (unknown_types l.fn.known l.fn.message);
  room : l.end + 2 * length l.kind-iterator ≡ length l.place;
  whole : length l.place ≡ 2 * length (unknown_types l.fn.known l.fn.message);
}
