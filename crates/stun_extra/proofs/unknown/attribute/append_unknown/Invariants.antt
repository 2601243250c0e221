-- What is written and what is left to write are all types.
use Rattle.std.proofs.Common.{◌≡◌, ◌+◌, ◌*◌, ◌++◌, length}
use Rattle.stun_extra.specs.Unknown.{spelled_types, unknown_types}
use Rattle.stun_extra.proofs.unknown.attribute.append_unknown.Given as goal

abbrev pub invariant-loop-kind : goal.invariant-loop-kind
invariant-loop-kind g l = record {
  bytes : g.W.MessageWrite.bytes l.writer ++ spelled_types l.kind-iterator
      ≡ g.W.MessageWrite.bytes l.initial.writer
      ++ spelled_types (unknown_types l.fn.known l.fn.message);
  room : g.W.MessageWrite.room l.writer + 2 * length (unknown_types l.fn.known l.fn.message)
      ≡ g.W.MessageWrite.room l.initial.writer + 2 * length l.kind-iterator;
  reserved : g.W.MessageWrite.reserved l.writer + 2 * length (unknown_types l.fn.known l.fn.message)
      ≡ g.W.MessageWrite.reserved l.initial.writer + 2 * length l.kind-iterator;
}
