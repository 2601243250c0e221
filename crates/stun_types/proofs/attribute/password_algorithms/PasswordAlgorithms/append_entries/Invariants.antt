use Rattle.std.proofs.Common.{◌≡◌, ◌+◌, ◌*◌, ◌++◌, take}
use Rattle.stun_types.specs.PasswordAlgorithms.{spelled_entries}
use Rattle.stun_types.proofs.attribute.password_algorithms.PasswordAlgorithms.append_entries.Given
    as goal

-- the entries before the index are written
abbrev pub invariant-loop-i : goal.invariant-loop-i
invariant-loop-i g l = record {
  bytes : g.W.MessageWrite.bytes l.writer
      ≡ g.W.MessageWrite.bytes l.initial.writer ++ spelled_entries (take l.i l.self);
  room : g.W.MessageWrite.room l.writer + 4 * l.i ≡ g.W.MessageWrite.room l.initial.writer;
  reserved : g.W.MessageWrite.reserved l.writer + 4 * l.i
      ≡ g.W.MessageWrite.reserved l.initial.writer;
}
