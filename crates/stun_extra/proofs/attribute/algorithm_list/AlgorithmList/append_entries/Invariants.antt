-- What is written and what is left to write are all entries.
use Rattle.std.proofs.Common.{◌≡◌, ◌+◌, ◌≤◌, ◌++◌, length}
use Rattle.stun_types.specs.Grammar.{spelled_attributes}
use Rattle.stun_extra.proofs.attribute.algorithm_list.AlgorithmList.append_entries.Given as goal

abbrev pub invariant-loop-entry : goal.invariant-loop-entry
invariant-loop-entry g l = record {
  bytes : g.W.MessageWrite.bytes l.writer ++ spelled_attributes l.entry-iterator
      ≡ g.W.MessageWrite.bytes l.initial.writer ++ spelled_attributes l.fn.self;
  few : length (spelled_attributes l.entry-iterator) ≤ length (spelled_attributes l.fn.self);
  room : g.W.MessageWrite.room l.writer + length (spelled_attributes l.fn.self)
      ≡ g.W.MessageWrite.room l.initial.writer + length (spelled_attributes l.entry-iterator);
  reserved : g.W.MessageWrite.reserved l.writer + length (spelled_attributes l.fn.self)
      ≡ g.W.MessageWrite.reserved l.initial.writer + length (spelled_attributes l.entry-iterator);
}
