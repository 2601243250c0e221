-- The sum so far and the entries that are left are the whole, up to the greatest number.
use Rattle.std.proofs.Common.{◌≡◌, ◌+◌, ◌-◌, ◌≤◌, ◌^◌, length}
use Rattle.std.specs.Prelude.{min}
use Rattle.std.specs.List.{AllByRecursion}
use Rattle.stun_types.specs.Grammar.{IsSpellable, spelled_attributes}
use Rattle.stun_extra.proofs.attribute.algorithm_list.AlgorithmList.count_value_bytes.Given as goal

abbrev pub invariant-loop-entry : goal.invariant-loop-entry
invariant-loop-entry l = record {
  total : min (l.total + length (spelled_attributes l.entry-iterator)) (2 ^ 64 - 1)
      ≡ min (length (spelled_attributes l.fn.self)) (2 ^ 64 - 1);
  small : l.total ≤ 2 ^ 64 - 1;
  fits : AllByRecursion IsSpellable l.entry-iterator → AllByRecursion IsSpellable l.fn.self;
}
