-- The entries passed and those that are left take the same bytes throughout.
use Rattle.std.proofs.Common.{◌≡◌, ◌+◌, ◌-◌, length}
use Rattle.stun_types.specs.Walk.{attributes_length, walk_from}
use Rattle.stun_extra.proofs.attribute.algorithm_list.are_filled.Given as goal

abbrev pub invariant-loop-entry : goal.invariant-loop-entry
invariant-loop-entry l =
    l.place + attributes_length (walk_from l.place l.fn.bytes)
    ≡ attributes_length (walk_from 0 l.fn.bytes)

abbrev pub decreases-loop-entry : goal.decreases-loop-entry
decreases-loop-entry l = length l.fn.bytes - l.place
