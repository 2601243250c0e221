-- What is visible from here is what was left.
use Rattle.std.proofs.Common.{◌≡◌, ◌-◌, length}
use Rattle.stun_types.specs.Visible.{visible_after}
use Rattle.stun_types.specs.Walk.{walk_from}
use Rattle.stun_types.proofs.message.attributes_iter.MessageAttributesIterIterator.next.Given as goal

abbrev pub invariant-loop-attribute : goal.invariant-loop-attribute
invariant-loop-attribute l =
    visible_after l.self-inside.visibility (walk_from l.self-inside.place l.self-inside.bytes.now)
    ≡ l.fn.self

abbrev pub decreases-loop-attribute : goal.decreases-loop-attribute
decreases-loop-attribute l = length l.self-inside.bytes.now - l.self-inside.place
