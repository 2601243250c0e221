-- What is left to tell stays the same while attributes are passed over.
use Rattle.std.proofs.Common.{◌≡◌, length}
use Rattle.stun_extra.specs.code.Told.{left_to_tell}
use Rattle.stun_extra.proofs.unknown.UnknownTypesIterator.next.Given as goal

abbrev pub invariant-loop-found : goal.invariant-loop-found
invariant-loop-found l =
    left_to_tell l.self-inside.known.now l.self-inside.told.words l.self-inside.left ≡ l.fn.self

abbrev pub decreases-loop-found : goal.decreases-loop-found
decreases-loop-found l = length l.self-inside.left
