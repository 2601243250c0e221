use Rattle.std.proofs.Common.{◌≡◌, ◌-◌, length}
use Rattle.stun_types.specs.Visible.{has_kind}
use Rattle.stun_types.specs.Walk.{walk, walk_from}
use Rattle.stun_types.proofs.message.walk.has_attribute.Given as goal

-- the answer is decided by the attributes from the place on
abbrev pub invariant-loop-found : goal.invariant-loop-found
invariant-loop-found l =
    has_kind l.kind.0 (walk l.message) ≡ has_kind l.kind.0 (walk_from l.place l.message)

abbrev pub decreases-loop-found : goal.decreases-loop-found
decreases-loop-found l = length l.message - l.place
