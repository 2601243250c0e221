use Rattle.std.proofs.Common.{◌≡◌, ◌-◌, length}
use Rattle.std.specs.Prelude.{◌||◌}
use Rattle.stun_types.specs.Visible.{has_kind}
use Rattle.stun_types.specs.Walk.{walk, walk_from}
use Rattle.stun_types.proofs.message.walk.has_either.Given as goal

-- the answers are decided by the attributes from the place on
abbrev pub invariant-loop-found : goal.invariant-loop-found
invariant-loop-found l = record {
  one : has_kind l.one.0 (walk l.message) ≡ has_kind l.one.0 (walk_from l.place l.message);
  other : has_kind l.other.0 (walk l.message) ≡ has_kind l.other.0 (walk_from l.place l.message);
}

abbrev pub decreases-loop-found : goal.decreases-loop-found
decreases-loop-found l = length l.message - l.place
