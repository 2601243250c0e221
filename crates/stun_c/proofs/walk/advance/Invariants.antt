use Rattle.std.proofs.Common.{◌≡◌, ◌-◌, ◌≤◌, length}
use Rattle.stun_types.specs.Visible.{visible_after}
use Rattle.stun_types.specs.Walk.{walk_from}
use Rattle.stun_c.specs.Walking.{visibility_from}
use Rattle.stun_c.proofs.walk.advance.Given as goal

-- what is visible from where the walk stands is what was to be given
abbrev pub invariant-loop-attribute : goal.invariant-loop-attribute
invariant-loop-attribute l = record {
  left : visible_after (visibility_from l.cursor.hidden) (walk_from l.cursor.place l.message)
      ≡ visible_after (visibility_from l.fn.cursor.hidden)
      (walk_from l.fn.cursor.place l.message);
  behind : 20 ≤ l.cursor.place;
  within : l.cursor.place ≤ length l.message;
}

abbrev pub decreases-loop-attribute : goal.decreases-loop-attribute
decreases-loop-attribute l = length l.message - l.cursor.place
