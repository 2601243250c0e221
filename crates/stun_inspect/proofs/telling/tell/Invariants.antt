-- What telling keeps true from one attribute to the next.
use Rattle.std.proofs.Common.{◌≡◌, ◌-◌, ◌++◌, length, map}
use Rattle.stun_types.specs.Visible.{before, visibility_at}
use Rattle.stun_types.specs.Walk.{walk, walk_from}
use Rattle.stun_inspect.specs.Telling.{told_at}
use Rattle.stun_inspect.proofs.telling.tell.Given as goal

-- the attributes before the place are passed, and what is told so far is what is told of them
abbrev pub invariant-loop-attribute : goal.invariant-loop-attribute
invariant-loop-attribute g l = record {
  passed : before l.place (walk l.bytes) ++ walk_from l.place l.bytes ≡ walk l.bytes;
  seen : l.visibility ≡ visibility_at l.place (walk l.bytes);
  so_far : l.told.items ≡ map (told_at (walk l.bytes)) (before l.place (walk l.bytes));
}

abbrev pub decreases-loop-attribute : goal.decreases-loop-attribute
decreases-loop-attribute g l = length l.bytes - l.place
