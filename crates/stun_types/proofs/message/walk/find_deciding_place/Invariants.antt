-- Nothing that was passed decides but the weaker one that is kept.
use Rattle.std.proofs.Common.{◌≡◌, ◌-◌, true, length, drop}
use Rattle.std.specs.Prelude.{IfSome}
use Rattle.stun_types.specs.Attribute.{has_attribute}
use Rattle.stun_types.proofs.SearchLemmas.{IsUndecided}
use Rattle.stun_types.proofs.message.walk.find_deciding_place.Given as goal

abbrev pub invariant-loop-kind : goal.invariant-loop-kind
invariant-loop-kind l = record {
  undecided : IsUndecided l.weaker l.place l.message;
  whole : IfSome l.weaker (λ place. has_attribute (drop place l.message) ≡ true);
}

abbrev pub decreases-loop-kind : goal.decreases-loop-kind
decreases-loop-kind l = length l.message - l.place
