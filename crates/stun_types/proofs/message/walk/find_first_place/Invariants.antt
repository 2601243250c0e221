-- None of the type has been passed.
use Rattle.std.proofs.Common.{◌-◌, length}
use Rattle.stun_types.proofs.SearchLemmas.{IsSought}
use Rattle.stun_types.proofs.message.walk.find_first_place.Given as goal

abbrev pub invariant-loop-found : goal.invariant-loop-found
invariant-loop-found l = IsSought l.kind.0 l.place l.message

abbrev pub decreases-loop-found : goal.decreases-loop-found
decreases-loop-found l = length l.message - l.place
