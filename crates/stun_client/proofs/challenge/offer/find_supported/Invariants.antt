-- none of the entries before the place is supported
use Rattle.std.proofs.Common.{◌≡◌, length, ◌-◌}
use Rattle.std.specs.Prelude.{find}
use Rattle.stun_types.specs.Walk.{attributes_of, walk_from}
use Rattle.stun_client.specs.Offers.{algorithms_in, known_of}
use Rattle.stun_client.specs.Preferences.{supports}
use Rattle.stun_client.proofs.challenge.offer.find_supported.Given as goal

abbrev pub invariant-loop-entry : goal.invariant-loop-entry
invariant-loop-entry l =
    find (supports l.fn.preferences) (algorithms_in l.fn.list)
    ≡ find (supports l.fn.preferences) (known_of (attributes_of (walk_from l.place l.fn.list)))

abbrev pub decreases-loop-entry : goal.decreases-loop-entry
decreases-loop-entry l = length l.fn.list - l.place
