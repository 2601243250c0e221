-- The algorithms that a client supports, in the order in which they were added and without repeats.
use Rattle.std.specs.Prelude.{List, [], ◌∷◌, ◌++◌, if◌then◌else◌}
use Rattle.stun_base.specs.declared.keys.algorithm.IntegrityAlgorithm.{IntegrityAlgorithm}
use Rattle.stun_judging.specs.Algorithms.{has}

-- the list with one more algorithm at its end, unless it has that already
abbrev pub with_supported : IntegrityAlgorithm → List IntegrityAlgorithm → List IntegrityAlgorithm
with_supported algorithm list = if has algorithm list then list else list ++ algorithm ∷ []
