-- The numbers of algorithms, as `include/stunp.h` has them.
use Rattle.std.specs.Prelude.{ℕ, Option, Some, None, ◌==◌, if◌then◌else◌}
use Rattle.stun_base.specs.declared.keys.algorithm.IntegrityAlgorithm.{IntegrityAlgorithm}
use Rattle.stun_base.specs.declared.keys.algorithm.IntegrityAlgorithm.TheVariants.{Sha1, Sha256}

-- the number of an algorithm
abbrev pub algorithm_number : IntegrityAlgorithm → ℕ
algorithm_number Sha1 = 1
algorithm_number Sha256 = 2

-- the algorithm of a number, if it has one
abbrev pub algorithm_numbered : ℕ → Option IntegrityAlgorithm
algorithm_numbered number =
    if number == 1 then Some Sha1 else (if number == 2 then Some Sha256 else None)
