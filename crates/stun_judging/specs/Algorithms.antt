-- Integrity algorithms, sets and lists of them (RFC 8489, sections 9.2.1 and 14.11).
use Rattle.std.specs.Prelude.{[]}
use Rattle.std.specs.Prelude.{Bool, true, false, ◌&&◌, List, ◌∷◌, Option, Some, None}
use Rattle.std.specs.List.{list_any}
use Rattle.stun_base.specs.declared.keys.algorithm.IntegrityAlgorithm.{IntegrityAlgorithm}
use Rattle.stun_base.specs.declared.keys.algorithm.IntegrityAlgorithm.TheVariants.{Sha1, Sha256}
use Rattle.stun_judging.specs.declared.algorithm_set.AlgorithmSet.{AlgorithmSet}
use Rattle.stun_judging.specs.declared.algorithm_set.AlgorithmSet.TheVariants.{OnlySha1}
use Rattle.stun_judging.specs.declared.algorithm_set.AlgorithmSet.TheVariants.{OnlySha256, Both}

abbrev pub same_algorithm : IntegrityAlgorithm → IntegrityAlgorithm → Bool
same_algorithm Sha1 Sha1 = true
same_algorithm Sha256 Sha256 = true
same_algorithm Sha1 Sha256 = false
same_algorithm Sha256 Sha1 = false

-- whether the algorithm is in the list
abbrev pub has : IntegrityAlgorithm → List IntegrityAlgorithm → Bool
has a list = list_any (λ b. same_algorithm b a) list

-- whether the lists have the same algorithms in the same order
abbrev pub same_list : List IntegrityAlgorithm → List IntegrityAlgorithm → Bool
same_list [] [] = true
same_list (x ∷ xs) (y ∷ ys) = same_algorithm x y && same_list xs ys
same_list [] (y ∷ ys) = false
same_list (x ∷ xs) [] = false

-- the algorithms of a set, the strongest first
abbrev pub algorithms_of : AlgorithmSet → List IntegrityAlgorithm
algorithms_of OnlySha1 = Sha1 ∷ []
algorithms_of OnlySha256 = Sha256 ∷ []
algorithms_of Both = Sha256 ∷ Sha1 ∷ []

-- the algorithms that were offered: none before the first offer
abbrev pub offered_list : Option AlgorithmSet → List IntegrityAlgorithm
offered_list None = []
offered_list (Some set) = algorithms_of set

-- whether the algorithm is in the set
abbrev pub contains : IntegrityAlgorithm → AlgorithmSet → Bool
contains a set = has a (algorithms_of set)

-- the set of one algorithm
abbrev pub only : IntegrityAlgorithm → AlgorithmSet
only Sha1 = OnlySha1
only Sha256 = OnlySha256

-- the set with one more algorithm, or the same set if it has that already
abbrev pub with_algorithm : IntegrityAlgorithm → AlgorithmSet → AlgorithmSet
with_algorithm Sha1 OnlySha1 = OnlySha1
with_algorithm Sha1 OnlySha256 = Both
with_algorithm Sha256 OnlySha1 = Both
with_algorithm Sha256 OnlySha256 = OnlySha256
with_algorithm Sha1 Both = Both
with_algorithm Sha256 Both = Both

-- whether an algorithm is HMAC-SHA256
abbrev pub is_sha256 : IntegrityAlgorithm → Bool
is_sha256 Sha1 = false
is_sha256 Sha256 = true
