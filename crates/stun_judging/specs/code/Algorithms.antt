-- Algorithms and sets of them as data, for Models.
use Rattle.std.specs.Prelude.{◌≡◌, ℕ, zero, suc, Bool, true, false, refl}
use Rattle.std.specs.Coded.{Coded, code_by, coded_ℕ, coded_bool}
use Rattle.stun_base.specs.declared.keys.algorithm.IntegrityAlgorithm.{IntegrityAlgorithm}
use Rattle.stun_base.specs.declared.keys.algorithm.IntegrityAlgorithm.TheVariants.{Sha1, Sha256}
use Rattle.stun_judging.specs.declared.algorithm_set.AlgorithmSet.{AlgorithmSet}
use Rattle.stun_judging.specs.declared.algorithm_set.AlgorithmSet.TheVariants.{OnlySha1}
use Rattle.stun_judging.specs.declared.algorithm_set.AlgorithmSet.TheVariants.{OnlySha256, Both}
use Rattle.stun_judging.specs.Algorithms.{is_sha256}

abbrev pub algorithm_by : Bool → IntegrityAlgorithm
algorithm_by false = Sha1
algorithm_by true = Sha256

pub algorithm_again : (a : IntegrityAlgorithm) → algorithm_by (is_sha256 a) ≡ a
algorithm_again Sha1 = refl
algorithm_again Sha256 = refl

abbrev pub coded_algorithm : Coded IntegrityAlgorithm
coded_algorithm = code_by Bool coded_bool is_sha256 algorithm_by algorithm_again

abbrev pub set_number : AlgorithmSet → ℕ
set_number OnlySha1 = 0
set_number OnlySha256 = 1
set_number Both = 2

abbrev pub set_of : ℕ → AlgorithmSet
set_of zero = OnlySha1
set_of (suc zero) = OnlySha256
set_of (suc (suc n)) = Both

pub set_again : (s : AlgorithmSet) → set_of (set_number s) ≡ s
set_again OnlySha1 = refl
set_again OnlySha256 = refl
set_again Both = refl

abbrev pub coded_set : Coded AlgorithmSet
coded_set = code_by ℕ coded_ℕ set_number set_of set_again
