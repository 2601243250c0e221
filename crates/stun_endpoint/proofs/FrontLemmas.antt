-- The four letters that the code has for the security bits are their base64.
use Rattle.std.proofs.Common.{◌≡◌, ◌++◌, refl}
use Rattle.base64.proofs.OnLiterals.{base64_on_literals}
use Rattle.stun_base.specs.declared.keys.algorithm.IntegrityAlgorithm.TheVariants.{Sha256}
use Rattle.stun_judging.specs.Algorithms.{contains}
use Rattle.stun_judging.specs.Feature.{is_possible}
use Rattle.stun_judging.specs.Nonces.{cookie, spelled_bits}
use Rattle.stun_judging.specs.declared.algorithm_set.AlgorithmSet.{AlgorithmSet}
use Rattle.stun_judging.specs.declared.algorithm_set.AlgorithmSet.TheVariants.{OnlySha1}
use Rattle.stun_judging.specs.declared.algorithm_set.AlgorithmSet.TheVariants.{OnlySha256, Both}
use Rattle.stun_judging.specs.declared.feature.Feature.{Feature}
use Rattle.stun_judging.specs.declared.feature.Feature.TheVariants.{Auto, Required, Disabled}
use Rattle.stun_endpoint.specs.Nonces.{front_of}
use Rattle.stun_endpoint.specs.code.Bits.{bits_text}

pub spelled_front : (set : AlgorithmSet) (feature : Feature)
    → cookie ++ bits_text (contains Sha256 set) (is_possible feature) ≡ front_of set feature
unfolding spelled_bits base64_on_literals
spelled_front OnlySha1 Auto = refl
spelled_front OnlySha1 Required = refl
spelled_front OnlySha1 Disabled = refl
spelled_front OnlySha256 Auto = refl
spelled_front OnlySha256 Required = refl
spelled_front OnlySha256 Disabled = refl
spelled_front Both Auto = refl
spelled_front Both Required = refl
spelled_front Both Disabled = refl
