-- How long the nonces of a server are.
use Rattle.std.proofs.Common.{◌≡◌, ℕ, ◌+◌, ◌≤◌, Bool, true, false, List, [], ◌∷◌}
use Rattle.std.proofs.Common.{◌++◌, length, map, refl, arith, length-append}
use Rattle.std.specs.Prelude.{drop, ◌==◌, if◌then◌else◌}
use Rattle.std.proofs.lemmas.List.{length-map}
use Rattle.base64.proofs.OnLiterals.{base64_on_literals}
use Rattle.stun_base.specs.declared.keys.algorithm.IntegrityAlgorithm.TheVariants.{Sha256}
use Rattle.stun_judging.specs.declared.feature.Feature.{Feature}
use Rattle.stun_judging.specs.Algorithms.{contains}
use Rattle.stun_judging.specs.Feature.{is_possible}
use Rattle.stun_judging.specs.declared.algorithm_set.AlgorithmSet.{AlgorithmSet}
use Rattle.stun_judging.specs.Nonces.{begins_with_cookie, front, letter}
use Rattle.stun_judging.specs.Nonces.{nonce_of, spelled_bits, without_cookie}

length-front_userhash : length (front 0x40) ≡ 13
unfolding spelled_bits base64_on_literals
length-front_userhash = refl

length-front_algorithms : length (front 0x80) ≡ 13
unfolding spelled_bits base64_on_literals
length-front_algorithms = refl

length-front_both : length (front 0xc0) ≡ 13
unfolding spelled_bits base64_on_literals
length-front_both = refl

changed : (words : List ℕ) → length (112 ∷ drop 1 (map letter words)) ≤ 13 + length words
changed [] = omega arith
changed (word ∷ words) = omega (arith, length-map words letter)

uncookied : (words : List ℕ) → length (without_cookie (map letter words)) ≤ 13 + length words
uncookied words =
    elim (begins_with_cookie (map letter words)) as (λ begins.
    length (if begins then 112 ∷ drop 1 (map letter words) else map letter words)
    ≤ 13 + length words) [
      | true ↦ changed words
      | false ↦ omega (arith, length-map words letter)
    ]

behind : (first words : List ℕ) → length first ≡ 13
    → length (first ++ map letter words) ≤ 13 + length words
behind first words thirteen =
    omega (arith, thirteen, length-append first (map letter words), length-map words letter)

abbrev byte_of : Bool → Bool → ℕ
byte_of strong hashes = (if strong then 0x80 else 0) + (if hashes then 0x40 else 0)

by_cases : (strong hashes : Bool) (words : List ℕ)
    → length
    (if byte_of strong hashes == 0 then without_cookie (map letter words)
    else front (byte_of strong hashes) ++ map letter words) ≤ 13 + length words
by_cases true true words = behind (front 0xc0) words length-front_both
by_cases true false words = behind (front 0x80) words length-front_algorithms
by_cases false true words = behind (front 0x40) words length-front_userhash
by_cases false false words = uncookied words

pub nonce_is_short : (set : AlgorithmSet) (feature : Feature) (words : List ℕ)
    → length (nonce_of set feature words) ≤ 13 + length words
nonce_is_short set feature words = by_cases (contains Sha256 set) (is_possible feature) words
