-- Nonces that begin with the cookie and the security bits of a server, whatever those bits are.
use Rattle.std.proofs.Common.{◌≡◌, ◌<◌, ◌≤◌, ◌+◌, ℕ, List, [], ◌∷◌, ◌++◌, Some, length, map}
use Rattle.std.proofs.Common.{Bool, true, false, refl, ◌∙◌, ap, arith, length-append}
use Rattle.std.proofs.lemmas.List.{length-map}
use Rattle.std.proofs.lemmas.Str.{IsAscii-append, IsUtf8-from_ascii}
use Rattle.std.specs.Prelude.{cond, ◌||◌, ◌==◌, IsUtf8}
use Rattle.std.specs.Str.{IsAscii}
use Rattle.base64.proofs.OnLiterals.{base64_on_literals}
use Rattle.stun_base.specs.declared.keys.algorithm.IntegrityAlgorithm.TheVariants.{Sha256}
use Rattle.stun_judging.specs.Algorithms.{contains}
use Rattle.stun_judging.specs.Feature.{is_possible}
use Rattle.stun_judging.specs.Nonces.{asks_for_algorithms, asks_for_userhash, begins_with_cookie}
use Rattle.stun_judging.specs.Nonces.{first_has, front, letter, nonce_of, security_bits}
use Rattle.stun_judging.specs.Nonces.{security_byte, spelled_bits, without_cookie}
use Rattle.stun_judging.specs.declared.algorithm_set.AlgorithmSet.{AlgorithmSet}
use Rattle.stun_judging.specs.declared.feature.Feature.{Feature}
use Rattle.stun_judging.proofs.NonceBits.{bits_read_back}
use Rattle.stun_judging.proofs.NonceTexts.{all_small, from_small, letters}

abbrev byte_of : Bool → Bool → ℕ
byte_of strong hashes = cond strong 0x80 0 + cond hashes 0x40 0

-- ---- its bits

byte_is_small : (strong hashes : Bool) → byte_of strong hashes < 256
byte_is_small true true = omega arith
byte_is_small true false = omega arith
byte_is_small false true = omega arith
byte_is_small false false = omega arith

pub marked_begins_with_cookie : (byte : ℕ) (behind : List ℕ)
    → begins_with_cookie (front byte ++ behind) ≡ true
unfolding spelled_bits
marked_begins_with_cookie byte behind = refl

pub marked_bits : (set : AlgorithmSet) (feature : Feature) (behind : List ℕ)
    → security_bits (front (security_byte set feature) ++ behind)
    ≡ Some (security_byte set feature ∷ 0 ∷ 0 ∷ [])
marked_bits set feature behind =
    bits_read_back (security_byte set feature) 0 0 behind
    (byte_is_small (contains Sha256 set) (is_possible feature)) (omega arith) (omega arith)

-- ---- what it asks for

asks_by_cases : (strong hashes : Bool)
    → (first_has 0x80 (Some (byte_of strong hashes ∷ 0 ∷ 0 ∷ [])) ≡ strong)
    × (first_has 0x40 (Some (byte_of strong hashes ∷ 0 ∷ 0 ∷ [])) ≡ hashes)
asks_by_cases true true = (refl, refl)
asks_by_cases true false = (refl, refl)
asks_by_cases false true = (refl, refl)
asks_by_cases false false = (refl, refl)

pub marked_asks_for_algorithms : (set : AlgorithmSet) (feature : Feature) (behind : List ℕ)
    → asks_for_algorithms (front (security_byte set feature) ++ behind) ≡ contains Sha256 set
marked_asks_for_algorithms set feature behind =
    ap (first_has 0x80) (marked_bits set feature behind)
    ∙ (asks_by_cases (contains Sha256 set) (is_possible feature)).0

pub marked_asks_for_userhash : (set : AlgorithmSet) (feature : Feature) (behind : List ℕ)
    → asks_for_userhash (front (security_byte set feature) ++ behind) ≡ is_possible feature
marked_asks_for_userhash set feature behind =
    ap (first_has 0x40) (marked_bits set feature behind)
    ∙ (asks_by_cases (contains Sha256 set) (is_possible feature)).1

-- ---- its length and its letters

length-fronts : (strong hashes : Bool) → length (front (byte_of strong hashes)) ≡ 13
unfolding spelled_bits base64_on_literals
length-fronts true true = refl
length-fronts true false = refl
length-fronts false true = refl
length-fronts false false = refl

pub marked_is_short : (set : AlgorithmSet) (feature : Feature) (words : List ℕ)
    → length (front (security_byte set feature) ++ map letter words) ≤ 13 + length words
marked_is_short set feature words =
    let thirteen = length-fronts (contains Sha256 set) (is_possible feature) in
    omega (
      arith,
      thirteen,
      length-append (front (security_byte set feature)) (map letter words),
      length-map words letter,
    )

fronts_are_ascii : (strong hashes : Bool) → IsAscii (front (byte_of strong hashes))
unfolding all_small spelled_bits base64_on_literals
fronts_are_ascii true true = from_small (front 0xc0) refl
fronts_are_ascii true false = from_small (front 0x80) refl
fronts_are_ascii false true = from_small (front 0x40) refl
fronts_are_ascii false false = from_small (front 0) refl

pub marked_is_text : (set : AlgorithmSet) (feature : Feature) (words : List ℕ)
    → IsUtf8 (front (security_byte set feature) ++ map letter words)
marked_is_text set feature words =
    IsUtf8-from_ascii (front (security_byte set feature) ++ map letter words)
    (IsAscii-append (front (security_byte set feature)) (map letter words)
    (fronts_are_ascii (contains Sha256 set) (is_possible feature)) (letters words))

-- ---- the nonces of `LongTermServerAuth`

-- where a server uses a security feature, those are of this form too
plain_or_marked : (strong hashes : Bool) (plain text : List ℕ) → (strong || hashes) ≡ true
    → cond (byte_of strong hashes == 0) plain (front (byte_of strong hashes) ++ text)
    ≡ front (byte_of strong hashes) ++ text
plain_or_marked true true plain text uses = refl
plain_or_marked true false plain text uses = refl
plain_or_marked false true plain text uses = refl
plain_or_marked false false plain text uses = cc

pub nonce_of-marked : (set : AlgorithmSet) (feature : Feature) (words : List ℕ)
    → (contains Sha256 set || is_possible feature) ≡ true
    → nonce_of set feature words ≡ front (security_byte set feature) ++ map letter words
nonce_of-marked set feature words =
    plain_or_marked (contains Sha256 set) (is_possible feature)
    (without_cookie (map letter words)) (map letter words)
