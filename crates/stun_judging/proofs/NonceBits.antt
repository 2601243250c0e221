-- What the nonces of a server ask for.
use Rattle.std.proofs.Common.{◌≡◌, ℕ, zero, suc, ◌+◌, ◌<◌, List, [], ◌∷◌, ◌++◌, length, map, Option}
use Rattle.std.proofs.Common.{Some, None, Bool, true, false, refl, ◌∙◌, ap, arith, length-append}
use Rattle.std.proofs.lemmas.Bool.{le-leb}
use Rattle.std.specs.Prelude.{cond, nat_le, ◌==◌, ◌&&◌, take, drop}
use Rattle.base64.specs.Engines.{standard}
use Rattle.base64.specs.GeneralPurpose.{IsBytes, decode_of, encode_of}
use Rattle.base64.specs.Rfc4648.{encode_symbols}
use Rattle.base64.proofs.EngineFacts.{decode_of-encode_of}
use Rattle.base64.proofs.OnLiterals.{base64_on_literals}
use Rattle.stun_base.specs.declared.keys.algorithm.IntegrityAlgorithm.TheVariants.{Sha256}
use Rattle.stun_judging.specs.declared.feature.Feature.{Feature}
use Rattle.stun_judging.specs.Algorithms.{contains}
use Rattle.stun_judging.specs.Feature.{is_possible}
use Rattle.stun_judging.specs.declared.algorithm_set.AlgorithmSet.{AlgorithmSet}
use Rattle.stun_judging.specs.Nonces.{begins_with_cookie, three_bytes, security_bits}
use Rattle.stun_judging.specs.Nonces.{first_has, asks_for_algorithms, asks_for_userhash}
use Rattle.stun_judging.specs.Nonces.{letter, front, spelled_bits, without_cookie, nonce_of}

-- ---- the bits of a front

four_letters : (byte : ℕ) (letters : List ℕ) → length (front byte) ≡ 13
    → nat_le 13 (length (front byte ++ letters)) ≡ true
four_letters byte letters thirteen =
    let all : length (front byte ++ letters) ≡ length (front byte) + length letters =
    length-append (front byte) letters in
    le-leb 13 (length (front byte ++ letters)) (omega arith)

bits_userhash : (letters : List ℕ)
    → security_bits (front 0x40 ++ letters) ≡ Some (0x40 ∷ 0 ∷ 0 ∷ [])
unfolding security_bits spelled_bits base64_on_literals
bits_userhash letters =
    ap (λ b. cond b (Some (0x40 ∷ 0 ∷ 0 ∷ [])) None) (four_letters 0x40 letters refl)

bits_algorithms : (letters : List ℕ)
    → security_bits (front 0x80 ++ letters) ≡ Some (0x80 ∷ 0 ∷ 0 ∷ [])
unfolding security_bits spelled_bits base64_on_literals
bits_algorithms letters =
    ap (λ b. cond b (Some (0x80 ∷ 0 ∷ 0 ∷ [])) None) (four_letters 0x80 letters refl)

bits_both : (letters : List ℕ) → security_bits (front 0xc0 ++ letters) ≡ Some (0xc0 ∷ 0 ∷ 0 ∷ [])
unfolding security_bits spelled_bits base64_on_literals
bits_both letters =
    ap (λ b. cond b (Some (0xc0 ∷ 0 ∷ 0 ∷ [])) None) (four_letters 0xc0 letters refl)

-- ---- letters alone

without_front : (text : List ℕ) → begins_with_cookie text ≡ false → security_bits text ≡ None
unfolding security_bits
without_front text h =
    ap (λ b. cond (b && nat_le 13 (length text))
    (three_bytes (decode_of standard (take 4 (drop 9 text)))) None) h

pub bits_none : (letters : List ℕ) → security_bits (without_cookie letters) ≡ None
bits_none letters =
    elim (begins_with_cookie letters) as (λ b. begins_with_cookie letters ≡ b
    → security_bits (cond b (112 ∷ drop 1 letters) letters) ≡ None) [
      | true ↦ λ h. without_front (112 ∷ drop 1 letters) refl
      | false ↦ λ h. without_front letters h
    ] refl

-- ---- the nonce of a server

-- the first security byte, where Sha256 is supported or not, and a hashed name is possible or not
abbrev byte_of : Bool → Bool → ℕ
byte_of strong hashes = cond strong 0x80 0 + cond hashes 0x40 0

nonce_with : ℕ → List ℕ → List ℕ
nonce_with byte letters = cond (byte == 0) (without_cookie letters) (front byte ++ letters)

-- the bits that a nonce with these properties has
abbrev pub bits_with : Bool → Bool → Option (List ℕ)
bits_with true true = Some (0xc0 ∷ 0 ∷ 0 ∷ [])
bits_with true false = Some (0x80 ∷ 0 ∷ 0 ∷ [])
bits_with false true = Some (0x40 ∷ 0 ∷ 0 ∷ [])
bits_with false false = None

bits_by_cases : (strong hashes : Bool) (letters : List ℕ)
    → security_bits (nonce_with (byte_of strong hashes) letters) ≡ bits_with strong hashes
unfolding nonce_with
bits_by_cases true true letters = bits_both letters
bits_by_cases true false letters = bits_algorithms letters
bits_by_cases false true letters = bits_userhash letters
bits_by_cases false false letters = bits_none letters

pub bits-nonce_of : (algorithms : AlgorithmSet) (feature : Feature) (words : List ℕ)
    → security_bits (nonce_of algorithms feature words)
    ≡ bits_with (contains Sha256 algorithms) (is_possible feature)
unfolding nonce_with
bits-nonce_of algorithms feature words =
    bits_by_cases (contains Sha256 algorithms) (is_possible feature) (map letter words)

asks_by_cases : (strong hashes : Bool) → (first_has 0x80 (bits_with strong hashes) ≡ strong)
    × (first_has 0x40 (bits_with strong hashes) ≡ hashes)
asks_by_cases true true = (refl, refl)
asks_by_cases true false = (refl, refl)
asks_by_cases false true = (refl, refl)
asks_by_cases false false = (refl, refl)

-- it asks for algorithms if and only if Sha256 is supported
pub asks_for_algorithms-nonce_of : (algorithms : AlgorithmSet) (feature : Feature) (words : List ℕ)
    → asks_for_algorithms (nonce_of algorithms feature words) ≡ contains Sha256 algorithms
asks_for_algorithms-nonce_of algorithms feature words =
    ap (first_has 0x80) (bits-nonce_of algorithms feature words)
    ∙ (asks_by_cases (contains Sha256 algorithms) (is_possible feature)).0

-- it asks for hashed names if and only if these are possible
pub asks_for_userhash-nonce_of : (algorithms : AlgorithmSet) (feature : Feature) (words : List ℕ)
    → asks_for_userhash (nonce_of algorithms feature words) ≡ is_possible feature
asks_for_userhash-nonce_of algorithms feature words =
    ap (first_has 0x40) (bits-nonce_of algorithms feature words)
    ∙ (asks_by_cases (contains Sha256 algorithms) (is_possible feature)).1

-- ---- bits that were spelled

three_small : (a b c : ℕ) → a < 256 → b < 256 → c < 256 → IsBytes (a ∷ b ∷ c ∷ [])
three_small a b c small_a small_b small_c zero = small_a
three_small a b c small_a small_b small_c (suc zero) = small_b
three_small a b c small_a small_b small_c (suc (suc zero)) = small_c
three_small a b c small_a small_b small_c (suc (suc (suc i))) = omega arith

letters_behind : (a b c : ℕ) (text : List ℕ)
    → take 4 (drop 9 (spelled_bits (a ∷ b ∷ c ∷ []) ++ text)) ≡ encode_of standard (a ∷ b ∷ c ∷ [])
unfolding spelled_bits encode_symbols
letters_behind a b c text = refl

length-spelled_bits : (a b c : ℕ) → length (spelled_bits (a ∷ b ∷ c ∷ [])) ≡ 13
unfolding spelled_bits encode_symbols
length-spelled_bits a b c = refl

-- they are read again, whatever follows them
pub bits_read_back : (a b c : ℕ) (text : List ℕ) → a < 256 → b < 256 → c < 256
    → security_bits (spelled_bits (a ∷ b ∷ c ∷ []) ++ text) ≡ Some (a ∷ b ∷ c ∷ [])
unfolding security_bits spelled_bits
bits_read_back a b c text small_a small_b small_c =
    let bytes : List ℕ = a ∷ b ∷ c ∷ [] in
    let thirteen = length-spelled_bits a b c in
    let both = length-append (spelled_bits bytes) text in
    let long : nat_le 13 (length (spelled_bits bytes ++ text)) ≡ true =
    le-leb 13 (length (spelled_bits bytes ++ text)) (omega (arith, thirteen, both)) in
    ap (λ x.
    cond x (three_bytes (decode_of standard (take 4 (drop 9 (spelled_bits bytes ++ text)))))
    None) long
    ∙ ap (λ letters. three_bytes (decode_of standard letters)) (letters_behind a b c text)
    ∙ ap three_bytes
    (decode_of-encode_of standard bytes refl (three_small a b c small_a small_b small_c))
