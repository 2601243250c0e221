-- The nonces of a server are texts, and those of the same settings have the same security bits.
use Rattle.std.proofs.Common.{◌≡◌, ℕ, zero, suc, ◌+◌, ◌-◌, ◌<◌, ◌%◌, Bool, true, false}
use Rattle.std.proofs.Common.{List, [], ◌∷◌, ◌++◌, map, refl, sym, ◌∙◌, ap, arith}
use Rattle.std.specs.Prelude.{cond, ◌==◌, ◌&&◌, ◌||◌, nat_lt, drop, IsUtf8}
use Rattle.std.specs.Option.{is_some}
use Rattle.std.specs.Str.{IsAscii}
use Rattle.std.proofs.Math.Nat.{mod-lt}
use Rattle.std.proofs.lemmas.Bool.{ltb-true}
use Rattle.std.proofs.lemmas.Str.{IsAscii-append, IsAscii-drop, IsUtf8-from_ascii}
use Rattle.std.proofs.lemmas.Str.Ascii.{IsAscii-nil}
use Rattle.base64.proofs.OnLiterals.{base64_on_literals}
use Rattle.stun_base.specs.declared.keys.algorithm.IntegrityAlgorithm.TheVariants.{Sha256}
use Rattle.stun_judging.specs.declared.algorithm_set.AlgorithmSet.{AlgorithmSet}
use Rattle.stun_judging.specs.declared.feature.Feature.{Feature}
use Rattle.stun_judging.specs.Algorithms.{contains}
use Rattle.stun_judging.specs.Feature.{is_possible}
use Rattle.stun_judging.specs.Nonces.{begins_with_cookie, front, letter, letter_at}
use Rattle.stun_judging.specs.Nonces.{nonce_of, security_bits, spelled_bits, without_cookie}
use Rattle.stun_judging.proofs.NonceBits.{bits-nonce_of, bits_with}

-- ---- texts

in_front : (b : ℕ) (bytes : List ℕ) → b < 128 → IsAscii bytes → IsAscii (b ∷ bytes)
in_front b bytes small ascii zero = small
in_front b bytes small ascii (suc i) = ascii i

unfoldable pub all_small : List ℕ → Bool
all_small [] = true
all_small (b ∷ bytes) = nat_lt b 128 && all_small bytes

both : (a b : Bool) → (a && b) ≡ true → (a ≡ true) × (b ≡ true)
both true b h = (refl, h)
both false b h = cc

pub from_small : (bytes : List ℕ) → all_small bytes ≡ true → IsAscii bytes
unfolding all_small
from_small [] h = IsAscii-nil
from_small (b ∷ bytes) h =
    let split = both (nat_lt b 128) (all_small bytes) h in
    in_front b bytes (ltb-true b 128 split.0) (from_small bytes split.1)

small_letter : (n : ℕ) → n < 62 → letter_at n < 128
small_letter n h =
    elim (nat_lt n 26) as (λ b. nat_lt n 26 ≡ b
    → cond b (65 + n) (cond (nat_lt n 52) (71 + n) (n - 4)) < 128) [
      | true ↦ λ _. omega arith
      | false ↦ λ _.
          elim (nat_lt n 52) as (λ b. nat_lt n 52 ≡ b → cond b (71 + n) (n - 4) < 128) [
            | true ↦ λ e. let below = ltb-true n 52 e in omega arith
            | false ↦ λ _. omega arith
          ] refl
    ] refl

pub letters : (words : List ℕ) → IsAscii (map letter words)
letters [] = IsAscii-nil
letters (word ∷ words) =
    in_front (letter word) (map letter words) (small_letter (word % 62) (mod-lt word (omega arith)))
    (letters words)

uncookied : (text : List ℕ) → IsAscii text → IsAscii (without_cookie text)
uncookied text ascii =
    elim (begins_with_cookie text) as (λ b. IsAscii (cond b (112 ∷ drop 1 text) text)) [
      | true ↦ in_front 112 (drop 1 text) (omega arith) (IsAscii-drop text 1 ascii)
      | false ↦ ascii
    ]

front_userhash : IsAscii (front 0x40)
unfolding all_small spelled_bits base64_on_literals
front_userhash = from_small (front 0x40) refl

front_algorithms : IsAscii (front 0x80)
unfolding all_small spelled_bits base64_on_literals
front_algorithms = from_small (front 0x80) refl

front_both : IsAscii (front 0xc0)
unfolding all_small spelled_bits base64_on_literals
front_both = from_small (front 0xc0) refl

abbrev byte_of : Bool → Bool → ℕ
byte_of strong hashes = cond strong 0x80 0 + cond hashes 0x40 0

ascii_by_cases : (strong hashes : Bool) (text : List ℕ) → IsAscii text
    → IsAscii
    (cond (byte_of strong hashes == 0) (without_cookie text)
    (front (byte_of strong hashes) ++ text))
ascii_by_cases true true text ascii = IsAscii-append (front 0xc0) text front_both ascii
ascii_by_cases true false text ascii = IsAscii-append (front 0x80) text front_algorithms ascii
ascii_by_cases false true text ascii = IsAscii-append (front 0x40) text front_userhash ascii
ascii_by_cases false false text ascii = uncookied text ascii

pub nonce_is_text : (set : AlgorithmSet) (feature : Feature) (words : List ℕ)
    → IsUtf8 (nonce_of set feature words)
nonce_is_text set feature words =
    IsUtf8-from_ascii (nonce_of set feature words)
    (ascii_by_cases (contains Sha256 set) (is_possible feature) (map letter words) (letters words))

-- ---- bits

there_by_cases : (strong hashes : Bool) → is_some (bits_with strong hashes) ≡ (strong || hashes)
there_by_cases true true = refl
there_by_cases true false = refl
there_by_cases false true = refl
there_by_cases false false = refl

pub bits_there : (set : AlgorithmSet) (feature : Feature) (words : List ℕ)
    → is_some (security_bits (nonce_of set feature words))
    ≡ (contains Sha256 set || is_possible feature)
bits_there set feature words =
    ap is_some (bits-nonce_of set feature words)
    ∙ there_by_cases (contains Sha256 set) (is_possible feature)

pub bits_alike : (set : AlgorithmSet) (feature : Feature) (words others : List ℕ)
    → security_bits (nonce_of set feature words) ≡ security_bits (nonce_of set feature others)
bits_alike set feature words others =
    bits-nonce_of set feature words ∙ sym (bits-nonce_of set feature others)
