-- A byte that is changed before FINGERPRINT.
use Rattle.std.proofs.Common.{◌≡◌, ℕ, suc, ◌+◌, ◌-◌, ◌<◌, Bool, true, false, cond}
use Rattle.std.proofs.Common.{List, ◌∷◌, ◌++◌, length, take, refl, sym, ◌∙◌, ap, arith}
use Rattle.std.specs.Prelude.{Some, bit_xor, ◌==◌}
use Rattle.std.proofs.Math.Seq.{take-append-add}
use lib.Bits.{xor_assoc, xor_self, xor_zero_r}
use Rattle.byteorder.specs.Endian.{big_number}
use Rattle.stun_base.specs.Attributes.{FINGERPRINT}
use Rattle.stun_types.specs.Integrity.{first_of}
use Rattle.stun_types.specs.Visible.{visible}
use Rattle.stun_types.specs.Walk.{Member}
use Rattle.stun_extra.specs.Crc32.{crc32}
use Rattle.stun_extra.specs.Fingerprint.{FINGERPRINT_XOR, fingerprint_at, fingerprint_if}
use Rattle.stun_extra.specs.Fingerprint.{fingerprint_in, fingerprint_word, is_in_place}
use Rattle.stun_extra.specs.declared.fingerprint.Fingerprint.TheVariants.{Right, Wrong, Misplaced}
use Rattle.stun_extra.proofs.Crc32Lemmas.{crc32-apart, equal}

-- a valid FINGERPRINT has the number of what is before it
right_at : (bytes : List ℕ) (m : Member) → fingerprint_at bytes m ≡ Right
    → big_number 4 m.1.value ≡ fingerprint_word (take m.0 bytes)
right_at bytes m right =
    by (is_in_place bytes m) (big_number 4 m.1.value == fingerprint_word (take m.0 bytes))
    refl right
  where
    by : (placed same : Bool)
        → (big_number 4 m.1.value == fingerprint_word (take m.0 bytes)) ≡ same
        → cond placed (cond same Right Wrong) Misplaced ≡ Right
        → big_number 4 m.1.value ≡ fingerprint_word (take m.0 bytes)
    by true true is answer = equal (big_number 4 m.1.value) (fingerprint_word (take m.0 bytes)) is
    by true false is answer = absurd (cc)
    by false same is answer = absurd (cc)

-- a number that both are XORed with
cancel : (one other word : ℕ) → bit_xor one word ≡ bit_xor other word → one ≡ other
cancel one other word same =
    let back : (n : ℕ) → bit_xor (bit_xor n word) word ≡ n = λ n. xor_assoc n word word
    ∙ (ap (bit_xor n) (xor_self word) ∙ xor_zero_r n) in
    sym (back one) ∙ (ap (λ n. bit_xor n word) same ∙ back other)

-- two messages with the same FINGERPRINT that differ in one byte before it: one at most is right
pub fingerprint-changed : (front behind : List ℕ) (byte other : ℕ) (m : Member) → byte < 256
    → other < 256 → length front < m.0
    → first_of FINGERPRINT (visible (front ++ byte ∷ behind)) ≡ Some m
    → first_of FINGERPRINT (visible (front ++ other ∷ behind)) ≡ Some m
    → fingerprint_in (front ++ byte ∷ behind) ≡ Right
    → fingerprint_in (front ++ other ∷ behind) ≡ Right → byte ≡ other
fingerprint-changed front behind byte other m small other_small before found other_found right
    other_right =
    let one = front ++ byte ∷ behind in
    let two = front ++ other ∷ behind in
    let n = m.0 - length front - 1 in
    let place : m.0 ≡ length front + suc n = omega (arith, before) in
    let number = right_at one m (sym (ap (fingerprint_if one) found) ∙ right) in
    let other_number = right_at two m (sym (ap (fingerprint_if two) other_found) ∙ other_right) in
    let same : crc32 (take m.0 one) ≡ crc32 (take m.0 two) =
    cancel (crc32 (take m.0 one)) (crc32 (take m.0 two)) FINGERPRINT_XOR
    (sym number ∙ other_number) in
    let covered : take m.0 one ≡ front ++ byte ∷ take n behind = ap (λ k. take k one) place
    ∙ take-append-add front (byte ∷ behind) (suc n) in
    let other_covered : take m.0 two ≡ front ++ other ∷ take n behind = ap (λ k. take k two) place
    ∙ take-append-add front (other ∷ behind) (suc n) in
    crc32-apart front (take n behind) byte other small other_small
    (sym (ap crc32 covered) ∙ (same ∙ ap crc32 other_covered))
