-- Bits that are set one by one.
use Rattle.std.proofs.Common.{◌≡◌, ℕ, zero, suc, ◌*◌, ◌/◌, ◌%◌, ◌<◌, ◌^◌, Bool, true}
use Rattle.std.proofs.Common.{false, List, length, get_or, refl, sym, ◌∙◌, ap, arith}
use Rattle.std.proofs.Common.{◌≢◌, replicate, get_or-set_same, get_or-set_other}
use Rattle.std.specs.Prelude.{bit_or, ◌==◌, ◌||◌, slice_set}
use Rattle.std.specs.Int.{bit_at}
use Rattle.std.proofs.lemmas.Bool.Decides.{nat_tests}
use Rattle.std.proofs.lemmas.Nat.Bits.{bit_at_set_same, bit_at_set_other, bit_at-zero}
use Rattle.stun_extra.specs.code.Told.{is_set}
use Rattle.stun_extra.proofs.Crc32Lemmas.{equal, unequal}
use mir.Syntax.{w64}

-- a word with one more bit
abbrev pub with_bit : ℕ → ℕ → ℕ
with_bit word place = bit_or word (1 * 2 ^ place % 2 ^ 64)

differ : (a b : ℕ) → a ≢ b → (a == b) ≡ false
differ a b other = grind (arith, nat_tests)

alike : (a b : ℕ) → a ≡ b → (a == b) ≡ true
alike a b same = grind (arith, nat_tests)

or_true : (b : Bool) → (b || true) ≡ true
or_true true = refl
or_true false = refl

or_false : (b : Bool) → (b || false) ≡ b
or_false true = refl
or_false false = refl

-- one more type is told
pub is_set-added : (words : List ℕ) (kind other : ℕ) → kind / 64 < length words
    → is_set (slice_set words (kind / 64) (with_bit (get_or words (kind / 64) 0) (kind % 64)))
    other ≡ (is_set words other || (other == kind))
is_set-added words kind other within =
    by (other / 64 == kind / 64) (other % 64 == kind % 64) refl refl
  where
    word : ℕ
    word = get_or words (kind / 64) 0

    longer : List ℕ
    longer = slice_set words (kind / 64) (with_bit word (kind % 64))

    below : kind % 64 < 64
    below = omega arith

    at_word : other / 64 ≡ kind / 64 → get_or longer (other / 64) 0 ≡ with_bit word (kind % 64)
    at_word same = ap (λ i. get_or longer i 0) same ∙ rw get_or-set_same refl

    by : (a b : Bool) → (other / 64 == kind / 64) ≡ a → (other % 64 == kind % 64) ≡ b
        → is_set longer other ≡ (is_set words other || (other == kind))
    by true true same_word same_place =
        let w : other / 64 ≡ kind / 64 = equal (other / 64) (kind / 64) same_word in
        let p : other % 64 ≡ kind % 64 = equal (other % 64) (kind % 64) same_place in
        let is : other ≡ kind = omega (arith, w, p) in
        let set : bit_at (with_bit word (kind % 64)) (other % 64) ≡ 1 =
        ap (bit_at (with_bit word (kind % 64))) p ∙ bit_at_set_same w64 word (kind % 64) below in
        (λ i. bit_at (at_word w i) (other % 64) == 1)
        ∙ (ap (λ n. n == 1) set
        ∙ sym (ap (λ b. is_set words other || b) (alike other kind is)
        ∙ or_true (is_set words other)))
    by true false same_word other_place =
        let w : other / 64 ≡ kind / 64 = equal (other / 64) (kind / 64) same_word in
        let p = unequal (other % 64) (kind % 64) other_place in
        let not_it : other ≢ kind = λ is. p (ap (λ n. n % 64) is) in
        let kept : bit_at (with_bit word (kind % 64)) (other % 64) ≡ bit_at word (other % 64) =
        bit_at_set_other w64 word (kind % 64) below (other % 64) p in
        (λ i. bit_at (at_word w i) (other % 64) == 1)
        ∙ (ap (λ n. n == 1) kept ∙ (ap (λ k. bit_at (get_or words k 0) (other % 64) == 1) (sym w)
        ∙ sym (ap (λ b. is_set words other || b) (differ other kind not_it)
        ∙ or_false (is_set words other))))
    by false b other_word place =
        let w : other / 64 ≢ kind / 64 = unequal (other / 64) (kind / 64) other_word in
        let not_it : other ≢ kind = λ is. w (ap (λ n. n / 64) is) in
        let kept : get_or longer (other / 64) 0 ≡ get_or words (other / 64) 0 =
        rw get_or-set_other refl in
        (λ i. bit_at (kept i) (other % 64) == 1)
        ∙ sym (ap (λ b. is_set words other || b) (differ other kind not_it)
        ∙ or_false (is_set words other))

-- none is told
zero_words : (n i : ℕ) → get_or {A = ℕ} (replicate n 0) i 0 ≡ zero
zero_words zero i = refl
zero_words (suc n) zero = refl
zero_words (suc n) (suc i) = zero_words n i

pub is_set-none : (n kind : ℕ) → is_set (replicate n 0) kind ≡ false
is_set-none n kind =
    ap (λ word. bit_at word (kind % 64) == 1) (zero_words n (kind / 64))
    ∙ ap (λ n. n == 1) (bit_at-zero (kind % 64))
