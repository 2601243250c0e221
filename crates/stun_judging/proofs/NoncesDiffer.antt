-- The letters of a nonce tell what each random word leaves over 62, so other words give another
-- nonce.
use Rattle.std.proofs.Common.{◌≡◌, ℕ, ◌+◌, ◌<◌, ◌≤◌, List, [], ◌∷◌, ◌++◌, map, Bool, true}
use Rattle.std.proofs.Common.{false, refl, sym, ◌∙◌, ap, arith, inl, inr, true≢false}
use Rattle.std.specs.Prelude.{cond, ◌-◌, ◌%◌, ◌==◌, ◌||◌, drop, nat_lt}
use Rattle.std.proofs.Math.Nat.{mod-lt}
use Rattle.std.proofs.lemmas.Bool.{cases_lt, cond_above, cond_below}
use Rattle.std.proofs.lemmas.List.{append_cancel_left}
use Rattle.stun_base.specs.declared.keys.algorithm.IntegrityAlgorithm.TheVariants.{Sha256}
use Rattle.stun_judging.specs.declared.algorithm_set.AlgorithmSet.{AlgorithmSet}
use Rattle.stun_judging.specs.declared.feature.Feature.{Feature}
use Rattle.stun_judging.specs.Algorithms.{contains}
use Rattle.stun_judging.specs.Feature.{is_possible}
use Rattle.stun_judging.specs.Nonces.{begins_with_cookie, front, letter, letter_at, nonce_of}
use Rattle.stun_judging.specs.Nonces.{without_cookie}

-- the number of a letter
abbrev number_of : ℕ → ℕ
number_of x = cond (nat_lt x 58) (x + 4) (cond (nat_lt x 91) (x - 65) (x - 71))

capital : (n : ℕ) → n < 26 → n ≡ number_of (65 + n)
capital n few =
    let back : n ≡ 65 + n - 65 = omega arith in
    cond_above (65 + n) 58 (65 + n + 4) (cond (nat_lt (65 + n) 91) (65 + n - 65) (65 + n - 71)) n
    (omega arith)
    (back ∙ cond_below (65 + n) 91 (65 + n - 65) (65 + n - 71) (omega (arith, few)))

small : (n : ℕ) → 26 ≤ n → n ≡ number_of (71 + n)
small n least =
    let back : n ≡ 71 + n - 71 = omega arith in
    cond_above (71 + n) 58 (71 + n + 4) (cond (nat_lt (71 + n) 91) (71 + n - 65) (71 + n - 71)) n
    (omega arith)
    (cond_above (71 + n) 91 (71 + n - 65) (71 + n - 71) n (omega (arith, least)) back)

digit : (n : ℕ) → 52 ≤ n → n < 62 → n ≡ number_of (n - 4)
digit n least most =
    let back : n ≡ n - 4 + 4 = omega (arith, least) in
    back
    ∙ cond_below (n - 4) 58 (n - 4 + 4) (cond (nat_lt (n - 4) 91) (n - 4 - 65) (n - 4 - 71))
    (omega (arith, least, most))

number_of-letter_at : (n : ℕ) → n < 62 → n ≡ number_of (letter_at n)
number_of-letter_at n most =
    elim (cases_lt n 26) as (λ _. n ≡ number_of (letter_at n)) [
      | inl below ↦
          capital n below
          ∙ ap number_of (cond_below n 26 (65 + n) (cond (nat_lt n 52) (71 + n) (n - 4)) below)
      | inr above ↦ elim (cases_lt n 52) as (λ _. n ≡ number_of (letter_at n)) [
        | inl below ↦
            small n above
            ∙ ap number_of
            (cond_above n 26 (65 + n) (cond (nat_lt n 52) (71 + n) (n - 4)) (71 + n) above
            (cond_below n 52 (71 + n) (n - 4) below))
        | inr far ↦
            digit n far most
            ∙ ap number_of
            (cond_above n 26 (65 + n) (cond (nat_lt n 52) (71 + n) (n - 4)) (n - 4) above
            (cond_above n 52 (71 + n) (n - 4) (n - 4) far refl))
      ]
    ]

-- the letters give back what the words leave over
numbers_of_letters : (words : List ℕ)
    → map (λ word. word % 62) words ≡ map number_of (map letter words)
numbers_of_letters [] = refl
numbers_of_letters (word ∷ words) = λ i.
    number_of-letter_at (word % 62) (mod-lt word (omega arith)) i ∷ numbers_of_letters words i

by_letters : (words others : List ℕ) → map letter words ≡ map letter others
    → map (λ word. word % 62) words ≡ map (λ word. word % 62) others
by_letters words others same =
    numbers_of_letters words ∙ ap (map number_of) same ∙ sym (numbers_of_letters others)

-- the first security byte, by what is supported
abbrev byte_of : Bool → Bool → ℕ
byte_of strong hashes = cond strong 0x80 0 + cond hashes 0x40 0

abbrev with_byte : ℕ → List ℕ → List ℕ
with_byte byte letters = cond (byte == 0) (without_cookie letters) (front byte ++ letters)

letters_behind : (strong hashes : Bool) (xs ys : List ℕ) → (strong || hashes) ≡ true
    → with_byte (byte_of strong hashes) xs ≡ with_byte (byte_of strong hashes) ys → xs ≡ ys
letters_behind true true xs ys some same = append_cancel_left (front 0xc0) xs ys same
letters_behind true false xs ys some same = append_cancel_left (front 0x80) xs ys same
letters_behind false true xs ys some same = append_cancel_left (front 0x40) xs ys same
letters_behind false false xs ys some same = absurd (true≢false (sym some))

pub same_words : (set : AlgorithmSet) (feature : Feature) (words others : List ℕ)
    → (contains Sha256 set || is_possible feature) ≡ true
    → nonce_of set feature words ≡ nonce_of set feature others
    → map (λ word. word % 62) words ≡ map (λ word. word % 62) others
same_words set feature words others some same =
    by_letters words others
    (letters_behind (contains Sha256 set) (is_possible feature) (map letter words)
    (map letter others) some same)

plain_letters : (strong hashes : Bool) (xs ys : List ℕ) → (strong || hashes) ≡ false
    → begins_with_cookie xs ≡ false → begins_with_cookie ys ≡ false
    → with_byte (byte_of strong hashes) xs ≡ with_byte (byte_of strong hashes) ys → xs ≡ ys
plain_letters true hashes xs ys none one other same = absurd (true≢false none)
plain_letters false true xs ys none one other same = absurd (true≢false none)
plain_letters false false xs ys none one other same =
    sym (ap (λ b. cond b (112 ∷ drop 1 xs) xs) one) ∙ same
    ∙ ap (λ b. cond b (112 ∷ drop 1 ys) ys) other

pub same_plain_words : (set : AlgorithmSet) (feature : Feature) (words others : List ℕ)
    → (contains Sha256 set || is_possible feature) ≡ false
    → begins_with_cookie (map letter words) ≡ false
    → begins_with_cookie (map letter others) ≡ false
    → nonce_of set feature words ≡ nonce_of set feature others
    → map (λ word. word % 62) words ≡ map (λ word. word % 62) others
same_plain_words set feature words others none one other same =
    by_letters words others
    (plain_letters (contains Sha256 set) (is_possible feature) (map letter words)
    (map letter others) none one other same)
