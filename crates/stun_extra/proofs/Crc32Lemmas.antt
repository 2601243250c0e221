-- Eight steps of the division at once: the bits of a byte may be subtracted before them, and what
-- is above the lowest byte is only moved.
use Rattle.std.proofs.Common.{◌≡◌, ℕ, zero, suc, ◌+◌, ◌-◌, ◌*◌, ◌/◌, ◌%◌, ◌<◌, ◌^◌}
use Rattle.std.proofs.Common.{Bool, true, false, cond, List, [], ◌∷◌, ◌++◌, ◌≢◌, length}
use Rattle.std.proofs.Common.{refl, sym, ◌∙◌, ap, arith, get_or, map, subst}
use Rattle.std.specs.Prelude.{bit_xor, fold, ◌==◌}
use Rattle.std.specs.Int.{to_le_bytes, w32}
use Rattle.std.specs.List.{AllByRecursion, range_with_len}
use Rattle.std.proofs.Math.Nat.{mul_assoc, pow-suc}
use Rattle.std.proofs.lemmas.List.FromFn.{fill_by_all, get_or-map-range_with_len}
use Rattle.std.proofs.lemmas.Bool.Decides.{nat_tests}
use Rattle.std.proofs.lemmas.List.Sums.{fold-append}
use lib.Bits.{xor_assoc, xor_comm, xor_lt, xor_shr, xor_mod}
use lib.Bits.{xor_self, xor_zero_l, xor_zero_r, xor_shifted}
use Rattle.stun_extra.specs.declared.crc32.TheConstants.{TABLES}
use Rattle.stun_extra.specs.Crc32.{ONES, POLYNOMIAL, after_bit, after_byte, bits_of, crc32}
use Rattle.stun_extra.specs.code.Crc32.{after_zeros}

-- two bits differ where they are not the same
same_bit : (a b : ℕ) → a < 2 → b < 2 → (bit_xor a b == 0) ≡ (a == b)
same_bit zero zero a_bit b_bit = refl
same_bit zero (suc zero) a_bit b_bit = refl
same_bit (suc zero) zero a_bit b_bit = refl
same_bit (suc zero) (suc zero) a_bit b_bit = refl
same_bit (suc (suc a)) b a_bit b_bit = absurd (omega (arith, a_bit))
same_bit zero (suc (suc b)) a_bit b_bit = absurd (omega (arith, b_bit))
same_bit (suc zero) (suc (suc b)) a_bit b_bit = absurd (omega (arith, b_bit))

-- a bit is subtracted, or it and all that come after it before it
after_bit-early : (remainder bits : ℕ)
    → bit_xor (after_bit remainder (bits % 2)) (bits / 2) ≡ after_bit (bit_xor remainder bits) 0
after_bit-early remainder bits =
    let x = remainder / 2 in
    let y = bits / 2 in
    let halves : bit_xor remainder bits / 2 ≡ bit_xor x y = xor_shr remainder bits 1 in
    let lowest : bit_xor remainder bits % 2 ≡ bit_xor (remainder % 2) (bits % 2) =
    xor_mod remainder bits 1 in
    let test : (bit_xor remainder bits % 2 == 0) ≡ (remainder % 2 == bits % 2) =
    ap (λ n. n == 0) lowest ∙ same_bit (remainder % 2) (bits % 2) (omega arith) (omega arith) in
    let by : (t : Bool) → bit_xor (cond t x (bit_xor x POLYNOMIAL)) y
    ≡ cond t (bit_xor x y) (bit_xor (bit_xor x y) POLYNOMIAL) =
    λ t. elim
    t as (λ t. bit_xor (cond t x (bit_xor x POLYNOMIAL)) y
    ≡ cond t (bit_xor x y) (bit_xor (bit_xor x y) POLYNOMIAL)) [
      | true ↦ refl
      | false ↦ xor_assoc x POLYNOMIAL y
          ∙ (ap (bit_xor x) (xor_comm POLYNOMIAL y) ∙ sym (xor_assoc x y POLYNOMIAL))
    ] in
    by (remainder % 2 == bits % 2)
    ∙ (λ i. cond (sym test i) (sym halves i) (bit_xor (sym halves i) POLYNOMIAL))

-- the remainder after so many zeros
abbrev zeros : ℕ → ℕ → ℕ
zeros zero remainder = remainder
zeros (suc n) remainder = zeros n (after_bit remainder 0)

-- the remainder after so many bits of a number, the lowest first
abbrev after_bits : ℕ → ℕ → ℕ → ℕ
after_bits zero remainder bits = remainder
after_bits (suc n) remainder bits = after_bits n (after_bit remainder (bits % 2)) (bits / 2)

-- a half of what is below a power of 2
half_below : (bits power : ℕ) → bits < power * 2 → bits / 2 < power
half_below bits power below = omega (arith, below)

-- bits are subtracted one by one, or all of them first
all_at_once : (n remainder bits : ℕ) → bits < 2 ^ n
    → after_bits n remainder bits ≡ zeros n (bit_xor remainder bits)
all_at_once zero remainder bits below =
    let none : bits ≡ 0 = omega (arith, below) in
    sym (ap (bit_xor remainder) none ∙ xor_zero_r remainder)
all_at_once (suc n) remainder bits below =
    let twice : bits < 2 ^ n * 2 = subst (λ p. bits < p) (pow-suc 2 n) below in
    all_at_once n (after_bit remainder (bits % 2)) (bits / 2) (half_below bits (2 ^ n) twice)
    ∙ ap (zeros n) (after_bit-early remainder bits)

-- the last bit of a number that is twice another, and the others
even : (number half : ℕ) → number ≡ half * 2 → (number % 2 ≡ 0) × (number / 2 ≡ half)
even number half twice = (omega (arith, twice), omega (arith, twice))

-- what is above the bits that are divided is only moved
moved : (n low high : ℕ) → zeros n (bit_xor low (high * 2 ^ n)) ≡ bit_xor (zeros n low) high
moved zero low high = let once : high * 1 ≡ high = omega arith in ap (bit_xor low) once
moved (suc n) low high =
    let bits = high * 2 ^ suc n in
    let twice : bits ≡ high * 2 ^ n * 2 = ap (λ p. high * p) (pow-suc 2 n)
    ∙ sym (mul_assoc high (2 ^ n) 2) in
    let parts = even bits (high * 2 ^ n) twice in
    let first : after_bit (bit_xor low bits) 0 ≡ bit_xor (after_bit low 0) (high * 2 ^ n) =
    sym (after_bit-early low bits) ∙ (λ i. bit_xor (after_bit low (parts.0 i)) (parts.1 i)) in
    ap (zeros n) first ∙ moved n (after_bit low 0) high

-- the bits of a byte, one after the other
after_byte-bits : (remainder byte : ℕ) → after_byte remainder byte ≡ after_bits 8 remainder byte
after_byte-bits remainder byte =
    let b2 : byte / 4 ≡ byte / 2 / 2 = omega arith in
    let b3 : byte / 8 ≡ byte / 2 / 2 / 2 = omega arith in
    let b4 : byte / 16 ≡ byte / 2 / 2 / 2 / 2 = omega arith in
    let b5 : byte / 32 ≡ byte / 2 / 2 / 2 / 2 / 2 = omega arith in
    let b6 : byte / 64 ≡ byte / 2 / 2 / 2 / 2 / 2 / 2 = omega arith in
    let b7 : byte / 128 ≡ byte / 2 / 2 / 2 / 2 / 2 / 2 / 2 = omega arith in
    λ i. after_bit
    (after_bit
    (after_bit
    (after_bit (after_bit (after_bit (after_bit (after_bit remainder (byte % 2)) (byte / 2 % 2))
    (b2 i % 2)) (b3 i % 2)) (b4 i % 2)) (b5 i % 2)) (b6 i % 2)) (b7 i % 2)

-- so a byte is subtracted first
after_byte-zeros : (remainder byte : ℕ) → byte < 256
    → after_byte remainder byte ≡ zeros 8 (bit_xor remainder byte)
after_byte-zeros remainder byte below =
    after_byte-bits remainder byte ∙ all_at_once 8 remainder byte below

-- the remainder after a byte, by that after a byte alone
pub after_byte-by_table : (remainder byte : ℕ) → byte < 256
    → after_byte remainder byte
    ≡ bit_xor (remainder / 256) (after_byte 0 (bit_xor (remainder % 256) byte))
after_byte-by_table remainder byte below =
    let high = remainder / 256 in
    let low = remainder % 256 in
    let low_below : low < 256 = omega arith in
    let sum : high * 256 + low ≡ remainder = omega arith in
    let apart : bit_xor (high * 256) low ≡ remainder = xor_shifted high 8 low low_below ∙ sum in
    let index = bit_xor low byte in
    let first : bit_xor remainder byte ≡ bit_xor index (high * 256) =
    ap (λ r. bit_xor r byte) (sym apart)
    ∙ (xor_assoc (high * 256) low byte ∙ xor_comm (high * 256) index) in
    let alone : zeros 8 index ≡ after_byte 0 index =
    sym (after_byte-zeros 0 index (xor_lt 8 low byte low_below below)
    ∙ ap (zeros 8) (xor_zero_l index)) in
    after_byte-zeros remainder byte below
    ∙ (ap (zeros 8) first
    ∙ (moved 8 index high ∙ (ap (λ n. bit_xor n high) alone ∙ xor_comm (after_byte 0 index) high)))

-- ---- the CRC-32 has 32 bits

after_bit-below : (remainder bit : ℕ) → remainder < 2 ^ 32 → after_bit remainder bit < 2 ^ 32
after_bit-below remainder bit below =
    let half : remainder / 2 < 2 ^ 32 = omega arith in
    let subtracted = xor_lt 32 (remainder / 2) POLYNOMIAL half (omega arith) in
    elim (remainder % 2 == bit) as (λ t. cond t (remainder / 2) (bit_xor (remainder / 2) POLYNOMIAL)
    < 2 ^ 32) [ true ↦ half | false ↦ subtracted ]

fold-below : (remainder : ℕ) (bits : List ℕ) → remainder < 2 ^ 32
    → fold after_bit remainder bits < 2 ^ 32
fold-below remainder [] below = below
fold-below remainder (bit ∷ bits) below =
    fold-below (after_bit remainder bit) bits (after_bit-below remainder bit below)

after_bytes-below : (remainder : ℕ) (bytes : List ℕ) → remainder < 2 ^ 32
    → fold after_byte remainder bytes < 2 ^ 32
after_bytes-below remainder [] below = below
after_bytes-below remainder (byte ∷ bytes) below =
    after_bytes-below (after_byte remainder byte) bytes (fold-below remainder (bits_of byte) below)

pub crc32-below : (bytes : List ℕ) → crc32 bytes < 2 ^ 32
crc32-below bytes =
    xor_lt 32 (fold after_byte ONES bytes) ONES (after_bytes-below ONES bytes (omega arith))
    (omega arith)

-- ---- bytes that differ in one byte

-- the polynomial has its lowest power, which no half of a word has
highest : (n : ℕ) → n < 2 ^ 31 → bit_xor n POLYNOMIAL / 2 ^ 31 ≡ 1
highest n below = let none : n / 2 ^ 31 ≡ 0 =
    omega (arith, below) in xor_shr n POLYNOMIAL 31 ∙ ap (λ k. bit_xor k 1) none

apart : (one other : ℕ) → one < 2 ^ 31 → other < 2 ^ 31 → one ≡ bit_xor other POLYNOMIAL → ⊥
apart one other below other_below same =
    let high = highest other other_below in
    let moved_down = ap (λ n. n / 2 ^ 31) same ∙ high in
    omega (arith, below, moved_down)

-- a word that both are XORed with
cancel : (one other word : ℕ) → bit_xor one word ≡ bit_xor other word → one ≡ other
cancel one other word same =
    let back : (n : ℕ) → bit_xor (bit_xor n word) word ≡ n = λ n. xor_assoc n word word
    ∙ (ap (bit_xor n) (xor_self word) ∙ xor_zero_r n) in
    sym (back one) ∙ (ap (λ n. bit_xor n word) same ∙ back other)

pub equal : (a b : ℕ) → (a == b) ≡ true → a ≡ b
equal a b same = grind (arith, nat_tests)

pub unequal : (a b : ℕ) → (a == b) ≡ false → a ≢ b
unequal a b other = grind (arith, nat_tests)

-- one more bit keeps remainders apart
after_bit-apart : (one other bit : ℕ) → bit < 2 → one < 2 ^ 32 → other < 2 ^ 32
    → after_bit one bit ≡ after_bit other bit → one ≡ other
after_bit-apart one other bit small below other_below same =
    by (one % 2 == bit) (other % 2 == bit) refl refl same
  where
    x : ℕ
    x = one / 2

    y : ℕ
    y = other / 2

    by : (a b : Bool) → (one % 2 == bit) ≡ a → (other % 2 == bit) ≡ b
        → cond a x (bit_xor x POLYNOMIAL) ≡ cond b y (bit_xor y POLYNOMIAL) → one ≡ other
    by true true is other_is halves =
        let first : one % 2 ≡ bit = equal (one % 2) bit is in
        let second : other % 2 ≡ bit = equal (other % 2) bit other_is in
        omega (arith, halves, first, second)
    by true false is other_is halves =
        absurd (apart x y (omega (arith, below)) (omega (arith, other_below)) halves)
    by false true is other_is halves =
        absurd (apart y x (omega (arith, other_below)) (omega (arith, below)) (sym halves))
    by false false is other_is halves =
        let first = unequal (one % 2) bit is in
        let second = unequal (other % 2) bit other_is in
        let half : one / 2 ≡ other / 2 = cancel x y POLYNOMIAL halves in
        omega (arith, half, first, second, small)

bits-apart : (one other : ℕ) (bits : List ℕ) → AllByRecursion (λ bit. bit < 2) bits → one < 2 ^ 32
    → other < 2 ^ 32
    → fold after_bit one bits ≡ fold after_bit other bits → one ≡ other
bits-apart one other [] small below other_below same = same
bits-apart one other (bit ∷ bits) small below other_below same =
    after_bit-apart one other bit small.0 below other_below
    (bits-apart (after_bit one bit) (after_bit other bit) bits small.1
    (after_bit-below one bit below) (after_bit-below other bit other_below) same)

bytes-apart : (one other : ℕ) (bytes : List ℕ) → one < 2 ^ 32 → other < 2 ^ 32
    → fold after_byte one bytes ≡ fold after_byte other bytes → one ≡ other
bytes-apart one other [] below other_below same = same
bytes-apart one other (byte ∷ bytes) below other_below same =
    let bit : (n : ℕ) → n % 2 < 2 = λ n. omega arith in
    bits-apart one other (bits_of byte) (
      bit byte,
      (
        bit (byte / 2),
        (
          bit (byte / 4),
          (
            bit (byte / 8),
            (bit (byte / 16), (bit (byte / 32), (bit (byte / 64), (bit (byte / 128), tt)))),
          ),
        ),
      ),
    )
    below other_below
    (bytes-apart (after_byte one byte) (after_byte other byte) bytes
    (fold-below one (bits_of byte) below) (fold-below other (bits_of byte) other_below) same)

zeros-apart : (n one other : ℕ) → one < 2 ^ 32 → other < 2 ^ 32 → zeros n one ≡ zeros n other
    → one ≡ other
zeros-apart zero one other below other_below same = same
zeros-apart (suc n) one other below other_below same =
    after_bit-apart one other 0 (omega arith) below other_below
    (zeros-apart n (after_bit one 0) (after_bit other 0) (after_bit-below one 0 below)
    (after_bit-below other 0 other_below) same)

-- another byte leaves another remainder
after_byte-apart : (remainder byte other : ℕ) → remainder < 2 ^ 32 → byte < 256 → other < 256
    → after_byte remainder byte ≡ after_byte remainder other → byte ≡ other
after_byte-apart remainder byte other below small other_small same =
    let one = bit_xor remainder byte in
    let two = bit_xor remainder other in
    let equal_zeros : zeros 8 one ≡ zeros 8 two =
    sym (after_byte-zeros remainder byte small)
    ∙ (same ∙ after_byte-zeros remainder other other_small) in
    let wide : one < 2 ^ 32 = xor_lt 32 remainder byte below (omega (arith, small)) in
    let other_wide : two < 2 ^ 32 = xor_lt 32 remainder other below (omega (arith, other_small)) in
    let equal_words = zeros-apart 8 one two wide other_wide equal_zeros in
    cancel byte other remainder (xor_comm byte remainder ∙ (equal_words ∙ xor_comm remainder other))

-- so bytes that differ in one byte have different CRC-32
pub crc32-apart : (front behind : List ℕ) (byte other : ℕ) → byte < 256 → other < 256
    → crc32 (front ++ byte ∷ behind) ≡ crc32 (front ++ other ∷ behind) → byte ≡ other
crc32-apart front behind byte other small other_small same =
    let remainder = fold after_byte ONES front in
    let below = after_bytes-below ONES front (omega arith) in
    let divided =
    cancel (fold after_byte ONES (front ++ byte ∷ behind))
    (fold after_byte ONES (front ++ other ∷ behind)) ONES same in
    let behind_front : fold after_byte (after_byte remainder byte) behind
    ≡ fold after_byte (after_byte remainder other) behind =
    sym (fold-append after_byte ONES front (byte ∷ behind))
    ∙ (divided ∙ fold-append after_byte ONES front (other ∷ behind)) in
    after_byte-apart remainder byte other below small other_small
    (bytes-apart (after_byte remainder byte) (after_byte remainder other) behind
    (fold-below remainder (bits_of byte) below) (fold-below remainder (bits_of other) below)
    behind_front)

-- ---- eight bytes at once: the remainder of a sum is the sum of the remainders

-- the last of three terms may come before the second
xor_last : (a b c : ℕ) → bit_xor (bit_xor a b) c ≡ bit_xor (bit_xor a c) b
xor_last a b c = xor_assoc a b c ∙ (ap (bit_xor a) (xor_comm b c) ∙ sym (xor_assoc a c b))

-- a step of the division, of a sum
sum_of_steps : (a b p q : ℕ) → a < 2 → b < 2
    → cond (bit_xor a b == 0) (bit_xor p q) (bit_xor (bit_xor p q) POLYNOMIAL)
    ≡ bit_xor (cond (a == 0) p (bit_xor p POLYNOMIAL)) (cond (b == 0) q (bit_xor q POLYNOMIAL))
sum_of_steps zero zero p q a_bit b_bit = refl
sum_of_steps zero (suc zero) p q a_bit b_bit = xor_assoc p q POLYNOMIAL
sum_of_steps (suc zero) zero p q a_bit b_bit = xor_last p q POLYNOMIAL
sum_of_steps (suc zero) (suc zero) p q a_bit b_bit =
    sym
    (xor_assoc p POLYNOMIAL (bit_xor q POLYNOMIAL)
    ∙ ap (bit_xor p)
    (ap (bit_xor POLYNOMIAL) (xor_comm q POLYNOMIAL)
    ∙ (sym (xor_assoc POLYNOMIAL POLYNOMIAL q)
    ∙ (ap (λ n. bit_xor n q) (xor_self POLYNOMIAL) ∙ xor_zero_l q))))
sum_of_steps (suc (suc a)) b p q a_bit b_bit = absurd (omega (arith, a_bit))
sum_of_steps zero (suc (suc b)) p q a_bit b_bit = absurd (omega (arith, b_bit))
sum_of_steps (suc zero) (suc (suc b)) p q a_bit b_bit = absurd (omega (arith, b_bit))

after_bit-sum : (x y : ℕ) → after_bit (bit_xor x y) 0 ≡ bit_xor (after_bit x 0) (after_bit y 0)
after_bit-sum x y =
    let halves : bit_xor x y / 2 ≡ bit_xor (x / 2) (y / 2) = xor_shr x y 1 in
    let lowest : bit_xor x y % 2 ≡ bit_xor (x % 2) (y % 2) = xor_mod x y 1 in
    (λ i. cond (lowest i == 0) (halves i) (bit_xor (halves i) POLYNOMIAL))
    ∙ sum_of_steps (x % 2) (y % 2) (x / 2) (y / 2) (omega arith) (omega arith)

zeros-sum : (n x y : ℕ) → zeros n (bit_xor x y) ≡ bit_xor (zeros n x) (zeros n y)
zeros-sum zero x y = refl
zeros-sum (suc n) x y =
    ap (zeros n) (after_bit-sum x y) ∙ zeros-sum n (after_bit x 0) (after_bit y 0)

-- a byte is subtracted from one part of a sum
after_byte-sum : (x y byte : ℕ) → byte < 256
    → after_byte (bit_xor x y) byte ≡ bit_xor (after_byte x byte) (after_byte y 0)
after_byte-sum x y byte below =
    after_byte-zeros (bit_xor x y) byte below
    ∙ (ap (zeros 8) (xor_last x y byte)
    ∙ (zeros-sum 8 (bit_xor x byte) y
    ∙ ap (λ n. bit_xor n (zeros 8 y)) (sym (after_byte-zeros x byte below))))

-- so are all bytes
fold-sum : (x y : ℕ) (bytes : List ℕ) → AllByRecursion (λ byte. byte < 256) bytes
    → fold after_byte (bit_xor x y) bytes
    ≡ bit_xor (fold after_byte x bytes) (after_zeros (length bytes) y)
fold-sum x y [] below = refl
fold-sum x y (byte ∷ bytes) below =
    ap (λ r. fold after_byte r bytes) (after_byte-sum x y byte below.0)
    ∙ fold-sum (after_byte x byte) (after_byte y 0) bytes below.1

-- what the first of several bytes adds to the remainder after all of them
first_byte : (remainder byte : ℕ) (bytes : List ℕ) → byte < 256
    → AllByRecursion (λ byte. byte < 256) bytes
    → fold after_byte remainder (byte ∷ bytes)
    ≡ bit_xor (fold after_byte (remainder / 256) bytes)
    (after_zeros (length bytes) (after_byte 0 (bit_xor (remainder % 256) byte)))
first_byte remainder byte bytes small below =
    ap (λ r. fold after_byte r bytes) (after_byte-by_table remainder byte small)
    ∙ fold-sum (remainder / 256) (after_byte 0 (bit_xor (remainder % 256) byte)) bytes below

-- the same if nothing is left of the remainder
first_alone : (byte : ℕ) (bytes : List ℕ) → AllByRecursion (λ byte. byte < 256) bytes
    → fold after_byte 0 (byte ∷ bytes)
    ≡ bit_xor (fold after_byte 0 bytes) (after_zeros (length bytes) (after_byte 0 byte))
first_alone byte bytes below =
    ap (λ r. fold after_byte r bytes) (sym (xor_zero_l (after_byte 0 byte)))
    ∙ fold-sum 0 (after_byte 0 byte) bytes below

-- the remainder after a byte alone, and so many bytes of zeros
abbrev pub alone : ℕ → ℕ → ℕ
alone n byte = after_zeros n (after_byte 0 byte)

-- items that all fit a byte
all_small : (at : ℕ → ℕ) (k n : ℕ) → ((i : ℕ) → at i < 256)
    → AllByRecursion (λ byte. byte < 256) (map at (range_with_len k n))
all_small at k zero small = tt
all_small at k (suc n) small = (small k, all_small at (k + 1) n small)

-- the sum of those of eight bytes, the first of which are added to those of a remainder
abbrev pub sum_alone : List ℕ → List ℕ → ℕ
sum_alone words bytes =
    let word : ℕ → ℕ = λ i. get_or words i 0 in
    let at : ℕ → ℕ = λ i. get_or bytes i 0 in
    bit_xor
    (bit_xor
    (bit_xor
    (bit_xor
    (bit_xor (bit_xor (bit_xor (alone 0 (at 7)) (alone 1 (at 6))) (alone 2 (at 5)))
    (alone 3 (at 4))) (alone 4 (bit_xor (word 3) (at 3)))) (alone 5 (bit_xor (word 2) (at 2))))
    (alone 6 (bit_xor (word 1) (at 1)))) (alone 7 (bit_xor (word 0) (at 0)))

-- the remainder after eight bytes is that sum
pub eight_alone : (remainder : ℕ) (words bytes : List ℕ) → remainder < 2 ^ 32
    → words ≡ to_le_bytes w32 remainder → length bytes ≡ 8 → ((i : ℕ) → get_or bytes i 0 < 256)
    → sum_alone words bytes ≡ fold after_byte remainder bytes
eight_alone remainder words bytes fits same long small =
    let at : ℕ → ℕ = λ i. get_or bytes i 0 in
    let items : bytes ≡ map at (range_with_len 0 8) =
    fill_by_all at bytes 8 0 long (λ k lt. refl) in
    let below : (k n : ℕ) → AllByRecursion (λ byte. byte < 256) (map at (range_with_len k n)) =
    λ k n. all_small at k n small in
    let r2 : remainder / 256 / 256 % 256 ≡ remainder / 65536 % 256 = omega arith in
    let r3 : remainder / 256 / 256 / 256 % 256 ≡ remainder / 16777216 % 256 = omega arith in
    let r4 : remainder / 256 / 256 / 256 / 256 ≡ 0 = omega (arith, fits) in
    let rest : (n : ℕ) → List ℕ = λ n. map at (range_with_len (8 - n) n) in
    let last : fold after_byte (remainder / 256 / 256 / 256 / 256) (rest 4) ≡ bit_xor
    (bit_xor (bit_xor (alone 0 (at 7)) (alone 1 (at 6))) (alone 2 (at 5))) (alone 3 (at 4)) =
    ap (λ r. fold after_byte r (rest 4)) r4
    ∙ (first_alone (at 4) (rest 3) (below 5 3)
    ∙ ap (λ r. bit_xor r (alone 3 (at 4)))
    (first_alone (at 5) (rest 2) (below 6 2)
    ∙ ap (λ r. bit_xor r (alone 2 (at 5))) (first_alone (at 6) (rest 1) (below 7 1)))) in
    let d = first_byte (remainder / 256 / 256 / 256) (at 3) (rest 4) (small 3) (below 4 4)
    ∙ (λ i. bit_xor (last i) (alone 4 (bit_xor (r3 i) (at 3)))) in
    let c = first_byte (remainder / 256 / 256) (at 2) (rest 5) (small 2) (below 3 5)
    ∙ (λ i. bit_xor (d i) (alone 5 (bit_xor (r2 i) (at 2)))) in
    let b = first_byte (remainder / 256) (at 1) (rest 6) (small 1) (below 2 6)
    ∙ (λ i. bit_xor (c i) (alone 6 (bit_xor (remainder / 256 % 256) (at 1)))) in
    let a = first_byte remainder (at 0) (rest 7) (small 0) (below 1 7)
    ∙ (λ i. bit_xor (b i) (alone 7 (bit_xor (remainder % 256) (at 0)))) in
    ap (λ words. sum_alone words bytes) same ∙ sym (ap (fold after_byte remainder) items ∙ a)

-- the tables have the remainder after each byte alone, and so many bytes of zeros
tables_are : TABLES ≡ map (λ n. map (alone n) (range_with_len 0 256)) (range_with_len 0 8)
tables_are = refl

pub TABLES-entry : (n byte : ℕ) → n < 8 → byte < 256
    → get_or (get_or TABLES n []) byte 0 ≡ alone n byte
TABLES-entry n byte few below =
    ap (λ t. get_or (get_or t n []) byte 0) tables_are
    ∙ (ap (λ t. get_or t byte 0)
    (get_or-map-range_with_len (λ n. map (alone n) (range_with_len 0 256))
    0 8 n n [] few (omega arith))
    ∙ get_or-map-range_with_len (alone n) 0 256 byte byte 0 below (omega arith))
