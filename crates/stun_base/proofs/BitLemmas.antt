-- When differences of bytes, joined bit by bit, are none.
use Rattle.std.proofs.Common.{◌≡◌, ℕ, ap, arith, bit_or, bit_xor}
use Rattle.std.specs.Int.{bit_at}
use Rattle.std.proofs.lemmas.Nat.Bits.{bit_at_or, bit_at_xor, bit_at-zero}
use Rattle.std.proofs.lemmas.Nat.Bits.{bit_at-lt, same_from_bits}

-- numbers that give 0 by `or` are 0: the first
pub or_zero_first : (a b : ℕ) → bit_or a b ≡ 0 → a ≡ 0
or_zero_first a b none =
    same_from_bits a 0
    (λ i. omega (arith, bit_at_or a b i, ap (λ n. bit_at n i) none, bit_at-zero i))

-- and the second
pub or_zero_second : (a b : ℕ) → bit_or a b ≡ 0 → b ≡ 0
or_zero_second a b none =
    same_from_bits b 0
    (λ i. omega (arith, bit_at_or a b i, ap (λ n. bit_at n i) none, bit_at-zero i))

-- numbers that give 0 by `xor` are equal
pub xor_zero_same : (a b : ℕ) → bit_xor a b ≡ 0 → a ≡ b
xor_zero_same a b none =
    same_from_bits a b
    (λ i. omega (
      arith,
      bit_at_xor a b i,
      ap (λ n. bit_at n i) none,
      bit_at-zero i,
      bit_at-lt a i,
      bit_at-lt b i,
    ))

-- a number that is joined with the differences of two equal ones stays
pub or_xor_self : (a b : ℕ) → a ≡ b → bit_or 0 (bit_xor a b) ≡ 0
or_xor_self a b same =
    same_from_bits (bit_or 0 (bit_xor a b)) 0
    (λ i. omega (
      arith,
      bit_at_or 0 (bit_xor a b) i,
      bit_at_xor a b i,
      ap (λ n. bit_at n i) same,
      bit_at-zero i,
    ))
