-- A number of success is none of a refusal.
use Rattle.std.proofs.Common.{◌≡◌, ◌≤◌, ◌∙◌, ℕ, ℤ, pos, Bool, true, false, true≢false}
use Rattle.std.proofs.Common.{Some, None, refl, sym, ap, inl, inr, int_lt, ltb-false}
use Rattle.std.proofs.Common.{if◌then◌else◌}
use Rattle.std.specs.Prelude.{nat_lt}
use lib.Dec.{leb-suc-zero}
use Rattle.stun_handles.specs.Numbers.{OrOutOfMemory}
use Rattle.stun_numbers.specs.Refusals.{refusal_number}
use Rattle.stun_numbers.specs.declared.refusal.Refusal.{Refusal}
use Rattle.stun_numbers.specs.declared.refusal.Refusal.TheVariants.{Truncated, OutOfMemory}

-- the number of a refusal is below 0
pub below : (r : Refusal) → int_lt (refusal_number r) (pos 0) ≡ true
below Truncated = refl
below r = refl

pub not_below : (n : ℕ) → int_lt (pos n) (pos 0) ≡ false
not_below n = leb-suc-zero n

pub no_refusal : {A : Type 0} (n : ℕ) (r : Refusal) → pos n ≡ refusal_number r → A
no_refusal n r is =
    absurd (true≢false (sym (below r) ∙ ap (λ z. int_lt z (pos 0)) (sym is) ∙ not_below n))

-- how far a number is from 0
abbrev size : ℤ → ℕ
size (pos n) = n
size other = 0

pub same_number : (m n : ℕ) → pos m ≡ pos n → m ≡ n
same_number m n is = ap size is

-- ---- calls that return 0

pub done : {S : Type 0} (before now after : S) → OrOutOfMemory (pos 0) before now (pos 0) after
    → now ≡ after
done before now after (inl is) = is.1
done before now after (inr failed) = no_refusal 0 OutOfMemory failed.0

-- ---- tests

pub is_so : (b : Bool) (r : Refusal) → (if b then None else Some r) ≡ None → b ≡ true
is_so true r is = refl
is_so false r is = cc

pub is_not_so : (b : Bool) (r : Refusal) → (if b then Some r else None) ≡ None → b ≡ false
is_not_so true r is = cc
is_not_so false r is = refl

pub at_most : (m n : ℕ) (r : Refusal) → (if nat_lt m n then Some r else None) ≡ None → n ≤ m
at_most m n r is = ltb-false m n (is_not_so (nat_lt m n) r is)
