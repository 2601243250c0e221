-- Tests that hold both, and two numbers, one of which is below the other or not.
use Rattle.std.proofs.Common.{ℕ, zero, suc, ◌≡◌, ◌<◌, ◌≤◌, ◌⊎◌, inl, inr, Bool, true, false, ◌&&◌}
use Rattle.std.proofs.Common.{refl, arith}

pub both : (a b : Bool) → (a && b) ≡ true → (a ≡ true) × (b ≡ true)
both true b h = (refl, h)
both false b h = cc

pub order : (m n : ℕ) → (n < m) ⊎ (m ≤ n)
order zero n = inr (omega arith)
order (suc m) zero = inl (omega arith)
order (suc m) (suc n) = by (order m n)
  where
    by : (n < m) ⊎ (m ≤ n) → (suc n < suc m) ⊎ (suc m ≤ suc n)
    by (inl less) = inl (omega arith)
    by (inr not_less) = inr (omega arith)
