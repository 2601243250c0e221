use Rattle.std.proofs.Common.{◌≡◌, ℕ, ◌<◌}
use Rattle.std.specs.Prelude.{Some}
use Rattle.std.specs.List.{slice_get}
use Rattle.stun_types.proofs.attribute.password_algorithms.PasswordAlgorithms.contains.Given as goal

-- the algorithm is not among those before the index
abbrev pub invariant-loop-i : goal.invariant-loop-i
invariant-loop-i l = (k : ℕ) → k < l.i → slice_get l.self k ≡ Some l.algorithm → ⊥
