use Rattle.std.proofs.Common.{◌≡◌, ℕ, ◌<◌}
use Rattle.std.specs.List.{slice_get}
use Rattle.stun_types.proofs.attribute.password_algorithms.PasswordAlgorithms.equals.Given as goal

-- the lists agree before the index
abbrev pub invariant-loop-i : goal.invariant-loop-i
invariant-loop-i l = (k : ℕ) → k < l.i → slice_get l.self k ≡ slice_get l.algorithms k
