use Rattle.std.proofs.Common.{◌≡◌, length}
use Rattle.stun_types.specs.code.PasswordAlgorithms.{are_entries}
use Rattle.stun_types.proofs.attribute.password_algorithms.are_known.Given as goal

-- all are known where those that are left are
abbrev pub invariant-loop-rest : goal.invariant-loop-rest
invariant-loop-rest l = are_entries l.rest ≡ are_entries l.fn.bytes

abbrev pub decreases-loop-rest : goal.decreases-loop-rest
decreases-loop-rest l = length l.rest
