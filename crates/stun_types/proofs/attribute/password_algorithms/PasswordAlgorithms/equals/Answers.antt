-- Lists of one length that agree at each index are equal.
use Rattle.std.proofs.Common.{refl, arith}
use Rattle.stun_types.proofs.EntryLemmas.{same_entries}
use Rattle.stun_types.proofs.attribute.password_algorithms.PasswordAlgorithms.equals.Goals as goal

pub returns : goal.returns
returns c = (
  λ _. same_entries c.args.self.now c.args.algorithms.now (omega arith)
      (λ k below. c.loop-i.invariant k (omega arith)),
  λ _. refl,
)
