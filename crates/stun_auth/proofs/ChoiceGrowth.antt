-- What additions take, and why texts are refused.
use Rattle.std.proofs.Common.{[]}
use Rattle.std.proofs.Common.{◌≡◌, ◌+◌, ◌*◌, ◌≤◌, List, ◌∷◌}
use Rattle.std.proofs.Common.{arith}
use Rattle.std.specs.Prelude.{length, map}
use Rattle.stun_base.specs.declared.keys.algorithm.IntegrityAlgorithm.{IntegrityAlgorithm}
use Rattle.stun_base.specs.declared.keys.algorithm.IntegrityAlgorithm.TheVariants.{Sha1, Sha256}
use Rattle.stun_types.specs.PasswordAlgorithms.{integrity_of}
use Rattle.stun_types.specs.declared.attribute.password_algorithm.PasswordAlgorithmValue.{
  PasswordAlgorithmValue,
}
use Rattle.stun_judging.specs.Additions.{growth}
use Rattle.stun_auth.specs.ClientSigning.{algorithm_choice}
use Rattle.stun_judging.proofs.AdditionLemmas.{growth-list}

pub growth-choice : (list : List PasswordAlgorithmValue) (algorithm : IntegrityAlgorithm)
    → 1 ≤ length list
    → growth (algorithm_choice (map integrity_of list) algorithm) ≡ 4 * length list + 12
growth-choice [] algorithm some = absurd (omega arith)
growth-choice (first ∷ list) Sha1 some = omega (arith, growth-list (first ∷ list))
growth-choice (first ∷ list) Sha256 some = omega (arith, growth-list (first ∷ list))
