-- Where memory is missing for one addition, and for one list after another.
use Rattle.std.proofs.Common.{[]}
use Rattle.std.proofs.Common.{◌≡◌, ◌≤◌}
use Rattle.std.proofs.Common.{List, ◌∷◌}
use Rattle.std.proofs.Common.{refl, arith}
use Rattle.std.specs.Prelude.{length, map}
use Rattle.stun_base.specs.declared.keys.algorithm.IntegrityAlgorithm.{IntegrityAlgorithm}
use Rattle.stun_types.specs.PasswordAlgorithms.{integrity_of}
use Rattle.stun_types.specs.declared.attribute.password_algorithm.PasswordAlgorithmValue.{
  PasswordAlgorithmValue,
}
use Rattle.stun_judging.specs.AddedAttribute.{password_algorithm, password_algorithms}
use Rattle.stun_auth.specs.ClientSigning.{algorithm_choice}
use Rattle.stun_judging.specs.Additions.{attribute}

pub choice_of_list : (list : List PasswordAlgorithmValue) (algorithm : IntegrityAlgorithm)
    → 1 ≤ length list
    → algorithm_choice (map integrity_of list) algorithm
    ≡ attribute (password_algorithms (map integrity_of list))
    ∷ attribute (password_algorithm algorithm) ∷ []
choice_of_list [] algorithm some = absurd (omega (arith, some))
choice_of_list (first ∷ list) algorithm some = refl
