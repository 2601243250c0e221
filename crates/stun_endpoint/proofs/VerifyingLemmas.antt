-- What verifies as another message did verifies under the same key.
use Rattle.std.proofs.Common.{◌≡◌, ℕ, List, Option, Some, None, ◌∙◌}
use Rattle.stun_base.specs.declared.keys.algorithm.IntegrityAlgorithm.{IntegrityAlgorithm}
use Rattle.stun_types.specs.Integrity.{verified_by}
use Rattle.stun_endpoint.specs.Answers.{Signature, VerifiesBy}

pub verifies_by_same : (signature : Option Signature) (before after : List ℕ)
    → VerifiesBy signature before
    → ((keys : IntegrityAlgorithm → List ℕ) → verified_by keys after ≡ verified_by keys before)
    → VerifiesBy signature after
verifies_by_same None before after h same = tt
verifies_by_same (Some by) before after h same = λ keys is. same keys ∙ h keys is
