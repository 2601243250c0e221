-- The numbers of refusals are negative.
use Rattle.stun_types.specs.Message.{refusal}
use Rattle.stun_types.specs.Integrity.{integrity_refusal, verified_algorithm}
use Rattle.stun_extra.specs.Fingerprint.{fingerprint_in}
use Rattle.stun_c.proofs.CarriedLemmas.{parsed, right, verified}
use Rattle.stun_c.proofs.laws.verdicts_are_those_of_the_library.Goals as goal

pub returns-clause-valid : goal.returns-clause-valid
returns-clause-valid c = λ bytes key n.
    verified (refusal bytes) (verified_algorithm bytes key) (integrity_refusal bytes) n

pub returns-clause-message : goal.returns-clause-message
returns-clause-message c = λ bytes. parsed (refusal bytes)

pub returns-clause-fingerprint : goal.returns-clause-fingerprint
returns-clause-fingerprint c = λ bytes. right (refusal bytes) (fingerprint_in bytes)
