-- The outcome is followed from the class of the message to its signer.
use Rattle.stun_endpoint.proofs.SignedLemmas.{answered_is_signed, indicated_is_signed}
use Rattle.stun_endpoint.proofs.SignedLemmas.{requested_is_signed}
use Rattle.stun_endpoint.proofs.laws.outcomes_are_of_signers.Goals as goal

pub returns-clause-requested : goal.returns-clause-requested
returns-clause-requested c = λ s users from bytes request. requested_is_signed s users from bytes
    request

pub returns-clause-indicated : goal.returns-clause-indicated
returns-clause-indicated c = λ s users from bytes indication. indicated_is_signed s users from
    bytes indication

pub returns-clause-answered : goal.returns-clause-answered
returns-clause-answered c = λ s users from bytes answer. answered_is_signed s users from bytes
    answer
