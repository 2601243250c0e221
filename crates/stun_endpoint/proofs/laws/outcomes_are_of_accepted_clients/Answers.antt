-- The outcome is followed from the class of the message to the verdict.
use Rattle.stun_endpoint.proofs.AnsweredLemmas.{answered_is_accepted}
use Rattle.stun_endpoint.proofs.HandedLemmas.{bad_is_malformed, handed_is_accepted}
use Rattle.stun_endpoint.proofs.laws.outcomes_are_of_accepted_clients.Goals as goal

pub returns-clause-accepted : goal.returns-clause-accepted
returns-clause-accepted c = λ s realm from now bytes request. handed_is_accepted s realm from now
    bytes request

pub returns-clause-answered : goal.returns-clause-answered
returns-clause-answered c = λ s realm from now bytes answer. answered_is_accepted s realm from now
    bytes answer

pub returns-clause-no_lockout : goal.returns-clause-no_lockout
returns-clause-no_lockout c = λ s realm from now bytes answer. bad_is_malformed s realm from now
    bytes answer
