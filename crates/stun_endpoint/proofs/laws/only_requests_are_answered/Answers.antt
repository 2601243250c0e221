-- The outcome is followed from the class of the message to the response.
use Rattle.stun_endpoint.proofs.ServedLemmas.{answered_open, answered_requests, answered_short}
use Rattle.stun_endpoint.proofs.laws.only_requests_are_answered.Goals as goal

pub returns-clause-long_term : goal.returns-clause-long_term
returns-clause-long_term c = λ s realm from now bytes answer. answered_requests s realm from now bytes answer

pub returns-clause-short_term : goal.returns-clause-short_term
returns-clause-short_term c = λ s users from bytes answer. answered_short s users from bytes answer

pub returns-clause-no_credentials : goal.returns-clause-no_credentials
returns-clause-no_credentials c = λ s from bytes answer. answered_open s from bytes answer
