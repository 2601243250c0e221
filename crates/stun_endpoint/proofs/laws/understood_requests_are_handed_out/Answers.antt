-- The request is accepted, and the server has no answer to it.
use Rattle.stun_endpoint.proofs.ServedLemmas.{accepted_handed, open_handed, signed_handed}
use Rattle.stun_endpoint.proofs.laws.understood_requests_are_handed_out.Goals as goal

pub returns-clause-long_term : goal.returns-clause-long_term
returns-clause-long_term c = λ s realm from now bytes client. accepted_handed s realm from now bytes client

pub returns-clause-short_term : goal.returns-clause-short_term
returns-clause-short_term c = λ s users from bytes signer. signed_handed s users from bytes signer

pub returns-clause-no_credentials : goal.returns-clause-no_credentials
returns-clause-no_credentials c = λ s from bytes. open_handed s from bytes
