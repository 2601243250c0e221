-- The request is accepted, and gets the 420.
use Rattle.stun_endpoint.proofs.ServedLemmas.{accepted_unknown, open_unknown, signed_unknown}
use Rattle.stun_endpoint.proofs.laws.unknown_attributes_are_refused.Goals as goal

pub returns-clause-long_term : goal.returns-clause-long_term
returns-clause-long_term c = λ s realm from now bytes client. accepted_unknown s realm from now bytes client

pub returns-clause-short_term : goal.returns-clause-short_term
returns-clause-short_term c = λ s users from bytes signer. signed_unknown s users from bytes signer

pub returns-clause-no_credentials : goal.returns-clause-no_credentials
returns-clause-no_credentials c = λ s from bytes. open_unknown s from bytes
