-- The attributes decide.
use Rattle.stun_endpoint.proofs.ServedLemmas.{indications, open_indications, signed_indications}
use Rattle.stun_endpoint.proofs.laws.understood_indications_are_handed_out.Goals as goal

pub returns-clause-long_term : goal.returns-clause-long_term
returns-clause-long_term c = λ s realm from now bytes. indications s realm from now bytes

pub returns-clause-short_term : goal.returns-clause-short_term
returns-clause-short_term c = λ s users from bytes signer. signed_indications s users from bytes signer

pub returns-clause-no_credentials : goal.returns-clause-no_credentials
returns-clause-no_credentials c = λ s from bytes. open_indications s from bytes
