-- Who is added is found, and nobody else is touched.
use Rattle.stun_c_endpoint.proofs.UserLawLemmas.{by_keys, by_password, by_short_term}
use Rattle.stun_c_endpoint.proofs.users.laws.users_have_the_keys_that_were_passed.Goals as goal

pub returns-clause-password : goal.returns-clause-password
returns-clause-password c = λ u name password before now h. by_password u name password before now h

pub returns-clause-keys : goal.returns-clause-keys
returns-clause-keys c = λ u name sha1 sha256 before now h. by_keys u name sha1 sha256 before now h

pub returns-clause-short_term : goal.returns-clause-short_term
returns-clause-short_term c = λ u name password before now h. by_short_term u name password before now h
