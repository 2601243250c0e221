-- The lengths of digests, keys and spelled attributes.
use Rattle.stun_c.proofs.Lengths.{length-long_term_key, length-userhash_of, length-signed}
use Rattle.stun_c.proofs.laws.stated_lengths.Goals as goal

pub returns-clause-long_term_key : goal.returns-clause-long_term_key
returns-clause-long_term_key c = length-long_term_key

pub returns-clause-userhash : goal.returns-clause-userhash
returns-clause-userhash c = length-userhash_of

pub returns-clause-request : goal.returns-clause-request
returns-clause-request c = length-signed
