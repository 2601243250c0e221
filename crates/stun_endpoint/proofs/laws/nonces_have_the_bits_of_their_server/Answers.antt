-- The bits are spelled behind the cookie, and read back.
use Rattle.stun_endpoint.proofs.NonceLemmas.{begins, bits, short, text}
use Rattle.stun_endpoint.proofs.FeatureLemmas.{other_bits_cause, without_bits}
use Rattle.stun_endpoint.proofs.laws.nonces_have_the_bits_of_their_server.Goals as goal

pub returns-clause-cookie : goal.returns-clause-cookie
returns-clause-cookie c = begins

pub returns-clause-bits : goal.returns-clause-bits
returns-clause-bits c = bits

pub returns-clause-text : goal.returns-clause-text
returns-clause-text c = text

pub returns-clause-short : goal.returns-clause-short
returns-clause-short c = short

pub returns-clause-other_bits : goal.returns-clause-other_bits
returns-clause-other_bits c = other_bits_cause

pub returns-clause-no_bits : goal.returns-clause-no_bits
returns-clause-no_bits c = without_bits
