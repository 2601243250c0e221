-- The message is followed through each test.
use Rattle.stun_endpoint.proofs.SignedLemmas.{signed_comes_to, unsigned_comes_to}
use Rattle.stun_endpoint.proofs.SignerLemmas.{signed-iff}
use Rattle.stun_endpoint.proofs.laws.signers_are_known_exactly.Goals as goal

pub returns-clause-signer : goal.returns-clause-signer
returns-clause-signer c = λ users bytes signer. signed-iff users bytes signer

pub returns-clause-accepted : goal.returns-clause-accepted
returns-clause-accepted c = λ s users from bytes signer. signed_comes_to s users from bytes signer

pub returns-clause-refused : goal.returns-clause-refused
returns-clause-refused c = λ s users from bytes. unsigned_comes_to s users from bytes
