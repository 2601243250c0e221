-- The nonces are tried in turn, and all but one that a request has are stale.
use Rattle.stun_endpoint.specs.Nonces.{epoch_of}
use Rattle.stun_endpoint.proofs.AcceptedLemmas.{accepted_at}
use Rattle.stun_endpoint.proofs.AnsweredLemmas.{accepted_comes_to, refused_comes_to}
use Rattle.stun_endpoint.proofs.laws.requests_are_accepted_under_their_nonces.Goals as goal

pub returns-clause-verdict : goal.returns-clause-verdict
returns-clause-verdict c = λ s realm from now r client. accepted_at s realm from r client
    (epoch_of s now)

pub returns-clause-accepted : goal.returns-clause-accepted
returns-clause-accepted c = λ s realm from now bytes client. accepted_comes_to s realm from now
    bytes client

pub returns-clause-refused : goal.returns-clause-refused
returns-clause-refused c = λ s realm from now bytes. refused_comes_to s realm from now bytes
