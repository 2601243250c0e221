-- The same row of the table refuses under either secret, and whoever is accepted is another user.
use Rattle.stun_exchanges.proofs.OtherSecretLemmas.{received-alike, received-unregistered}
use Rattle.stun_exchanges.proofs.server.outcomes_tell_no_password.Goals as goal

pub returns-clause-received : goal.returns-clause-received
returns-clause-received c = λ s realm name one other from now bytes under_one under_other.
    received-alike s realm name one other from now bytes under_one under_other

pub returns-clause-unregistered : goal.returns-clause-unregistered
returns-clause-unregistered c = λ s realm name secret from now bytes no_hash is under.
    received-unregistered s realm name secret from now bytes no_hash is under
