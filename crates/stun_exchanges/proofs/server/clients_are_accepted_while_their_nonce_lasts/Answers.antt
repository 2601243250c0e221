-- The nonce of the epoch and that of the epoch before are both looked at.
use Rattle.stun_judging.specs.Reading.{reading_of}
use Rattle.stun_exchanges.proofs.InTimeLemmas.{accepted_within}
use Rattle.stun_exchanges.proofs.server.clients_are_accepted_while_their_nonce_lasts.Goals as goal

pub returns : goal.returns
returns c = λ s realm from made now bytes client stays asks within accepted.
    c.requests_are_accepted_under_their_nonces.ensures.accepted s realm from now bytes client stays
    asks (accepted_within s realm from (reading_of bytes) client made now within accepted)
