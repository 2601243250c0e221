-- The row of the nonce is the first that applies, under each nonce that is accepted.
use Rattle.stun_sessions.proofs.StaleLemmas.{forgotten_is_stale}
use Rattle.stun_sessions.proofs.sessions.forgotten_nonces_are_stale.Goals as goal

pub returns : goal.returns
returns c = λ s realm from made now bytes client stays asks is other.
    forgotten_is_stale s (c.nonces_have_the_bits_of_their_server.ensures.bits s) realm from made now
    bytes client stays asks is other
