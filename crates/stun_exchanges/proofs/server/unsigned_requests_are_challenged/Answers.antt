-- The first row of the refusals decides, under each nonce.
use Rattle.stun_exchanges.proofs.UnsignedLemmas.{challenged}
use Rattle.stun_exchanges.proofs.server.unsigned_requests_are_challenged.Goals as goal

pub returns : goal.returns
returns c = challenged
