-- The attributes are added one by one, and each is found.
use Rattle.stun_peers.proofs.PeerLemmas.{check_read}
use Rattle.stun_peers.proofs.laws.checks_are_read_back.Goals as goal

pub returns : goal.returns
returns c = λ a peer id priority nominates. check_read a peer id priority nominates
