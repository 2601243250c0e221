-- What is left passes a test of another address as before, and no test of the forgotten one.
use Rattle.stun_agent.proofs.PeerLemmas.{is_peer-without_peer}
use Rattle.stun_agent.proofs.laws.forgetting_removes_one_peer.Goals as goal

pub returns : goal.returns
returns c = λ address other peers. is_peer-without_peer address other peers
