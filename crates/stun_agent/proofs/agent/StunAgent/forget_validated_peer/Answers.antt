-- The set has each address once, so that without it nothing of the address is left.
use Rattle.stun_agent.specs.Peers.{without_peer}
use Rattle.stun_agent.proofs.PeerLemmas.{changed_peers, without_peer-removed}
use Rattle.stun_agent.proofs.agent.StunAgent.forget_validated_peer.Goals as goal

pub returns : goal.returns
returns g c =
    changed_peers (without_peer c.args.addr) c.remove.new.self.keys c.self.view_is
    (without_peer-removed c.args.addr c.self.inside.peers.keys c.remove.new.self.keys
    c.remove.ensures.keys c.remove.ensures.updates.1)
