-- An address that is there is not put in again, so that the set stays as it was.
use Rattle.std.proofs.Common.{refl, sym, subst}
use Rattle.std.specs.Prelude.{IsTrue}
use Rattle.stun_agent.specs.Agent.{Agent}
use Rattle.stun_agent.specs.Peers.{is_peer}
use Rattle.stun_agent.proofs.PeerLemmas.{changed_peers, with_peer-there}
use Rattle.stun_agent.proofs.agent.StunAgent.validated_peer.Goals as goal

pub returns-clause-there : goal.returns-clause-there
returns-clause-there g c there =
    let keys = c.self.inside.peers.keys in
    let there_inside =
    subst (λ (a : Agent). IsTrue (is_peer c.args.addr a.peers)) (sym c.self.view_is) there in
    let same =
    with_peer-there c.args.addr keys c.add.new.set.keys c.len-stored.ensures.ordered
    c.in_ok-add.ensures.keys there_inside in
    (refl, changed_peers (λ peers. peers) c.add.new.set.keys c.self.view_is same)
