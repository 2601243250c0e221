-- The check is followed through each test of its receiver.
use Rattle.stun_ice.specs.Agent.{check_bytes}
use Rattle.stun_peers.proofs.PeerLemmas.{check_judged, check_read, role_judged}
use Rattle.stun_peers.proofs.laws.a_check_is_accepted_by_its_peer.Goals as goal

pub returns-clause-judged : goal.returns-clause-judged
returns-clause-judged l = λ a b peer c from id priority nominates agent numbered knows.
    check_judged a b peer c from id priority nominates (check_bytes a peer id priority nominates)
    knows (check_read a peer id priority nominates agent numbered)

pub returns-clause-role : goal.returns-clause-role
returns-clause-role l = λ a b peer c from id priority nominates agent numbered knows.
    role_judged a b peer c from id priority nominates (check_bytes a peer id priority nominates)
    knows (check_read a peer id priority nominates agent numbered)
