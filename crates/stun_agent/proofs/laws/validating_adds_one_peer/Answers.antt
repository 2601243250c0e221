-- An address is put in at its place, and the order of addresses ties equal ones alone.
use Rattle.std.proofs.Common.{◌≡◌, true, subst}
use Rattle.stun_base.specs.Address.{same_address}
use Rattle.stun_agent.proofs.PeerLemmas.{is_peer-with_peer, same_address-exact, same_address-own}
use Rattle.stun_agent.proofs.laws.validating_adds_one_peer.Goals as goal

pub returns-clause-added : goal.returns-clause-added
returns-clause-added c = λ address other peers. is_peer-with_peer address other peers

pub returns-clause-exact : goal.returns-clause-exact
returns-clause-exact c =
    λ address other. (
      λ same. same_address-exact address other same,
      λ same. subst (λ a. same_address address a ≡ true) same (same_address-own address),
    )
