-- A request signed for a challenge by the rule is not bid down.
use Rattle.stun_client.proofs.DowngradeLemmas.{not_bid_down}
use Rattle.stun_client.proofs.laws.signed_requests_are_not_bid_down.Goals as goal

pub returns : goal.returns
returns c = λ p challenge class error bytes by_rule reads users feature ours offered current.
    not_bid_down p challenge class error bytes by_rule reads users feature ours offered current
