-- The user whom a request names is enough to judge it, under each nonce.
use Rattle.stun_endpoint.proofs.ResumeLemmas.{resumed_is_received}
use Rattle.stun_endpoint.proofs.laws.resume_is_receive_with_all_users.Goals as goal

pub returns : goal.returns
returns c = λ s users from now bytes lookup.
    resumed_is_received c.the_named_user_is_enough_to_judge.ensures.offering s users from now bytes
    lookup
