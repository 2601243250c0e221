-- The handles decide both in the same way.
use Rattle.stun_c_endpoint.proofs.CausedLemmas.{both_name_one}
use Rattle.stun_c_endpoint.proofs.laws.both_calls_name_one_cause.Goals as goal

pub returns : goal.returns
returns c = λ server users from seconds bytes r cause result told. both_name_one from seconds bytes
    server users r cause result told
