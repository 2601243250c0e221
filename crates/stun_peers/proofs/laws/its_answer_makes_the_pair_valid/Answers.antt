-- The answer has the id of the check, and is read as it was written.
use Rattle.stun_ice.specs.Agent.{check_bytes}
use Rattle.stun_peers.specs.Peers.{written_check}
use Rattle.stun_peers.proofs.HeardLemmas.{conflict_heard, success_heard}
use Rattle.stun_peers.proofs.MappedLemmas.{mapped_back}
use Rattle.stun_peers.proofs.PeerLemmas.{check_read}
use Rattle.stun_peers.proofs.laws.its_answer_makes_the_pair_valid.Goals as goal

pub returns-clause-valid : goal.returns-clause-valid
returns-clause-valid l =
    λ a b now sent peer id priority nominates to from source agent numbered knows is path.
    let says = check_read a sent id priority nominates agent numbered in
    success_heard now b peer (written_check a sent id to priority nominates) from source
    (check_bytes a sent id priority nominates) knows
    (record { method = says.method; of_id = says.of_id }) numbered.id_fits is path

pub returns-clause-address : goal.returns-clause-address
returns-clause-address l = λ from address id is hidden plain.
    mapped_back from address id is hidden plain.0

pub returns-clause-conflict : goal.returns-clause-conflict
returns-clause-conflict l =
    λ a b now sent peer id priority nominates to source agent numbered knows path.
    let says = check_read a sent id priority nominates agent numbered in
    conflict_heard now b peer (written_check a sent id to priority nominates) source
    (check_bytes a sent id priority nominates) knows
    (record { method = says.method; of_id = says.of_id }) numbered.id_fits path
