-- The role that is set is the one that is told.
use Rattle.stun_c_endpoint.proofs.RoleLemmas.{set_is_told}
use Rattle.stun_c_endpoint.proofs.laws.set_roles_are_told.Goals as goal

pub returns : goal.returns
returns c = λ a controls result before now. set_is_told a controls result before now
