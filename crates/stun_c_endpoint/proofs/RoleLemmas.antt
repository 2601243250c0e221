-- What is told of a role that was set.
use Rattle.std.proofs.Common.{◌≡◌, ℤ, pos, Bool, true, false, Option, if◌then◌else◌, Ok, refl, subst}
use Rattle.std.proofs.Common.{sym}
use Rattle.stun_ice.specs.Agent.{Agent}
use Rattle.stun_c_endpoint.specs.Agents.{SetsRole, controlling_answer}
use Rattle.stun_c_endpoint.specs.Kept.{agent_in}
use Rattle.stun_c_endpoint.specs.declared.handle.endpoint.Kept.{Kept}

pub set_is_told : (a : Agent) (controls : Bool) (result : ℤ) (before now : Option Kept)
    → SetsRole (Ok a) controls result before now
    → controlling_answer (agent_in now) ≡ (if controls then pos 1 else pos 0)
set_is_told a true result before now set =
    subst (λ kept. controlling_answer (agent_in kept) ≡ pos 1) (sym set.1) refl
set_is_told a false result before now set =
    subst (λ kept. controlling_answer (agent_in kept) ≡ pos 0) (sym set.1) refl
