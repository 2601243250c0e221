-- Both are signed and ended in the same way.
use Rattle.std.proofs.Common.{refl}
use Rattle.stun_ice.specs.Agent.{check_bytes}
use Rattle.stun_ice.proofs.laws.checks_in_two_steps_are_checks.Goals as goal

pub returns : goal.returns
unfolding check_bytes
returns c = λ a peer id to priority nominate. refl
