-- The role is what the check leaves, and nothing else changes.
use Rattle.std.proofs.Common.{◌∙◌, ap}
use Rattle.stun_ice.specs.Agent.{Agent}
use Rattle.stun_ice.specs.Checks.{role_of}
use Rattle.stun_ice.proofs.checker.Checker.answer_check.Goals as goal

pub returns-clause-role : goal.returns-clause-role
returns-clause-role g c =
    let role = c.choose_role-self-inside.ensures
    ∙ ap (λ (a : Agent). role_of a.role c.args.verdict) c.self.view_is in
    λ i. record {
      name = (c.self.view_is i).name;
      password = (c.self.view_is i).password;
      peer = (c.self.view_is i).peer;
      tie_breaker = (c.self.view_is i).tie_breaker;
      role = role i;
    }
