-- The roles of two agents (RFC 8445, section 6.1.1), and how a conflict between them ends (sections
-- 7.2.5.1 and 7.3.1.1).
use Rattle.std.specs.Prelude.{ℕ, Bool, true, false, nat_le, Option, Some, None}
use Rattle.stun_ice.specs.declared.role.Role.{Role}
use Rattle.stun_ice.specs.declared.role.Role.TheVariants.{Controlling, Controlled}

abbrev pub opposite : Role → Role
opposite Controlling = Controlled
opposite Controlled = Controlling

abbrev pub is_same_role : Role → Role → Bool
is_same_role Controlling Controlling = true
is_same_role Controlling Controlled = false
is_same_role Controlled Controlling = false
is_same_role Controlled Controlled = true

-- the role of an agent after a check whose sender has the same role. `true` means that the agent's
-- own tie-breaker counts as the larger one: the agent with the larger tie-breaker is controlling.
-- The result is `None` if the sender has to switch its role
abbrev pub role_after_rival : Role → Bool → Option Role
role_after_rival Controlling true = None
role_after_rival Controlling false = Some Controlled
role_after_rival Controlled true = Some Controlling
role_after_rival Controlled false = None

-- the role of an agent after a check. `ours` is the agent's tie-breaker, and `theirs` is the
-- tie-breaker of the sender if both have the same role. If the tie-breakers are equal, the
-- receiver's counts as the larger (section 7.3.1.1)
abbrev pub role_after_check : Role → ℕ → Option ℕ → Option Role
role_after_check role ours None = Some role
role_after_check role ours (Some theirs) = role_after_rival role (nat_le theirs ours)
