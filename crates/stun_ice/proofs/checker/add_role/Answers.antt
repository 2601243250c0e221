-- The attribute that is added is that of the role.
use Rattle.stun_ice.proofs.RoleLemmas.{controlled_added, controlling_added}
use Rattle.stun_ice.proofs.checker.add_role.Goals as goal

pub returns-in-Controlling-clause-bytes : goal.returns-in-Controlling-clause-bytes
returns-in-Controlling-clause-bytes g c =
    controlling_added c.add_attribute.result c.add_attribute.new.self.bytes c.args.page.now.bytes
    c.args.role c.new.result c.args.tie_breaker c.in-Controlling.is c.new.ensures
    c.add_attribute.ensures.bytes

pub returns-in-Controlled-clause-bytes : goal.returns-in-Controlled-clause-bytes
returns-in-Controlled-clause-bytes g c =
    controlled_added c.add_attribute-in-Controlled.result
    c.add_attribute-in-Controlled.new.self.bytes c.args.page.now.bytes c.args.role
    c.new-in-Controlled.result c.args.tie_breaker c.in-Controlled.is c.new-in-Controlled.ensures
    c.add_attribute-in-Controlled.ensures.bytes
