-- With all memory granted an attribute is refused for another reason only.
use Rattle.std.specs.Prelude.{length}
use Rattle.stun_client_endpoint.proofs.MemoryLemmas.{another_granted}
use Rattle.stun_client_endpoint.proofs.piece.add_another.Goals as goal

pub returns-clause-granted : goal.returns-clause-granted
returns-clause-granted g c =
    another_granted c.args.page.now.bytes (g.M.Attribute.kind c.args.attribute.now)
    (length (g.M.Attribute.value c.args.attribute.now)) c.add_another_attribute.result
    c.add_another_attribute.ensures.refused c.add_another_attribute.ensures.granted
