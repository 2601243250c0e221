-- The outcome of adding one attribute.
use Rattle.std.specs.Prelude.{length}
use Rattle.stun_judging.proofs.Wanting.{added_by, attribute_granted}
use Rattle.stun_judging.proofs.addition.add_made.Goals as goal

pub returns-clause-added : goal.returns-clause-added
returns-clause-added g c =
    added_by g.W.MessageWrite.bytes g.W.MessageWrite.room
    (record {
      kind = g.M.Attribute.kind c.args.made.now;
      value = g.M.Attribute.value c.args.made.now;
    })
    c.args.writer.now c.add_attribute.new.self _ _ c.add_attribute.result c.requires.within_limit
    c.add_attribute.ensures.refused c.add_attribute.ensures.bytes c.add_attribute.ensures.room
    c.add_attribute.ensures.reserved c.add_attribute.ensures.succeeds

pub returns-clause-granted : goal.returns-clause-granted
returns-clause-granted g c =
    attribute_granted (g.W.MessageWrite.bytes c.args.writer.now)
    (g.W.MessageWrite.room c.args.writer.now) (g.M.Attribute.kind c.args.made.now)
    (length (g.M.Attribute.value c.args.made.now)) c.add_attribute.result
    c.add_attribute.ensures.refused c.add_attribute.ensures.granted
