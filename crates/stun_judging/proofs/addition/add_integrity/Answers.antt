-- The outcome of adding the integrity attribute.
use Rattle.stun_judging.proofs.Wanting.{signed_by, signing_granted}
use Rattle.stun_judging.proofs.addition.add_integrity.Goals as goal

pub returns-clause-outcome : goal.returns-clause-outcome
returns-clause-outcome g c =
    let told = c.add_message_integrity_with_prepared_key.ensures in
    signed_by g.W.MessageWrite.bytes g.W.MessageWrite.room c.args.algorithm c.args.key.now
    c.args.writer.now c.add_message_integrity_with_prepared_key.new.self _
    c.add_message_integrity_with_prepared_key.result told.refused told.bytes told.room told.succeeds

pub returns-clause-granted : goal.returns-clause-granted
returns-clause-granted g c =
    let told = c.add_message_integrity_with_prepared_key.ensures in
    signing_granted (g.W.MessageWrite.bytes c.args.writer.now)
    (g.W.MessageWrite.room c.args.writer.now) c.args.algorithm
    c.add_message_integrity_with_prepared_key.result told.refused told.granted
