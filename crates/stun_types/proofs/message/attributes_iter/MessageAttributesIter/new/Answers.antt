-- Everything is visible at first, so what is left is all that is visible.
use Rattle.stun_types.proofs.VisibleLemmas.{visible_after-header, visible-few}
use Rattle.stun_types.proofs.message.attributes_iter.MessageAttributesIter.new.Goals as goal

pub returns-clause-visible : goal.returns-clause-visible
returns-clause-visible c = visible_after-header c.args.bytes.now

pub returns-clause-few : goal.returns-clause-few
returns-clause-few c = rw (visible_after-header c.args.bytes.now) (visible-few c.args.bytes.now)
