-- What was built and what was added are visible, so the reading is of both.
use Rattle.stun_judging.proofs.JoinedLemmas.{WritingLaws}
use Rattle.stun_judging.proofs.SignedReading.{reads_as}
use Rattle.stun_judging.proofs.laws.signed_messages_are_read.Goals as goal

writing : (c : goal.After-signed_message_stands) → WritingLaws
writing c = record {
  shown = c.writing_adds_one_attribute.ensures.shown;
  added = c.writing_adds_one_attribute.ensures.added;
  opened = c.writing_adds_one_attribute.ensures.open;
  stands_signed = c.signed_message_stands.ensures.stands;
  signed = c.signed_message_stands.ensures.added;
}

pub returns : goal.returns
returns c = reads_as (writing c)
