-- What signing adds is visible, and is the last of its type.
use Rattle.stun_judging.proofs.JoinedLemmas.{WritingLaws, has_added}
use Rattle.stun_judging.proofs.JoinedReading.{read_back}
use Rattle.stun_judging.proofs.laws.additions_are_read_back.Goals as goal

writing : (c : goal.After-signed_message_stands) → WritingLaws
writing c = record {
  shown = c.writing_adds_one_attribute.ensures.shown;
  added = c.writing_adds_one_attribute.ensures.added;
  opened = c.writing_adds_one_attribute.ensures.open;
  stands_signed = c.signed_message_stands.ensures.stands;
  signed = c.signed_message_stands.ensures.added;
}

pub returns-clause-added : goal.returns-clause-added
returns-clause-added c = has_added (writing c)

pub returns-clause-read : goal.returns-clause-read
returns-clause-read c =
    λ list message room page is_open typed done.
    read_back message list page.bytes
    (has_added (writing c) list message room page is_open typed done)
