-- A message of a header, or of ERROR-CODE alone, has none of what signing adds.
use Rattle.stun_judging.proofs.JoinedLemmas.{WritingLaws}
use Rattle.stun_judging.proofs.SignedBases.{BuildingLaws, bare, with_error}
use Rattle.stun_judging.proofs.laws.built_messages_can_be_signed.Goals as goal

writing : (c : goal.After-signed_message_stands) → WritingLaws
writing c = record {
  shown = c.writing_adds_one_attribute.ensures.shown;
  added = c.writing_adds_one_attribute.ensures.added;
  opened = c.writing_adds_one_attribute.ensures.open;
  stands_signed = c.signed_message_stands.ensures.stands;
  signed = c.signed_message_stands.ensures.added;
}

building : (c : goal.After-signed_message_stands) → BuildingLaws
building c =
    record {
      begun = c.writing_adds_one_attribute.ensures.begun;
      continued = c.writing_adds_one_attribute.ensures.spelled;
    }

pub returns-clause-bare : goal.returns-clause-bare
returns-clause-bare c = bare (writing c) (building c)

pub returns-clause-error : goal.returns-clause-error
returns-clause-error c = with_error (writing c) (building c)
