-- The length after each addition is known, and the whole fits.
use Rattle.stun_judging.proofs.JoinedLemmas.{WritingLaws}
use Rattle.stun_judging.proofs.SignedGrowth.{growth-most, room-enough}
use Rattle.stun_judging.proofs.SignedReading.{written-within}
use Rattle.stun_judging.proofs.SignedRoom.{signable_signed, signing_succeeds}
use Rattle.stun_judging.proofs.laws.signing_succeeds_with_room.Goals as goal

writing : (c : goal.After-signed_message_stands) → WritingLaws
writing c = record {
  shown = c.writing_adds_one_attribute.ensures.shown;
  added = c.writing_adds_one_attribute.ensures.added;
  opened = c.writing_adds_one_attribute.ensures.open;
  stands_signed = c.signed_message_stands.ensures.stands;
  signed = c.signed_message_stands.ensures.added;
}

pub returns-clause-growth : goal.returns-clause-growth
returns-clause-growth c = growth-most

pub returns-clause-within : goal.returns-clause-within
returns-clause-within c = written-within

pub returns-clause-room : goal.returns-clause-room
returns-clause-room c = room-enough

pub returns-clause-succeeds : goal.returns-clause-succeeds
returns-clause-succeeds c = signing_succeeds (writing c)

pub returns-clause-signable : goal.returns-clause-signable
returns-clause-signable c = signable_signed (writing c)
