-- What signing adds is read back, and is what an accepted request has.
use Rattle.stun_judging.specs.Joined.{page_after}
use Rattle.stun_judging.specs.Signed.{additions_of}
use Rattle.stun_datagrams.proofs.ExampleLemmas.{signed_are_accepted}
use Rattle.stun_datagrams.proofs.laws.signed_requests_are_accepted.Goals as goal

pub returns : goal.returns
returns c = signed_are_accepted (record {
  built = c.built_messages_can_be_signed.ensures.bare;
  read = c.signed_messages_are_read.ensures;
  added = c.additions_are_read_back.ensures.added;
  room = c.signing_succeeds_with_room.ensures.room;
  signs = λ a message room unsigned within fits. (
    page_after (additions_of a) (record { bytes = message; room = room }),
    c.signing_succeeds_with_room.ensures.succeeds a message room unsigned within fits,
  );
  text = c.nonces_have_the_bits_of_their_server.ensures.text;
  short = c.nonces_have_the_bits_of_their_server.ensures.short;
})
