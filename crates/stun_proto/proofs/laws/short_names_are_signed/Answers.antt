-- Short texts leave room for all that is added, so each side can sign.
use Rattle.stun_proto.proofs.meetings.Meeting.{all_signed}
use Rattle.stun_proto.proofs.meetings.Signed.{NoncesAsk}
use Rattle.stun_proto.proofs.meetings.SignedRuns.{RoomLaws, SigningLaws}
use Rattle.stun_proto.proofs.meetings.SignedRuns.{signed_is_read, signing_succeeds}
use Rattle.stun_proto.proofs.laws.short_names_are_signed.Goals as goal

nonces : (c : goal.After-sides_sign_with_room) → NoncesAsk
nonces c =
    let laws = c.nonces_ask_for_what_is_supported.ensures in
    record {
      algorithms = laws.algorithms;
      userhash = laws.userhash;
      there = laws.there;
      alike = laws.alike;
      text = laws.text;
    }

signing : (c : goal.After-sides_sign_with_room) → SigningLaws
signing c = record {
  read = c.signed_messages_are_read.ensures;
  bare = c.built_messages_can_be_signed.ensures.bare;
  failure = c.built_messages_can_be_signed.ensures.error;
  client = c.sides_add_by_attribute.ensures.client;
  server = c.sides_add_by_attribute.ensures.server;
  there = c.sides_add_by_attribute.ensures.there;
}

room : (c : goal.After-sides_sign_with_room) → RoomLaws
room c = record {
  client = c.sides_sign_with_room.ensures.client;
  server = c.sides_sign_with_room.ensures.server;
  short = c.nonces_ask_for_what_is_supported.ensures.short;
}

pub returns : goal.returns
returns c m who server texts short ready =
    all_signed (nonces c) (signed_is_read (signing c)) m who server texts ready (
      signing_succeeds (signing c) (room c),
      short,
    )
