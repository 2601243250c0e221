-- Each message of a contact is read as it was signed, and there are such messages.
use Rattle.stun_proto.proofs.meetings.ContactExample.{allocates, are_exchanged, binds, is_new}
use Rattle.stun_proto.proofs.meetings.ContactLemmas.{is_introduced}
use Rattle.stun_proto.proofs.meetings.Signed.{NoncesAsk}
use Rattle.stun_proto.proofs.meetings.SignedRuns.{RoomLaws, SigningLaws, signed_is_read}
use Rattle.stun_proto.proofs.laws.new_clients_are_introduced.Goals as goal

nonces : (c : goal.After-sides_sign_with_room) → NoncesAsk
nonces c =
    let laws = c.nonces_ask_for_what_is_supported.ensures in
    record {
      algorithms = laws.algorithms;
      userhash = laws.userhash;
      there = laws.there;
      alike = laws.alike;
      text = laws.text;
    }

signing : (c : goal.After-sides_sign_with_room) → SigningLaws
signing c = record {
  read = c.signed_messages_are_read.ensures;
  bare = c.built_messages_can_be_signed.ensures.bare;
  failure = c.built_messages_can_be_signed.ensures.error;
  client = c.sides_add_by_attribute.ensures.client;
  server = c.sides_add_by_attribute.ensures.server;
  there = c.sides_add_by_attribute.ensures.there;
}

room : (c : goal.After-sides_sign_with_room) → RoomLaws
room c = record {
  client = c.sides_sign_with_room.ensures.client;
  server = c.sides_sign_with_room.ensures.server;
  short = c.nonces_ask_for_what_is_supported.ensures.short;
}

pub returns-clause-introduced : goal.returns-clause-introduced
returns-clause-introduced c m who server texts new =
    is_introduced (nonces c) (signed_is_read (signing c)) m who server texts new

pub returns-clause-exist : goal.returns-clause-exist
returns-clause-exist c from words more few = (
  is_new from words more,
  are_exchanged (nonces c) (signed_is_read (signing c)) (signing c) (room c) 3 allocates from words
      more few,
  are_exchanged (nonces c) (signed_is_read (signing c)) (signing c) (room c) 1 binds from words
      more few,
)
