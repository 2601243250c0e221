-- A 438 is read by the client as the server signed it, and its nonce is taken over.
use Rattle.stun_proto.proofs.meetings.Renewed.{is_renewed}
use Rattle.stun_proto.proofs.meetings.Signed.{NoncesAsk}
use Rattle.stun_proto.proofs.meetings.SignedRuns.{SigningLaws, signed_is_read}
use Rattle.stun_proto.proofs.laws.nonce_is_renewed.Goals as goal

nonces : (c : goal.After-sides_add_by_attribute) → NoncesAsk
nonces c =
    let laws = c.nonces_ask_for_what_is_supported.ensures in
    record {
      algorithms = laws.algorithms;
      userhash = laws.userhash;
      there = laws.there;
      alike = laws.alike;
      text = laws.text;
    }

signing : (c : goal.After-sides_add_by_attribute) → SigningLaws
signing c = record {
  read = c.signed_messages_are_read.ensures;
  bare = c.built_messages_can_be_signed.ensures.bare;
  failure = c.built_messages_can_be_signed.ensures.error;
  client = c.sides_add_by_attribute.ensures.client;
  server = c.sides_add_by_attribute.ensures.server;
  there = c.sides_add_by_attribute.ensures.there;
}

pub returns : goal.returns
returns c m who server p challenge texts old =
    is_renewed (nonces c) (signed_is_read (signing c)) m who server p challenge texts old
