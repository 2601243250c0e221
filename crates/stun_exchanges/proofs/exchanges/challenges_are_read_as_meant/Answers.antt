-- Each part of a challenge is read as it was written.
use Rattle.std.proofs.Common.{ℕ, ◌≤◌, List, length, arith}
use Rattle.std.specs.Prelude.{take}
use Rattle.std.proofs.lemmas.List.{length-take}
use Rattle.stun_endpoint.specs.Nonces.{nonce_in, words_of}
use Rattle.stun_exchanges.proofs.ChallengeLemmas.{challenge_read}
use Rattle.stun_exchanges.proofs.exchanges.challenges_are_read_as_meant.Goals as goal

sixteen : (list : List ℕ) → length (take 16 list) ≤ 16
sixteen list = omega (arith, length-take 16 list)

pub returns : goal.returns
returns c = λ s kind secret from to epoch required request fine asks identified sends.
    let words = words_of s.algorithms secret from epoch in
    let nonces = c.nonces_have_the_bits_of_their_server.ensures in
    let few : length words ≤ 16 = sixteen _ in
    challenge_read (record {
      begun = c.writing_adds_one_attribute.ensures.begun;
      shown = c.writing_adds_one_attribute.ensures.shown;
      adds = c.writing_adds_one_attribute.ensures.added;
      opens = c.writing_adds_one_attribute.ensures.open;
      spelled = c.writing_adds_one_attribute.ensures.spelled;
      built = c.built_messages_can_be_signed.ensures.error;
      growth_of = c.signing_succeeds_with_room.ensures.growth;
      room = c.signing_succeeds_with_room.ensures.room;
      succeeds = c.signing_succeeds_with_room.ensures.succeeds;
      has_added = c.additions_are_read_back.ensures.added;
    }) s fine kind asks (nonce_in s secret from epoch) (nonces.text s words)
    (omega (arith, nonces.short s words, few)) to request identified required sends
