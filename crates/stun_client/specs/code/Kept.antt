-- The parts of a challenge as contracts see them.
use Rattle.std.specs.Prelude.{string_bytes}
use Rattle.stun_judging.specs.Parts.{naming_seen}
use Rattle.stun_client.specs.Challenge.{Challenge}
use Rattle.stun_client.specs.declared.challenge.kept.KeptChallenge.{KeptChallenge}

abbrev pub challenge_seen : {A : Type 0} → KeptChallenge A → Challenge
challenge_seen c = record {
  naming = naming_seen c.naming;
  realm = string_bytes c.realm.text;
  nonce = string_bytes c.nonce.text;
  offered = c.offered.items;
  algorithm = c.algorithm;
  key = c.key;
}
