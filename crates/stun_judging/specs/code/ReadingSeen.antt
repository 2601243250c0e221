-- What the code stores of a message that it read, as the reading that the contracts use.
use Rattle.std.specs.Prelude.{map, if◌then◌else◌, Some, None}
use Rattle.std.specs.Option.{option_copied, option_map}
use Rattle.stun_types.specs.Integrity.{verified_algorithm}
use Rattle.stun_types.specs.PasswordAlgorithms.{integrity_of}
use Rattle.stun_judging.specs.Reading as spec
use Rattle.stun_judging.specs.declared.reading.MessageReading.{MessageReading}

abbrev pub reading_seen : MessageReading → spec.Reading
reading_seen r = record {
  class = r.class;
  error = r.error;
  realm = option_copied r.realm;
  nonce = option_copied r.nonce;
  username = option_copied r.username;
  userhash = r.userhash;
  algorithms = option_map (map integrity_of) r.algorithms;
  algorithm = r.algorithm;
  integrity = if r.has_integrity then Some (verified_algorithm r.signature) else None;
}
