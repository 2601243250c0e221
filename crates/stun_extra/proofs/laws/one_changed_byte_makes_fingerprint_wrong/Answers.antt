-- A changed byte before FINGERPRINT changes the CRC, so its value is right of one alone.
use Rattle.stun_extra.proofs.ChangedLemmas.{fingerprint-changed}
use Rattle.stun_extra.proofs.laws.one_changed_byte_makes_fingerprint_wrong.Goals as goal

pub returns : goal.returns
returns c = fingerprint-changed
