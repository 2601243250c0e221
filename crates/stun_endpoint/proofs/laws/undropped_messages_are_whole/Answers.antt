-- By what the FINGERPRINT is.
use Rattle.stun_endpoint.proofs.DroppedLemmas.{whole}
use Rattle.stun_endpoint.proofs.laws.undropped_messages_are_whole.Goals as goal

pub returns : goal.returns
returns c = λ required bytes. whole bytes required
