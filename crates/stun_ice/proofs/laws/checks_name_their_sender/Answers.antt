-- The name is cut off in front, and then the colon.
use Rattle.stun_ice.proofs.NameLemmas.{sender-iff}
use Rattle.stun_ice.proofs.laws.checks_name_their_sender.Goals as goal

pub returns : goal.returns
returns c = λ a. sender-iff a
