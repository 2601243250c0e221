-- The datagram is followed through each test.
use Rattle.stun_ice.proofs.AcceptingLemmas.{accepts-iff}
use Rattle.stun_ice.proofs.laws.checks_are_accepted_exactly.Goals as goal

pub returns : goal.returns
returns c = λ a c from bytes. accepts-iff a c from bytes
