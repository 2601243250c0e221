-- The datagram is followed through each test.
use Rattle.stun_ice.proofs.AcceptingLemmas.{valid-iff}
use Rattle.stun_ice.proofs.laws.pairs_are_valid_exactly.Goals as goal

pub returns : goal.returns
returns c = λ a check from bytes. valid-iff a check from bytes
