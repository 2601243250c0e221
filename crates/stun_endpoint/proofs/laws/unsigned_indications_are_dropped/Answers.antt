-- Whoever has not signed is refused by a 400 or a 401.
use Rattle.stun_endpoint.proofs.SignedLemmas.{unsigned_indication}
use Rattle.stun_endpoint.proofs.laws.unsigned_indications_are_dropped.Goals as goal

pub returns : goal.returns
returns c = λ s users from bytes. unsigned_indication s users from bytes
