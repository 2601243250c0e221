-- A request waits only if it is complete and has an accepted nonce.
use Rattle.stun_endpoint.proofs.IdentifiedLemmas.{waits_under}
use Rattle.stun_endpoint.proofs.laws.lookups_have_accepted_nonces.Goals as goal

pub returns : goal.returns
returns c = λ s from now bytes lookup. waits_under s from now bytes lookup
