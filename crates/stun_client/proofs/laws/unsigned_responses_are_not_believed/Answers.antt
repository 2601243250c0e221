-- What is believed of a signed request is signed, and of an unsigned one accepted unsigned.
use Rattle.stun_client.proofs.JudgingLemmas.{first_not_believed, not_believed}
use Rattle.stun_client.proofs.laws.unsigned_responses_are_not_believed.Goals as goal

pub returns-clause-signed : goal.returns-clause-signed
returns-clause-signed c = not_believed

pub returns-clause-first : goal.returns-clause-first
returns-clause-first c = first_not_believed
