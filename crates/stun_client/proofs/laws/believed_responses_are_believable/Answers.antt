-- What is believed may be, and has no faulty FINGERPRINT.
use Rattle.stun_client.proofs.JudgingLemmas.{believable, faultless}
use Rattle.stun_client.proofs.laws.believed_responses_are_believable.Goals as goal

pub returns-clause-signed : goal.returns-clause-signed
returns-clause-signed c = believable

pub returns-clause-whole : goal.returns-clause-whole
returns-clause-whole c = faultless
