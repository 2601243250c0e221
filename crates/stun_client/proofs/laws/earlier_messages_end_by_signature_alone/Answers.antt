-- What is believed of an earlier message is signed with its key.
use Rattle.stun_client.proofs.JudgingLemmas.{earlier_by_signature, earlier_ends_or_nothing}
use Rattle.stun_client.proofs.laws.earlier_messages_end_by_signature_alone.Goals as goal

pub returns-clause-signed : goal.returns-clause-signed
returns-clause-signed c = earlier_by_signature

pub returns-clause-only : goal.returns-clause-only
returns-clause-only c = earlier_ends_or_nothing
