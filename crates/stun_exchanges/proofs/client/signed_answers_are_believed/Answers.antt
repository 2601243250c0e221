-- The digest verifies under the key of the challenge, so the response is believed.
use Rattle.stun_exchanges.proofs.AgreementLemmas.{ended_by_answer}
use Rattle.stun_exchanges.proofs.client.signed_answers_are_believed.Goals as goal

pub returns : goal.returns
returns c = ended_by_answer
