-- What is believed answers, and all else is dropped.
use Rattle.stun_client_calls.proofs.DecidingLemmas.{earlier_answers_or_drops}
use Rattle.stun_client_calls.proofs.laws.responses_to_earlier_messages_answer_or_are_dropped.Goals as goal

pub returns : goal.returns
returns c = earlier_answers_or_drops
