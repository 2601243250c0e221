-- Acceptance is proved of the table of answers.
use Rattle.stun_auth.proofs.AcceptedAnswers.{answer-accepted}
use Rattle.stun_auth.proofs.laws.accepted_messages_are_validated.Goals as goal

pub returns : goal.returns
returns c = answer-accepted
