-- A request is sent again for the challenge of the response.
use Rattle.stun_client.proofs.JudgingLemmas.{answered_anew}
use Rattle.stun_client.proofs.laws.requests_are_sent_again_for_new_challenges.Goals as goal

pub returns : goal.returns
returns c = answered_anew
