-- No verdict leads to a weaker message.
use Rattle.stun_client_calls.proofs.DecidingLemmas.{never_weaker}
use Rattle.stun_client_calls.proofs.laws.requests_never_turn_to_weaker_messages.Goals as goal

pub returns : goal.returns
returns c = never_weaker
