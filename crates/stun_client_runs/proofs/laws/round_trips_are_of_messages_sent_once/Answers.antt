-- Each call keeps how often the current messages were handed out.
use Rattle.stun_client_runs.proofs.RoundTripLemmas.{of_one_poll}
use Rattle.stun_client_runs.proofs.laws.round_trips_are_of_messages_sent_once.Goals as goal

pub returns : goal.returns
returns c = of_one_poll
