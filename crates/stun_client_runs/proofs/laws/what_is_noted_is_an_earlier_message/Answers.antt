-- Each call keeps what is noted that of earlier messages.
use Rattle.stun_client_runs.proofs.KeptLemmas.{new_noted, stays_noted}
use Rattle.stun_client_runs.proofs.laws.what_is_noted_is_an_earlier_message.Goals as goal

pub returns-clause-begins : goal.returns-clause-begins
returns-clause-begins c = new_noted

pub returns-clause-stays : goal.returns-clause-stays
returns-clause-stays c = stays_noted
