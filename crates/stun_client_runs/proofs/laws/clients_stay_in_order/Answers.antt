-- Each call keeps what holds of every client.
use Rattle.stun_client_runs.proofs.KeptLemmas.{new_is, stays_kept}
use Rattle.stun_client_runs.proofs.laws.clients_stay_in_order.Goals as goal

pub returns-clause-begins : goal.returns-clause-begins
returns-clause-begins c = new_is

pub returns-clause-stays : goal.returns-clause-stays
returns-clause-stays c = stays_kept
