-- A poll asks for the bytes of a request that is outstanding.
use Rattle.stun_client_runs.proofs.SentLemmas.{sends_what_is_there}
use Rattle.stun_client_runs.proofs.laws.what_is_to_be_sent_is_there.Goals as goal

pub returns : goal.returns
returns c = sends_what_is_there
