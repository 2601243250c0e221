-- By how often the bytes are handed out from each client on.
use Rattle.stun_client_strength.proofs.CheapLemmas.{costs_three}
use Rattle.stun_client_strength.proofs.laws.a_wrong_password_costs_three_datagrams.Goals as goal

pub returns : goal.returns
returns g = λ c later method body options start count is in_time none run.
    costs_three g.clients_stay_in_order.ensures.stays g.what_is_to_be_sent_is_there.ensures c later
    method body options start count is in_time none run
