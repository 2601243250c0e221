-- An end as unauthorized is stored by a 401 alone.
use Rattle.stun_client_plans.proofs.RefusedLemmas.{only_by_refusal}
use Rattle.stun_client_plans.proofs.laws.only_refused_requests_are_unauthorized.Goals as goal

pub returns : goal.returns
returns g = λ c later last between method body options start now end is low none calls
    said so.
    only_by_refusal g.clients_stay_in_order.ensures.stays c later last between method body options
    start now end is low none calls said so
