-- By what is stored of the request.
use Rattle.stun_client_strength.proofs.RefusingLemmas.{given_up_then, is_remembered, second_ends}
use Rattle.stun_client_strength.proofs.RefusingLemmas.{third_ends}
use Rattle.stun_client_strength.proofs.laws.refusals_end_requests.Goals as goal

pub returns-clause-second : goal.returns-clause-second
returns-clause-second g = λ memory from bytes now c m hears is. (
  λ transport first. is_remembered memory from bytes now c m hears is transport first,
  λ which. second_ends memory from bytes now c m hears is which,
)

pub returns-clause-remembered : goal.returns-clause-remembered
returns-clause-remembered g = λ c later events number a memory from bytes now m is there recent
    calls sent hears named same few verdict.
    given_up_then g.clients_stay_in_order.ensures.stays c later events number a memory from bytes
    now m is there recent calls sent hears named same few verdict

pub returns-clause-third : goal.returns-clause-third
returns-clause-third g = λ memory from bytes now c m x hears is in_time many.
    third_ends memory from bytes now c m hears x is in_time many
