-- By the one message that such a request has, which is not signed.
use Rattle.stun_client_strength.proofs.ApartLemmas.{answers_nothing, doubts_nothing, never_signed}
use Rattle.stun_client_strength.proofs.laws.unsigned_requests_change_no_challenge.Goals as goal

pub returns-clause-unsigned : goal.returns-clause-unsigned
returns-clause-unsigned g = λ c number a reached there off.
    never_signed g.clients_stay_in_order.ensures.begins g.clients_stay_in_order.ensures.stays c
    reached number a there off

pub returns-clause-responses : goal.returns-clause-responses
returns-clause-responses g = λ memory c from bytes now m reached hears off.
    answers_nothing g.clients_stay_in_order.ensures.begins g.clients_stay_in_order.ensures.stays c
    reached memory from bytes now m hears off

pub returns-clause-ends : goal.returns-clause-ends
returns-clause-ends g = λ c after now number a end reached there off said.
    doubts_nothing g.clients_stay_in_order.ensures.begins g.clients_stay_in_order.ensures.stays c
    reached after now number a end there off said
