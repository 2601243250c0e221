-- An end is set once, and stays until it is said.
use Rattle.stun_client_plans.proofs.EndLemmas.{answers_end, cancels_end, said_as_it_came}
use Rattle.stun_client_plans.proofs.laws.ends_are_said_as_they_came.Goals as goal

pub returns-clause-canceled : goal.returns-clause-canceled
returns-clause-canceled v = λ c number a there. cancels_end c number a there

pub returns-clause-answered : goal.returns-clause-answered
returns-clause-answered v = λ memory from bytes now c m by is.
    answers_end memory from bytes now c m by is

pub returns-clause-said : goal.returns-clause-said
returns-clause-said v = λ c later last between now number end said is ended calls says_so.
    said_as_it_came v.clients_stay_in_order.ensures.stays number end said c later last between now
    is ended calls says_so
