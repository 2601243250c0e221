-- What is not signed is not believed, and what else it comes to ends no request at first.
use Rattle.stun_client_calls.proofs.DecidingLemmas.{one_ends_nothing, unsigned_answers}
use Rattle.stun_client_calls.proofs.laws.one_forged_datagram_ends_no_signed_request.Goals as goal

pub returns-clause-answers : goal.returns-clause-answers
returns-clause-answers c = unsigned_answers

pub returns-clause-one : goal.returns-clause-one
returns-clause-one c = one_ends_nothing
