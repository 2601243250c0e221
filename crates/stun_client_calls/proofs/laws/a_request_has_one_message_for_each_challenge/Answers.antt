-- A message is new only where there is none.
use Rattle.stun_client_calls.proofs.DecidingLemmas.{one_signed, one_unsigned}
use Rattle.stun_client_calls.proofs.laws.a_request_has_one_message_for_each_challenge.Goals as goal

pub returns-clause-signed : goal.returns-clause-signed
returns-clause-signed c = one_signed

pub returns-clause-unsigned : goal.returns-clause-unsigned
returns-clause-unsigned c = one_unsigned
