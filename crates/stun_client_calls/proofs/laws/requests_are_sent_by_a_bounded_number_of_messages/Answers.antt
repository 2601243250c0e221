-- Each verdict is bounded on its own.
use Rattle.stun_client_calls.proofs.DecidingLemmas.{counted, within}
use Rattle.stun_client_calls.proofs.laws.requests_are_sent_by_a_bounded_number_of_messages.Goals as goal

pub returns-clause-within : goal.returns-clause-within
returns-clause-within c = within

pub returns-clause-counted : goal.returns-clause-counted
returns-clause-counted c = counted
