-- Without credentials a response is believed or dropped, and one from elsewhere answers no message.
use Rattle.stun_client_calls.proofs.OptionLawLemmas.{confirms_nothing, not_heard_elsewhere}
use Rattle.stun_client_calls.proofs.OptionLawLemmas.{not_sent_otherwise, starts_unsigned}
use Rattle.stun_client_calls.proofs.OptionLawLemmas.{written_unsigned}
use Rattle.stun_client_calls.proofs.laws.a_request_that_is_not_signed_is_answered_or_dropped.Goals as goal

pub returns-clause-written : goal.returns-clause-written
returns-clause-written c = written_unsigned

pub returns-clause-first : goal.returns-clause-first
returns-clause-first c = starts_unsigned

pub returns-clause-alone : goal.returns-clause-alone
returns-clause-alone c = not_sent_otherwise

pub returns-clause-unconfirmed : goal.returns-clause-unconfirmed
returns-clause-unconfirmed c = confirms_nothing

pub returns-clause-elsewhere : goal.returns-clause-elsewhere
returns-clause-elsewhere c = not_heard_elsewhere
