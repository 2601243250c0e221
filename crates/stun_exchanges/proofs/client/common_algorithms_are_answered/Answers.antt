-- The rule takes the first algorithm that both support, since the server lists the strongest first.
use Rattle.stun_exchanges.proofs.AgreementLemmas.{agree_on_one, answered_by_rule, strongest}
use Rattle.stun_exchanges.proofs.client.common_algorithms_are_answered.Goals as goal

pub returns-clause-agreed : goal.returns-clause-agreed
returns-clause-agreed c = agree_on_one

pub returns-clause-answered : goal.returns-clause-answered
returns-clause-answered c = answered_by_rule

pub returns-clause-strongest : goal.returns-clause-strongest
returns-clause-strongest c = strongest
