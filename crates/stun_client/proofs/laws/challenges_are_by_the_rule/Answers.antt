-- Each challenge is made by the rule, of the parts of its message.
use Rattle.stun_client.proofs.ChosenLemmas.{made_by_rule}
use Rattle.stun_client.proofs.laws.challenges_are_by_the_rule.Goals as goal

pub returns-clause-by_rule : goal.returns-clause-by_rule
returns-clause-by_rule c = λ p who before bytes challenge is.
    (made_by_rule p who before bytes challenge is).0

pub returns-clause-of_message : goal.returns-clause-of_message
returns-clause-of_message c = λ p who before bytes challenge is.
    (made_by_rule p who before bytes challenge is).1
