-- Something is chosen of what is offered.
use Rattle.stun_client.proofs.AnsweringLemmas.{answerable, sent_again}
use Rattle.stun_client.proofs.laws.answerable_challenges_are_answered.Goals as goal

pub returns-clause-read : goal.returns-clause-read
returns-clause-read c = λ p who before bytes can. answerable p who before bytes can

pub returns-clause-sent : goal.returns-clause-sent
returns-clause-sent c = λ required who p accepts standing before bytes d whole read new strong.
    sent_again required who p accepts standing before bytes d whole read new strong
