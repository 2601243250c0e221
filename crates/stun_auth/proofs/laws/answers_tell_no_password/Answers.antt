-- The same row of the table refuses under either secret.
use Rattle.std.proofs.Common.{refl}
use Rattle.stun_auth.proofs.AlikeAnswers.{after_validation-alike, answer-alike}
use Rattle.stun_auth.proofs.laws.answers_tell_no_password.Goals as goal

pub returns-clause-answer : goal.returns-clause-answer
returns-clause-answer c = λ s name one other r under_one under_other from now words.
    answer-alike s name one other r under_one under_other from now words

pub returns-clause-state : goal.returns-clause-state
returns-clause-state c = λ s name one other r under_one under_other from now words.
    after_validation-alike s name one other r under_one under_other from now words

pub returns-clause-source : goal.returns-clause-source
returns-clause-source c = λ s name one other from now r. refl
