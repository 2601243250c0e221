-- The verdict looks at the users for nothing but the one who is named.
use Rattle.std.proofs.Common.{refl}
use Rattle.stun_auth.proofs.MeantClients.{answer-meant_user, after_validation-meant_user}
use Rattle.stun_auth.proofs.laws.the_named_user_is_enough.Goals as goal

pub returns-clause-answer : goal.returns-clause-answer
returns-clause-answer c = λ s from now words r. answer-meant_user s from now words r

pub returns-clause-state : goal.returns-clause-state
returns-clause-state c = λ s from now words r. after_validation-meant_user s from now words r

pub returns-clause-source : goal.returns-clause-source
returns-clause-source c = λ s from now r. refl
