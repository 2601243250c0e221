-- Only the user who is named is looked at.
use Rattle.std.proofs.Common.{refl}
use Rattle.stun_auth.proofs.ServersApart.{after_validation-another, answer-another}
use Rattle.stun_auth.proofs.ServersApart.{server_signed-another}
use Rattle.stun_auth.proofs.laws.users_do_not_meet.Goals as goal

pub returns-clause-answer : goal.returns-clause-answer
returns-clause-answer c = answer-another

pub returns-clause-state : goal.returns-clause-state
returns-clause-state c = after_validation-another

pub returns-clause-source : goal.returns-clause-source
returns-clause-source c = λ s name secret from now r. refl

pub returns-clause-signed : goal.returns-clause-signed
returns-clause-signed c = server_signed-another
