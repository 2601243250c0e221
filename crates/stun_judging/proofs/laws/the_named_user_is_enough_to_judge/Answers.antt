-- The verdict looks at no other user than the one who is named.
use Rattle.stun_judging.proofs.MeantUser.{verdict-alone}
use Rattle.stun_judging.proofs.TableUsers.{offering_alone_at}
use Rattle.stun_judging.proofs.laws.the_named_user_is_enough_to_judge.Goals as goal

pub returns-clause-verdict : goal.returns-clause-verdict
returns-clause-verdict c = verdict-alone

pub returns-clause-offering : goal.returns-clause-offering
returns-clause-offering c = offering_alone_at
