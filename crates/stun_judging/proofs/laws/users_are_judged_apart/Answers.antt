-- Only the user who is named is looked at.
use Rattle.stun_judging.proofs.UsersApart.{verdict-another}
use Rattle.stun_judging.proofs.laws.users_are_judged_apart.Goals as goal

pub returns : goal.returns
returns c = verdict-another
