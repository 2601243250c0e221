-- Each of these answers comes before anything is kept.
use Rattle.stun_auth.proofs.Unchanged.{needless-unchanged, refused-unchanged, repeated-unchanged}
use Rattle.stun_auth.proofs.laws.messages_that_change_nothing.Goals as goal

pub returns-clause-needless : goal.returns-clause-needless
returns-clause-needless c = needless-unchanged

pub returns-clause-refused : goal.returns-clause-refused
returns-clause-refused c = refused-unchanged

pub returns-clause-repeated : goal.returns-clause-repeated
returns-clause-repeated c = repeated-unchanged
