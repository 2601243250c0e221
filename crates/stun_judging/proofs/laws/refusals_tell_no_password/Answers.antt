-- The same row of the table refuses under either secret.
use Rattle.stun_judging.proofs.NoOracle.{verdict-alike, verdict-unregistered}
use Rattle.stun_judging.proofs.laws.refusals_tell_no_password.Goals as goal

pub returns-clause-judged : goal.returns-clause-judged
returns-clause-judged c = λ users name one other r under_one under_other feature nonce offered.
    verdict-alike users name one other r under_one under_other feature nonce offered

pub returns-clause-unregistered : goal.returns-clause-unregistered
returns-clause-unregistered c = verdict-unregistered
