-- Each step forgets what has expired among those it looks at, and goes on behind them.
use Rattle.stun_auth.proofs.SteppingLemmas.{steps_forget_all}
use Rattle.stun_auth.proofs.laws.steps_forget_what_has_expired.Goals as goal

pub returns : goal.returns
returns c = steps_forget_all
