-- No weaker challenge is answered in between.
use Rattle.stun_client.proofs.StandingLemmas.{stays_ignored}
use Rattle.stun_client.proofs.laws.weaker_challenges_stay_ignored.Goals as goal

pub returns : goal.returns
returns c = λ s events challenge validated ignored usual.
    stays_ignored s events challenge validated ignored usual
