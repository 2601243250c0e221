-- What was ignored is weaker than a stronger challenge too, and what is weaker gives way.
use Rattle.stun_client.specs.Standing.{new_standing, standing_after_all}
use Rattle.stun_client.proofs.StandingLemmas.{confirms_standing, confirms_stronger, is_sound}
use Rattle.stun_client.proofs.StandingLemmas.{signed_strongly, still_ignored}
use Rattle.stun_client.proofs.laws.successes_weaken_nothing.Goals as goal

pub returns-clause-standing : goal.returns-clause-standing
returns-clause-standing c = λ s answered is. confirms_standing s answered is

pub returns-clause-stronger : goal.returns-clause-stronger
returns-clause-stronger c = λ s answered is stronger. confirms_stronger s answered is stronger

pub returns-clause-ignored : goal.returns-clause-ignored
returns-clause-ignored c = λ events signed_for challenge heeded ignored.
    still_ignored (standing_after_all new_standing events) signed_for challenge
    (is_sound events heeded) ignored

pub returns-clause-signed : goal.returns-clause-signed
returns-clause-signed c = λ events heeded.
    signed_strongly (standing_after_all new_standing events) (is_sound events heeded)
