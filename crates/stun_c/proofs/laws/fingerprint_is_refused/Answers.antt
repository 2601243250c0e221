-- With a FINGERPRINT both refuse it as existing, else both by the room that is left.
use Rattle.stun_c.proofs.Ending.{refusals_agree}
use Rattle.stun_c.proofs.laws.fingerprint_is_refused.Goals as goal

pub returns : goal.returns
returns c = refusals_agree
