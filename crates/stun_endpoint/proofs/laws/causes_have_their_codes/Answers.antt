-- The outcome and the cause are followed from the class of the message to the verdict.
use Rattle.stun_endpoint.proofs.CausedLemmas.{cause_for_code}
use Rattle.stun_endpoint.proofs.laws.causes_have_their_codes.Goals as goal

pub returns : goal.returns
returns c = cause_for_code
