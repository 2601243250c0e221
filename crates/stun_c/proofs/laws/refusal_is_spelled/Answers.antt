-- Each part of the answer is appended as an attribute is spelled.
use Rattle.stun_c.proofs.Refused.{answer_spelled}
use Rattle.stun_c.proofs.laws.refusal_is_spelled.Goals as goal

pub returns : goal.returns
returns c = answer_spelled
