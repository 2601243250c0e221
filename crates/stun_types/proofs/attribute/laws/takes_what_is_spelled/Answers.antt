-- The padding fills up what the value leaves.
use Rattle.std.proofs.Common.{arith, length-append}
use Rattle.std.proofs.lemmas.List.{length-replicate}
use Rattle.stun_types.proofs.attribute.laws.takes_what_is_spelled.Goals as goal

pub returns : goal.returns
returns c = λ attribute. simp (length-append, length-replicate) (omega arith)
