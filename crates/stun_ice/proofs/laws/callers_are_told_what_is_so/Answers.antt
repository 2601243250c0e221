-- The datagram is followed through each test.
use Rattle.std.proofs.Common.{refl}
use Rattle.stun_ice.specs.Received.{given, judgement_of}
use Rattle.stun_ice.proofs.AcceptingLemmas.{tells-accepted, tells-valid}
use Rattle.stun_ice.proofs.laws.callers_are_told_what_is_so.Goals as goal

pub returns-clause-accepted : goal.returns-clause-accepted
returns-clause-accepted c = λ a c from bytes.
    tells-accepted a c from bytes (given a from (judgement_of a c from bytes)) refl

pub returns-clause-valid : goal.returns-clause-valid
returns-clause-valid c = λ a c from bytes.
    tells-valid a c from bytes (given a from (judgement_of a c from bytes)) refl
