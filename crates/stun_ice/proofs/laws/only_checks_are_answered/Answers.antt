-- Each judgement that is no check gives the caller something else than an answer.
use Rattle.stun_ice.specs.Received.{judgement_of}
use Rattle.stun_ice.proofs.BufferLemmas.{answers-check, leaves-nothing}
use Rattle.stun_ice.proofs.laws.only_checks_are_answered.Goals as goal

pub returns-clause-answered : goal.returns-clause-answered
returns-clause-answered c = λ a c from bytes message answer judged.
    answers-check a from (judgement_of a c from bytes) message answer judged

pub returns-clause-empty : goal.returns-clause-empty
returns-clause-empty c = λ a c from bytes buffer received.
    leaves-nothing a from (judgement_of a c from bytes) received buffer
