-- The nonce that is current stays, and with it the place.
use Rattle.stun_auth.proofs.JudgedLemmas.{answer-judged, place-judged}
use Rattle.stun_auth.proofs.laws.judging_is_validating.Goals as goal

pub returns-clause-answer : goal.returns-clause-answer
returns-clause-answer c = λ s from now words r place is stands offered plain.
    answer-judged s from now words place is stands r offered plain

pub returns-clause-place : goal.returns-clause-place
returns-clause-place c = λ s from now words r place is stands offered needs.
    place-judged s from now words place is stands r offered needs
