-- The first message leaves a place with the nonce, and the signed response leaves the offer.
use Rattle.stun_auth.proofs.JudgedRuns.{run-answer, run-forgotten}
use Rattle.stun_auth.proofs.laws.judging_is_a_run_of_calls.Goals as goal

pub returns-clause-answer : goal.returns-clause-answer
returns-clause-answer c = λ s from now later words others r none needs stands.
    run-answer s from now later words others r none needs stands

pub returns-clause-forgotten : goal.returns-clause-forgotten
returns-clause-forgotten c = λ s from now later words others r none.
    run-forgotten s from now later words others r none
