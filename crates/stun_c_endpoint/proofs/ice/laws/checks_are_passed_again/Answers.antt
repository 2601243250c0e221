-- The struct has all but the bytes, which no answer is judged by.
use Rattle.std.proofs.Common.{refl}
use Rattle.stun_c_endpoint.proofs.IceLawLemmas.{check_again}
use Rattle.stun_c_endpoint.proofs.ice.laws.checks_are_passed_again.Goals as goal

pub returns-clause-same : goal.returns-clause-same
returns-clause-same c = λ check to size is small. check_again check to size is small

pub returns-clause-judged : goal.returns-clause-judged
returns-clause-judged c = λ a check from bytes. refl
