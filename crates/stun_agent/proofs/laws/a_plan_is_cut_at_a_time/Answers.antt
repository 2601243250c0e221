-- The timeouts before a time are shorter together, and one more would not be.
use Rattle.stun_agent.proofs.CutLemmas.{length_of_cut, alike_in_cut, fewer_in_cut, all_in_cut}
use Rattle.stun_agent.proofs.laws.a_plan_is_cut_at_a_time.Goals as goal

pub returns-clause-ends : goal.returns-clause-ends
returns-clause-ends c = λ time settings. length_of_cut time settings

pub returns-clause-alike : goal.returns-clause-alike
returns-clause-alike c = λ time i settings. alike_in_cut time settings i

pub returns-clause-fewer : goal.returns-clause-fewer
returns-clause-fewer c = λ time settings. fewer_in_cut time settings

pub returns-clause-all : goal.returns-clause-all
returns-clause-all c = λ time i settings most less. all_in_cut time settings i most less
