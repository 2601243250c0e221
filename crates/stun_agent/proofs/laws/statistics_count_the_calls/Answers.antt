-- Each call adds its tally, and tallies add up.
use Rattle.stun_agent.proofs.TranscriptLemmas.{counts_calls, counts_nothing}
use Rattle.stun_agent.proofs.laws.statistics_count_the_calls.Goals as goal

pub returns-clause-counts : goal.returns-clause-counts
returns-clause-counts c = λ calls agent is. counts_calls calls agent is

pub returns-clause-nothing : goal.returns-clause-nothing
returns-clause-nothing c = λ calls agent is. counts_nothing calls agent is
