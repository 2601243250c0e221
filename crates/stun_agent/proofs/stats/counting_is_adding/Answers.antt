-- To count one tally after another is to count their sum.
use Rattle.stun_agent.proofs.StatisticsLemmas.{statistics_after-statistics_after}
use Rattle.stun_agent.proofs.StatisticsLemmas.{counted_in_turn-new}
use Rattle.stun_agent.proofs.StatisticsLemmas.{IsLeast-none, IsGreatest-none}
use Rattle.stun_agent.specs.Statistics.{total}
use Rattle.stun_agent.proofs.stats.counting_is_adding.Goals as goal

pub returns-clause-both : goal.returns-clause-both
returns-clause-both c =
    λ first second statistics. statistics_after-statistics_after first second statistics

pub returns-clause-all : goal.returns-clause-all
returns-clause-all c = λ tallies. counted_in_turn-new tallies

pub returns-clause-shortest : goal.returns-clause-shortest
returns-clause-shortest c =
    λ tallies. rw (counted_in_turn-new tallies) (IsLeast-none (total tallies).round_trips)

pub returns-clause-longest : goal.returns-clause-longest
returns-clause-longest c =
    λ tallies. rw (counted_in_turn-new tallies) (IsGreatest-none (total tallies).round_trips)
