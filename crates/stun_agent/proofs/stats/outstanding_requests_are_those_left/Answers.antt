-- Requests sent less requests ended are kept by each tally.
use Rattle.stun_agent.proofs.StatisticsLemmas.{LeavesOutstanding-statistics_after}
use Rattle.stun_agent.proofs.stats.outstanding_requests_are_those_left.Goals as goal

pub returns-clause-kept : goal.returns-clause-kept
returns-clause-kept c =
    λ tally statistics before after. LeavesOutstanding-statistics_after tally statistics before
    after
