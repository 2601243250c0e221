-- What an agent is after the borrows of a call have ended.
use Rattle.std.specs.Prelude.{◌≡◌, ⊤, Result, MatchResult, Option, Some}
use Rattle.std.specs.Borrow.{Fml, RattleType, MutBor, LendsIf, follows_so}
use Rattle.std.specs.declared.alloc.Allocator as alloc
use mathlib.Core.Option.{none}
use Rattle.stun_agent.specs.Agent.{Agent}
use Rattle.stun_agent.specs.Statistics.{Statistics}
use Rattle.stun_agent.specs.contracts.agent.StunAgent.{the_row}
use Rattle.stun_agent.specs.contracts.stats.StunAgentStats.{the_row as stats_row}

-- when the borrow ends, the agent is `after`
abbrev pub ends_as : (A : RattleType) → alloc.Ghosts A.Denot → MutBor Agent → Agent → Fml
ends_as A heap agent after =
    follows_so (the_row A heap) (the_row A heap) agent.ghost_name none (λ _ _. ⊤) (λ n. n ≡ after)

-- when the borrow ends, the agent is `after` if the call returned `Ok`, and unchanged if it
-- returned `Err`
abbrev pub ends_if_ok_as : {T E : Type 0} → (A : RattleType) → alloc.Ghosts A.Denot → MutBor Agent
    → Result T E → Agent → Fml
ends_if_ok_as A heap agent answer after =
    follows_so (the_row A heap) (the_row A heap) agent.ghost_name none (λ _ _. ⊤)
    (λ n. MatchResult answer (λ _. n ≡ after) (λ _. n ≡ agent.now))

-- when the borrow of the statistics ends, the agent has the statistics that were left there. An
-- agent without statistics is unchanged
abbrev pub lends_statistics : (A : RattleType) → alloc.Ghosts A.Denot → MutBor Agent
    → Option (MutBor Statistics) → Fml
lends_statistics A heap agent lent =
    LendsIf (the_row A heap) stats_row agent lent
    (λ stats. record agent.now { statistics = Some stats }) agent.now
