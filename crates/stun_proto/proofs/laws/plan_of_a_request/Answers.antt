-- The default timeouts are added up, and a new agent has nothing in the request's way.
use Rattle.std.proofs.Common.{refl}
use Rattle.stun_agent.specs.Timing.{sum_of_timeouts}
use Rattle.stun_proto.proofs.laws.plan_of_a_request.Goals as goal

pub returns-clause-udp : goal.returns-clause-udp
unfolding sum_of_timeouts
returns-clause-udp c = λ to. refl

pub returns-clause-tcp : goal.returns-clause-tcp
unfolding sum_of_timeouts
returns-clause-tcp c = λ to. refl

pub returns-clause-asked : goal.returns-clause-asked
returns-clause-asked c =
    λ transport here to.
    record {
      header = refl;
      class = refl;
      names = refl;
      goes_there = λ peer set. cc;
      new = refl;
      not_before = tt;
      not_again = tt;
      undisturbed = tt;
    }
