-- What is left is in order, and each link tells what is awaited.
use Rattle.std.proofs.Common.{◌≡◌, arith, subst}
use Rattle.stun_agent.specs.Deadlines.{most_levels}
use Rattle.stun_agent.specs.code.Tree.{part_of, IsOrdered}
use Rattle.stun_agent.proofs.state.outstanding.Outstanding.remove.Goals as goal

pub invariant_of-self-2 : goal.invariant_of-self-2
invariant_of-self-2 g c =
    let top : part_of most_levels c.args.id ≡ 0 = omega arith in
    record {
      ordered = subst (λ part. IsOrdered most_levels part c.remove.new.link) top
          c.remove.ensures.ordered;
      timed = c.remove.ensures.timed c.self.inside.transport c.self.invariant.timed;
    }
