-- The requests stay, so they are in order, and each link tells what is awaited.
use Rattle.std.proofs.Common.{◌≡◌, arith, subst}
use Rattle.stun_agent.specs.Deadlines.{most_levels}
use Rattle.stun_agent.specs.code.Tree.{part_of, IsOrdered}
use Rattle.stun_agent.proofs.state.outstanding.Outstanding.replace_datum.Goals as goal

pub invariant_of-self : goal.invariant_of-self
invariant_of-self g c =
    let top : part_of most_levels c.args.id ≡ 0 = omega arith in
    record {
      ordered = subst (λ part. IsOrdered most_levels part c.replace.new.link) top
          c.replace.ensures.ordered;
      timed = c.replace.ensures.timed c.self.inside.transport c.self.invariant.timed;
    }
