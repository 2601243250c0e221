-- What four links tell is what the requests below all of them await.
use Rattle.std.proofs.Common.{ap₂, ◌∙◌}
use Rattle.stun_agent.specs.code.Awaited.{joined}
use Rattle.stun_agent.specs.code.Tree.{items}
use Rattle.stun_agent.proofs.AwaitedLemmas.{told_is, awaited_of-four}
use Rattle.stun_agent.proofs.state.tree.Fork.join_awaited.Goals as goal

pub returns : goal.returns
returns g c transport timed =
    let fork = c.args.self.now in
    let one = c.copy_awaited-all.ensures.timed transport timed.0 in
    let two = c.join_to.ensures ∙ ap₂ joined one (told_is transport fork.second timed.1) in
    let three = c.join_to-2.ensures ∙ ap₂ joined two (told_is transport fork.third timed.2) in
    c.join_to-3.ensures ∙ ap₂ joined three (told_is transport fork.fourth timed.3)
    ∙ awaited_of-four transport (items fork.first) (items fork.second) (items fork.third)
    (items fork.fourth)
