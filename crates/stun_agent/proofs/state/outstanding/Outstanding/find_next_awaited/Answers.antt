-- The root tells the earliest time that a request awaits.
use Rattle.std.proofs.Common.{◌∙◌, ap, sym, subst}
use Rattle.stun_agent.specs.Transactions.{AreKept, next_awaited}
use Rattle.stun_agent.specs.code.Transactions.{Outstanding}
use Rattle.stun_agent.specs.code.Tree.{items}
use Rattle.stun_agent.proofs.AwaitedLemmas.{next_awaited_is}
use Rattle.stun_agent.proofs.TreeLemmas.{kept}
use Rattle.stun_agent.proofs.state.outstanding.Outstanding.find_next_awaited.Goals as goal

pub returns-clause-least : goal.returns-clause-least
returns-clause-least g c =
    let inside = c.self.inside in
    c.find_next_awaited.ensures inside.transport c.self.invariant.timed
    ∙ sym (next_awaited_is inside.transport (items inside.root))
    ∙ ap (λ (o : Outstanding _). next_awaited o.transport o.requests) c.self.view_is

pub returns-clause-kept : goal.returns-clause-kept
returns-clause-kept g c =
    subst (λ (o : Outstanding _). AreKept o.requests) c.self.view_is
    (kept c.self.inside.transport c.self.inside.root c.self.invariant)
