-- The request that is sent has the ID of its bytes, and it keeps them.
use Rattle.std.proofs.Common.{subst}
use Rattle.stun_agent.specs.Transactions.{AreKept}
use Rattle.stun_agent.specs.code.Transactions.{Outstanding}
use Rattle.stun_agent.specs.code.Tree.{items}
use Rattle.stun_agent.proofs.NamedLemmas.{named-found}
use Rattle.stun_agent.proofs.TransactionLemmas.{kept_contents}
use Rattle.stun_agent.proofs.TreeLemmas.{kept}
use Rattle.stun_agent.proofs.state.outstanding.Outstanding.pass_due_slots.Goals as goal

pub returns-clause-request : goal.returns-clause-request
returns-clause-request g c =
    let all = subst (λ (o : Outstanding _). AreKept o.requests) c.self.view_is
    (kept c.self.inside.transport c.self.inside.root c.self.invariant) in
    named-found _ c.args.self.now.requests all.named

pub returns-clause-kept : goal.returns-clause-kept
returns-clause-kept g c =
    let inside = c.self.inside in
    let all = kept inside.transport inside.root c.self.invariant in
    rw (← c.self.view_is)
    (kept_contents inside.transport c.args.now (items inside.root)
    (items c.pass_slots-is_sent.new.link) _ all.ascending
    (c.find_sent_length-sent.ensures inside.transport c.self.invariant.timed)
    (c.pass_slots-is_sent.ensures.after _ _ c.self.invariant.ordered))
