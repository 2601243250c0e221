-- The tree is in order, and each of its leaves has a datum.
use Rattle.std.proofs.Common.{◌≡◌, subst}
use Rattle.std.specs.Map.{keys_of}
use Rattle.stun_agent.specs.Transactions.{AreKept}
use Rattle.stun_agent.specs.code.Transactions.{Outstanding}
use Rattle.stun_agent.proofs.TreeLemmas.{kept, same_keys}
use Rattle.stun_agent.proofs.state.outstanding.Outstanding.has.Goals as goal

pub returns-clause-kept : goal.returns-clause-kept
returns-clause-kept g c =
    subst (λ (o : Outstanding _). AreKept o.requests) c.self.view_is
    (kept c.self.inside.transport c.self.inside.root c.self.invariant)

pub returns-clause-same : goal.returns-clause-same
returns-clause-same g c =
    subst (λ (o : Outstanding _). keys_of o.attached ≡ keys_of o.requests) c.self.view_is
    (same_keys c.self.inside.root)
