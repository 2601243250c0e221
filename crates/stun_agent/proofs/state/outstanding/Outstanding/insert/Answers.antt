-- What is put at an ID is there.
use Rattle.std.proofs.Common.{◌∙◌, ap}
use Rattle.stun_agent.specs.Transactions.{at}
use Rattle.stun_agent.specs.code.Tree.{items}
use Rattle.stun_agent.proofs.Ascending.{lookup-insert_same}
use Rattle.std.proofs.lemmas.Result.{on_ok_weaker}
use Rattle.stun_agent.proofs.state.outstanding.Outstanding.insert.Goals as goal

pub returns-clause-there : goal.returns-clause-there
returns-clause-there g c =
    let all = items c.self.inside.root in
    on_ok_weaker c.insert.result
    (λ is. ap (at c.args.id)
    (rw (c.in_ok-leaf.ensures.value, c.new.ensures) at is)
    ∙ lookup-insert_same c.args.id c.args.request all)
    c.insert.ensures.ok
