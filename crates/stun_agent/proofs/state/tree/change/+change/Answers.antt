-- The change is in the quarter that has the id, and the other quarters stay.
use Rattle.std.proofs.Common.{arith, ap}
use Rattle.stun_agent.specs.code.Transactions.{changed_transaction}
use Rattle.stun_agent.specs.code.Tree.{items, two_bits}
use Rattle.stun_agent.proofs.QuarterLemmas.{change_acts, of_items}
use Rattle.stun_agent.proofs.QuarterLemmas.{in_first, in_second, in_third, in_fourth}
use Rattle.stun_agent.proofs.state.tree.change.+change.Goals as goal

pub change_in-returns-in-First-clause-after : goal.change_in-returns-in-First-clause-after
change_in-returns-in-First-clause-after g t c =
    in_first c.args.levels c.args.id (of_items c.args.fork.now c.requires.ordered)
    (change_acts c.args.id (changed_transaction c.args.to)) (items c.change.new.link)
    (omega (arith, c.choose_quarter.ensures, ap two_bits c.in-First.is)) c.change.ensures.after

pub change_in-returns-in-Second-clause-after : goal.change_in-returns-in-Second-clause-after
change_in-returns-in-Second-clause-after g t c =
    in_second c.args.levels c.args.id (of_items c.args.fork.now c.requires.ordered)
    (change_acts c.args.id (changed_transaction c.args.to)) _
    (omega (arith, c.choose_quarter.ensures, ap two_bits c.in-Second.is))
    c.change-in-Second.ensures.after

pub change_in-returns-in-Third-clause-after : goal.change_in-returns-in-Third-clause-after
change_in-returns-in-Third-clause-after g t c =
    in_third c.args.levels c.args.id (of_items c.args.fork.now c.requires.ordered)
    (change_acts c.args.id (changed_transaction c.args.to)) _
    (omega (arith, c.choose_quarter.ensures, ap two_bits c.in-Third.is))
    c.change-in-Third.ensures.after

pub change_in-returns-in-Fourth-clause-after : goal.change_in-returns-in-Fourth-clause-after
change_in-returns-in-Fourth-clause-after g t c =
    in_fourth c.args.levels c.args.id (of_items c.args.fork.now c.requires.ordered)
    (change_acts c.args.id (changed_transaction c.args.to)) _
    (omega (arith, c.choose_quarter.ensures, ap two_bits c.in-Fourth.is))
    c.change-in-Fourth.ensures.after
