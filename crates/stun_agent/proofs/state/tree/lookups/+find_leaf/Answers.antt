-- An id is in the quarter in which the search goes on.
use Rattle.std.proofs.Common.{◌∙◌, arith, ap, subst}
use Rattle.stun_agent.specs.code.Tree.{items, attached, part_of, two_bits, IsOrdered}
use Rattle.stun_agent.proofs.QuarterLemmas.{of_items, of_attached}
use Rattle.stun_agent.proofs.QuarterLemmas.{at_first, at_second, at_third, at_fourth}
use Rattle.stun_agent.proofs.state.tree.lookups.+find_leaf.Goals as goal

pub returns-in-First-clause-request : goal.returns-in-First-clause-request
returns-in-First-clause-request g t c =
    let tree =
    subst (IsOrdered c.args.levels (part_of c.args.levels c.args.id)) c.in-Fork.is c.requires in
    rw (ap items c.in-Fork.is)
    ((rw c.deref-in-First.ensures at c.find_leaf.ensures.request)
    ∙ at_first c.args.levels c.args.id
    (of_items c.in-Fork.fork.value (tree.1, tree.2, tree.3, tree.4))
    (omega (arith, c.choose_quarter.ensures, ap two_bits c.in-First.is)))

pub returns-in-Second-clause-request : goal.returns-in-Second-clause-request
returns-in-Second-clause-request g t c =
    let tree =
    subst (IsOrdered c.args.levels (part_of c.args.levels c.args.id)) c.in-Fork.is c.requires in
    rw (ap items c.in-Fork.is)
    ((rw c.deref-in-Second.ensures at c.find_leaf-in-Second.ensures.request)
    ∙ at_second c.args.levels c.args.id
    (of_items c.in-Fork.fork.value (tree.1, tree.2, tree.3, tree.4))
    (omega (arith, c.choose_quarter.ensures, ap two_bits c.in-Second.is)))

pub returns-in-Third-clause-request : goal.returns-in-Third-clause-request
returns-in-Third-clause-request g t c =
    let tree =
    subst (IsOrdered c.args.levels (part_of c.args.levels c.args.id)) c.in-Fork.is c.requires in
    rw (ap items c.in-Fork.is)
    ((rw c.deref-in-Third.ensures at c.find_leaf-in-Third.ensures.request)
    ∙ at_third c.args.levels c.args.id
    (of_items c.in-Fork.fork.value (tree.1, tree.2, tree.3, tree.4))
    (omega (arith, c.choose_quarter.ensures, ap two_bits c.in-Third.is)))

pub returns-in-Fourth-clause-request : goal.returns-in-Fourth-clause-request
returns-in-Fourth-clause-request g t c =
    let tree =
    subst (IsOrdered c.args.levels (part_of c.args.levels c.args.id)) c.in-Fork.is c.requires in
    rw (ap items c.in-Fork.is)
    ((rw c.deref-in-Fourth.ensures at c.find_leaf-in-Fourth.ensures.request)
    ∙ at_fourth c.args.levels c.args.id
    (of_items c.in-Fork.fork.value (tree.1, tree.2, tree.3, tree.4))
    (omega (arith, c.choose_quarter.ensures, ap two_bits c.in-Fourth.is)))

pub returns-in-First-clause-datum : goal.returns-in-First-clause-datum
returns-in-First-clause-datum g t c =
    let tree =
    subst (IsOrdered c.args.levels (part_of c.args.levels c.args.id)) c.in-Fork.is c.requires in
    rw (ap attached c.in-Fork.is)
    ((rw c.deref-in-First.ensures at c.find_leaf.ensures.datum)
    ∙ at_first c.args.levels c.args.id
    (of_attached c.in-Fork.fork.value (tree.1, tree.2, tree.3, tree.4))
    (omega (arith, c.choose_quarter.ensures, ap two_bits c.in-First.is)))

pub returns-in-Second-clause-datum : goal.returns-in-Second-clause-datum
returns-in-Second-clause-datum g t c =
    let tree =
    subst (IsOrdered c.args.levels (part_of c.args.levels c.args.id)) c.in-Fork.is c.requires in
    rw (ap attached c.in-Fork.is)
    ((rw c.deref-in-Second.ensures at c.find_leaf-in-Second.ensures.datum)
    ∙ at_second c.args.levels c.args.id
    (of_attached c.in-Fork.fork.value (tree.1, tree.2, tree.3, tree.4))
    (omega (arith, c.choose_quarter.ensures, ap two_bits c.in-Second.is)))

pub returns-in-Third-clause-datum : goal.returns-in-Third-clause-datum
returns-in-Third-clause-datum g t c =
    let tree =
    subst (IsOrdered c.args.levels (part_of c.args.levels c.args.id)) c.in-Fork.is c.requires in
    rw (ap attached c.in-Fork.is)
    ((rw c.deref-in-Third.ensures at c.find_leaf-in-Third.ensures.datum)
    ∙ at_third c.args.levels c.args.id
    (of_attached c.in-Fork.fork.value (tree.1, tree.2, tree.3, tree.4))
    (omega (arith, c.choose_quarter.ensures, ap two_bits c.in-Third.is)))

pub returns-in-Fourth-clause-datum : goal.returns-in-Fourth-clause-datum
returns-in-Fourth-clause-datum g t c =
    let tree =
    subst (IsOrdered c.args.levels (part_of c.args.levels c.args.id)) c.in-Fork.is c.requires in
    rw (ap attached c.in-Fork.is)
    ((rw c.deref-in-Fourth.ensures at c.find_leaf-in-Fourth.ensures.datum)
    ∙ at_fourth c.args.levels c.args.id
    (of_attached c.in-Fork.fork.value (tree.1, tree.2, tree.3, tree.4))
    (omega (arith, c.choose_quarter.ensures, ap two_bits c.in-Fourth.is)))
