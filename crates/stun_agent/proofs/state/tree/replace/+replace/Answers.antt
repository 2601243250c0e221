-- The datum is in the quarter that has the id, and the other quarters stay.
use Rattle.std.proofs.Common.{◌∙◌, arith, ap, sym, subst}
use Rattle.stun_agent.specs.code.Awaited.{awaited_of}
use Rattle.stun_agent.specs.code.Tree.{two_bits, IsTimed}
use Rattle.stun_agent.proofs.QuarterLemmas.{set_acts, of_attached}
use Rattle.stun_agent.proofs.QuarterLemmas.{at_first, at_second, at_third, at_fourth}
use Rattle.stun_agent.proofs.QuarterLemmas.{in_first, in_second, in_third, in_fourth}
use Rattle.stun_agent.proofs.state.tree.replace.+replace.Goals as goal

pub replace_in-returns-in-First-clause-before : goal.replace_in-returns-in-First-clause-before
replace_in-returns-in-First-clause-before g t c =
    c.replace.ensures.before
    ∙ at_first c.args.levels c.args.id (of_attached c.args.fork.now c.requires.ordered)
    (omega (arith, c.choose_quarter.ensures, ap two_bits c.in-First.is))

pub replace_in-returns-in-First-clause-attached : goal.replace_in-returns-in-First-clause-attached
replace_in-returns-in-First-clause-attached g t c =
    in_first c.args.levels c.args.id (of_attached c.args.fork.now c.requires.ordered)
    (set_acts c.args.id c.args.datum) _
    (omega (arith, c.choose_quarter.ensures, ap two_bits c.in-First.is))
    c.replace.ensures.attached

pub replace_in-returns-in-Second-clause-before : goal.replace_in-returns-in-Second-clause-before
replace_in-returns-in-Second-clause-before g t c =
    c.replace-in-Second.ensures.before
    ∙ at_second c.args.levels c.args.id (of_attached c.args.fork.now c.requires.ordered)
    (omega (arith, c.choose_quarter.ensures, ap two_bits c.in-Second.is))

pub replace_in-returns-in-Second-clause-attached : goal.replace_in-returns-in-Second-clause-attached
replace_in-returns-in-Second-clause-attached g t c =
    in_second c.args.levels c.args.id (of_attached c.args.fork.now c.requires.ordered)
    (set_acts c.args.id c.args.datum) _
    (omega (arith, c.choose_quarter.ensures, ap two_bits c.in-Second.is))
    c.replace-in-Second.ensures.attached

pub replace_in-returns-in-Third-clause-before : goal.replace_in-returns-in-Third-clause-before
replace_in-returns-in-Third-clause-before g t c =
    c.replace-in-Third.ensures.before
    ∙ at_third c.args.levels c.args.id (of_attached c.args.fork.now c.requires.ordered)
    (omega (arith, c.choose_quarter.ensures, ap two_bits c.in-Third.is))

pub replace_in-returns-in-Third-clause-attached : goal.replace_in-returns-in-Third-clause-attached
replace_in-returns-in-Third-clause-attached g t c =
    in_third c.args.levels c.args.id (of_attached c.args.fork.now c.requires.ordered)
    (set_acts c.args.id c.args.datum) _
    (omega (arith, c.choose_quarter.ensures, ap two_bits c.in-Third.is))
    c.replace-in-Third.ensures.attached

pub replace_in-returns-in-Fourth-clause-before : goal.replace_in-returns-in-Fourth-clause-before
replace_in-returns-in-Fourth-clause-before g t c =
    c.replace-in-Fourth.ensures.before
    ∙ at_fourth c.args.levels c.args.id (of_attached c.args.fork.now c.requires.ordered)
    (omega (arith, c.choose_quarter.ensures, ap two_bits c.in-Fourth.is))

pub replace_in-returns-in-Fourth-clause-attached : goal.replace_in-returns-in-Fourth-clause-attached
replace_in-returns-in-Fourth-clause-attached g t c =
    in_fourth c.args.levels c.args.id (of_attached c.args.fork.now c.requires.ordered)
    (set_acts c.args.id c.args.datum) _
    (omega (arith, c.choose_quarter.ensures, ap two_bits c.in-Fourth.is))
    c.replace-in-Fourth.ensures.attached

-- ---- what is awaited stays
pub replace-returns-in-Fork-clause-timed : goal.replace-returns-in-Fork-clause-timed
replace-returns-in-Fork-clause-timed g t c transport timed =
    let told = subst (IsTimed transport) c.in-Fork.is timed in
    let new = (rw c.deref_mut-in-Fork.ensures.value at c.replace_in.ensures.timed) transport
    (told.1, told.2, told.3, told.4) in
    let same = rw c.deref_mut-in-Fork.ensures.value at c.replace_in.ensures.items in
    (told.0 ∙ ap (awaited_of transport) (sym same), new.0, new.1, new.2, new.3)

pub replace_in-returns-in-First-clause-timed : goal.replace_in-returns-in-First-clause-timed
replace_in-returns-in-First-clause-timed g t c transport timed =
    (c.replace.ensures.timed transport timed.0, timed.1, timed.2, timed.3)

pub replace_in-returns-in-Second-clause-timed : goal.replace_in-returns-in-Second-clause-timed
replace_in-returns-in-Second-clause-timed g t c transport timed =
    (timed.0, c.replace-in-Second.ensures.timed transport timed.1, timed.2, timed.3)

pub replace_in-returns-in-Third-clause-timed : goal.replace_in-returns-in-Third-clause-timed
replace_in-returns-in-Third-clause-timed g t c transport timed =
    (timed.0, timed.1, c.replace-in-Third.ensures.timed transport timed.2, timed.3)

pub replace_in-returns-in-Fourth-clause-timed : goal.replace_in-returns-in-Fourth-clause-timed
replace_in-returns-in-Fourth-clause-timed g t c transport timed =
    (timed.0, timed.1, timed.2, c.replace-in-Fourth.ensures.timed transport timed.3)
