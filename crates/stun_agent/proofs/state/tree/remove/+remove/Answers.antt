-- The id is in the quarter that has its bits, and the other quarters stay. A link to what is left,
-- if that is one request or none, is in order, as all of it is in the part.
use Rattle.std.proofs.Common.{◌≡◌, ◌∙◌, arith, subst, sym, ap, ap₂}
use Rattle.stun_agent.specs.Transactions.{at, without}
use Rattle.stun_agent.specs.code.Awaited.{awaited_of, joined}
use Rattle.stun_agent.specs.code.Tree.{items, fork_items, part_of, two_bits, IsTimed, IsTimedFork}
use Rattle.stun_agent.proofs.AwaitedLemmas.{awaited_of-without}
use Rattle.stun_agent.proofs.QuarterLemmas.{without_acts, of_items, of_attached}
use Rattle.stun_agent.proofs.QuarterLemmas.{at_first, at_second, at_third, at_fourth}
use Rattle.stun_agent.proofs.QuarterLemmas.{in_first, in_second, in_third, in_fourth}
use Rattle.stun_agent.proofs.RemoveLemmas.{kept_ordered}
use Rattle.stun_agent.proofs.state.tree.remove.+remove.Goals as goal

-- ---- a link
pub remove-returns-in-Some-clause-ordered : goal.remove-returns-in-Some-clause-ordered
remove-returns-in-Some-clause-ordered g t c =
    let left = rw c.deref_mut.ensures.value at c.remove_from.ensures.after in
    let kept : items c.in-Some.only ≡ fork_items c.remove_from.new.fork =
    rw c.deref_mut-in-Fork.ensures.value at c.in-Some.ensures.items in
    kept_ordered c.args.id c.args.levels (part_of c.args.levels c.args.id) c.args.link.now
    c.in-Some.only c.requires c.in-Some.ensures.lone (kept ∙ (rw (ap items c.in-Fork.is) left))

pub remove-returns-in-Some-clause-timed : goal.remove-returns-in-Some-clause-timed
remove-returns-in-Some-clause-timed g t c transport timed =
    let told = subst (IsTimed transport) c.in-Fork.is timed in
    (rw c.deref_mut-in-Fork.ensures.value at c.in-Some.ensures.timed) transport
    ((rw c.deref_mut.ensures.value at c.remove_from.ensures.timed) transport
    (told.1, told.2, told.3, told.4))

pub remove-returns-in-None-clause-timed : goal.remove-returns-in-None-clause-timed
remove-returns-in-None-clause-timed g t c transport timed =
    let told = subst (IsTimed transport) c.in-Fork.is timed in
    let whole = subst (IsTimedFork transport) (sym c.deref_mut.ensures.value)
    (told.1, told.2, told.3, told.4) in
    let found = subst (IsTimedFork transport) (sym c.deref_mut-in-Fork.ensures.value)
    (c.remove_from.ensures.timed transport whole) in
    let kept = subst (IsTimedFork transport) (sym c.in-None.ensures.same) found in
    let all = fork_items c.in-Fork.fork.value in
    let there = sym (c.in_ok-leaf-in-Fork.ensures.answer
    ∙ ap (λ f. at c.args.id (fork_items f)) c.deref_mut.ensures.value) in
    let left : fork_items c.deref_mut-in-Fork.result.now ≡ without c.args.id all =
    ap fork_items c.deref_mut-in-Fork.ensures.value ∙ c.remove_from.ensures.after
    ∙ ap (λ f. without c.args.id (fork_items f)) c.deref_mut.ensures.value in
    let gone = c.in_ok-leaf-in-Fork.ensures.gone transport whole in
    let others = told.0
    ∙ awaited_of-without transport c.args.id c.in_ok-leaf-in-Fork.leaf.value.entry.1 all there
    ∙ ap₂ joined (ap (awaited_of transport) (sym left)) (sym gone) in (
      c.in-None.ensures.awaited transport found others
          ∙ ap (awaited_of transport) (ap fork_items (sym c.in-None.ensures.same)),
      kept.0,
      kept.1,
      kept.2,
      kept.3,
    )

-- ---- the quarters of a fork
pub remove_from-returns-in-First-clause-answer : goal.remove_from-returns-in-First-clause-answer
remove_from-returns-in-First-clause-answer g t c =
    c.remove.ensures.answer
    ∙ at_first c.args.levels c.args.id (of_items c.args.fork.now c.requires.ordered)
    (omega (arith, c.choose_quarter.ensures, ap two_bits c.in-First.is))

pub remove_from-returns-in-First-clause-after : goal.remove_from-returns-in-First-clause-after
remove_from-returns-in-First-clause-after g t c =
    in_first c.args.levels c.args.id (of_items c.args.fork.now c.requires.ordered)
    (without_acts c.args.id) _ (omega (arith, c.choose_quarter.ensures, ap two_bits c.in-First.is))
    c.remove.ensures.after

pub remove_from-returns-in-First-clause-timed : goal.remove_from-returns-in-First-clause-timed
remove_from-returns-in-First-clause-timed g t c transport timed =
    (c.remove.ensures.timed transport timed.0, timed.1, timed.2, timed.3)

pub remove_from-returns-in-Second-clause-answer : goal.remove_from-returns-in-Second-clause-answer
remove_from-returns-in-Second-clause-answer g t c =
    c.remove-in-Second.ensures.answer
    ∙ at_second c.args.levels c.args.id (of_items c.args.fork.now c.requires.ordered)
    (omega (arith, c.choose_quarter.ensures, ap two_bits c.in-Second.is))

pub remove_from-returns-in-Second-clause-after : goal.remove_from-returns-in-Second-clause-after
remove_from-returns-in-Second-clause-after g t c =
    in_second c.args.levels c.args.id (of_items c.args.fork.now c.requires.ordered)
    (without_acts c.args.id) _ (omega (arith, c.choose_quarter.ensures, ap two_bits c.in-Second.is))
    c.remove-in-Second.ensures.after

pub remove_from-returns-in-Second-clause-timed : goal.remove_from-returns-in-Second-clause-timed
remove_from-returns-in-Second-clause-timed g t c transport timed =
    (timed.0, c.remove-in-Second.ensures.timed transport timed.1, timed.2, timed.3)

pub remove_from-returns-in-Third-clause-answer : goal.remove_from-returns-in-Third-clause-answer
remove_from-returns-in-Third-clause-answer g t c =
    c.remove-in-Third.ensures.answer
    ∙ at_third c.args.levels c.args.id (of_items c.args.fork.now c.requires.ordered)
    (omega (arith, c.choose_quarter.ensures, ap two_bits c.in-Third.is))

pub remove_from-returns-in-Third-clause-after : goal.remove_from-returns-in-Third-clause-after
remove_from-returns-in-Third-clause-after g t c =
    in_third c.args.levels c.args.id (of_items c.args.fork.now c.requires.ordered)
    (without_acts c.args.id) _ (omega (arith, c.choose_quarter.ensures, ap two_bits c.in-Third.is))
    c.remove-in-Third.ensures.after

pub remove_from-returns-in-Third-clause-timed : goal.remove_from-returns-in-Third-clause-timed
remove_from-returns-in-Third-clause-timed g t c transport timed =
    (timed.0, timed.1, c.remove-in-Third.ensures.timed transport timed.2, timed.3)

pub remove_from-returns-in-Fourth-clause-answer : goal.remove_from-returns-in-Fourth-clause-answer
remove_from-returns-in-Fourth-clause-answer g t c =
    c.remove-in-Fourth.ensures.answer
    ∙ at_fourth c.args.levels c.args.id (of_items c.args.fork.now c.requires.ordered)
    (omega (arith, c.choose_quarter.ensures, ap two_bits c.in-Fourth.is))

pub remove_from-returns-in-Fourth-clause-after : goal.remove_from-returns-in-Fourth-clause-after
remove_from-returns-in-Fourth-clause-after g t c =
    in_fourth c.args.levels c.args.id (of_items c.args.fork.now c.requires.ordered)
    (without_acts c.args.id) _ (omega (arith, c.choose_quarter.ensures, ap two_bits c.in-Fourth.is))
    c.remove-in-Fourth.ensures.after

pub remove_from-returns-in-Fourth-clause-timed : goal.remove_from-returns-in-Fourth-clause-timed
remove_from-returns-in-Fourth-clause-timed g t c transport timed =
    (timed.0, timed.1, timed.2, c.remove-in-Fourth.ensures.timed transport timed.3)

pub remove_from-returns-in-First-clause-datum : goal.remove_from-returns-in-First-clause-datum
remove_from-returns-in-First-clause-datum g t c =
    c.remove.ensures.datum
    ∙ at_first c.args.levels c.args.id (of_attached c.args.fork.now c.requires.ordered)
    (omega (arith, c.choose_quarter.ensures, ap two_bits c.in-First.is))

pub remove_from-returns-in-First-clause-attached : goal.remove_from-returns-in-First-clause-attached
remove_from-returns-in-First-clause-attached g t c =
    in_first c.args.levels c.args.id (of_attached c.args.fork.now c.requires.ordered)
    (without_acts c.args.id) _ (omega (arith, c.choose_quarter.ensures, ap two_bits c.in-First.is))
    c.remove.ensures.attached

pub remove_from-returns-in-Second-clause-datum : goal.remove_from-returns-in-Second-clause-datum
remove_from-returns-in-Second-clause-datum g t c =
    c.remove-in-Second.ensures.datum
    ∙ at_second c.args.levels c.args.id (of_attached c.args.fork.now c.requires.ordered)
    (omega (arith, c.choose_quarter.ensures, ap two_bits c.in-Second.is))

pub remove_from-returns-in-Second-clause-attached :
    goal.remove_from-returns-in-Second-clause-attached
remove_from-returns-in-Second-clause-attached g t c =
    in_second c.args.levels c.args.id (of_attached c.args.fork.now c.requires.ordered)
    (without_acts c.args.id) _ (omega (arith, c.choose_quarter.ensures, ap two_bits c.in-Second.is))
    c.remove-in-Second.ensures.attached

pub remove_from-returns-in-Third-clause-datum : goal.remove_from-returns-in-Third-clause-datum
remove_from-returns-in-Third-clause-datum g t c =
    c.remove-in-Third.ensures.datum
    ∙ at_third c.args.levels c.args.id (of_attached c.args.fork.now c.requires.ordered)
    (omega (arith, c.choose_quarter.ensures, ap two_bits c.in-Third.is))

pub remove_from-returns-in-Third-clause-attached : goal.remove_from-returns-in-Third-clause-attached
remove_from-returns-in-Third-clause-attached g t c =
    in_third c.args.levels c.args.id (of_attached c.args.fork.now c.requires.ordered)
    (without_acts c.args.id) _ (omega (arith, c.choose_quarter.ensures, ap two_bits c.in-Third.is))
    c.remove-in-Third.ensures.attached

pub remove_from-returns-in-Fourth-clause-datum : goal.remove_from-returns-in-Fourth-clause-datum
remove_from-returns-in-Fourth-clause-datum g t c =
    c.remove-in-Fourth.ensures.datum
    ∙ at_fourth c.args.levels c.args.id (of_attached c.args.fork.now c.requires.ordered)
    (omega (arith, c.choose_quarter.ensures, ap two_bits c.in-Fourth.is))

pub remove_from-returns-in-Fourth-clause-attached :
    goal.remove_from-returns-in-Fourth-clause-attached
remove_from-returns-in-Fourth-clause-attached g t c =
    in_fourth c.args.levels c.args.id (of_attached c.args.fork.now c.requires.ordered)
    (without_acts c.args.id) _ (omega (arith, c.choose_quarter.ensures, ap two_bits c.in-Fourth.is))
    c.remove-in-Fourth.ensures.attached
