-- Where a link tells of none that is over, there is none. Else the first link with one has the
-- first, and one of them has one, so the search looks at four links of each fork at most.
use Rattle.std.proofs.Common.{arith, ap, sym, subst, ◌∙◌}
use Rattle.std.specs.Option.{option_map}
use Rattle.stun_agent.specs.Transactions.{is_over}
use Rattle.stun_agent.specs.code.Awaited.{some_over}
use Rattle.stun_agent.specs.code.Transactions.{id_and_repeats}
use Rattle.stun_agent.specs.code.Tree.{items, fork_items, depth, IsTimed, IsTimedFork}
use Rattle.stun_agent.specs.Deadlines.{Work}
use Rattle.stun_agent.proofs.AwaitedLemmas.{over_is}
use Rattle.stun_agent.proofs.LookLemmas.{looks_of_last, looks_of_fork}
use Rattle.stun_agent.proofs.FoundLemmas.{none_is, some_of, none_of, found_in_first}
use Rattle.stun_agent.proofs.FoundLemmas.{found_in_second, found_in_third, found_in_fourth}
use Rattle.stun_agent.proofs.state.search.+find_ended.Goals as goal

pub find_ended-returns-then-not-is_over-2-clause-answer :
    goal.find_ended-returns-then-not-is_over-2-clause-answer
find_ended-returns-then-not-is_over-2-clause-answer g t c transport timed =
    let told = subst (IsTimed transport) c.in-Fork.is timed in
    let none =
    sym (over_is transport c.args.now (fork_items c.in-Fork.fork.value))
    ∙ ap (some_over c.args.now) (sym told.0) ∙ sym c.is_over-in-Fork.ensures.over
    ∙ c.if-not-is_over-2.true in
    rw (ap items c.in-Fork.is)
    (ap (option_map id_and_repeats) (sym (none_is _ none)))

pub find_ended-returns-else-not-is_over-2-clause-looks :
    goal.find_ended-returns-else-not-is_over-2-clause-looks
find_ended-returns-else-not-is_over-2-clause-looks g t c transport timed =
    let told = subst (IsTimed transport) c.in-Fork.is timed in
    let links : IsTimedFork transport c.in-Fork.fork.value = (told.1, told.2, told.3, told.4) in
    let below = rw c.deref-in-Fork.ensures at c.find_ended_below.ensures.looks in
    let found = rw c.deref-in-Fork.ensures at c.find_ended_below.ensures.answer in
    let some = sym (over_is transport c.args.now (fork_items c.in-Fork.fork.value))
    ∙ ap (some_over c.args.now) (sym told.0) ∙ sym c.is_over-in-Fork.ensures.over
    ∙ c.if-not-is_over-2.false in
    rw (ap depth c.in-Fork.is)
    (looks_of_fork c.find_ended_below.result _ (found transport links) some _ _ _ _
    (ap (λ (w : Work). w.looks) c.is_over-in-Fork.ensures.counts) (below transport links))

-- ---- the links of a fork
pub find_ended_below-returns-in-Some-clause-answer :
    goal.find_ended_below-returns-in-Some-clause-answer
find_ended_below-returns-in-Some-clause-answer g t c transport timed =
    let one = c.in-Some.ensures.answer transport timed.0 in
    one
    ∙ ap (option_map id_and_repeats)
    (found_in_first (λ e. is_over transport c.args.now e.1) c.args.fork.now
    (some_of id_and_repeats _ _ one))

pub find_ended_below-returns-in-Some-find_ended-clause-answer :
    goal.find_ended_below-returns-in-Some-find_ended-clause-answer
find_ended_below-returns-in-Some-find_ended-clause-answer g t c transport timed =
    let one = c.in_default.ensures.answer transport timed.0 in
    let two = c.in-Some-find_ended.ensures.answer transport timed.1 in
    two
    ∙ ap (option_map id_and_repeats)
    (found_in_second (λ e. is_over transport c.args.now e.1) c.args.fork.now
    (none_of id_and_repeats _ one) (some_of id_and_repeats _ _ two))

pub find_ended_below-returns-in-Some-find_ended-2-clause-answer :
    goal.find_ended_below-returns-in-Some-find_ended-2-clause-answer
find_ended_below-returns-in-Some-find_ended-2-clause-answer g t c transport timed =
    let one = c.in_default.ensures.answer transport timed.0 in
    let two = c.in_default-find_ended.ensures.answer transport timed.1 in
    let three = c.in-Some-find_ended-2.ensures.answer transport timed.2 in
    three
    ∙ ap (option_map id_and_repeats)
    (found_in_third (λ e. is_over transport c.args.now e.1) c.args.fork.now
    (none_of id_and_repeats _ one) (none_of id_and_repeats _ two)
    (some_of id_and_repeats _ _ three))

pub find_ended_below-returns-clause-answer : goal.find_ended_below-returns-clause-answer
find_ended_below-returns-clause-answer g t c transport timed =
    let one = c.in_default.ensures.answer transport timed.0 in
    let two = c.in_default-find_ended.ensures.answer transport timed.1 in
    let three = c.in_default-find_ended-2.ensures.answer transport timed.2 in
    c.find_ended-4.ensures.answer transport timed.3
    ∙ ap (option_map id_and_repeats)
    (found_in_fourth (λ e. is_over transport c.args.now e.1) c.args.fork.now
    (none_of id_and_repeats _ one) (none_of id_and_repeats _ two)
    (none_of id_and_repeats _ three))

pub find_ended_below-returns-in-Some-clause-looks :
    goal.find_ended_below-returns-in-Some-clause-looks
find_ended_below-returns-in-Some-clause-looks g t c transport timed =
    let one = c.in-Some.ensures.looks transport timed.0 in
    omega (arith, one)

pub find_ended_below-returns-in-Some-find_ended-clause-looks :
    goal.find_ended_below-returns-in-Some-find_ended-clause-looks
find_ended_below-returns-in-Some-find_ended-clause-looks g t c transport timed =
    let one = c.in_default.ensures.looks transport timed.0 in
    let two = c.in-Some-find_ended.ensures.looks transport timed.1 in
    omega (arith, one, two)

pub find_ended_below-returns-in-Some-find_ended-2-clause-looks :
    goal.find_ended_below-returns-in-Some-find_ended-2-clause-looks
find_ended_below-returns-in-Some-find_ended-2-clause-looks g t c transport timed =
    let one = c.in_default.ensures.looks transport timed.0 in
    let two = c.in_default-find_ended.ensures.looks transport timed.1 in
    let three = c.in-Some-find_ended-2.ensures.looks transport timed.2 in
    omega (arith, one, two, three)

pub find_ended_below-returns-clause-looks : goal.find_ended_below-returns-clause-looks
find_ended_below-returns-clause-looks g t c transport timed =
    let one = c.in_default.ensures.looks transport timed.0 in
    let two = c.in_default-find_ended.ensures.looks transport timed.1 in
    let three = c.in_default-find_ended-2.ensures.looks transport timed.2 in
    looks_of_last c.find_ended-4.result _ _ _ (depth c.args.fork.now.first)
    (depth c.args.fork.now.second) (depth c.args.fork.now.third) (depth c.args.fork.now.fourth)
    (omega (arith, one, two, three)) (c.find_ended-4.ensures.looks transport timed.3)
