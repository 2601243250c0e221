-- Where a link tells of none that is due, none is sent. Else the first link with one has the first.
use Rattle.std.proofs.Common.{ap, sym, subst, ◌∙◌}
use Rattle.std.specs.Option.{is_some}
use Rattle.stun_agent.specs.code.Awaited.{some_due}
use Rattle.stun_agent.specs.code.Tree.{items, fork_items, IsTimed}
use Rattle.stun_agent.proofs.FoundLemmas.{found_in_first, found_in_second, found_in_third}
use Rattle.stun_agent.proofs.FoundLemmas.{found_in_fourth}
use Rattle.stun_agent.proofs.PassedLemmas.{none_due-next, sends}
use Rattle.stun_agent.proofs.state.tree.lookups.+find_sent.Goals as goal

pub find_sent-returns-then-not-is_due-2 : goal.find_sent-returns-then-not-is_due-2
find_sent-returns-then-not-is_due-2 g t c transport timed =
    let told = subst (IsTimed transport) c.in-Fork.is timed in
    let none = ap (some_due c.args.now) (sym told.0) ∙ sym c.is_due-in-Fork.ensures
    ∙ c.if-not-is_due-2.true in
    rw (ap items c.in-Fork.is)
    (sym (none_due-next transport c.args.now (fork_items c.in-Fork.fork.value) none))

pub find_sent_below-returns-in-Some : goal.find_sent_below-returns-in-Some
find_sent_below-returns-in-Some g t c transport timed =
    let one = c.in-Some.ensures transport timed.0 in
    one ∙ found_in_first (sends transport c.args.now) c.args.fork.now (sym (ap is_some one))

pub find_sent_below-returns-in-Some-find_sent : goal.find_sent_below-returns-in-Some-find_sent
find_sent_below-returns-in-Some-find_sent g t c transport timed =
    let one = c.in_default.ensures transport timed.0 in
    let two = c.in-Some-find_sent.ensures transport timed.1 in
    two
    ∙ found_in_second (sends transport c.args.now) c.args.fork.now (sym (ap is_some one))
    (sym (ap is_some two))

pub find_sent_below-returns-in-Some-find_sent-2 :
    goal.find_sent_below-returns-in-Some-find_sent-2
find_sent_below-returns-in-Some-find_sent-2 g t c transport timed =
    let one = c.in_default.ensures transport timed.0 in
    let two = c.in_default-find_sent.ensures transport timed.1 in
    let three = c.in-Some-find_sent-2.ensures transport timed.2 in
    three
    ∙ found_in_third (sends transport c.args.now) c.args.fork.now (sym (ap is_some one))
    (sym (ap is_some two)) (sym (ap is_some three))

pub find_sent_below-returns : goal.find_sent_below-returns
find_sent_below-returns g t c transport timed =
    let one = c.in_default.ensures transport timed.0 in
    let two = c.in_default-find_sent.ensures transport timed.1 in
    let three = c.in_default-find_sent-2.ensures transport timed.2 in
    c.find_sent-4.ensures transport timed.3
    ∙ found_in_fourth (sends transport c.args.now) c.args.fork.now (sym (ap is_some one))
    (sym (ap is_some two)) (sym (ap is_some three))
