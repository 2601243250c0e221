-- Where a link tells of none that is due, nothing changes. Else the slots pass link by link, up to
-- the one that has the request that is sent.
use Rattle.std.proofs.Common.{◌-◌, ap, sym, subst, ◌∙◌}
use Rattle.std.specs.Option.{is_some}
use Rattle.stun_agent.specs.code.Awaited.{some_due}
use Rattle.stun_agent.specs.code.Tree.{items, fork_items, IsTimed}
use Rattle.stun_agent.proofs.FoundLemmas.{found_in_first, found_in_second, found_in_third}
use Rattle.stun_agent.proofs.FoundLemmas.{found_in_fourth}
use Rattle.stun_agent.proofs.PassedLemmas.{none_due-next, passed_none, sends}
use Rattle.stun_agent.proofs.PassedLemmas.{passed_in_first, passed_in_second, passed_in_third}
use Rattle.stun_agent.proofs.PassedLemmas.{passed_in_fourth}
use Rattle.stun_agent.proofs.state.tree.change.+pass_slots.Goals as goal

pub pass_slots-returns-then-not-is_due-2-clause-sent :
    goal.pass_slots-returns-then-not-is_due-2-clause-sent
pass_slots-returns-then-not-is_due-2-clause-sent g t c =
    let told = subst (IsTimed c.args.transport) c.in-Fork.is c.requires in
    let none = ap (some_due c.args.now) (sym told.0) ∙ sym c.is_due-in-Fork.ensures
    ∙ c.if-not-is_due-2.true in
    rw (ap items c.in-Fork.is)
    (ap is_some
    (sym (none_due-next c.args.transport c.args.now (fork_items c.in-Fork.fork.value) none)))

pub pass_slots-returns-then-not-is_due-2-clause-after :
    goal.pass_slots-returns-then-not-is_due-2-clause-after
pass_slots-returns-then-not-is_due-2-clause-after g t c levels part ordered =
    let told = subst (IsTimed c.args.transport) c.in-Fork.is c.requires in
    let none = ap (some_due c.args.now) (sym told.0) ∙ sym c.is_due-in-Fork.ensures
    ∙ c.if-not-is_due-2.true in
    rw (ap items c.in-Fork.is)
    (passed_none c.args.transport c.args.now (fork_items c.in-Fork.fork.value) none)

pub pass_in-returns-then-pass_slots-clause-sent :
    goal.pass_in-returns-then-pass_slots-clause-sent
pass_in-returns-then-pass_slots-clause-sent g t c =
    let one = sym c.pass_slots.ensures.sent ∙ c.if-pass_slots.true in
    sym one
    ∙ ap is_some (found_in_first (sends c.args.transport c.args.now) c.args.fork.now one)

pub pass_in-returns-then-pass_slots-clause-after :
    goal.pass_in-returns-then-pass_slots-clause-after
pass_in-returns-then-pass_slots-clause-after g t c levels part h =
    let one = sym c.pass_slots.ensures.sent ∙ c.if-pass_slots.true in
    passed_in_first c.args.transport c.args.now levels part c.args.fork.now h _
    (c.pass_slots.ensures.after (levels - 1) _ h.0) one

pub pass_in-returns-then-pass_slots-2-clause-sent :
    goal.pass_in-returns-then-pass_slots-2-clause-sent
pass_in-returns-then-pass_slots-2-clause-sent g t c =
    let one = sym c.pass_slots.ensures.sent ∙ c.if-pass_slots.false in
    let two = sym c.pass_slots-2.ensures.sent ∙ c.if-pass_slots-2.true in
    sym two
    ∙ ap is_some (found_in_second (sends c.args.transport c.args.now) c.args.fork.now one two)

pub pass_in-returns-then-pass_slots-2-clause-after :
    goal.pass_in-returns-then-pass_slots-2-clause-after
pass_in-returns-then-pass_slots-2-clause-after g t c levels part h =
    let one = sym c.pass_slots.ensures.sent ∙ c.if-pass_slots.false in
    let two = sym c.pass_slots-2.ensures.sent ∙ c.if-pass_slots-2.true in
    passed_in_second c.args.transport c.args.now levels part c.args.fork.now h _
    (c.pass_slots.ensures.after (levels - 1) _ h.0) one _
    (c.pass_slots-2.ensures.after (levels - 1) _ h.1) two

pub pass_in-returns-then-pass_slots-3-clause-sent :
    goal.pass_in-returns-then-pass_slots-3-clause-sent
pass_in-returns-then-pass_slots-3-clause-sent g t c =
    let one = sym c.pass_slots.ensures.sent ∙ c.if-pass_slots.false in
    let two = sym c.pass_slots-2.ensures.sent ∙ c.if-pass_slots-2.false in
    let three = sym c.pass_slots-3.ensures.sent ∙ c.if-pass_slots-3.true in
    sym three
    ∙ ap is_some (found_in_third (sends c.args.transport c.args.now) c.args.fork.now one two three)

pub pass_in-returns-then-pass_slots-3-clause-after :
    goal.pass_in-returns-then-pass_slots-3-clause-after
pass_in-returns-then-pass_slots-3-clause-after g t c levels part h =
    let one = sym c.pass_slots.ensures.sent ∙ c.if-pass_slots.false in
    let two = sym c.pass_slots-2.ensures.sent ∙ c.if-pass_slots-2.false in
    let three = sym c.pass_slots-3.ensures.sent ∙ c.if-pass_slots-3.true in
    passed_in_third c.args.transport c.args.now levels part c.args.fork.now h _
    (c.pass_slots.ensures.after (levels - 1) _ h.0) one _
    (c.pass_slots-2.ensures.after (levels - 1) _ h.1) two _
    (c.pass_slots-3.ensures.after (levels - 1) _ h.2) three

pub pass_in-returns-clause-sent : goal.pass_in-returns-clause-sent
pass_in-returns-clause-sent g t c =
    let one = sym c.pass_slots.ensures.sent ∙ c.if-pass_slots.false in
    let two = sym c.pass_slots-2.ensures.sent ∙ c.if-pass_slots-2.false in
    let three = sym c.pass_slots-3.ensures.sent ∙ c.if-pass_slots-3.false in
    c.pass_slots-4.ensures.sent
    ∙ ap is_some (found_in_fourth (sends c.args.transport c.args.now) c.args.fork.now one two three)

pub pass_in-returns-clause-after : goal.pass_in-returns-clause-after
pass_in-returns-clause-after g t c levels part h =
    let one = sym c.pass_slots.ensures.sent ∙ c.if-pass_slots.false in
    let two = sym c.pass_slots-2.ensures.sent ∙ c.if-pass_slots-2.false in
    let three = sym c.pass_slots-3.ensures.sent ∙ c.if-pass_slots-3.false in
    passed_in_fourth c.args.transport c.args.now levels part c.args.fork.now h _
    (c.pass_slots.ensures.after (levels - 1) _ h.0) one _
    (c.pass_slots-2.ensures.after (levels - 1) _ h.1) two _
    (c.pass_slots-3.ensures.after (levels - 1) _ h.2) three _
    (c.pass_slots-4.ensures.after (levels - 1) _ h.3)
