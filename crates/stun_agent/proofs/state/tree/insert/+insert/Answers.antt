-- One more in the quarter that has the ID is one more below the link.
use Rattle.std.proofs.Common.{◌≡◌, ◌+◌, ◌-◌, ◌*◌, ◌∙◌, arith, subst, sym, ap, ap₂}
use Rattle.stun_agent.specs.code.Awaited.{joined, awaited_of}
use Rattle.stun_agent.specs.code.Tree.{items, attached, part_of, two_bits, IsOrdered, IsTimed}
use Rattle.stun_agent.proofs.AwaitedLemmas.{awaited_of-with}
use Rattle.std.proofs.lemmas.Result.{on_ok_weaker}
use Rattle.stun_agent.proofs.QuarterLemmas.{with_acts, of_items, of_attached}
use Rattle.stun_agent.proofs.QuarterLemmas.{at_first, at_second, at_third, at_fourth}
use Rattle.stun_agent.proofs.QuarterLemmas.{in_first, in_second, in_third, in_fourth}
use Rattle.stun_agent.proofs.state.tree.insert.+insert.Goals as goal

-- ---- a link
pub insert-returns-in_err-deepen-in-Leaf-clause-timed :
    goal.insert-returns-in_err-deepen-in-Leaf-clause-timed
insert-returns-in_err-deepen-in-Leaf-clause-timed g t c transport is timed =
    c.deepen.ensures.timed transport timed

pub insert-returns-in_ok-deepen-in-Leaf-clause-timed :
    goal.insert-returns-in_ok-deepen-in-Leaf-clause-timed
insert-returns-in_ok-deepen-in-Leaf-clause-timed g t c transport is timed =
    c.insert_below.ensures.timed transport is (c.deepen.ensures.timed transport timed)

-- ---- a fork
pub insert_below-returns-clause-timed : goal.insert_below-returns-clause-timed
insert_below-returns-clause-timed g t c transport is timed =
    let old = subst (IsTimed transport) c.in-Fork.is timed in
    let new = (rw c.deref_mut.ensures.value at c.insert_into.ensures.timed) transport is
    (old.1, old.2, old.3, old.4) in
    let more = rw c.deref_mut.ensures.value at c.in_ok-insert_into.ensures.ok in
    let absent = rw (ap items c.in-Fork.is) at c.requires.absent in
    let told = c.join.ensures ∙ ap₂ joined old.0 is
    ∙ awaited_of-with transport c.args.leaf.value.entry.0 c.args.leaf.value.entry.1 _ absent
    ∙ ap (awaited_of transport) (sym more) in
    (told, new.0, new.1, new.2, new.3)

-- ---- the quarters of a fork
pub insert_into-insert-requires : goal.insert_into-insert-requires
insert_into-insert-requires g t c κs within =
    let id = c.args.leaf.value.entry.0 in
    let own = ap (λ l. l.entry.0) (c.behind-leaf.view_is ∙ c.deref.ensures) in
    let is : part_of (c.args.levels - 1) id ≡ 4 * part_of c.args.levels id =
    omega (arith, rw own at c.choose_quarter.ensures, ap two_bits c.in-First.is) in
    let absent = at_first c.args.levels id (of_items c.args.fork.now c.requires.ordered) is
    ∙ c.requires.absent in
    let ordered = subst (λ part. IsOrdered (c.args.levels - 1) part c.args.fork.now.first) (sym is)
    c.requires.ordered.0 in
    (omega arith, (within.0, (within.1, (omega arith, (ordered, (c.requires.named, absent))))))

pub insert_into-insert-requires-in-Second : goal.insert_into-insert-requires-in-Second
insert_into-insert-requires-in-Second g t c κs within =
    let id = c.args.leaf.value.entry.0 in
    let own = ap (λ l. l.entry.0) (c.behind-leaf.view_is ∙ c.deref.ensures) in
    let is : part_of (c.args.levels - 1) id ≡ 4 * part_of c.args.levels id + 1 =
    omega (arith, rw own at c.choose_quarter.ensures, ap two_bits c.in-Second.is) in
    let absent = at_second c.args.levels id (of_items c.args.fork.now c.requires.ordered) is
    ∙ c.requires.absent in
    let ordered = subst (λ part. IsOrdered (c.args.levels - 1) part c.args.fork.now.second) (sym is)
    c.requires.ordered.1 in
    (omega arith, (within.0, (within.1, (omega arith, (ordered, (c.requires.named, absent))))))

pub insert_into-insert-requires-in-Third : goal.insert_into-insert-requires-in-Third
insert_into-insert-requires-in-Third g t c κs within =
    let id = c.args.leaf.value.entry.0 in
    let own = ap (λ l. l.entry.0) (c.behind-leaf.view_is ∙ c.deref.ensures) in
    let is : part_of (c.args.levels - 1) id ≡ 4 * part_of c.args.levels id + 2 =
    omega (arith, rw own at c.choose_quarter.ensures, ap two_bits c.in-Third.is) in
    let absent = at_third c.args.levels id (of_items c.args.fork.now c.requires.ordered) is
    ∙ c.requires.absent in
    let ordered = subst (λ part. IsOrdered (c.args.levels - 1) part c.args.fork.now.third) (sym is)
    c.requires.ordered.2 in
    (omega arith, (within.0, (within.1, (omega arith, (ordered, (c.requires.named, absent))))))

pub insert_into-insert-requires-in-Fourth : goal.insert_into-insert-requires-in-Fourth
insert_into-insert-requires-in-Fourth g t c κs within =
    let id = c.args.leaf.value.entry.0 in
    let own = ap (λ l. l.entry.0) (c.behind-leaf.view_is ∙ c.deref.ensures) in
    let is : part_of (c.args.levels - 1) id ≡ 4 * part_of c.args.levels id + 3 =
    omega (arith, rw own at c.choose_quarter.ensures, ap two_bits c.in-Fourth.is) in
    let absent = at_fourth c.args.levels id (of_items c.args.fork.now c.requires.ordered) is
    ∙ c.requires.absent in
    let ordered = subst (λ part. IsOrdered (c.args.levels - 1) part c.args.fork.now.fourth) (sym is)
    c.requires.ordered.3 in
    (omega arith, (within.0, (within.1, (omega arith, (ordered, (c.requires.named, absent))))))

pub insert_into-returns-in-First-clause-ok : goal.insert_into-returns-in-First-clause-ok
insert_into-returns-in-First-clause-ok g t c =
    let id = c.args.leaf.value.entry.0 in
    let own = ap (λ l. l.entry.0) (c.behind-leaf.view_is ∙ c.deref.ensures) in
    on_ok_weaker c.insert.result
    (in_first c.args.levels id (of_items c.args.fork.now c.requires.ordered)
    (with_acts id c.args.leaf.value.entry.1) (items c.insert.new.link)
    (omega (arith, rw own at c.choose_quarter.ensures, ap two_bits c.in-First.is)))
    c.insert.ensures.ok

pub insert_into-returns-in-Second-clause-ok : goal.insert_into-returns-in-Second-clause-ok
insert_into-returns-in-Second-clause-ok g t c =
    let id = c.args.leaf.value.entry.0 in
    let own = ap (λ l. l.entry.0) (c.behind-leaf.view_is ∙ c.deref.ensures) in
    on_ok_weaker c.insert-in-Second.result
    (in_second c.args.levels id (of_items c.args.fork.now c.requires.ordered)
    (with_acts id c.args.leaf.value.entry.1) (items c.insert-in-Second.new.link)
    (omega (arith, rw own at c.choose_quarter.ensures, ap two_bits c.in-Second.is)))
    c.insert-in-Second.ensures.ok

pub insert_into-returns-in-Third-clause-ok : goal.insert_into-returns-in-Third-clause-ok
insert_into-returns-in-Third-clause-ok g t c =
    let id = c.args.leaf.value.entry.0 in
    let own = ap (λ l. l.entry.0) (c.behind-leaf.view_is ∙ c.deref.ensures) in
    on_ok_weaker c.insert-in-Third.result
    (in_third c.args.levels id (of_items c.args.fork.now c.requires.ordered)
    (with_acts id c.args.leaf.value.entry.1) (items c.insert-in-Third.new.link)
    (omega (arith, rw own at c.choose_quarter.ensures, ap two_bits c.in-Third.is)))
    c.insert-in-Third.ensures.ok

pub insert_into-returns-in-Fourth-clause-ok : goal.insert_into-returns-in-Fourth-clause-ok
insert_into-returns-in-Fourth-clause-ok g t c =
    let id = c.args.leaf.value.entry.0 in
    let own = ap (λ l. l.entry.0) (c.behind-leaf.view_is ∙ c.deref.ensures) in
    on_ok_weaker c.insert-in-Fourth.result
    (in_fourth c.args.levels id (of_items c.args.fork.now c.requires.ordered)
    (with_acts id c.args.leaf.value.entry.1) (items c.insert-in-Fourth.new.link)
    (omega (arith, rw own at c.choose_quarter.ensures, ap two_bits c.in-Fourth.is)))
    c.insert-in-Fourth.ensures.ok

pub insert_into-returns-in-First-clause-attached : goal.insert_into-returns-in-First-clause-attached
insert_into-returns-in-First-clause-attached g t c =
    let id = c.args.leaf.value.entry.0 in
    let own = ap (λ l. l.entry.0) (c.behind-leaf.view_is ∙ c.deref.ensures) in
    on_ok_weaker c.insert.result
    (in_first c.args.levels id (of_attached c.args.fork.now c.requires.ordered)
    (with_acts id c.args.leaf.value.datum) (attached c.insert.new.link)
    (omega (arith, rw own at c.choose_quarter.ensures, ap two_bits c.in-First.is)))
    c.insert.ensures.attached

pub insert_into-returns-in-Second-clause-attached :
    goal.insert_into-returns-in-Second-clause-attached
insert_into-returns-in-Second-clause-attached g t c =
    let id = c.args.leaf.value.entry.0 in
    let own = ap (λ l. l.entry.0) (c.behind-leaf.view_is ∙ c.deref.ensures) in
    on_ok_weaker c.insert-in-Second.result
    (in_second c.args.levels id (of_attached c.args.fork.now c.requires.ordered)
    (with_acts id c.args.leaf.value.datum) (attached c.insert-in-Second.new.link)
    (omega (arith, rw own at c.choose_quarter.ensures, ap two_bits c.in-Second.is)))
    c.insert-in-Second.ensures.attached

pub insert_into-returns-in-Third-clause-attached : goal.insert_into-returns-in-Third-clause-attached
insert_into-returns-in-Third-clause-attached g t c =
    let id = c.args.leaf.value.entry.0 in
    let own = ap (λ l. l.entry.0) (c.behind-leaf.view_is ∙ c.deref.ensures) in
    on_ok_weaker c.insert-in-Third.result
    (in_third c.args.levels id (of_attached c.args.fork.now c.requires.ordered)
    (with_acts id c.args.leaf.value.datum) (attached c.insert-in-Third.new.link)
    (omega (arith, rw own at c.choose_quarter.ensures, ap two_bits c.in-Third.is)))
    c.insert-in-Third.ensures.attached

pub insert_into-returns-in-Fourth-clause-attached :
    goal.insert_into-returns-in-Fourth-clause-attached
insert_into-returns-in-Fourth-clause-attached g t c =
    let id = c.args.leaf.value.entry.0 in
    let own = ap (λ l. l.entry.0) (c.behind-leaf.view_is ∙ c.deref.ensures) in
    on_ok_weaker c.insert-in-Fourth.result
    (in_fourth c.args.levels id (of_attached c.args.fork.now c.requires.ordered)
    (with_acts id c.args.leaf.value.datum) (attached c.insert-in-Fourth.new.link)
    (omega (arith, rw own at c.choose_quarter.ensures, ap two_bits c.in-Fourth.is)))
    c.insert-in-Fourth.ensures.attached
