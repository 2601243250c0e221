-- Each attribute is added to an open message, and they are few.
use Rattle.std.proofs.Common.{◌≡◌, ◌≤◌, length, ap, arith}
use Rattle.stun_ice.proofs.checker.Checker.make_check_page.Goals as goal

pub returns-clause-open : goal.returns-clause-open
returns-clause-open g c =
    c.in_ok-add_nomination.ensures.open
    (c.in_ok-add_role.ensures.adds.open
    (c.in_ok-add_attribute-2.ensures.open
    (c.in_ok-add_attribute.ensures.open c.in_ok-page.ensures.open)))

pub returns-clause-short : goal.returns-clause-short
returns-clause-short g c =
    let begun : length c.in_ok-page.page.bytes ≡ 20 = ap length c.in_ok-page.ensures.bytes in
    let name = ap length c.in_ok-new.ensures.ok in
    let text = ap length c.deref.ensures in
    let one : length c.add_attribute.new.self.bytes ≤ 540 =
    omega (arith, begun, name, text, c.remote.invariant, c.in_ok-add_attribute.ensures.room) in
    let two : length c.add_attribute-2.new.self.bytes ≤ 548 =
    omega (arith, one, c.in_ok-add_attribute-2.ensures.room) in
    let three : length c.add_role.new.page.bytes ≤ 560 =
    omega (arith, two, c.in_ok-add_role.ensures.room) in
    omega (arith, three, c.in_ok-add_nomination.ensures.room)
