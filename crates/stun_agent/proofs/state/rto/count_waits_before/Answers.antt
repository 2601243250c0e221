-- The quotient has the most waits that are shorter than the time.
use Rattle.std.proofs.Common.{◌≡◌, ◌≤◌, ◌<◌, ◌+◌, ◌-◌, ◌*◌, ◌/◌, inl, inr, arith}
use Rattle.std.proofs.Math.Nat.{div-mul-le_self, lt-div-mul-add, mul-le-mul_right}
use Rattle.stun_agent.proofs.state.rto.count_waits_before.Goals as goal

pub returns-then-wait-eq0-clause-fit : goal.returns-then-wait-eq0-clause-fit
returns-then-wait-eq0-clause-fit c =
    inr (rw c.if-wait-eq0.true (omega (arith, c.if-time-eq0.false)))

pub returns-then-count-most-clause-fit : goal.returns-then-count-most-clause-fit
returns-then-count-most-clause-fit c =
    let least = div-mul-le_self (c.args.time - 1) c.args.wait in
    inr (omega (arith, least, c.if-time-eq0.false))

pub returns-then-count-most-clause-next : goal.returns-then-count-most-clause-next
returns-then-count-most-clause-next c =
    let some : 0 < c.args.wait = omega (arith, c.if-wait-eq0.false) in
    let most : c.args.time - 1
    < (c.args.time - 1) / c.args.wait * c.args.wait + c.args.wait = lt-div-mul-add some in
    inr (omega (arith, most))

pub returns-else-count-most-clause-fit : goal.returns-else-count-most-clause-fit
returns-else-count-most-clause-fit c =
    let least = div-mul-le_self (c.args.time - 1) c.args.wait in
    let fewer : c.args.most ≤ (c.args.time - 1) / c.args.wait = c.if-count-most.false in
    let less = mul-le-mul_right c.args.wait fewer in
    inr (omega (arith, least, less, c.if-time-eq0.false))
