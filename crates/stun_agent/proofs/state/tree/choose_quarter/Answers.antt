-- A quarter of a part has two bits of an ID.
use Rattle.std.proofs.Common.{ℕ, ◌≡◌, ◌-◌, ◌*◌, ◌/◌, ◌^◌, ◌<◌, arith, ap₂}
use Rattle.stun_agent.specs.code.Tree.{part_of}
use Rattle.stun_agent.proofs.TreeLemmas.{quarter_in}
use Rattle.stun_agent.proofs.state.tree.choose_quarter.Goals as goal

-- the shift has the part
shifted : (levels id number : ℕ) → 0 < levels → number ≡ id
    → number / 2 ^ (2 * levels - 2) ≡ part_of (levels - 1) id
shifted levels id number some is = ap₂ (λ n k. n / 2 ^ k) is (omega (arith, some))

pub returns-then-bits-eq0 : goal.returns-then-bits-eq0
returns-then-bits-eq0 c =
    let up = quarter_in c.args.levels c.args.id c.requires.some in
    let part = shifted c.args.levels c.args.id _ c.requires.some c.as_u128.ensures.value in
    omega (arith, up, part, c.if-bits-eq0.true)

pub returns-then-bits-eq1 : goal.returns-then-bits-eq1
returns-then-bits-eq1 c =
    let up = quarter_in c.args.levels c.args.id c.requires.some in
    let part = shifted c.args.levels c.args.id _ c.requires.some c.as_u128.ensures.value in
    omega (arith, up, part, c.if-bits-eq1.true)

pub returns-then-bits-eq2 : goal.returns-then-bits-eq2
returns-then-bits-eq2 c =
    let up = quarter_in c.args.levels c.args.id c.requires.some in
    let part = shifted c.args.levels c.args.id _ c.requires.some c.as_u128.ensures.value in
    omega (arith, up, part, c.if-bits-eq2.true)

pub returns-else-bits-eq2 : goal.returns-else-bits-eq2
returns-else-bits-eq2 c =
    let up = quarter_in c.args.levels c.args.id c.requires.some in
    let part = shifted c.args.levels c.args.id _ c.requires.some c.as_u128.ensures.value in
    omega (arith, up, part, c.if-bits-eq0.false, c.if-bits-eq1.false, c.if-bits-eq2.false)
