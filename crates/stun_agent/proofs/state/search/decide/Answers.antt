-- The search reads the request that is over, and that one alone, and it looks at the links above
-- that one and beside these.
use Rattle.std.proofs.Common.{arith, ap}
use Rattle.std.specs.Prelude.{Some}
use Rattle.stun_agent.specs.code.Tree.{items}
use Rattle.stun_agent.specs.Deadlines.{most_levels, Work}
use Rattle.stun_agent.proofs.EndedLemmas.{reads_early}
use Rattle.stun_agent.proofs.LookLemmas.{depth_within}
use Rattle.stun_agent.proofs.state.search.decide.Goals as goal

pub returns-in-Some-clause-work : goal.returns-in-Some-clause-work
returns-in-Some-clause-work g c transport tree =
    reads_early transport c.args.now (items c.args.index.now) (Some c.in-Some.ended)
    c.args.reads.now.entries c.find_ended.new.reads.entries
    (c.in-Some.ensures.answer transport tree.timed) c.in-Some.ensures.counts

pub returns-in-Some-clause-looks : goal.returns-in-Some-clause-looks
returns-in-Some-clause-looks g c transport tree fresh =
    let root = c.args.index.now in
    let deep = depth_within most_levels 0 root tree.ordered in
    let looked = c.in-Some.ensures.looks transport tree.timed in
    let read = c.in-Some.ensures.counts in
    let none = ap (λ (w : Work). w.entries) fresh in
    let unseen = ap (λ (w : Work). w.looks) fresh in
    omega (arith, deep, looked, read, none, unseen)

pub returns-in-None-clause-looks : goal.returns-in-None-clause-looks
returns-in-None-clause-looks g c transport tree fresh =
    let first = c.in-None.ensures.looks transport tree.timed in
    let second = ap (λ (w : Work). w.looks) c.find_wake_up.ensures.counts in
    let unseen = ap (λ (w : Work). w.looks) fresh in
    omega (arith, first, second, unseen)
