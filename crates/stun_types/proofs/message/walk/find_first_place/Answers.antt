-- The search goes on until the type is found, or hidden by what was found.
use Rattle.std.proofs.Common.{◌≡◌, rules, true, false}
use Rattle.std.specs.Prelude.{◌==◌}
use Rattle.stun_types.proofs.SearchLemmas.{shows, IsSought-header, IsSought-found, IsSought-past}
use Rattle.stun_types.proofs.SearchLemmas.{IsSought-hidden, IsSought-end}
use Rattle.stun_types.proofs.VisibleLemmas.{StandsAt-read}
use Rattle.stun_types.proofs.message.walk.find_first_place.Goals as goal

pub loop-found-init : goal.loop-found-init
loop-found-init c = IsSought-header c.args.kind.0 c.args.message.now

pub returns-then-eq-clause-first : goal.returns-then-eq-clause-first
returns-then-eq-clause-first c =
    let read = c.in-Some.ensures in
    let same : (c.in-Some.found.0 == c.args.kind.0) ≡ true = search rules in
    IsSought-found c.loop-found.invariant (StandsAt-read read.whole read.kind read.behind) same

pub returns-then-not-shows-clause-first : goal.returns-then-not-shows-clause-first
returns-then-not-shows-clause-first c =
    let read = c.in-Some.ensures in
    let other : (c.in-Some.found.0 == c.args.kind.0) ≡ false = search rules in
    let stands = StandsAt-read read.whole read.kind read.behind in
    let hidden : shows c.in-Some.found.0 c.args.kind.0 ≡ false = search rules in
    IsSought-hidden c.loop-found.invariant stands other hidden

pub loop-found-preserved : goal.loop-found-preserved
loop-found-preserved c =
    let read = c.in-Some.ensures in
    let other : (c.in-Some.found.0 == c.args.kind.0) ≡ false = search rules in
    let stands = StandsAt-read read.whole read.kind read.behind in
    let shown : shows c.in-Some.found.0 c.args.kind.0 ≡ true = search rules in
    IsSought-past c.loop-found.invariant stands other shown

pub returns-clause-first : goal.returns-clause-first
returns-clause-first c = IsSought-end c.loop-found.invariant c.in_default.ensures.none
