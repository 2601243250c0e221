-- The first attribute of the type ends the walk, or else there is none.
use Rattle.std.proofs.Common.{◌≡◌, ◌∙◌, ap, sym, refl, rules, true, false}
use Rattle.std.specs.Prelude.{◌==◌}
use Rattle.stun_types.specs.Visible.{has_kind}
use Rattle.stun_types.proofs.WalkLemmas.{walk_from-end}
use Rattle.stun_types.proofs.VisibleLemmas.{StandsAt-read, has_kind-at}
use Rattle.stun_types.proofs.message.walk.has_attribute.Goals as goal

pub returns-then-eq : goal.returns-then-eq
returns-then-eq c =
    let read = c.in-Some.ensures in
    let stands = StandsAt-read read.whole read.kind read.behind in
    let same : (c.in-Some.found.0 == c.args.kind.0) ≡ true = search rules in
    sym (c.loop-found.invariant ∙ (has_kind-at c.args.kind.0 stands ∙ rw same refl))

pub loop-found-preserved : goal.loop-found-preserved
loop-found-preserved c =
    let read = c.in-Some.ensures in
    let stands = StandsAt-read read.whole read.kind read.behind in
    let other : (c.in-Some.found.0 == c.args.kind.0) ≡ false = search rules in
    c.loop-found.invariant ∙ (has_kind-at c.args.kind.0 stands ∙ rw other refl)

pub returns : goal.returns
returns c =
    let end = walk_from-end c.loop-found.place c.args.message.now c.in_default.ensures.none in
    sym (c.loop-found.invariant ∙ ap (has_kind c.args.kind.0) end)
