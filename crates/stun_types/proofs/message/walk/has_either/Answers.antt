-- The first attribute of one of the types ends the walk, or else there is none.
use Rattle.std.proofs.Common.{◌≡◌, ◌∙◌, ap, sym, refl, rules, true, false, Bool}
use Rattle.std.specs.Prelude.{◌==◌, ◌||◌}
use Rattle.stun_types.specs.Visible.{has_kind}
use Rattle.stun_types.proofs.WalkLemmas.{walk_from-end}
use Rattle.stun_types.proofs.VisibleLemmas.{StandsAt-read, has_kind-at}
use Rattle.stun_types.proofs.message.walk.has_either.Goals as goal

left : (x y : Bool) → x ≡ true → true ≡ (x || y)
left true y h = refl
left false y h = cc

right : (x y : Bool) → y ≡ true → true ≡ (x || y)
right true y h = refl
right false y h = sym h

neither : (x y : Bool) → x ≡ false → y ≡ false → false ≡ (x || y)
neither true y h k = cc
neither false y h k = sym k

pub returns-then-eq : goal.returns-then-eq
returns-then-eq c =
    let read = c.in-Some.ensures in
    let stands = StandsAt-read read.whole read.kind read.behind in
    let same : (c.in-Some.found.0 == c.args.one.0) ≡ true = search rules in
    left _ _ (c.loop-found.invariant.one ∙ (has_kind-at c.args.one.0 stands ∙ rw same refl))

pub returns-then-eq-2 : goal.returns-then-eq-2
returns-then-eq-2 c =
    let read = c.in-Some.ensures in
    let stands = StandsAt-read read.whole read.kind read.behind in
    let same : (c.in-Some.found.0 == c.args.other.0) ≡ true = search rules in
    right _ _ (c.loop-found.invariant.other ∙ (has_kind-at c.args.other.0 stands ∙ rw same refl))

pub loop-found-preserved : goal.loop-found-preserved
loop-found-preserved c =
    let read = c.in-Some.ensures in
    let stands = StandsAt-read read.whole read.kind read.behind in
    let not_one : (c.in-Some.found.0 == c.args.one.0) ≡ false = search rules in
    let not_other : (c.in-Some.found.0 == c.args.other.0) ≡ false = search rules in
    record {
      one = c.loop-found.invariant.one ∙ (has_kind-at c.args.one.0 stands ∙ rw not_one refl);
      other = c.loop-found.invariant.other ∙ (has_kind-at c.args.other.0 stands ∙ rw not_other refl);
    }

pub returns : goal.returns
returns c =
    let end = walk_from-end c.loop-found.place c.args.message.now c.in_default.ensures.none in
    neither _ _ (c.loop-found.invariant.one ∙ ap (has_kind c.args.one.0) end)
    (c.loop-found.invariant.other ∙ ap (has_kind c.args.other.0) end)
