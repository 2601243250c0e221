-- One attribute is passed, which changes what is visible after it.
use Rattle.std.proofs.Common.{◌+◌, refl, sym, ◌∙◌, ap, arith}
use Rattle.std.proofs.lemmas.Grind.{common_steps}
use Rattle.stun_types.specs.Visible.{visible_after}
use Rattle.stun_types.specs.Walk.{walk_from}
use Rattle.stun_types.proofs.WalkLemmas.{has_attribute-within}
use Rattle.stun_types.proofs.VisibleLemmas.{StandsAt, visible_after-shown}
use Rattle.stun_types.proofs.VisibleLemmas.{visible_after-hidden, visible_after-end}
use Rattle.stun_types.proofs.message.attributes_iter.MessageAttributesIterIterator.next.Goals as goal

pub loop-attribute-init : goal.loop-attribute-init
loop-attribute-init c = c.self.view_is

-- the attribute that was read is at the place, visible or not
shown_at : (c : goal.Then-is_visible)
    → StandsAt c.loop-attribute.self-inside.place c.loop-attribute.self-inside.bytes.now
    c.in-Some.attribute c.get_type-kind.result.0
    (c.loop-attribute.self-inside.place + c.padded_len.result)
shown_at c = record {
  whole = c.in-Some.ensures.whole;
  attribute_is = c.in-Some.ensures.value;
  kind_is = c.get_type-kind.ensures;
  behind_is = ap (λ n. c.loop-attribute.self-inside.place + n) c.padded_len.ensures;
}

hidden_at : (c : goal.Else-is_visible)
    → StandsAt c.loop-attribute.self-inside.place c.loop-attribute.self-inside.bytes.now
    c.in-Some.attribute c.get_type-kind.result.0
    (c.loop-attribute.self-inside.place + c.padded_len.result)
hidden_at c = record {
  whole = c.in-Some.ensures.whole;
  attribute_is = c.in-Some.ensures.value;
  kind_is = c.get_type-kind.ensures;
  behind_is = ap (λ n. c.loop-attribute.self-inside.place + n) c.padded_len.ensures;
}

pub returns-then-is_visible-clause-steps : goal.returns-then-is_visible-clause-steps
returns-then-is_visible-clause-steps c =
    sym c.loop-attribute.invariant
    ∙ (visible_after-shown c.loop-attribute.self-inside.visibility (shown_at c)
    (sym c.shows-is_visible.ensures ∙ c.if-is_visible.true)
    ∙ rw c.after-self-inside.ensures refl)

pub returns-then-is_visible-clause-goes : goal.returns-then-is_visible-clause-goes
returns-then-is_visible-clause-goes c =
    let first = returns-then-is_visible-clause-steps c in
    grind (arith, common_steps, first)

pub loop-attribute-smaller : goal.loop-attribute-smaller
loop-attribute-smaller c =
    omega (
      arith,
      has_attribute-within c.loop-attribute.self-inside.place c.loop-attribute.self-inside.bytes.now
          c.in-Some.ensures.whole,
      c.padded_len.ensures,
    )

pub loop-attribute-preserved : goal.loop-attribute-preserved
loop-attribute-preserved c =
    rw c.after-self-inside.ensures
    (sym (visible_after-hidden c.loop-attribute.self-inside.visibility (hidden_at c)
    (sym c.shows-is_visible.ensures ∙ c.if-is_visible.false)) ∙ c.loop-attribute.invariant)

pub returns-clause-steps : goal.returns-clause-steps
returns-clause-steps c =
    let none =
    visible_after-end c.loop-attribute.self-inside.visibility
    c.loop-attribute.self-inside.place c.loop-attribute.self-inside.bytes.now
    c.in_default.ensures.none in
    (sym c.loop-attribute.invariant ∙ none, none)
