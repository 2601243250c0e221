-- What is visible from a place is the attribute there, where it is, and what is visible after it.
use Rattle.std.proofs.Common.{◌≡◌, ◌+◌, ◌∷◌, drop, sym, ◌∙◌, ap, arith}
use Rattle.std.specs.Prelude.{slice_get}
use Rattle.stun_types.specs.Visible.{visible_after}
use Rattle.stun_types.specs.Walk.{walk_from}
use Rattle.stun_types.proofs.VisibleLemmas.{StandsAt, visible_after-end, visible_after-hidden}
use Rattle.stun_types.proofs.VisibleLemmas.{visible_after-shown}
use Rattle.stun_c.specs.Walking.{visibility_from}
use Rattle.stun_c.proofs.Walking.{stands-within}
use Rattle.stun_c.proofs.walk.advance.Goals as goal

shown_at : (c : goal.Then-shows)
    → StandsAt c.loop-attribute.cursor.place c.args.message.now c.in-Some.attribute
    c.get_type-kind.result.0 (c.loop-attribute.cursor.place + c.padded_len.result)
shown_at c = record {
  whole = c.in-Some.ensures.whole;
  attribute_is = c.in-Some.ensures.value;
  kind_is = c.get_type-kind.ensures;
  behind_is = ap (λ n. c.loop-attribute.cursor.place + n) c.padded_len.ensures;
}

hidden_at : (c : goal.Else-shows)
    → StandsAt c.loop-attribute.cursor.place c.args.message.now c.in-Some.attribute
    c.get_type-kind.result.0 (c.loop-attribute.cursor.place + c.padded_len.result)
hidden_at c = record {
  whole = c.in-Some.ensures.whole;
  attribute_is = c.in-Some.ensures.value;
  kind_is = c.get_type-kind.ensures;
  behind_is = ap (λ n. c.loop-attribute.cursor.place + n) c.padded_len.ensures;
}

-- what was to be given begins with the attribute
begins : (c : goal.Then-shows)
    → visible_after (visibility_from c.args.cursor.now.hidden)
    (walk_from c.args.cursor.now.place c.args.message.now)
    ≡ (c.loop-attribute.cursor.place, c.in-Some.attribute)
    ∷ visible_after (visibility_from c.to_hidden_number-cursor.result)
    (walk_from (c.loop-attribute.cursor.place + c.padded_len.result) c.args.message.now)
begins c =
    let here = walk_from c.loop-attribute.cursor.place c.args.message.now in
    let rest =
    walk_from (c.loop-attribute.cursor.place + c.padded_len.result) c.args.message.now in
    sym c.loop-attribute.invariant.left
    ∙ (ap (λ v. visible_after v here) (sym c.to_visibility-visibility.ensures)
    ∙ (visible_after-shown c.to_visibility-visibility.result (shown_at c)
    (sym c.shows.ensures ∙ c.if-shows.true)
    ∙ ap (λ v. (c.loop-attribute.cursor.place, c.in-Some.attribute) ∷ visible_after v rest)
    (sym (c.to_hidden_number-cursor.ensures ∙ c.after-after.ensures))))

pub returns-then-shows-clause-first : goal.returns-then-shows-clause-first
returns-then-shows-clause-first c = ap (λ left. slice_get left 0) (sym (begins c))

pub returns-then-shows-clause-rest : goal.returns-then-shows-clause-rest
returns-then-shows-clause-rest c = ap (drop 1) (sym (begins c))

pub loop-attribute-preserved : goal.loop-attribute-preserved
loop-attribute-preserved c =
    let here = walk_from c.loop-attribute.cursor.place c.args.message.now in
    let rest =
    walk_from (c.loop-attribute.cursor.place + c.padded_len.result) c.args.message.now in
    record {
      left = ap (λ v. visible_after v rest)
          (c.to_hidden_number-cursor.ensures ∙ c.after-after.ensures)
          ∙ (sym (visible_after-hidden c.to_visibility-visibility.result (hidden_at c)
          (sym c.shows.ensures ∙ c.if-shows.false))
          ∙ (ap (λ v. visible_after v here) c.to_visibility-visibility.ensures
          ∙ c.loop-attribute.invariant.left));
      behind = omega (arith, c.loop-attribute.invariant.behind);
      within = stands-within (hidden_at c);
    }

-- nothing is left where no attribute is
pub returns-clause-first : goal.returns-clause-first
returns-clause-first c =
    let none =
    visible_after-end (visibility_from c.loop-attribute.cursor.hidden)
    c.loop-attribute.cursor.place c.args.message.now c.in_default.ensures.none in
    ap (λ left. slice_get left 0) (sym none ∙ c.loop-attribute.invariant.left)

pub returns-clause-rest : goal.returns-clause-rest
returns-clause-rest c =
    let none =
    visible_after-end (visibility_from c.loop-attribute.cursor.hidden)
    c.loop-attribute.cursor.place c.args.message.now c.in_default.ensures.none in
    none ∙ ap (drop 1) (sym none ∙ c.loop-attribute.invariant.left)
