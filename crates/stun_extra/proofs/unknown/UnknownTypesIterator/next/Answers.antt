-- A new type is told, and all others are passed over.
use Rattle.std.proofs.Common.{◌≡◌, ℕ, ◌∷◌, true, false, sym, ◌∙◌, ap, arith}
use Rattle.std.specs.Prelude.{◌==◌, ◌||◌}
use Rattle.std.proofs.lemmas.Grind.{common_steps}
use Rattle.stun_base.specs.declared.wire.attribute_type.AttributeType.{AttributeType}
use Rattle.stun_extra.specs.code.Told.{is_new, is_told, left_to_tell}
use Rattle.stun_extra.proofs.UnknownLemmas.{left_to_tell-end, left_to_tell-skipped}
use Rattle.stun_extra.proofs.UnknownLemmas.{left_to_tell-told}
use Rattle.stun_extra.proofs.unknown.UnknownTypesIterator.next.Goals as goal

abbrev typed : ℕ → AttributeType
typed kind = record { 0 = kind }

pub returns-then-is_new-clause-steps : goal.returns-then-is_new-clause-steps
returns-then-is_new-clause-steps c =
    let known = c.loop-found.self-inside.known.now in
    let words = c.loop-found.self-inside.told.words in
    let more = c.add.new.self.words in
    let kind = c.in-Some.found.1.kind in
    let shown : is_new known words kind ≡ true =
    ap (is_new known words) (sym c.get_type-kind.ensures)
    ∙ (sym c.is_new.ensures ∙ c.if-is_new.true) in
    let added : (other : ℕ) → is_told more other ≡ (is_told words other || (other == kind)) =
    λ other. c.add.ensures other
    ∙ ap (λ k. is_told words other || (other == k)) (c.value.ensures ∙ c.get_type-kind.ensures) in
    sym c.loop-found.invariant
    ∙ (ap (left_to_tell known words) c.in-Some.ensures.steps
    ∙ (left_to_tell-told known words more c.in-Some.found c.next.new.self shown added
    ∙ ap (λ k. typed k ∷ left_to_tell known more c.next.new.self) (sym c.get_type-kind.ensures)))

pub returns-then-is_new-clause-goes : goal.returns-then-is_new-clause-goes
returns-then-is_new-clause-goes c =
    let first = returns-then-is_new-clause-steps c in
    grind (arith, common_steps, first)

pub loop-found-preserved : goal.loop-found-preserved
loop-found-preserved c =
    let known = c.loop-found.self-inside.known.now in
    let words = c.loop-found.self-inside.told.words in
    let skipped : is_new known words c.in-Some.found.1.kind ≡ false =
    ap (is_new known words) (sym c.get_type-kind.ensures)
    ∙ (sym c.is_new.ensures ∙ c.if-is_new.false) in
    sym (left_to_tell-skipped known words c.in-Some.found c.next.new.self skipped)
    ∙ (ap (left_to_tell known words) (sym c.in-Some.ensures.steps) ∙ c.loop-found.invariant)

pub returns-clause-steps : goal.returns-clause-steps
returns-clause-steps c =
    let known = c.loop-found.self-inside.known.now in
    let words = c.loop-found.self-inside.told.words in
    let ended = c.in_default.ensures.steps in (
      sym c.loop-found.invariant
          ∙ (ap (left_to_tell known words) ended.0 ∙ left_to_tell-end known words),
      ap (left_to_tell known words) ended.1 ∙ left_to_tell-end known words,
    )
