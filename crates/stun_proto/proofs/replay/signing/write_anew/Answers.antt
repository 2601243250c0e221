-- What was written so far is the message's own attributes, in its order.
use Rattle.std.proofs.Common.{rules, arith, ◌≡◌, [], ◌∷◌, sym, ◌∙◌, ap, subst, Err}
use Rattle.std.proofs.lemmas.Grind.{common_steps}
use Rattle.stun_base.specs.Header.{type_field}
use Rattle.stun_types.specs.Grammar.{spelled_message}
use Rattle.stun_types.specs.WriteVec.{Written}
use Rattle.stun_judging.specs.Additions.{UnlessMemory}
use Rattle.stun_proto.specs.Signing.{written_anew}
use Rattle.stun_proto.specs.code.Signed.{written_message}
use Rattle.stun_proto.proofs.meetings.SigningLemmas.{IsWritingAnew, begins_anew, ends_anew}
use Rattle.stun_proto.proofs.meetings.SigningLemmas.{goes_on_anew, not_refused, refused_anew}
use Rattle.stun_proto.proofs.meetings.Typed.{by_reason}
use Rattle.stun_proto.proofs.replay.signing.write_anew.Goals as goal

pub loop-attribute-preserved : goal.loop-attribute-preserved
loop-attribute-preserved g c =
    let before = c.loop-attribute.invariant in
    let left : c.loop-attribute.attribute-iterator ≡ (c.in-Some.field-0-0, c.in-Some.attribute)
    ∷ c.next.new.self = search (rules, c.in-Some.ensures.steps, c.in-Some.ensures.goes) in
    record {
      written =
          goes_on_anew c.args.message.now c.in-Some.field-0-0 c.in-Some.attribute c.next.new.self
          c.loop-attribute.writer.bytes
          (subst (λ members. IsWritingAnew c.args.message.now members c.loop-attribute.writer.bytes)
          left before.written) _
          (not_refused _ _ _ c.in_ok-add_attribute.ensures.refused)
          c.in_ok-add_attribute.ensures.spelled;
      is_open = c.in_ok-add_attribute.ensures.open before.is_open;
      type_is = (c.in_ok-add_attribute.ensures.added before.is_open).type_is ∙ before.type_is;
    }

pub loop-attribute-init : goal.loop-attribute-init
loop-attribute-init g c =
    let message = c.args.message.now in
    record {
      written = begins_anew message _ _
          (c.in_ok-writer.ensures.bytes
          ∙ ap (λ t. spelled_message t c.transaction_id.result []) c.get_type.ensures
          ∙ ap (λ i. spelled_message (type_field message) i []) c.transaction_id.ensures)
          (search rules);
      is_open = c.in_ok-writer.ensures.open;
      type_is = first_of (search rules, grind (arith, common_steps));
    }

pub returns-clause-answer : goal.returns-clause-answer
returns-clause-answer g c =
    let none_left : c.loop-attribute.attribute-iterator ≡ [] =
    search (rules, c.in-None.ensures.steps) in
    ends_anew c.args.message.now c.loop-attribute.writer.bytes
    (subst (λ members. IsWritingAnew c.args.message.now members c.loop-attribute.writer.bytes)
    none_left c.loop-attribute.invariant.written)

pub returns-in_err-add_attribute-clause-answer : goal.returns-in_err-add_attribute-clause-answer
returns-in_err-add_attribute-clause-answer g c =
    let message = c.args.message.now in
    let left : c.loop-attribute.attribute-iterator ≡ (c.in-Some.field-0-0, c.in-Some.attribute)
    ∷ c.next.new.self = search (rules, c.in-Some.ensures.steps, c.in-Some.ensures.goes) in
    let so_far =
    subst (λ members. IsWritingAnew message members c.loop-attribute.writer.bytes) left
    c.loop-attribute.invariant.written in
    by_reason c.from_residual-in_err-add_attribute.result _
    (λ r. UnlessMemory r (written_message r ≡ written_anew message) (Unit {0}))
    c.from_residual-in_err-add_attribute.ensures.1
    (λ e is.
    subst (λ x. UnlessMemory {V = Written} (Err x) (written_message (Err x) ≡ written_anew message)
    (Unit {0})) (sym is)
    (refused_anew message c.in-Some.field-0-0 c.in-Some.attribute c.next.new.self
    c.loop-attribute.writer.bytes so_far
    c.in_err-add_attribute.field-0.0 c.in_err-add_attribute.ensures.refused))
