-- What is written is the answer, attribute by attribute.
use Rattle.std.proofs.Common.{◌≡◌, ◌+◌, [], ◌∷◌, ◌∙◌, ap, arith, length, rules}
use Rattle.std.specs.Prelude.{Err, codes}
use Rattle.stun_base.specs.Attributes.{ERROR_CODE}
use Rattle.stun_base.specs.Header.{transaction_id_field, type_field}
use Rattle.stun_base.specs.MessageType.{method_of, type_number}
use Rattle.stun_base.specs.declared.wire.message_type.MessageClass.TheVariants.{Error}
use Rattle.stun_types.specs.Attribute.{TypedValue}
use Rattle.stun_types.specs.ErrorCode.{CodeAndReason, error_value}
use Rattle.stun_types.specs.Writing.{attribute_refusal}
use Rattle.stun_extra.specs.Unknown.{UNKNOWN_ATTRIBUTES, spelled_types}
use Rattle.stun_extra.proofs.AnswerLemmas.{error_allowed, length-refusing_answer}
use Rattle.stun_extra.proofs.AnswerLemmas.{refusing_answer-spelled_message, types_allowed, unrefused}
use Rattle.stun_extra.proofs.unknown.answer.write_parts.Goals as goal

pub returns-clause-bytes : goal.returns-clause-bytes
returns-clause-bytes g c =
    let request = c.args.request.now in
    let kind = type_number Error (method_of (type_field request)) in
    let id = transaction_id_field request in
    let error : TypedValue =
    record { kind = ERROR_CODE; value = error_value c.in_ok-error.error } in
    let first = c.in_ok-add_attribute.ensures.spelled kind id [] c.in_ok-answer.ensures.bytes in
    let second = c.in_ok-add_attribute-2.ensures.spelled kind id (error ∷ []) first in
    let error_is : c.in_ok-error.error ≡ record { code = 420; reason = codes "Unknown Attribute" } =
    c.in_ok-error.ensures.value
    ∙ (c.reason.ensures
    ∙ ap (λ (e : CodeAndReason). record { code = e.code; reason = codes "Unknown Attribute" })
    c.builder.ensures) in
    second ∙ refusing_answer-spelled_message c.args.known.now c.of.result request
    c.in_ok-error.error
    error_is c.of.ensures

pub returns-clause-open : goal.returns-clause-open
returns-clause-open g c =
    c.in_ok-add_attribute-2.ensures.open
    (c.in_ok-add_attribute.ensures.open c.in_ok-answer.ensures.open)

-- ---- only an allocation can fail

pub returns-in_err-answer-clause-otherwise_memory : goal.returns-in_err-answer-clause-otherwise_memory
returns-in_err-answer-clause-otherwise_memory g c fits short =
    let whole = length-refusing_answer c.args.known.now c.args.request.now in
    let begun = c.in_err-answer.ensures.otherwise_memory (omega (arith, whole, fits)) in
    search (rules, begun)

pub returns-in_err-add_attribute-clause-otherwise_memory : goal.returns-in_err-add_attribute-clause-otherwise_memory
returns-in_err-add_attribute-clause-otherwise_memory g c fits short =
    let request = c.args.request.now in
    let error_is : c.in_ok-error.error ≡ record { code = 420; reason = codes "Unknown Attribute" } =
    c.in_ok-error.ensures.value
    ∙ (c.reason.ensures
    ∙ ap (λ (e : CodeAndReason). record { code = e.code; reason = codes "Unknown Attribute" })
    c.builder.ensures) in
    let added = unrefused
    (attribute_refusal (g.W.MessageWrite.bytes c.in_ok-answer.answer)
    (g.W.MessageWrite.room c.in_ok-answer.answer) ERROR_CODE
    (length (error_value c.in_ok-error.error)))
    (Err c.in_err-add_attribute.field-0.0)
    (error_allowed (g.W.MessageWrite.bytes c.in_ok-answer.answer) request c.args.known.now
    (g.W.MessageWrite.room c.in_ok-answer.answer) (g.W.MessageWrite.room c.args.writer)
    (type_number Error (method_of (type_field request))) (transaction_id_field request)
    c.in_ok-error.error error_is c.in_ok-answer.ensures.open c.in_ok-answer.ensures.empty
    c.in_ok-answer.ensures.bytes c.in_ok-answer.ensures.room fits)
    c.in_err-add_attribute.ensures.refused in
    search (rules, added)

pub returns-in_err-add_attribute-2-clause-otherwise_memory :
    goal.returns-in_err-add_attribute-2-clause-otherwise_memory
returns-in_err-add_attribute-2-clause-otherwise_memory g c fits short =
    let request = c.args.request.now in
    let kind = type_number Error (method_of (type_field request)) in
    let id = transaction_id_field request in
    let error_is : c.in_ok-error.error ≡ record { code = 420; reason = codes "Unknown Attribute" } =
    c.in_ok-error.ensures.value
    ∙ (c.reason.ensures
    ∙ ap (λ (e : CodeAndReason). record { code = e.code; reason = codes "Unknown Attribute" })
    c.builder.ensures) in
    let first = c.in_ok-add_attribute.ensures in
    let added = unrefused
    (attribute_refusal (g.W.MessageWrite.bytes c.add_attribute.new.self)
    (g.W.MessageWrite.room c.add_attribute.new.self) UNKNOWN_ATTRIBUTES
    (length (spelled_types c.of.result)))
    (Err c.in_err-add_attribute-2.field-0.0)
    (types_allowed (g.W.MessageWrite.bytes c.in_ok-answer.answer)
    (g.W.MessageWrite.bytes c.add_attribute.new.self) request c.args.known.now c.of.result
    (g.W.MessageWrite.room c.add_attribute.new.self) (g.W.MessageWrite.room c.args.writer)
    kind id c.in_ok-error.error error_is c.of.ensures c.in_ok-answer.ensures.empty
    (first.open c.in_ok-answer.ensures.open) (first.added c.in_ok-answer.ensures.open)
    (first.spelled kind id [] c.in_ok-answer.ensures.bytes)
    (ap (λ n. n + 20) first.room ∙ c.in_ok-answer.ensures.room) fits short)
    c.in_err-add_attribute-2.ensures.refused in
    search (rules, added)

-- ---- nothing fails if none is refused

pub returns-in_err-answer-clause-granted : goal.returns-in_err-answer-clause-granted
returns-in_err-answer-clause-granted g c grants fits short =
    let whole = length-refusing_answer c.args.known.now c.args.request.now in
    let begun = c.in_err-answer.ensures.granted grants (omega (arith, whole, fits)) in
    search (rules, begun)

pub returns-in_err-add_attribute-clause-granted : goal.returns-in_err-add_attribute-clause-granted
returns-in_err-add_attribute-clause-granted g c grants fits short =
    let request = c.args.request.now in
    let error_is : c.in_ok-error.error ≡ record { code = 420; reason = codes "Unknown Attribute" } =
    c.in_ok-error.ensures.value
    ∙ (c.reason.ensures
    ∙ ap (λ (e : CodeAndReason). record { code = e.code; reason = codes "Unknown Attribute" })
    c.builder.ensures) in
    let added = c.in_err-add_attribute.ensures.granted grants
    (error_allowed (g.W.MessageWrite.bytes c.in_ok-answer.answer) request c.args.known.now
    (g.W.MessageWrite.room c.in_ok-answer.answer) (g.W.MessageWrite.room c.args.writer)
    (type_number Error (method_of (type_field request))) (transaction_id_field request)
    c.in_ok-error.error error_is c.in_ok-answer.ensures.open c.in_ok-answer.ensures.empty
    c.in_ok-answer.ensures.bytes c.in_ok-answer.ensures.room fits) in
    search (rules, added)

pub returns-in_err-add_attribute-2-clause-granted :
    goal.returns-in_err-add_attribute-2-clause-granted
returns-in_err-add_attribute-2-clause-granted g c grants fits short =
    let request = c.args.request.now in
    let kind = type_number Error (method_of (type_field request)) in
    let id = transaction_id_field request in
    let error_is : c.in_ok-error.error ≡ record { code = 420; reason = codes "Unknown Attribute" } =
    c.in_ok-error.ensures.value
    ∙ (c.reason.ensures
    ∙ ap (λ (e : CodeAndReason). record { code = e.code; reason = codes "Unknown Attribute" })
    c.builder.ensures) in
    let first = c.in_ok-add_attribute.ensures in
    let added = c.in_err-add_attribute-2.ensures.granted grants
    (types_allowed (g.W.MessageWrite.bytes c.in_ok-answer.answer)
    (g.W.MessageWrite.bytes c.add_attribute.new.self) request c.args.known.now c.of.result
    (g.W.MessageWrite.room c.add_attribute.new.self) (g.W.MessageWrite.room c.args.writer)
    kind id c.in_ok-error.error error_is c.of.ensures c.in_ok-answer.ensures.empty
    (first.open c.in_ok-answer.ensures.open) (first.added c.in_ok-answer.ensures.open)
    (first.spelled kind id [] c.in_ok-answer.ensures.bytes)
    (ap (λ n. n + 20) first.room ∙ c.in_ok-answer.ensures.room) fits short) in
    search (rules, added)
