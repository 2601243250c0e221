-- The answer to a request with unknown types: how long it is, that it is spelled attribute by
-- attribute, and that none of its two attributes is refused where it fits.
use Rattle.std.proofs.Common.{◌≡◌, ◌≤◌, ℕ, ◌+◌, ◌-◌, ◌*◌, false, None, nat_lt, List, [], ◌∷◌, ◌++◌}
use Rattle.std.proofs.Common.{length, ◌∙◌, ap, arith, length-append, refl, subst, sym, ◌||◌}
use Rattle.std.specs.Prelude.{Option, Result, IsOkUnless, codes}
use Rattle.std.proofs.lemmas.List.{append-nil}
use Rattle.stun_base.specs.Attributes.{ERROR_CODE}
use Rattle.stun_base.specs.Header.{transaction_id_field, type_field}
use Rattle.stun_base.specs.MessageType.{method_of, type_number}
use Rattle.stun_base.specs.declared.wire.error.StunWriteError.{StunWriteError}
use Rattle.stun_base.specs.declared.wire.error.StunWriteError.TheVariants.{OutOfMemory}
use Rattle.stun_base.specs.declared.wire.message_type.MessageClass.TheVariants.{Error}
use Rattle.stun_types.specs.ErrorCode.{CodeAndReason, error_value}
use Rattle.stun_base.specs.declared.wire.attribute_type.AttributeType.{AttributeType}
use Rattle.stun_types.specs.Attribute.{TypedValue, attribute_length}
use Rattle.stun_types.specs.Grammar.{spelled_message, spelled_attribute}
use Rattle.stun_types.specs.Visible.{has_kind}
use Rattle.stun_types.specs.Walk.{Member, walk}
use Rattle.stun_types.specs.Writing.{HasOneMore, IsOpen, attribute_refusal, has_integrity}
use Rattle.stun_types.specs.Writing.{RefusedBy, is_set_apart}
use Rattle.stun_types.proofs.AddingLemmas.{length-spelled_attribute}
use Rattle.stun_types.proofs.VisibleLemmas.{has_kind-append}
use Rattle.stun_extra.specs.Unknown.{UNKNOWN_ATTRIBUTES, refusing_answer, spelled_types}
use Rattle.stun_extra.specs.Unknown.{unknown_attribute_error, unknown_types}
use Rattle.stun_extra.proofs.UnknownLemmas.{length_of_types}

-- a message of two attributes
length-two : (message_type id : ℕ) (one other : TypedValue)
    → length (spelled_message message_type id (one ∷ other ∷ []))
    ≡ 20 + attribute_length (length one.value) + attribute_length (length other.value)
length-two message_type id one other =
    let sum = length-append (spelled_attribute one) (spelled_attribute other ++ []) in
    let last = ap length (append-nil (spelled_attribute other)) in
    omega (arith, sum, last, length-spelled_attribute one, length-spelled_attribute other)

-- the number of its bytes
pub length-refusing_answer : (known : List AttributeType) (request : List ℕ)
    → length (refusing_answer known request)
    ≡ 48 + attribute_length (2 * length (unknown_types known request))
unfolding refusing_answer
length-refusing_answer known request =
    let types = unknown_types known request in
    length-two (type_number Error (method_of (type_field request))) (transaction_id_field request)
    unknown_attribute_error (record { kind = UNKNOWN_ATTRIBUTES; value = spelled_types types })
    ∙ ap (λ n. 48 + attribute_length n) (length_of_types types)

-- the answer is spelled so
pub refusing_answer-spelled_message : (known types : List AttributeType) (request : List ℕ)
    (error : CodeAndReason)
    → error ≡ record { code = 420; reason = codes "Unknown Attribute" }
    → types ≡ unknown_types known request
    → spelled_message (type_number Error (method_of (type_field request)))
    (transaction_id_field request)
    (record { kind = ERROR_CODE; value = error_value error }
    ∷ record { kind = UNKNOWN_ATTRIBUTES; value = spelled_types types } ∷ [])
    ≡ refusing_answer known request
unfolding refusing_answer
refusing_answer-spelled_message known types request error error_is types_are =
    λ i. spelled_message (type_number Error (method_of (type_field request)))
    (transaction_id_field request)
    (record { kind = ERROR_CODE; value = error_value (error_is i) }
    ∷ record { kind = UNKNOWN_ATTRIBUTES; value = spelled_types (types_are i) } ∷ [])

-- ---- what is not refused

below : (a b : ℕ) → b ≤ a → nat_lt a b ≡ false
below a b within = grind (arith, within)

-- an attribute of another type, which fits
allowed : (message : List ℕ) (room kind n : ℕ) → is_set_apart kind ≡ false
    → has_integrity message ≡ false → has_kind kind (walk message) ≡ false
    → length message - 20 + attribute_length n ≤ 65532 → attribute_length n ≤ room
    → attribute_refusal message room kind n ≡ None
allowed message room kind n other signed absent field enough =
    let short = below 65532 (length message - 20 + attribute_length n) field in
    let within = below room (attribute_length n) enough in
    rw (other, signed, absent, short, within) refl

-- the error, in a message that has only its header
pub error_allowed : (message request : List ℕ) (known : List AttributeType) (room whole type id : ℕ)
    (error : CodeAndReason)
    → error ≡ record { code = 420; reason = codes "Unknown Attribute" }
    → IsOpen message → walk message ≡ [] → message ≡ spelled_message type id []
    → room + 20 ≡ whole → length (refusing_answer known request) ≤ whole
    → attribute_refusal message room ERROR_CODE (length (error_value error)) ≡ None
error_allowed message request known room whole type id error error_is is_open empty begun left fits =
    let count : length (error_value error) ≡ 21 = ap (λ e. length (error_value e)) error_is in
    let header : length message ≡ 20 = ap length begun in
    let absent : has_kind ERROR_CODE (walk message) ≡ false = ap (has_kind ERROR_CODE) empty in
    let whole_length = length-refusing_answer known request in
    allowed message room ERROR_CODE (length (error_value error)) refl is_open.no_integrity absent
    (rw count omega (arith, header)) (rw count omega (arith, whole_length, left, fits))

-- a message of one attribute
length-one : (message_type id : ℕ) (one : TypedValue)
    → length (spelled_message message_type id (one ∷ []))
    ≡ 20 + attribute_length (length one.value)
length-one message_type id one =
    let last = ap length (append-nil (spelled_attribute one)) in
    omega (arith, last, length-spelled_attribute one)

-- the types, after the error
pub types_allowed : (message after request : List ℕ) (known types : List AttributeType)
    (room whole type id : ℕ) (error : CodeAndReason)
    → error ≡ record { code = 420; reason = codes "Unknown Attribute" }
    → types ≡ unknown_types known request
    → walk message ≡ [] → IsOpen after
    → HasOneMore message after (record { kind = ERROR_CODE; value = error_value error })
    → after ≡ spelled_message type id (record { kind = ERROR_CODE; value = error_value error } ∷ [])
    → room + attribute_length (length (error_value error)) + 20 ≡ whole
    → length (refusing_answer known request) ≤ whole
    → length (refusing_answer known request) ≤ 65552
    → attribute_refusal after room UNKNOWN_ATTRIBUTES (length (spelled_types types)) ≡ None
types_allowed message after request known types room whole type id error error_is types_are empty
    is_open one written left fits short =
    let attribute : TypedValue = record { kind = ERROR_CODE; value = error_value error } in
    let member : Member = (length message, attribute) in
    let absent : has_kind UNKNOWN_ATTRIBUTES (walk after) ≡ false =
    ap (has_kind UNKNOWN_ATTRIBUTES) one.walk_is
    ∙ has_kind-append UNKNOWN_ATTRIBUTES (walk message) member
    ∙ ap (λ ms. has_kind UNKNOWN_ATTRIBUTES ms || false) empty in
    let count : length (error_value error) ≡ 21 = ap (λ e. length (error_value e)) error_is in
    let spelled : length (spelled_types types) ≡ 2 * length (unknown_types known request) =
    length_of_types types ∙ ap (λ ts. 2 * length ts) types_are in
    let begun = ap length written
    ∙ length-one type id attribute
    ∙ ap (λ n. 20 + attribute_length n) count in
    let taken : room + 28 + 20 ≡ whole = ap (λ n. room + attribute_length n + 20) (sym count) ∙ left in
    let whole_length = length-refusing_answer known request in
    allowed after room UNKNOWN_ATTRIBUTES (length (spelled_types types)) refl is_open.no_integrity
    absent
    (rw spelled omega (arith, begun, whole_length, short))
    (rw spelled omega (arith, whole_length, taken, fits))

-- without a reason only an allocation can fail
pub unrefused : (refusal : Option StunWriteError) (result : Result (Unit {0}) StunWriteError)
    → refusal ≡ None → RefusedBy refusal result → IsOkUnless result OutOfMemory
unrefused refusal result none refused = subst (λ o. RefusedBy o result) none refused
