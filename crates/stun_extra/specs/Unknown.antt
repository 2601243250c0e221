-- The types of attributes that must be understood but are not known (RFC 8489, sections 6.3.1 and
-- 14.13).
use Rattle.std.specs.Prelude.{◌≡◌, ◌<◌, ◌+◌, ◌*◌, ◌/◌, ◌%◌, ◌^◌, ℕ, Bool, true, false, List, []}
use Rattle.std.specs.Prelude.{◌∷◌, codes, filter, map, length, nat_lt, not, ◌==◌}
use Rattle.std.specs.Prelude.{◌&&◌, ◌≢◌, ◌⊎◌, Option, Some, None, if◌then◌else◌}
use Rattle.std.proofs.Common.{arith, refl}
use Rattle.std.specs.List.{AllByRecursion, flat_map, list_any}
use Rattle.byteorder.specs.Endian.{big_bytes}
use Rattle.stun_base.specs.declared.wire.attribute_type.AttributeType.{AttributeType}
use Rattle.stun_types.specs.Attribute.{TypedValue}
use Rattle.stun_types.specs.ErrorCode.{error_value}
use Rattle.stun_types.specs.Grammar.{spelled_message}
use Rattle.stun_types.specs.Integrity.{first_of}
use Rattle.stun_base.specs.Attributes.{ERROR_CODE}
use Rattle.stun_base.specs.Header.{transaction_id_field, type_field}
use Rattle.stun_base.specs.MessageType.{class_in, method_of, type_number}
use Rattle.stun_base.specs.declared.wire.message_type.MessageClass.TheVariants.{Error, Request}
use Rattle.stun_types.specs.Visible.{visible}
use Rattle.stun_types.specs.Walk.{Member}
pub use Rattle.stun_extra.specs.AttributeTypes.{UNKNOWN_ATTRIBUTES}

-- whether an attribute of a type must be understood (section 14)
abbrev pub is_comprehension_required : ℕ → Bool
is_comprehension_required kind = nat_lt kind 0x8000

-- whether a type is in a list
abbrev pub is_known : List AttributeType → ℕ → Bool
is_known known kind = list_any (λ k. k.0 == kind) known

-- whether an attribute of a type must be understood, and is not known
abbrev pub is_unknown : List AttributeType → ℕ → Bool
is_unknown known kind = is_comprehension_required kind && not (is_known known kind)

-- the list without repeats: each number stays only where it occurs first
abbrev pub without_repeats : List ℕ → List ℕ
without_repeats [] = []
without_repeats (x ∷ xs) = x ∷ filter (λ y. not (y == x)) (without_repeats xs)

-- the types of attributes, in their order
abbrev pub kinds_of : List Member → List ℕ
kinds_of members = map (λ m. m.1.kind) members

-- numbers as types
abbrev pub types_of : List ℕ → List AttributeType
types_of kinds = map (λ kind. record { 0 = kind }) kinds

-- the types of the visible attributes that must be understood but are not known, in their order and
-- each only once
abbrev pub unknown_types : List AttributeType → List ℕ → List AttributeType
unknown_types known bytes =
    types_of (without_repeats (filter (is_unknown known) (kinds_of (visible bytes))))

-- whether a list has no types
abbrev pub is_empty : List AttributeType → Bool
is_empty [] = true
is_empty (kind ∷ kinds) = false

-- a message has a visible attribute that must be understood but is not known
abbrev pub HasUnknown : List AttributeType → List ℕ → Type 0
HasUnknown known bytes = unknown_types known bytes ≢ []

-- a response makes its request fail, whatever else it contains: it has such an attribute, or is an
-- error response without ERROR-CODE (sections 6.3.3 and 6.3.4)
abbrev pub EndsFailed : List AttributeType → List ℕ → Type 0
EndsFailed known response =
    HasUnknown known response
    ⊎ ((class_in response ≡ Error) × (first_of ERROR_CODE (visible response) ≡ None))

-- the value of UNKNOWN-ATTRIBUTES: types, 2 bytes each (section 14.13)
abbrev pub spelled_types : List AttributeType → List ℕ
spelled_types types = flat_map (λ kind. big_bytes 2 kind.0) types

-- a request is refused because of types that are not known
abbrev pub IsRefused : List AttributeType → List ℕ → Type 0
IsRefused known message = (class_in message ≡ Request) × HasUnknown known message

-- ERROR-CODE of such an answer
abbrev pub unknown_attribute_error : TypedValue
unknown_attribute_error =
    record {
      kind = ERROR_CODE;
      value = error_value (record { code = 420; reason = codes "Unknown Attribute" });
    }

-- the answer to such a request: an error response with ERROR-CODE, and with UNKNOWN-ATTRIBUTES of
-- these types (section 6.3.1)
unfoldable pub refusing_answer : List AttributeType → List ℕ → List ℕ
refusing_answer known request =
    spelled_message (type_number Error (method_of (type_field request)))
    (transaction_id_field request)
    (unknown_attribute_error
    ∷ record {
      kind = UNKNOWN_ATTRIBUTES;
      value = spelled_types (unknown_types known request);
    } ∷ [])

-- the types that bytes spell, 2 bytes each
abbrev pub types_in : List ℕ → List AttributeType
types_in [] = []
types_in (a ∷ []) = []
types_in (a ∷ b ∷ rest) = record { 0 = a * 256 + b } ∷ types_in rest

-- the types in an UNKNOWN-ATTRIBUTES, whose value has 2 bytes for each
abbrev pub unknown_attributes_in : TypedValue → Option (List AttributeType)
unknown_attributes_in attribute =
    if attribute.kind == UNKNOWN_ATTRIBUTES && (length attribute.value % 2 == 0)
    then Some (types_in attribute.value) else None

-- types are numbers of 16 bits
abbrev pub AreTypes : List AttributeType → Type 0
AreTypes types = AllByRecursion (λ kind. kind.0 < 2 ^ 16) types

-- types that are written are read again
types_in-spelled : (types : List AttributeType) → AreTypes types
    → types_in (spelled_types types) ≡ types
types_in-spelled [] fit = refl
types_in-spelled (kind ∷ types) fit =
    let number : kind.0 / 256 % 256 * 256 + kind.0 % 256 ≡ kind.0 = omega (arith, fit.0) in
    λ i. record { 0 = number i } ∷ types_in-spelled types fit.1 i

-- there are 2 bytes for each
spelled_types-even : (types : List AttributeType) → length (spelled_types types) % 2 ≡ 0
spelled_types-even [] = refl
spelled_types-even (kind ∷ types) = omega (arith, spelled_types-even types)

pub unknown_attributes_in-written : (types : List AttributeType) → AreTypes types
    → unknown_attributes_in (record { kind = UNKNOWN_ATTRIBUTES; value = spelled_types types })
    ≡ Some types
unknown_attributes_in-written types fit =
    rw (spelled_types-even types, types_in-spelled types fit) refl
