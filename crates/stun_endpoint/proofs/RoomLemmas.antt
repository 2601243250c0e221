-- What can be added to a response that is open and not too long.
use Rattle.std.proofs.Common.{◌≡◌, ◌≤◌, ◌<◌, ◌^◌, ◌+◌, ◌-◌, ℕ, Bool, true, false, List, []}
use Rattle.std.proofs.Common.{◌∷◌, length, Option, Some, None, refl, ◌∙◌}
use Rattle.std.proofs.Common.{ap, arith, cond, subst}
use Rattle.std.specs.Prelude.{nat_lt, ◌==◌, unwrap_or}
use Rattle.std.specs.List.{AllByRecursion}
use Rattle.std.proofs.lemmas.Bool.{le-ltb}
use Rattle.stun_base.specs.declared.wire.attribute_type.AttributeType.{AttributeType}
use Rattle.stun_base.specs.declared.wire.error.StunWriteError.TheVariants.{AttributeExists}
use Rattle.stun_base.specs.declared.wire.error.StunWriteError.TheVariants.{MessageIntegrityExists}
use Rattle.stun_base.specs.declared.wire.error.StunWriteError.TheVariants.{NotAllowed, TooLarge}
use Rattle.stun_types.specs.Attribute.{TypedValue, attribute_length}
use Rattle.stun_types.specs.Limits.{LENGTH_LIMIT, TEXT_LIMIT}
use Rattle.stun_types.specs.Visible.{has_kind}
use Rattle.stun_types.specs.Walk.{walk}
use Rattle.stun_types.specs.Writing.{HasOneMore, IsAddable, IsOpen, attribute_refusal}
use Rattle.stun_types.specs.Writing.{has_integrity, is_set_apart, size_refusal, with_attribute}
use Rattle.stun_types.proofs.AddingLemmas.{HasOneMore-added, IsOpen-added}
use Rattle.stun_types.proofs.AddingLemmas.{IsOpen-spelled_message, with_attribute-spelled_message}
use Rattle.stun_extra.specs.AttributeTypes.{SOFTWARE}
use Rattle.stun_extra.specs.Fingerprint.{fingerprint_refusal}
use Rattle.stun_base.specs.Header.{transaction_id_field, type_field}
use Rattle.stun_base.specs.MessageType.{method_of, type_number}
use Rattle.stun_base.specs.declared.wire.message_type.MessageClass.TheVariants.{Error}
use Rattle.stun_extra.specs.Unknown.{UNKNOWN_ATTRIBUTES, is_empty, refusing_answer, spelled_types}
use Rattle.stun_extra.specs.Unknown.{unknown_attribute_error, unknown_types}
use Rattle.stun_extra.proofs.RoomLemmas.{allowed, few_unknown, length_grown, open_ends}
use Rattle.stun_extra.proofs.RoomLemmas.{open_signs, signed_ends, sized, still_none}
use Rattle.stun_extra.proofs.UnknownLemmas.{length_of_types}
use Rattle.stun_types.specs.ErrorCode.{error_refusal}
use Rattle.stun_endpoint.specs.Refusals.{code_of, phrase_of}
use Rattle.stun_endpoint.specs.declared.received.Refusal.{Refusal}
use Rattle.stun_endpoint.specs.declared.received.Refusal.TheVariants.{BadRequest, StaleNonce}
use Rattle.stun_endpoint.specs.declared.received.Refusal.TheVariants.{Unauthenticated}
use Rattle.stun_endpoint.specs.declared.received.Refusal.TheVariants.{UnknownAttribute}
use Rattle.stun_types.specs.Grammar.{spelled_message}
use Rattle.stun_endpoint.specs.Answers.{Signature, with_signature, with_software}
use Rattle.stun_endpoint.specs.Ended.{finish_refusal, refused_last, refused_signature}
use Rattle.stun_endpoint.specs.Ended.{refused_software, room_after}
use Rattle.stun_endpoint.specs.code.Room.{HasRoom, IsEndable}

-- ---- messages with room

pub none_empty : (page kinds : List ℕ) → walk page ≡ []
    → AllByRecursion (λ kind. has_kind kind (walk page) ≡ false) kinds
none_empty page [] empty = tt
none_empty page (kind ∷ kinds) empty = (ap (has_kind kind) empty, none_empty page kinds empty)

-- a message without attributes has none of any type
pub room_empty : (page kinds : List ℕ) → IsOpen page → walk page ≡ [] → length page ≤ 20
    → HasRoom kinds 20 page
room_empty page kinds is_open empty short =
    record { is_open = is_open; none = none_empty page kinds empty; short = short }

pub still : (page longer : List ℕ) (a : TypedValue) (kinds : List ℕ) → HasOneMore page longer a
    → AllByRecursion (λ kind. has_kind kind (walk page) ≡ false) kinds
    → AllByRecursion (λ kind. (a.kind == kind) ≡ false) kinds
    → AllByRecursion (λ kind. has_kind kind (walk longer) ≡ false) kinds
still page longer a [] one none other = tt
still page longer a (kind ∷ kinds) one none other = (
  ap (has_kind kind) one.walk_is
      ∙ still_none kind (length page) (walk page) a none.0 other.0,
  still page longer a kinds one none.1 other.1,
)

-- a message with one attribute more
pub room_more : (page : List ℕ) (a : TypedValue) (kinds : List ℕ) (most : ℕ) → HasRoom kinds most page
    → a.kind < 2 ^ 16 → is_set_apart a.kind ≡ false
    → AllByRecursion (λ kind. (a.kind == kind) ≡ false) kinds
    → most + attribute_length (length a.value) ≤ 65000
    → HasRoom kinds (most + attribute_length (length a.value)) (with_attribute page a)
room_more page a kinds most room fits apart other few =
    let header = room.is_open.is_message.header.is_whole in
    let addable : IsAddable page a =
    record { kind = fits; value = omega (arith, room.short, few, header) } in
    record {
      is_open = IsOpen-added page a room.is_open addable apart;
      none = still page (with_attribute page a) a kinds
          (HasOneMore-added page a room.is_open addable) room.none other;
      short = omega (arith, length_grown page a header, room.short);
    }

-- fewer types, and more bytes
pub room_within : (page kinds : List ℕ) (kind most more : ℕ) → HasRoom (kind ∷ kinds) most page
    → most ≤ more → HasRoom kinds more page
room_within page kinds kind most more room few = record {
  is_open = room.is_open;
  none = room.none.1;
  short = omega (arith, room.short, few);
}

-- ---- what is not refused

-- an attribute of a type that the message does not have
pub room_takes : (page kinds : List ℕ) (kind n most : ℕ) → HasRoom (kind ∷ kinds) most page
    → is_set_apart kind ≡ false → most + attribute_length n ≤ LENGTH_LIMIT
    → attribute_refusal page (LENGTH_LIMIT - length page) kind n ≡ None
room_takes page kinds kind n most room apart fits =
    let size = size_refusal page (LENGTH_LIMIT - length page) n in
    let exists = cond (has_kind kind (walk page)) (Some (AttributeExists (record { 0 = kind }))) size in
    allowed (is_set_apart kind) NotAllowed
    (cond (has_integrity page) (Some MessageIntegrityExists) exists) apart
    (allowed (has_integrity page) MessageIntegrityExists exists room.is_open.no_integrity
    (allowed (has_kind kind (walk page)) (AttributeExists (record { 0 = kind })) size room.none.0
    (sized page n room.is_open.is_message.header.is_whole (omega (arith, room.short, fits)))))

-- FINGERPRINT, after a signature or without one
fingerprint_fits : (page : List ℕ) (signature : Option Signature) → IsOpen page
    → length page ≤ 65000
    → fingerprint_refusal (with_signature signature page) (room_after (with_signature signature page))
    ≡ None
fingerprint_fits page None is_open short = open_ends page is_open short
fingerprint_fits page (Some by) is_open short = signed_ends page by.algorithm by.key is_open short

signature_fits : (page : List ℕ) (signature : Option Signature) → IsOpen page
    → length page ≤ 65000 → refused_signature signature page ≡ None
signature_fits page None is_open short = refl
signature_fits page (Some by) is_open short = open_signs page by.algorithm is_open short

last_taken : (has : Bool) (page : List ℕ) → fingerprint_refusal page (room_after page) ≡ None
    → refused_last has page ≡ None
last_taken true page fits = fits
last_taken false page fits = refl

software_fits : (page : List ℕ) (software : Option (List ℕ)) → IsEndable page
    → length (unwrap_or software []) ≤ TEXT_LIMIT → refused_software software page ≡ None
software_fits page None room short = refl
software_fits page (Some text) room short =
    allowed (nat_lt TEXT_LIMIT (length text)) TooLarge
    (attribute_refusal page (room_after page) SOFTWARE (length text))
    (le-ltb TEXT_LIMIT (length text) short)
    (room_takes page [] SOFTWARE (length text) 60000 room refl (omega (arith, short)))

described : (page : List ℕ) (software : Option (List ℕ)) → IsEndable page
    → length (unwrap_or software []) ≤ TEXT_LIMIT
    → IsOpen (with_software software page) × (length (with_software software page) ≤ 65000)
described page None room short = (room.is_open, omega (arith, room.short))
described page (Some text) room short =
    let more =
    room_more page (record { kind = SOFTWARE; value = text }) [] 60000
    (room_within page [] SOFTWARE 60000 60000 room (omega arith)) (omega arith) refl tt
    (omega (arith, short)) in
    (more.is_open, omega (arith, more.short, short))

-- a response with room takes its end
pub end_fits : (software : Option (List ℕ)) (signature : Option Signature) (has : Bool)
    (page : List ℕ) → IsEndable page → length (unwrap_or software []) ≤ TEXT_LIMIT
    → finish_refusal (record {
      software = software;
      signature = signature;
      has_fingerprint = has;
    }) page ≡ None
end_fits software signature has page room short =
    let longer = with_software software page in
    let open_still = described page software room short in
    let first = software_fits page software room short in
    let second = signature_fits longer signature open_still.0 open_still.1 in
    let third =
    last_taken has (with_signature signature longer)
    (fingerprint_fits longer signature open_still.0 open_still.1) in
    rw (first, second, third) refl

-- ---- the response to a request with types that are not understood

-- what is not empty has types
pub not_empty : (types : List AttributeType) → is_empty types ≡ false → types ≡ [] → ⊥
not_empty [] none empty = cc
not_empty (kind ∷ kinds) none empty = cc

error_type_short : (number : ℕ) → type_number Error (method_of number) < 2 ^ 14
error_type_short number = omega arith

pub refusal_has_room : (known : List AttributeType) (request : List ℕ)
    → length request ≤ LENGTH_LIMIT → IsEndable (refusing_answer known request)
unfolding refusing_answer
refusal_has_room known request short =
    let kind = type_number Error (method_of (type_field request)) in
    let id = transaction_id_field request in
    let types : TypedValue =
    record { kind = UNKNOWN_ATTRIBUTES; value = spelled_types (unknown_types known request) } in
    let fits = error_type_short (type_field request) in
    let begun = IsOpen-spelled_message kind id fits in
    let first =
    room_more (spelled_message kind id []) unknown_attribute_error
    (UNKNOWN_ATTRIBUTES ∷ SOFTWARE ∷ []) 20
    (room_empty (spelled_message kind id []) (UNKNOWN_ATTRIBUTES ∷ SOFTWARE ∷ []) begun.0 begun.1
    (omega arith)) (omega arith) refl (refl, (refl, tt)) (omega arith) in
    let one = with_attribute (spelled_message kind id []) unknown_attribute_error in
    let few : length (spelled_types (unknown_types known request)) ≤ 32768 =
    omega (arith, length_of_types (unknown_types known request), few_unknown known request short) in
    let second =
    room_more one types (SOFTWARE ∷ []) 48
    (room_within one (SOFTWARE ∷ []) UNKNOWN_ATTRIBUTES 48 48 first (omega arith)) (omega arith) refl
    (refl, tt) (omega (arith, few)) in
    let spelled =
    ap (λ page. with_attribute page types)
    (with_attribute-spelled_message kind id [] unknown_attribute_error)
    ∙ with_attribute-spelled_message kind id (unknown_attribute_error ∷ []) types in
    let all : HasRoom (SOFTWARE ∷ []) 60000 (with_attribute one types) = record {
      is_open = second.is_open;
      none = second.none;
      short = omega (arith, second.short, few);
    } in
    subst IsEndable spelled all

-- ---- the responses that a server writes by itself

-- their codes and phrases can be written
pub refusal_writes : (refusal : Refusal)
    → error_refusal (record { code = code_of refusal; reason = phrase_of refusal }) ≡ None
refusal_writes BadRequest = refl
refusal_writes Unauthenticated = refl
refusal_writes UnknownAttribute = refl
refusal_writes StaleNonce = refl
