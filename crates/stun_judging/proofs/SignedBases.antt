-- The messages that are signed: without attributes, or with an error code.
use Rattle.std.proofs.Common.{◌≡◌, ℕ, ◌<◌, ◌^◌, Bool, true, false, List, [], ◌∷◌, ◌++◌}
use Rattle.std.proofs.Common.{length, refl, sym, ◌∙◌, ap, subst, arith, length-append}
use Rattle.std.specs.Prelude.{Option, Some, None, if◌then◌else◌}
use Rattle.std.specs.Option.{option_and_then, option_map}
use Rattle.std.proofs.lemmas.List.{length-replicate}
use Rattle.byteorder.specs.Endian.{big_bytes}
use Rattle.byteorder.specs.Numbers.{big_number-reads_back}
use Rattle.stun_base.specs.Attributes.{ERROR_CODE, NONCE, PASSWORD_ALGORITHM}
use Rattle.stun_base.specs.Attributes.{PASSWORD_ALGORITHMS, REALM, USERHASH, USERNAME}
use Rattle.stun_base.specs.Header.{MAGIC_COOKIE, type_field}
use Rattle.stun_base.specs.MessageType.{class_of, class_in, is_error}
use Rattle.stun_types.specs.Attribute.{TypedValue, attribute_length}
use Rattle.stun_types.specs.ErrorCode.{CodeAndReason, IsError, error_of}
use Rattle.stun_types.specs.ErrorCodeLaws.{error_of-written}
use Rattle.stun_types.specs.Grammar.{spelled_message, spelled_attribute, spelled_attributes}
use Rattle.stun_types.specs.Visible.{has_kind, visible}
use Rattle.stun_types.specs.Walk.{Member, walk}
use Rattle.stun_types.specs.Writing.{IsAddable, IsOpen, with_attribute}
use Rattle.stun_judging.specs.Reading.{last_of}
use Rattle.stun_judging.specs.Signed.{IsBuilt, IsUnsigned, error_attribute}
use Rattle.stun_judging.proofs.JoinedLemmas.{WritingLaws}

-- what building a message does
pub record BuildingLaws : Type 0 where
  pub begun : (message_type transaction_id : ℕ) → message_type < 2 ^ 14
      → IsOpen (spelled_message message_type transaction_id [])
      × (walk (spelled_message message_type transaction_id []) ≡ [])
  pub continued : (message_type transaction_id : ℕ) (attributes : List TypedValue)
      (attribute : TypedValue)
      → with_attribute (spelled_message message_type transaction_id attributes) attribute
      ≡ spelled_message message_type transaction_id (attributes ++ attribute ∷ [])

-- the type is read as it is written
type_field-spelled_message : (message_type transaction_id : ℕ) (attributes : List TypedValue)
    → message_type < 2 ^ 14
    → type_field (spelled_message message_type transaction_id attributes) ≡ message_type
type_field-spelled_message message_type transaction_id attributes fits =
    big_number-reads_back 2 message_type
    (big_bytes 2 (length (spelled_attributes attributes)) ++ big_bytes 4 MAGIC_COOKIE
    ++ big_bytes 12 transaction_id ++ spelled_attributes attributes)
    (omega (arith, fits))

-- a message among whose attributes none of these types is
unsigned : (message : List ℕ) → IsOpen message → has_kind NONCE (walk message) ≡ false
    → has_kind REALM (walk message) ≡ false
    → has_kind USERNAME (walk message) ≡ false → has_kind USERHASH (walk message) ≡ false
    → has_kind PASSWORD_ALGORITHMS (walk message) ≡ false
    → has_kind PASSWORD_ALGORITHM (walk message) ≡ false → IsUnsigned message
unsigned message is_open nonce realm username userhash algorithms algorithm =
    record {
      is_open = is_open;
      none = (nonce, (realm, (username, (userhash, (algorithms, (algorithm, tt))))));
    }

same_both_ways : (holds : Bool) (error : Option ℕ) → (if holds then error else error) ≡ error
same_both_ways true error = refl
same_both_ways false error = refl

-- a message without attributes
pub bare : WritingLaws → BuildingLaws → (message_type transaction_id : ℕ) → message_type < 2 ^ 14
    → IsBuilt (spelled_message message_type transaction_id []) (class_of message_type) None
bare laws building message_type transaction_id fits =
    let message = spelled_message message_type transaction_id [] in
    let begun = building.begun message_type transaction_id fits in
    let none : (kind : ℕ)
    → has_kind kind (walk message) ≡ false = λ kind. ap (has_kind kind) begun.1 in
    let shown : visible message ≡ [] = laws.shown message begun.0 ∙ begun.1 in
    let nothing : option_and_then (λ (m : Member). error_of m.1)
    (last_of ERROR_CODE (visible message)) ≡ None =
    ap (λ ms. option_and_then (λ (m : Member). error_of m.1) (last_of ERROR_CODE ms)) shown in
    record {
      unsigned =
          unsigned message begun.0 (none NONCE) (none REALM) (none USERNAME) (none USERHASH)
          (none PASSWORD_ALGORITHMS) (none PASSWORD_ALGORITHM);
      class_is = ap class_of (type_field-spelled_message message_type transaction_id [] fits);
      error_is =
          ap (λ error. if is_error (class_in message)
          then option_map (λ (e : CodeAndReason). e.code) error else None) nothing
          ∙ same_both_ways (is_error (class_in message)) None;
      short = omega arith;
    }

-- its attribute takes at most 772 bytes
length-spelled_attribute : (a : TypedValue)
    → length (spelled_attribute a) ≡ attribute_length (length a.value)
length-spelled_attribute a = simp (length-append, length-replicate) (omega arith)

-- a message with an error code
pub with_error : WritingLaws → BuildingLaws
    → (message_type transaction_id : ℕ) (error : CodeAndReason) → message_type < 2 ^ 14
    → IsError error
    → IsBuilt (spelled_message message_type transaction_id (error_attribute error ∷ []))
    (class_of message_type) (if is_error (class_of message_type) then Some error.code else None)
with_error laws building message_type transaction_id error fits is_written =
    let before = spelled_message message_type transaction_id [] in
    let message = spelled_message message_type transaction_id (error_attribute error ∷ []) in
    let a = error_attribute error in
    let only : Member = (20, a) in
    let begun = building.begun message_type transaction_id fits in
    let same : with_attribute before a ≡ message =
    building.continued message_type transaction_id [] a in
    let addable : IsAddable before a =
    record { kind = omega arith; value = omega (arith, is_written.short) } in
    let is_open : IsOpen message = subst IsOpen same (laws.opened before a begun.0 addable refl) in
    let walked : walk message ≡ only ∷ [] =
    ap walk (sym same)
    ∙ ((laws.added before a begun.0 addable).walk_is ∙ ap (λ ms. ms ++ only ∷ []) begun.1) in
    let shown : visible message ≡ only ∷ [] = laws.shown message is_open ∙ walked in
    let none : (kind : ℕ) → has_kind kind (only ∷ []) ≡ false
    → has_kind kind (walk message) ≡ false = λ kind other. ap (has_kind kind) walked ∙ other in
    let found : option_and_then (λ (m : Member). error_of m.1)
    (last_of ERROR_CODE (visible message)) ≡ Some error =
    ap (λ ms. option_and_then (λ (m : Member). error_of m.1) (last_of ERROR_CODE ms)) shown
    ∙ error_of-written error is_written in
    let class : class_in message ≡ class_of message_type =
    ap class_of (type_field-spelled_message message_type transaction_id (a ∷ []) fits) in
    record {
      unsigned =
          unsigned message is_open (none NONCE refl) (none REALM refl) (none USERNAME refl)
          (none USERHASH refl) (none PASSWORD_ALGORITHMS refl) (none PASSWORD_ALGORITHM refl);
      class_is = class;
      error_is = λ i. if is_error (class i)
          then option_map (λ (e : CodeAndReason). e.code) (found i) else None;
      short = omega (
        arith,
        is_written.short,
        length-spelled_attribute a,
        length-append (spelled_attribute a) [],
      );
    }
