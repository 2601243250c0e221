-- The 420 of a server has room for all types that a request can have.
use Rattle.std.proofs.Common.{◌≡◌, ◌≤◌, ◌+◌, ◌*◌, ℕ, Bool, true, false, refl, ap}
use Rattle.std.proofs.Common.{List, [], ◌∷◌, ◌++◌, length, Option, Some, None, ◌∙◌, arith, subst}
use Rattle.std.specs.Prelude.{codes, cond, not, nat_lt, ◌==◌}
use Rattle.std.proofs.lemmas.Bool.Decides.{nat_tests}
use Rattle.std.proofs.lemmas.List.Sums.{count_by-le-length, length-filter, sum_by-cons}
use Rattle.std.proofs.lemmas.Str.{IsUtf8-from_ascii}
use Rattle.stun_base.specs.Header.{header_refusal, length_field, transaction_id_field, type_field}
use Rattle.stun_base.specs.MessageType.{method_of, type_number}
use Rattle.stun_base.specs.declared.wire.attribute_type.AttributeType.{AttributeType}
use Rattle.stun_base.specs.declared.wire.error.StunParseError.{StunParseError}
use Rattle.stun_base.specs.declared.wire.error.StunParseError.TheVariants.{Truncated, TooLarge}
use Rattle.stun_base.specs.declared.wire.message_type.MessageClass.TheVariants as Class
use Rattle.stun_types.specs.Attribute.{TypedValue, attribute_length}
use Rattle.stun_types.specs.ErrorCode.{CodeAndReason}
use Rattle.stun_types.specs.Grammar.{spelled_attribute, spelled_message}
use Rattle.stun_types.specs.Message.{data_refusal, either_refusal, refusal}
use Rattle.stun_types.specs.Visible.{is_visible, visible}
use Rattle.stun_types.specs.Walk.{Member, attributes_length, walk}
use Rattle.stun_types.specs.Writing.{length_with, with_attribute}
use Rattle.stun_types.proofs.AddingLemmas.{length-spelled_attribute, raised}
use Rattle.stun_extra.specs.Unknown.{UNKNOWN_ATTRIBUTES, refusing_answer}
use Rattle.stun_extra.specs.Unknown.{spelled_types, unknown_attribute_error}
use Rattle.stun_extra.specs.Unknown.{unknown_types}
use Rattle.stun_extra.proofs.UnknownLemmas.{length_of_types, unknown_types-few}
use Rattle.stun_exchanges.proofs.Ascii.{from_small}
use Rattle.stun_exchanges.specs.Exchange.{IsPage}
use Rattle.stun_sessions.specs.Responses.{IsFinal, IsShortRequest, error_begun}
use Rattle.stun_sessions.proofs.BegunLemmas.{BeginningLaws, error_is_begun, more_is_page}

-- ---- how many types a request has

-- there are no more of them than attributes
visible-few : (bytes : List ℕ) → length (visible bytes) ≤ length (walk bytes)
unfolding visible
visible-few bytes =
    let is_shown = is_visible (walk bytes) in
    omega (arith, length-filter is_shown (walk bytes), count_by-le-length is_shown (walk bytes))

-- each attribute takes the 4 bytes of its header or more
four_each : (members : List Member) → 4 * length members ≤ attributes_length members
four_each [] = omega arith
four_each (m ∷ members) =
    let first = sum_by-cons (λ (n : Member). attribute_length (length n.1.value)) m members in
    omega (arith, first, four_each members)

-- attributes fill a message that is not refused
filled_by : (a b : Bool) (n m : ℕ) → cond a (Some Truncated) (cond b (Some TooLarge)
    (cond (n == m) None (Some Truncated))) ≡ None
    → n ≡ m
filled_by true b n m is = cc
filled_by false true n m is = cc
filled_by false false n m is = grind (arith, nat_tests)

second_of : (first second : Option StunParseError) → either_refusal first second ≡ None
    → second ≡ None
second_of (Some error) second is = cc
second_of None second is = is

filled_is : (bytes : List ℕ) → refusal bytes ≡ None
    → 20 + attributes_length (walk bytes) ≡ length bytes
filled_is bytes is =
    filled_by (nat_lt (length bytes) (20 + length_field bytes))
    (nat_lt (20 + length_field bytes) (length bytes)) (20 + attributes_length (walk bytes))
    (length bytes) (second_of (header_refusal bytes) (data_refusal bytes) is)

types_short : (known : List AttributeType) (request : List ℕ) → IsShortRequest request
    → length (spelled_types (unknown_types known request)) ≤ 32768
types_short known request is =
    omega (
      arith,
      length_of_types (unknown_types known request),
      unknown_types-few known request,
      visible-few request,
      four_each (walk request),
      filled_is request is.message,
      is.short,
    )

-- ---- the 420

abbrev unknown_error : CodeAndReason
unknown_error = record { code = 420; reason = codes "Unknown Attribute" }

is_final : IsFinal unknown_error
is_final = record {
  written = record {
    from_300 = omega arith;
    below_700 = omega arith;
    text =
        IsUtf8-from_ascii (codes "Unknown Attribute")
        (from_small (codes "Unknown Attribute") refl);
    short = omega arith;
  };
  not_unauthenticated = λ is. omega (arith, is);
  not_stale = λ is. omega (arith, is);
}

module _ (laws : BeginningLaws)
    (spelled : (message_type id : ℕ) (attributes : List TypedValue) (attribute : TypedValue)
    → with_attribute (spelled_message message_type id attributes) attribute
    ≡ spelled_message message_type id (attributes ++ attribute ∷ []))
    (known : List AttributeType) (request : List ℕ) (is : IsShortRequest request) where
  abbrev kind : ℕ
  kind = type_number Class.Error (method_of (type_field request))

  abbrev id : ℕ
  id = transaction_id_field request

  abbrev listed : TypedValue
  listed = record {
    kind = UNKNOWN_ATTRIBUTES;
    value = spelled_types (unknown_types known request);
  }

  abbrev page : List ℕ
  page = error_begun request unknown_error

  page_is : page ≡ spelled_message kind id (unknown_attribute_error ∷ [])
  page_is = spelled kind id [] unknown_attribute_error

  page_long : length page ≡ 48
  page_long = ap length page_is

  begun : IsPage request page
  begun = error_is_begun laws request is.identified unknown_error is_final

  whole : IsPage request (with_attribute page listed)
  whole =
      let short = types_short known request is in
      let kept = raised page (spelled_attribute listed) (length_with page (length listed.value))
      begun.is_open.is_message.header.is_whole (omega (arith, page_long, short)) in
      more_is_page laws request page listed begun (record {
        fits = record { kind = omega arith; value = omega (arith, page_long, short) };
        plain = refl;
        no_code = λ same. omega (arith, same);
        short = omega (arith, kept.long, length-spelled_attribute listed, page_long, short);
      })

  pub unknown_is_page : IsPage request (refusing_answer known request)
  unfolding refusing_answer
  unknown_is_page =
      subst (λ (p : List ℕ). IsPage request p)
      (ap (λ p. with_attribute p listed) page_is
      ∙ spelled kind id (unknown_attribute_error ∷ []) listed)
      whole
