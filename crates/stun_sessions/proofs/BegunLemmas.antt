-- What the caller of a server begins is a response that can be ended.
use Rattle.std.proofs.Common.{◌≡◌, ◌≢◌, ◌≤◌, ◌<◌, ◌^◌, ◌+◌, ◌*◌, ◌/◌, ◌%◌, ℕ, Bool, false}
use Rattle.std.proofs.Common.{List, [], ◌∷◌, ◌++◌, length, Option, Some, None, refl, ◌∙◌, ap, arith}
use Rattle.std.specs.Prelude.{cond, ◌==◌, ◌||◌}
use Rattle.std.specs.Option.{option_and_then, option_map}
use Rattle.std.proofs.lemmas.Bool.Decides.{nat_tests}
use Rattle.stun_base.specs.Attributes.{ERROR_CODE}
use Rattle.stun_base.specs.Header.{transaction_id_field, type_field}
use Rattle.stun_base.specs.MessageType.{class_in, class_of, class_of_bits, is_error, method_of}
use Rattle.stun_base.specs.MessageType.{type_number}
use Rattle.stun_base.specs.declared.wire.message_type.MessageClass.{MessageClass}
use Rattle.stun_base.specs.declared.wire.message_type.MessageClass.TheVariants as Class
use Rattle.stun_types.specs.Attribute.{TypedValue}
use Rattle.stun_types.specs.ErrorCode.{CodeAndReason, error_of}
use Rattle.stun_types.specs.ErrorCodeLaws.{error_of-written}
use Rattle.stun_types.specs.Grammar.{spelled_attribute, spelled_message}
use Rattle.stun_types.specs.Integrity.{first_of}
use Rattle.stun_types.specs.Visible.{visible}
use Rattle.stun_types.specs.Walk.{Member, walk}
use Rattle.stun_types.specs.Writing.{HasOneMore, IsAddable, IsOpen, is_set_apart, length_with}
use Rattle.stun_types.specs.Writing.{with_attribute}
use Rattle.stun_types.proofs.AddingLemmas.{length-spelled_attribute, raised}
use Rattle.stun_judging.specs.Reading.{STALE_NONCE, UNAUTHORIZED, is_code}
use Rattle.stun_extra.specs.Errors.{error_code_attribute}
use Rattle.stun_extra.proofs.FingerprintLemmas.{first_of-other}
use Rattle.stun_client.specs.Challenging.{code_in}
use Rattle.stun_client.specs.Answers.{is_answer_of}
use Rattle.stun_exchanges.specs.Exchange.{IsPage}
use Rattle.stun_exchanges.proofs.ChallengeLemmas.{error_long, header_long, id_again, same_number}
use Rattle.stun_exchanges.proofs.ChallengeLemmas.{type_again}
use Rattle.stun_exchanges.proofs.SealedLemmas.{same_answer}
use Rattle.stun_sessions.specs.Responses.{IsFinal, IsMore, error_begun, success_begun}

-- what the laws of the crates below say of writing and of successes
pub record BeginningLaws : Type 0 where
  pub begun : (message_type id : ℕ) → message_type < 2 ^ 14
      → IsOpen (spelled_message message_type id []) × (walk (spelled_message message_type id []) ≡ [])
  pub shown : (message : List ℕ) → IsOpen message → visible message ≡ walk message
  pub adds : (message : List ℕ) (attribute : TypedValue) → IsOpen message
      → IsAddable message attribute
      → HasOneMore message (with_attribute message attribute) attribute
  pub opens : (message : List ℕ) (attribute : TypedValue) → IsOpen message
      → IsAddable message attribute → is_set_apart attribute.kind ≡ false
      → IsOpen (with_attribute message attribute)
  pub success : (request page : List ℕ) → IsOpen page → class_in page ≡ Class.Success
      → method_of (type_field page) ≡ method_of (type_field request)
      → transaction_id_field page ≡ transaction_id_field request → length page ≤ 60000
      → IsPage request page

-- ---- numbers

other_number : (n m : ℕ) → n ≢ m → (n == m) ≡ false
other_number n m other = grind (arith, nat_tests)

-- ---- what asks for credentials depends on class and first ERROR-CODE alone

abbrev code_with : MessageClass → Option Member → Option ℕ
code_with class found =
    cond (is_error class) (option_map (λ (e : CodeAndReason). e.code)
    (option_and_then (λ (m : Member). error_of m.1) found)) None

abbrev asks_with : Option ℕ → Bool
asks_with code = is_code UNAUTHORIZED code || is_code STALE_NONCE code

-- ---- one more attribute

pub more_is_page : (laws : BeginningLaws) (request page : List ℕ) (attribute : TypedValue)
    → IsPage request page → IsMore page attribute → IsPage request (with_attribute page attribute)
more_is_page laws request page attribute is more =
    let after = with_attribute page attribute in
    let one = laws.adds page attribute is.is_open more.fits in
    let class_is : class_in after ≡ class_in page = ap class_of one.type_is in
    let found : first_of ERROR_CODE (visible after) ≡ first_of ERROR_CODE (visible page) =
    ap (first_of ERROR_CODE) one.visible_is
    ∙ first_of-other ERROR_CODE (visible page) (length page, attribute)
    (other_number attribute.kind ERROR_CODE more.no_code) in
    let code_is : code_in after ≡ code_in page = λ i. code_with (class_is i) (found i) in
    record {
      is_open = laws.opens page attribute is.is_open more.fits more.plain;
      id = one.transaction_id_is ∙ is.id;
      answers =
          same_answer (method_of (type_field request)) after page class_is
          (ap method_of one.type_is)
          ∙ is.answers;
      final = ap asks_with code_is ∙ is.final;
      short = more.short;
    }

-- ---- a success

module _ (laws : BeginningLaws) (request : List ℕ)
    (identified : transaction_id_field request < 2 ^ 96) where
  abbrev method : ℕ
  method = method_of (type_field request)

  abbrev id : ℕ
  id = transaction_id_field request

  module _ where
    abbrev kind_of_success : ℕ
    kind_of_success = type_number Class.Success method

    success_fits : kind_of_success < 2 ^ 14
    success_fits = omega arith

    success_class : class_of kind_of_success ≡ Class.Success
    success_class =
        let bits : kind_of_success / 256 % 2 * 2 + kind_of_success / 16 % 2 ≡ 2 = omega arith in
        ap class_of_bits bits

    success_method : method_of kind_of_success ≡ method
    success_method = omega arith

  pub success_is_begun : IsPage request (success_begun request)
  success_is_begun =
      let kind_is = type_again kind_of_success id [] success_fits in
      laws.success request (success_begun request) (laws.begun kind_of_success id success_fits).0
      (ap class_of kind_is ∙ success_class) (ap method_of kind_is ∙ success_method)
      (id_again kind_of_success id identified)
      (omega (arith, header_long kind_of_success id))

  -- ---- an error

  abbrev kind_of_error : ℕ
  kind_of_error = type_number Class.Error method

  error_fits : kind_of_error < 2 ^ 14
  error_fits = omega arith

  error_class : class_of kind_of_error ≡ Class.Error
  error_class =
      let bits : kind_of_error / 256 % 2 * 2 + kind_of_error / 16 % 2 ≡ 3 = omega arith in
      ap class_of_bits bits

  error_method : method_of kind_of_error ≡ method
  error_method = omega arith

  abbrev empty : List ℕ
  empty = spelled_message kind_of_error id []

  open_empty : IsOpen empty
  open_empty = (laws.begun kind_of_error id error_fits).0

  shows_none : visible empty ≡ []
  shows_none = laws.shown empty open_empty ∙ (laws.begun kind_of_error id error_fits).1

  pub error_is_begun : (error : CodeAndReason) → IsFinal error
      → IsPage request (error_begun request error)
  error_is_begun error is =
      let attribute = error_code_attribute error.code error.reason in
      let page = error_begun request error in
      let addable : IsAddable empty attribute = record {
        kind = omega arith;
        value = omega (arith, header_long kind_of_error id, error_long error, is.written.short);
      } in
      let one = laws.adds empty attribute open_empty addable in
      let kept = raised empty (spelled_attribute attribute)
      (length_with empty (length attribute.value)) open_empty.is_message.header.is_whole
      (omega (arith, header_long kind_of_error id, error_long error, is.written.short)) in
      let kind_is = one.type_is ∙ type_again kind_of_error id [] error_fits in
      let class_is : class_in page ≡ Class.Error = ap class_of kind_is ∙ error_class in
      let found : first_of ERROR_CODE (visible page) ≡ Some (length empty, attribute) =
      ap (first_of ERROR_CODE)
      (one.visible_is ∙ ap (λ (v : List Member). v ++ (length empty, attribute) ∷ []) shows_none) in
      let code_is : code_in page ≡ Some error.code =
      (λ i. code_with (class_is i) (found i))
      ∙ ap (option_map (λ (e : CodeAndReason). e.code)) (error_of-written error is.written) in
      record {
        is_open = laws.opens empty attribute open_empty addable refl;
        id = one.transaction_id_is ∙ id_again kind_of_error id identified;
        answers =
            ap (λ c. is_answer_of method c page) class_is
            ∙ ap (λ m. m == method) (ap method_of kind_is ∙ error_method)
            ∙ same_number method;
        final =
            ap asks_with code_is
            ∙ (λ i. other_number error.code UNAUTHORIZED is.not_unauthenticated i
            || other_number error.code STALE_NONCE is.not_stale i);
        short = omega (
          arith,
          kept.long,
          length-spelled_attribute attribute,
          header_long kind_of_error id,
          error_long error,
          is.written.short,
        );
      }
