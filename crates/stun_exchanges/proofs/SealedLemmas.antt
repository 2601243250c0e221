-- A response that a server ends is signed, and still what it was.
use Rattle.std.proofs.Common.{◌≡◌, ◌≤◌, ◌+◌, ◌-◌, ℕ, Bool, true, false, List, [], ◌∷◌}
use Rattle.std.proofs.Common.{◌++◌, length, Option, Some, None, refl, ◌∙◌, ap, arith}
use Rattle.std.specs.Prelude.{cond, ◌==◌, ◌||◌, unwrap_or}
use Rattle.std.specs.Option.{option_and_then, option_map}
use Rattle.stun_base.specs.Algorithm.{digest_length}
use Rattle.stun_base.specs.Attributes.{ERROR_CODE, FINGERPRINT}
use Rattle.stun_base.specs.Header.{transaction_id_field, type_field}
use Rattle.stun_base.specs.MessageType.{class_in, class_of, is_error, method_of}
use Rattle.stun_base.specs.declared.keys.algorithm.IntegrityAlgorithm.{IntegrityAlgorithm}
use Rattle.stun_base.specs.declared.keys.algorithm.IntegrityAlgorithm.TheVariants.{Sha1, Sha256}
use Rattle.stun_base.specs.declared.wire.message_type.MessageClass.{MessageClass}
use Rattle.stun_base.specs.declared.wire.message_type.MessageClass.TheVariants.{Request, Indication}
use Rattle.stun_base.specs.declared.wire.message_type.MessageClass.TheVariants.{Success, Error}
use Rattle.stun_types.specs.Attribute.{TypedValue}
use Rattle.stun_types.specs.ErrorCode.{CodeAndReason, error_of}
use Rattle.stun_types.specs.Grammar.{spelled_attribute}
use Rattle.stun_types.specs.Integrity.{first_of, verified_algorithm}
use Rattle.stun_types.specs.Limits.{TEXT_LIMIT, max_length}
use Rattle.stun_types.specs.Message.{IsMessage}
use Rattle.stun_types.specs.Visible.{has_kind, visible}
use Rattle.stun_types.specs.Walk.{Member, walk}
use Rattle.stun_types.specs.Writing.{HasOneMore, IsAddable, IsOpen, integrity_attribute}
use Rattle.stun_types.specs.Writing.{is_set_apart}
use Rattle.stun_types.specs.Writing.{integrity_kind, length_with, with_attribute, with_integrity}
use Rattle.stun_types.proofs.AddingLemmas.{length-spelled_attribute, raised}
use Rattle.stun_types.proofs.MessageLemmas.{refusal-none}
use Rattle.stun_judging.specs.Reading.{STALE_NONCE, UNAUTHORIZED, is_code}
use Rattle.stun_judging.proofs.Growth.{length-with_integrity}
use Rattle.stun_extra.specs.AttributeTypes.{SOFTWARE}
use Rattle.stun_extra.specs.Fingerprint.{fingerprint_attribute, fingerprint_if, fingerprint_in}
use Rattle.stun_extra.specs.declared.fingerprint.Fingerprint.TheVariants.{Right, Absent}
use Rattle.stun_exchanges.specs.Agreement.{IsSignedAnswer}
use Rattle.stun_client.specs.Challenging.{code_in}
use Rattle.stun_client.specs.Judging.{fault_of}
use Rattle.stun_client.specs.Answers.{is_answer, is_answer_of}
use Rattle.stun_endpoint.specs.Answers.{Signature, is_fingerprinted, with_last, with_software}
use Rattle.stun_endpoint.specs.Settings.{Settings}
use Rattle.stun_exchanges.specs.Exchange.{IsPage, IsResponseTo, IsServer, SendsRequired}
use Rattle.stun_exchanges.proofs.ChallengeLemmas.{no_fault}
use Rattle.stun_extra.proofs.FingerprintLemmas.{HasOneMore-fingerprint, IsFree}
use Rattle.stun_extra.proofs.FingerprintLemmas.{fingerprint_in-added, first_of-other}
use Rattle.stun_extra.proofs.FingerprintLemmas.{verified_by-fingerprint}

-- what the laws of the crates below say of writing
pub record SealingLaws : Type 0 where
  pub shown : (message : List ℕ) → IsOpen message → visible message ≡ walk message
  pub adds : (message : List ℕ) (attribute : TypedValue) → IsOpen message
      → IsAddable message attribute
      → HasOneMore message (with_attribute message attribute) attribute
  pub opens : (message : List ℕ) (attribute : TypedValue) → IsOpen message
      → IsAddable message attribute → is_set_apart attribute.kind ≡ false
      → IsOpen (with_attribute message attribute)
  pub stands : (message : List ℕ) (algorithm : IntegrityAlgorithm) (key : List ℕ) → IsOpen message
      → length_with message (digest_length algorithm) ≤ max_length
      → verified_algorithm (with_integrity message algorithm key) key ≡ Some algorithm
  pub signs : (message : List ℕ) (algorithm : IntegrityAlgorithm) (key : List ℕ) → IsOpen message
      → length_with message (digest_length algorithm) ≤ max_length
      → HasOneMore message (with_integrity message algorithm key)
      (integrity_attribute message algorithm key)

pub both_false : (a b : Bool) → (a || b) ≡ false → (a ≡ false) × (b ≡ false)
both_false true b is = cc
both_false false b is = (refl, is)

-- a type that no attribute has is not found
not_found : (kind : ℕ) (members : List Member) → has_kind kind members ≡ false
    → first_of kind members ≡ None
not_found kind [] none = refl
not_found kind (m ∷ members) none =
    let parts = both_false (m.1.kind == kind) (has_kind kind members) none in
    ap (λ b. cond b (Some m) (first_of kind members)) parts.0 ∙ not_found kind members parts.1

-- one more attribute of another type
pub still_none : (kind : ℕ) (members : List Member) (last : Member) → has_kind kind members ≡ false
    → (last.1.kind == kind) ≡ false → has_kind kind (members ++ last ∷ []) ≡ false
still_none kind [] last none other = ap (λ b. b || false) other
still_none kind (m ∷ members) last none other =
    let parts = both_false (m.1.kind == kind) (has_kind kind members) none in
    (λ i. parts.0 i || has_kind kind (members ++ last ∷ []))
    ∙ still_none kind members last parts.1 other

-- the integrity attribute has neither of these types
no_code : (a : IntegrityAlgorithm) → (integrity_kind a == ERROR_CODE) ≡ false
no_code Sha1 = refl
no_code Sha256 = refl

no_print : (a : IntegrityAlgorithm) → (integrity_kind a == FINGERPRINT) ≡ false
no_print Sha1 = refl
no_print Sha256 = refl

digest_short : (a : IntegrityAlgorithm) → digest_length a ≤ 32
digest_short Sha1 = omega arith
digest_short Sha256 = omega arith

-- ---- the parts, one after another

-- a message with the header and the error code of a page, and no FINGERPRINT
record Part (message page : List ℕ) (most : ℕ) : Type 0 where
  is_message : IsMessage message
  type_is : type_field message ≡ type_field page
  id_is : transaction_id_field message ≡ transaction_id_field page
  code_is : first_of ERROR_CODE (visible message) ≡ first_of ERROR_CODE (visible page)
  no_print_shown : first_of FINGERPRINT (visible message) ≡ None
  no_print_there : has_kind FINGERPRINT (walk message) ≡ false
  short : length message ≤ most

module _ (laws : SealingLaws) (page : List ℕ) where
  begin : IsOpen page → length page ≤ 60000 → Part page page 60000
  begin is_open short = record {
    is_message = is_open.is_message;
    type_is = refl;
    id_is = refl;
    code_is = refl;
    no_print_shown =
        ap (first_of FINGERPRINT) (laws.shown page is_open)
        ∙ not_found FINGERPRINT (walk page) is_open.no_fingerprint;
    no_print_there = is_open.no_fingerprint;
    short = short;
  }

  described : (o : Option (List ℕ)) → length (unwrap_or o []) ≤ TEXT_LIMIT → IsOpen page
      → length page ≤ 60000 → IsOpen (with_software o page) × Part (with_software o page) page 61000
  described None fits is_open short =
      let first = begin is_open short in (
        is_open,
        record {
          is_message = first.is_message;
          type_is = refl;
          id_is = refl;
          code_is = refl;
          no_print_shown = first.no_print_shown;
          no_print_there = first.no_print_there;
          short = omega (arith, short);
        },
      )
  described (Some text) fits is_open short =
      let first = begin is_open short in
      let attribute : TypedValue = record { kind = SOFTWARE; value = text } in
      let addable : IsAddable page attribute = record {
        kind = omega arith;
        value = omega (arith, short, fits);
      } in
      let one = laws.adds page attribute is_open addable in
      let kept = raised page (spelled_attribute attribute) (length_with page (length text))
      is_open.is_message.header.is_whole (omega (arith, short, fits)) in (
        laws.opens page attribute is_open addable refl,
        record {
          is_message = one.is_message;
          type_is = one.type_is;
          id_is = one.transaction_id_is;
          code_is = ap (first_of ERROR_CODE) one.visible_is
              ∙ first_of-other ERROR_CODE (visible page) (length page, attribute) refl;
          no_print_shown = ap (first_of FINGERPRINT) one.visible_is
              ∙ first_of-other FINGERPRINT (visible page) (length page, attribute) refl
              ∙ first.no_print_shown;
          no_print_there = ap (has_kind FINGERPRINT) one.walk_is
              ∙ still_none FINGERPRINT (walk page) (length page, attribute)
              is_open.no_fingerprint refl;
          short = omega (arith, kept.long, length-spelled_attribute attribute, short, fits);
        },
      )

  module _ (message : List ℕ) (is_open : IsOpen message) (part : Part message page 61000)
      (a : IntegrityAlgorithm) (key : List ℕ) where
    abbrev attribute : TypedValue
    attribute = integrity_attribute message a key

    abbrev sealed : List ℕ
    sealed = with_integrity message a key

    room : length_with message (digest_length a) ≤ max_length
    room = omega (arith, part.short, digest_short a)

    signed_part : Part sealed page 62000
    signed_part =
        let one = laws.signs message a key is_open room in
        record {
          is_message = one.is_message;
          type_is = one.type_is ∙ part.type_is;
          id_is = one.transaction_id_is ∙ part.id_is;
          code_is = ap (first_of ERROR_CODE) one.visible_is
              ∙ first_of-other ERROR_CODE (visible message) (length message, attribute) (no_code a)
              ∙ part.code_is;
          no_print_shown = ap (first_of FINGERPRINT) one.visible_is
              ∙ first_of-other FINGERPRINT (visible message) (length message, attribute) (no_print a)
              ∙ part.no_print_shown;
          no_print_there = ap (has_kind FINGERPRINT) one.walk_is
              ∙ still_none FINGERPRINT (walk message) (length message, attribute)
              part.no_print_there (no_print a);
          short = omega (
            arith,
            part.short,
            digest_short a,
            length-with_integrity message a key is_open.is_message.header.is_whole,
          );
        }

    verified : verified_algorithm sealed key ≡ Some a
    verified = laws.stands message a key is_open room

-- what a response that has these parts is
record IsSealed (has : Bool) (response page key : List ℕ) (a : IntegrityAlgorithm) : Type 0 where
  is_message : IsMessage response
  type_is : type_field response ≡ type_field page
  id_is : transaction_id_field response ≡ transaction_id_field page
  code_is : first_of ERROR_CODE (visible response) ≡ first_of ERROR_CODE (visible page)
  print : fingerprint_in response ≡ cond has Right Absent
  verified : verified_algorithm response key ≡ Some a

ended : (has : Bool) (message page key : List ℕ) (a : IntegrityAlgorithm) → Part message page 62000
    → verified_algorithm message key ≡ Some a → IsSealed has (with_last has message) page key a
ended true message page key a part verified =
    let free : IsFree message = record {
      is_message = part.is_message;
      none = part.no_print_there;
      short = omega (arith, part.short);
    } in
    let one = HasOneMore-fingerprint message free in
    record {
      is_message = one.is_message;
      type_is = one.type_is ∙ part.type_is;
      id_is = one.transaction_id_is ∙ part.id_is;
      code_is = ap (first_of ERROR_CODE) one.visible_is
          ∙ first_of-other ERROR_CODE (visible message)
          (length message, fingerprint_attribute message) refl
          ∙ part.code_is;
      print = fingerprint_in-added message free;
      verified = verified_by-fingerprint (λ _. key) message free ∙ verified;
    }
ended false message page key a part verified = record {
  is_message = part.is_message;
  type_is = part.type_is;
  id_is = part.id_is;
  code_is = part.code_is;
  print = ap (fingerprint_if message) part.no_print_shown;
  verified = verified;
}

-- what answers a request depends on class and method alone
of_class : (method : ℕ) (class : MessageClass) (a b : List ℕ)
    → method_of (type_field a) ≡ method_of (type_field b)
    → is_answer_of method class a ≡ is_answer_of method class b
of_class method Request a b same = refl
of_class method Indication a b same = refl
of_class method Success a b same = ap (λ n. n == method) same
of_class method Error a b same = ap (λ n. n == method) same

pub same_answer : (method : ℕ) (a b : List ℕ) → class_in a ≡ class_in b
    → method_of (type_field a) ≡ method_of (type_field b) → is_answer method a ≡ is_answer method b
same_answer method a b class same =
    ap (λ c. is_answer_of method c a) class ∙ of_class method (class_in b) a b same

pub sealed_answer : (laws : SealingLaws) (s : Settings) (by : Signature) (required : Bool)
    (request page : List ℕ) → IsServer s → IsPage request page → SendsRequired required request
    → let response = with_last (is_fingerprinted request)
    (with_integrity (with_software s.software page) by.algorithm by.key) in
    IsResponseTo required request response × IsSignedAnswer required response by.key by.algorithm
sealed_answer laws s by required request page fine is sends =
    let has = is_fingerprinted request in
    let message = with_software s.software page in
    let sealed = with_integrity message by.algorithm by.key in
    let response = with_last has sealed in
    let open_page = described laws page s.software fine.software_fits is.is_open is.short in
    let end = ended has sealed page by.key by.algorithm
    (signed_part laws page message open_page.0 open_page.1 by.algorithm by.key)
    (verified laws page message open_page.0 open_page.1 by.algorithm by.key) in
    let class_is : class_in response ≡ class_in page = ap class_of end.type_is in
    let code_is : code_in response ≡ code_in page =
    (λ i. cond (is_error (class_is i)) (option_map (λ (e : CodeAndReason). e.code)
    (option_and_then (λ (m : Member). error_of m.1) (end.code_is i))) None) in
    let whole_is = ap (fault_of required) end.print ∙ no_fault required has sends in
    let method = method_of (type_field request) in (
      record {
        message = refusal-none response end.is_message;
        whole = whole_is;
        id = end.id_is ∙ is.id;
        answers = same_answer method response page class_is (ap method_of end.type_is) ∙ is.answers;
      },
      record {
        whole = whole_is;
        final = ap (λ o. is_code UNAUTHORIZED o || is_code STALE_NONCE o) code_is ∙ is.final;
        signed = end.verified;
      },
    )
