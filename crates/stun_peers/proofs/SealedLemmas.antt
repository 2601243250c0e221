-- A message that is signed and ends with FINGERPRINT: what is read of it is what was written.
use Rattle.std.proofs.Common.{◌≡◌, ◌≤◌, ◌<◌, ◌^◌, ◌+◌, ℕ, false, List, [], ◌∷◌, ◌++◌, length, Some}
use Rattle.std.proofs.Common.{None, ◌∙◌, ap, arith}
use Rattle.std.specs.Prelude.{◌||◌}
use Rattle.byteorder.specs.Endian.{big_bytes}
use Rattle.byteorder.specs.Numbers.{big_number-reads_back}
use Rattle.stun_base.specs.Attributes.{FINGERPRINT, MESSAGE_INTEGRITY}
use Rattle.stun_base.specs.Header.{MAGIC_COOKIE, transaction_id_field, type_field}
use Rattle.stun_base.specs.MessageType.{type_number}
use Rattle.stun_base.specs.declared.keys.algorithm.IntegrityAlgorithm.{IntegrityAlgorithm}
use Rattle.stun_base.specs.declared.keys.algorithm.IntegrityAlgorithm.TheVariants.{Sha1}
use Rattle.stun_base.specs.declared.wire.message_type.MessageClass.{MessageClass}
use Rattle.stun_types.specs.Attribute.{TypedValue, attribute_length}
use Rattle.stun_types.specs.Grammar.{spelled_attribute, spelled_attributes}
use Rattle.stun_types.specs.Integrity.{verified_algorithm}
use Rattle.stun_types.specs.Limits.{max_length}
use Rattle.stun_types.specs.Message.{refusal}
use Rattle.stun_types.specs.Visible.{has_kind, visible}
use Rattle.stun_types.specs.Walk.{Member, walk}
use Rattle.stun_types.specs.Writing.{IsAddable, IsOpen, empty_message, integrity_attribute}
use Rattle.stun_types.specs.Writing.{is_set_apart, length_with, with_attribute, with_integrity}
use Rattle.stun_types.specs.Writing.{covered_at_end}
use Rattle.stun_types.proofs.AddingLemmas.{HasOneMore-added, IsOpen-added, IsOpen-spelled_message}
use Rattle.stun_types.proofs.AddingLemmas.{length-spelled_attribute, raised, visible-open}
use Rattle.stun_types.proofs.MessageLemmas.{refusal-none}
use Rattle.stun_types.proofs.SigningLemmas.{HasOneMore-signed, verified_by-signed}
use Rattle.stun_types.proofs.VisibleLemmas.{has_kind-append}
use Rattle.stun_base.specs.code.Algorithm.{length-digest}
use Rattle.stun_extra.specs.Fingerprint.{fingerprint_attribute, fingerprint_in, with_fingerprint}
use Rattle.stun_extra.specs.declared.fingerprint.Fingerprint.TheVariants.{Right}
use Rattle.stun_extra.proofs.FingerprintLemmas.{HasOneMore-fingerprint, IsFree}
use Rattle.stun_extra.proofs.FingerprintLemmas.{fingerprint_in-added, verified_by-fingerprint}

-- ---- a page: a message that is not signed yet

-- its type, its id, its attributes, and the most bytes that it has
pub record IsPage (kind id : ℕ) (members : List Member) (most : ℕ) (page : List ℕ) : Type 0 where
  pub is_open : IsOpen page
  pub type_is : type_field page ≡ kind
  pub id_is : transaction_id_field page ≡ id
  pub walk_is : walk page ≡ members
  pub short : length page ≤ most

pub begun : (class : MessageClass) (id : ℕ) → type_number class 1 < 2 ^ 14 → id < 2 ^ 96
    → IsPage (type_number class 1) id [] 20 (empty_message class 1 id)
begun class id fits small =
    let kind = type_number class 1 in
    let both = IsOpen-spelled_message kind id fits in
    let wide : kind < 2 ^ 16 = omega (arith, fits) in
    record {
      is_open = both.0;
      type_is =
          big_number-reads_back 2 kind
          (big_bytes 2 (length (spelled_attributes [])) ++ big_bytes 4 MAGIC_COOKIE
          ++ big_bytes 12 id ++ spelled_attributes []) wide;
      id_is = big_number-reads_back 12 id [] small;
      walk_is = both.1;
      short = omega arith;
    }

-- how long it is with one attribute more
length-added : (message : List ℕ) (a : TypedValue) → 20 ≤ length message
    → length_with message (length a.value) < 2 ^ 16
    → length (with_attribute message a) ≡ length message + attribute_length (length a.value)
length-added message a long fits =
    let kept =
    raised message (spelled_attribute a) (length_with message (length a.value)) long fits in
    omega (arith, kept.long, length-spelled_attribute a)

-- one attribute more
pub added : (kind id : ℕ) (members : List Member) (most : ℕ) (page : List ℕ) (a : TypedValue)
    (room : ℕ)
    → IsPage kind id members most page → a.kind < 2 ^ 16 → is_set_apart a.kind ≡ false
    → attribute_length (length a.value) ≤ room → most + room ≤ 2000
    → IsPage kind id (members ++ (length page, a) ∷ []) (most + room) (with_attribute page a)
added kind id members most page a room is typed plain fits small =
    let addable : IsAddable page a = record {
      kind = typed;
      value = omega (arith, is.short, fits, small);
    } in
    let one = HasOneMore-added page a is.is_open addable in
    let grown =
    length-added page a is.is_open.is_message.header.is_whole
    (omega (arith, is.short, fits, small)) in
    record {
      is_open = IsOpen-added page a is.is_open addable plain;
      type_is = one.type_is ∙ is.type_is;
      id_is = one.transaction_id_is ∙ is.id_is;
      walk_is = one.walk_is ∙ ap (λ ms. ms ++ (length page, a) ∷ []) is.walk_is;
      short = omega (arith, grown, is.short, fits);
    }

-- ---- signed, and with FINGERPRINT

-- the attributes of a page, and the two at its end
abbrev pub closed : List Member → ℕ → ℕ → List ℕ → List ℕ → List Member
closed members place end digest print =
    (members ++ (place, record { kind = MESSAGE_INTEGRITY; value = digest }) ∷ [])
    ++ (end, record { kind = FINGERPRINT; value = print }) ∷ []

-- what is read of it
pub record IsSealed (kind id : ℕ) (members : List Member) (key bytes : List ℕ) : Type 0 where
  pub message : refusal bytes ≡ None
  pub fingerprint : fingerprint_in bytes ≡ Right
  pub type_is : type_field bytes ≡ kind
  pub id_is : transaction_id_field bytes ≡ id
  pub digest : verified_algorithm bytes key ≡ Some Sha1
  pub place : ℕ
  pub end : ℕ
  pub value : List ℕ
  pub print : List ℕ
  pub visible_is : visible bytes ≡ closed members place end value print

pub sealed : (kind id : ℕ) (members : List Member) (most : ℕ) (page key : List ℕ)
    → IsPage kind id members most page → most ≤ 2000
    → IsSealed kind id members key (with_fingerprint (with_integrity page Sha1 key))
sealed kind id members most page key is small =
    let signed = with_integrity page Sha1 key in
    let integrity = integrity_attribute page Sha1 key in
    let count = length-digest Sha1 key (covered_at_end page Sha1) in
    let fits : length_with page 20 ≤ max_length = omega (arith, is.short, small) in
    let one = HasOneMore-signed page Sha1 key is.is_open fits in
    let grown =
    length-added page integrity is.is_open.is_message.header.is_whole
    (omega (arith, is.short, small, count)) in
    let none : has_kind FINGERPRINT (walk signed) ≡ false =
    ap (has_kind FINGERPRINT) one.walk_is
    ∙ has_kind-append FINGERPRINT (walk page) (length page, integrity)
    ∙ ap (λ b. b || false) is.is_open.no_fingerprint in
    let free : IsFree signed = record {
      is_message = one.is_message;
      none = none;
      short = omega (arith, grown, count, is.short, small);
    } in
    let last = HasOneMore-fingerprint signed free in
    record {
      message = refusal-none (with_fingerprint signed) last.is_message;
      fingerprint = fingerprint_in-added signed free;
      type_is = last.type_is ∙ one.type_is ∙ is.type_is;
      id_is = last.transaction_id_is ∙ one.transaction_id_is ∙ is.id_is;
      digest = verified_by-fingerprint (λ (x : IntegrityAlgorithm). key) signed free
          ∙ verified_by-signed page Sha1 (λ (x : IntegrityAlgorithm). key) is.is_open fits;
      place = length page;
      end = length signed;
      value = integrity.value;
      print = (fingerprint_attribute signed).value;
      visible_is = last.visible_is
          ∙ ap (λ ms. ms ++ (length signed, fingerprint_attribute signed) ∷ []) one.visible_is
          ∙ ap (λ ms. (ms ++ (length page, integrity) ∷ [])
          ++ (length signed, fingerprint_attribute signed) ∷ [])
          (visible-open page is.is_open ∙ is.walk_is);
    }
