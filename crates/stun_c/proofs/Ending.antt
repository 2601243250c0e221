-- A FINGERPRINT that a message has is visible, since no other type hides it, and one that is added
-- takes 8 bytes.
use Rattle.std.proofs.Common.{◌≡◌, ◌≤◌, ℕ, ◌+◌, Bool, true, false, cond, List, [], ◌∷◌, ◌++◌}
use Rattle.std.proofs.Common.{length, take, drop, append_assoc, refl, sym, ◌∙◌, ap}
use Rattle.std.specs.Option.{option_map}
use Rattle.std.specs.Prelude.{Some, None, is_some, find, nat_lt, ◌==◌, ◌||◌}
use Rattle.std.proofs.lemmas.List.{drop-drop}
use Rattle.stun_base.specs.Attributes.{FINGERPRINT, MESSAGE_INTEGRITY, MESSAGE_INTEGRITY_SHA256}
use Rattle.stun_base.specs.declared.wire.error.StunWriteError.TheVariants.{
  AttributeExists as WriteAttributeExists,
  TooLarge,
  TooSmall,
}
use Rattle.stun_types.specs.Attribute.{attribute_length}
use Rattle.stun_types.specs.Writing.{length_with, max_length, size_refusal}
use Rattle.stun_extra.specs.Fingerprint.{fingerprint_attribute}
use Rattle.stun_extra.specs.Fingerprint.{fingerprint_refusal, with_fingerprint}
use Rattle.stun_types.specs.Message.{with_length}
use Rattle.stun_types.specs.Visible.{after, has_kind, shows, visibility_of, visible}
use Rattle.stun_types.specs.Visible.{visible_after}
use Rattle.stun_types.specs.Walk.{Member, walk}
use Rattle.stun_types.specs.declared.message.visibility.Visibility.{Visibility}
use Rattle.stun_types.specs.declared.message.visibility.Visibility.TheVariants.{Everything, Nothing}
use Rattle.stun_types.specs.declared.message.visibility.Visibility.TheVariants.{AfterIntegrity}
use Rattle.stun_types.specs.declared.message.visibility.Visibility.TheVariants.{
  AfterIntegritySha256,
}
use Rattle.stun_numbers.specs.declared.refusal.Refusal.TheVariants.{AttributeExists, BufferTooSmall}
use Rattle.stun_numbers.specs.declared.refusal.Refusal.TheVariants.{MessageTooLong}
use Rattle.stun_numbers.specs.Refusals.{refusal_of_write}
use Rattle.stun_c.proofs.Lengths.{length-with_attribute}
use Rattle.stun_c.specs.code.Ended.{ended_message, fingerprint_after, fingerprint_value}
use Rattle.stun_c.specs.Writing.{fit_refusal, shows_kind}
use Rattle.stun_c.proofs.Walking.{shown_visible}

-- a search for a type finds one where there is one
found : (kind : ℕ) (members : List Member)
    → is_some (find (λ m. m.1.kind == kind) members) ≡ has_kind kind members
found kind [] = refl
found kind (m ∷ members) =
    let rest = found kind members in
    elim (m.1.kind
    == kind) as (λ is. is_some (cond is (Some m) (find (λ m. m.1.kind == kind) members))
    ≡ (is || has_kind kind members)) [
      | true ↦ refl
      | false ↦ rest
    ]

-- it is visible unless another one came before
shows-fingerprint : (visibility : Visibility) (kind : ℕ) → shows visibility FINGERPRINT ≡ true
    → (kind == FINGERPRINT) ≡ true → shows visibility kind ≡ true
shows-fingerprint Everything kind unhidden is = refl
shows-fingerprint AfterIntegrity kind unhidden is =
    elim (kind == MESSAGE_INTEGRITY_SHA256) as (λ other. (other || (kind == FINGERPRINT)) ≡ true)
    [ true ↦ refl | false ↦ is ]
shows-fingerprint AfterIntegritySha256 kind unhidden is = is
shows-fingerprint Nothing kind unhidden is = cc

-- after the others it is visible
open_after : (integrity integrity_sha256 : Bool)
    → shows (visibility_of integrity integrity_sha256 false) FINGERPRINT ≡ true
open_after true true = refl
open_after true false = refl
open_after false true = refl
open_after false false = refl

leaves : (visibility : Visibility) (kind : ℕ) → shows visibility FINGERPRINT ≡ true
    → (kind == FINGERPRINT) ≡ false → shows (after visibility kind) FINGERPRINT ≡ true
leaves Everything kind unhidden other =
    ap (λ is. shows (visibility_of (kind == MESSAGE_INTEGRITY) (kind == MESSAGE_INTEGRITY_SHA256)
    is) FINGERPRINT) other
    ∙ open_after (kind == MESSAGE_INTEGRITY) (kind == MESSAGE_INTEGRITY_SHA256)
leaves AfterIntegrity kind unhidden other =
    ap (λ is. shows (visibility_of true (kind == MESSAGE_INTEGRITY_SHA256) is) FINGERPRINT) other
    ∙ open_after true (kind == MESSAGE_INTEGRITY_SHA256)
leaves AfterIntegritySha256 kind unhidden other =
    ap (λ is. shows (visibility_of true true is) FINGERPRINT) other ∙ open_after true true
leaves Nothing kind unhidden other = cc

-- one is visible where there is one
visible_after-fingerprint : (visibility : Visibility) (members : List Member)
    → shows visibility FINGERPRINT ≡ true
    → has_kind FINGERPRINT (visible_after visibility members) ≡ has_kind FINGERPRINT members
unfolding visible_after
visible_after-fingerprint visibility [] unhidden = refl
visible_after-fingerprint visibility (m ∷ members) unhidden =
    by (λ unhidden'. visible_after-fingerprint (after visibility m.1.kind) members unhidden')
    (m.1.kind == FINGERPRINT) refl
  where
    rest : List Member
    rest = visible_after (after visibility m.1.kind) members

    by : (shows (after visibility m.1.kind) FINGERPRINT ≡ true
        → has_kind FINGERPRINT rest ≡ has_kind FINGERPRINT members)
        → (is : Bool) → (m.1.kind == FINGERPRINT) ≡ is
        → has_kind FINGERPRINT (cond (shows visibility m.1.kind) (m ∷ rest) rest)
        ≡ ((m.1.kind == FINGERPRINT) || has_kind FINGERPRINT members)
    by others true is = rw (shows-fingerprint visibility m.1.kind unhidden is, is) refl
    by others false is =
        let same = others (leaves visibility m.1.kind unhidden is) in
        elim (shows visibility m.1.kind) as (λ shown.
        has_kind FINGERPRINT (cond shown (m ∷ rest) rest)
        ≡ ((m.1.kind == FINGERPRINT) || has_kind FINGERPRINT members)) [
          | true ↦ ap (λ b. (m.1.kind == FINGERPRINT) || b) same
          | false ↦ same ∙ sym (ap (λ b. b || has_kind FINGERPRINT members) is)
        ]

shows_fingerprint : (bytes : List ℕ)
    → shows_kind FINGERPRINT bytes ≡ has_kind FINGERPRINT (walk bytes)
shows_fingerprint bytes =
    found FINGERPRINT (visible bytes)
    ∙ (ap (has_kind FINGERPRINT) (sym (shown_visible bytes))
    ∙ visible_after-fingerprint Everything (walk bytes) refl)

-- what is written is the message with its FINGERPRINT, which takes 8 bytes
pub ended_fingerprint : (message : List ℕ) → ended_message message ≡ with_fingerprint message
unfolding fingerprint_value
ended_fingerprint message = refl

pub ended_written : (count : ℕ) (buffer raised written : List ℕ)
    → raised ≡ with_length (take count buffer) (length_with (take count buffer) 4)
    → written ≡ fingerprint_after raised ++ drop 8 (drop count buffer)
    → raised ++ written ≡ ended_message (take count buffer) ++ drop (count + 8) buffer
ended_written count buffer raised written is_raised is_written =
    let message = take count buffer in
    let attribute = fingerprint_after (with_length message (length_with message 4)) in
    (λ i. is_raised i
    ++ (is_written ∙ (λ j. fingerprint_after (is_raised j) ++ drop-drop 8 count buffer j)) i)
    ∙ sym (append_assoc (with_length message (length_with message 4)) attribute
    (drop (count + 8) buffer))

pub length_fingerprinted : (message : List ℕ) → 20 ≤ length message
    → length (with_fingerprint message) ≡ length message + 8
length_fingerprinted message long =
    length-with_attribute message (fingerprint_attribute message) long

-- a FINGERPRINT that the library refuses for its size does not fit
refused_as_written : (message : List ℕ) (room n : ℕ)
    → option_map (refusal_of_write true) (size_refusal message room n) ≡ fit_refusal message room n
refused_as_written message room n =
    elim (nat_lt max_length (length_with message n)) as (λ long. option_map (refusal_of_write true)
    (cond long (Some TooLarge) (cond (nat_lt room (attribute_length n)) (Some TooSmall) None))
    ≡ cond long (Some MessageTooLong)
    (cond (nat_lt room (attribute_length n)) (Some BufferTooSmall) None)) [
      | true ↦ refl
      | false ↦ elim
          (nat_lt room (attribute_length n)) as (λ wide.
          option_map (refusal_of_write true) (cond wide (Some TooSmall) None)
          ≡ cond wide (Some BufferTooSmall) None) [
            | true ↦ refl
            | false ↦ refl
          ]
    ]

-- so the refusals are those of the library's call
pub refusals_agree : (message : List ℕ) (room : ℕ)
    → option_map (refusal_of_write true) (fingerprint_refusal message room)
    ≡ cond (shows_kind FINGERPRINT message) (Some AttributeExists) (fit_refusal message room 4)
refusals_agree message room =
    let both : (has : Bool)
    → option_map (refusal_of_write true)
    (cond has (Some (WriteAttributeExists (record { 0 = FINGERPRINT })))
    (size_refusal message room 4))
    ≡ cond has (Some AttributeExists) (fit_refusal message room 4) =
    λ has. elim
    has as (λ has.
    option_map (refusal_of_write true)
    (cond has (Some (WriteAttributeExists (record { 0 = FINGERPRINT })))
    (size_refusal message room 4))
    ≡ cond has (Some AttributeExists) (fit_refusal message room 4)) [
      | true ↦ refl
      | false ↦ refused_as_written message room 4
    ] in
    both (has_kind FINGERPRINT (walk message))
    ∙ ap (λ has. cond has (Some AttributeExists) (fit_refusal message room 4))
    (sym (shows_fingerprint message))
