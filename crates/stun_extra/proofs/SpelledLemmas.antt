-- UNKNOWN-ATTRIBUTES as it is written: header, types, and two zeros where the number of types is
-- odd.
use Rattle.std.proofs.Common.{◌≡◌, ℕ, ◌-◌, ◌*◌, ◌%◌, List, [], ◌∷◌, ◌++◌, length}
use Rattle.std.proofs.Common.{replicate, sym, ◌∙◌, ap, arith, append_assoc}
use Rattle.std.proofs.lemmas.List.{append-nil}
use Rattle.byteorder.specs.Endian.{big_bytes}
use Rattle.stun_base.specs.declared.wire.attribute_type.AttributeType.{AttributeType}
use Rattle.stun_types.specs.Attribute.{padded_length}
use Rattle.stun_types.specs.Grammar.{spelled_attribute}
use Rattle.stun_extra.specs.Unknown.{UNKNOWN_ATTRIBUTES, spelled_types}
use Rattle.stun_extra.proofs.UnknownLemmas.{length_of_types}

pub spelled-even : (front : List ℕ) (types : List AttributeType) (count : ℕ) → count ≡ length types
    → count % 2 ≡ 0
    → ((front ++ big_bytes 2 UNKNOWN_ATTRIBUTES) ++ big_bytes 2 (2 * count)) ++ spelled_types types
    ≡ front ++ spelled_attribute (record { kind = UNKNOWN_ATTRIBUTES; value = spelled_types types })
spelled-even front types count number even =
    let value = spelled_types types in
    let kind = big_bytes 2 UNKNOWN_ATTRIBUTES in
    let stated = big_bytes 2 (length value) in
    let same : 2 * count ≡ length value = omega (arith, number, length_of_types types) in
    let none : padded_length (length value) - length value ≡ 0 = omega (arith, same, even) in
    let behind : kind ++ (big_bytes 2 (2 * count) ++ value)
    ≡ (kind ++ (stated ++ value)) ++ replicate (padded_length (length value) - length value) 0 =
    (λ i. kind ++ (big_bytes 2 (same i) ++ value))
    ∙ (sym (append-nil (kind ++ (stated ++ value)))
    ∙ ap (λ p. (kind ++ (stated ++ value)) ++ replicate p 0) (sym none)) in
    append_assoc (front ++ kind) (big_bytes 2 (2 * count)) value
    ∙ (append_assoc front kind (big_bytes 2 (2 * count) ++ value) ∙ ap (λ xs. front ++ xs) behind)

pub spelled-odd : (front : List ℕ) (types : List AttributeType) (count : ℕ) → count ≡ length types
    → count % 2 ≡ 1
    → (((front ++ big_bytes 2 UNKNOWN_ATTRIBUTES) ++ big_bytes 2 (2 * count))
    ++ spelled_types types) ++ (0 ∷ 0 ∷ [])
    ≡ front ++ spelled_attribute (record { kind = UNKNOWN_ATTRIBUTES; value = spelled_types types })
spelled-odd front types count number odd =
    let value = spelled_types types in
    let kind = big_bytes 2 UNKNOWN_ATTRIBUTES in
    let stated = big_bytes 2 (length value) in
    let padding : List ℕ = 0 ∷ 0 ∷ [] in
    let same : 2 * count ≡ length value = omega (arith, number, length_of_types types) in
    let two : padded_length (length value) - length value ≡ 2 = omega (arith, same, odd) in
    let behind : kind ++ (big_bytes 2 (2 * count) ++ (value ++ padding))
    ≡ (kind ++ (stated ++ value)) ++ replicate (padded_length (length value) - length value) 0 =
    (λ i. kind ++ (big_bytes 2 (same i) ++ (value ++ padding)))
    ∙ (sym (append_assoc kind (stated ++ value) padding
    ∙ ap (λ xs. kind ++ xs) (append_assoc stated value padding))
    ∙ ap (λ p. (kind ++ (stated ++ value)) ++ replicate p 0) (sym two)) in
    append_assoc ((front ++ kind) ++ big_bytes 2 (2 * count)) value padding
    ∙ (append_assoc (front ++ kind) (big_bytes 2 (2 * count)) (value ++ padding)
    ∙ (append_assoc front kind (big_bytes 2 (2 * count) ++ (value ++ padding))
    ∙ ap (λ xs. front ++ xs) behind))
