-- The types that bytes spell, and those of a message's attributes: how many there are, which one is
-- at an index, and that each is a number of 16 bits.
use Rattle.std.proofs.Common.{◌≡◌, ℕ, zero, suc, ◌+◌, ◌*◌, ◌/◌, ◌%◌, ◌<◌, ◌^◌, Bool, true}
use Rattle.std.proofs.Common.{false, cond, List, [], ◌∷◌, length, drop, refl, ◌∙◌, ap, arith}
use Rattle.std.specs.Prelude.{Some, filter, not, ◌==◌}
use Rattle.std.specs.List.{AllByRecursion, slice_get}
use Rattle.std.proofs.lemmas.List.{drop-drop}
use Rattle.byteorder.specs.Endian.{big_number}
use Rattle.stun_base.specs.declared.wire.attribute_type.AttributeType.{AttributeType}
use Rattle.stun_types.specs.Attribute.{first_attribute, has_attribute}
use Rattle.stun_base.specs.Header.{HEADER_LENGTH}
use Rattle.stun_types.specs.Visible.{is_visible, visible}
use Rattle.stun_types.specs.Walk.{Member, next_place, walk, walk_up_to}
use Rattle.stun_types.proofs.GrammarLemmas.{AreBytes, AreBytes-drop}
use Rattle.stun_extra.specs.Unknown.{AreTypes, is_unknown, kinds_of, without_repeats}
use Rattle.stun_extra.specs.Unknown.{spelled_types, types_in, types_of, unknown_types}

-- a type for each 2 bytes
pub types_in-length : (bytes : List ℕ) → length (types_in bytes) ≡ length bytes / 2
types_in-length [] = refl
types_in-length (a ∷ []) = refl
types_in-length (a ∷ b ∷ rest) = omega (arith, types_in-length rest)

-- the type of an index is in the two bytes at twice the index
pub types_in-get : (bytes : List ℕ) (i : ℕ) → i < length bytes / 2
    → slice_get (types_in bytes) i ≡ Some (record { 0 = big_number 2 (drop (2 * i) bytes) })
types_in-get [] i within = absurd (omega (arith, within))
types_in-get (a ∷ []) i within = absurd (omega (arith, within))
types_in-get (a ∷ b ∷ rest) zero within =
    let number : a * 256 + b ≡ a * 256 + (b * 1 + 0) = omega arith in
    λ k. Some (record { 0 = number k })
types_in-get (a ∷ b ∷ rest) (suc i) within =
    let later = types_in-get rest i (omega (arith, within)) in
    let place : 2 + 2 * i ≡ 2 * suc i = omega arith in
    later
    ∙ ap (λ bytes. Some (record { 0 = big_number 2 bytes }))
    (drop-drop (2 * i) 2 (a ∷ b ∷ rest) ∙ ap (λ n. drop n (a ∷ b ∷ rest)) place)

-- bytes that spell types are what these are spelled with
pub spelled-types_in : (bytes : List ℕ) → AreBytes bytes → length bytes % 2 ≡ 0
    → spelled_types (types_in bytes) ≡ bytes
spelled-types_in [] small even = refl
spelled-types_in (a ∷ []) small even = absurd (omega (arith, even))
spelled-types_in (a ∷ b ∷ rest) small even =
    let first = small.each 0 in
    let second = small.each 1 in
    let high : (a * 256 + b) / 256 % 256 ≡ a = omega (arith, first, second) in
    let low : (a * 256 + b) % 256 ≡ b = omega (arith, second) in
    let others =
    spelled-types_in rest (record { each = λ i. small.each (suc (suc i)) }) (omega (arith, even)) in
    λ i. high i ∷ low i ∷ others i

pub AreTypes-types_in : (bytes : List ℕ) → AreBytes bytes → AreTypes (types_in bytes)
AreTypes-types_in [] small = tt
AreTypes-types_in (a ∷ []) small = tt
AreTypes-types_in (a ∷ b ∷ rest) small =
    let first = small.each 0 in
    let second = small.each 1 in (
      omega (arith, first, second),
      AreTypes-types_in rest (record { each = λ i. small.each (suc (suc i)) }),
    )

-- ---- the types of a message

-- what holds of each holds of each that passes a test
AllByRecursion-filter : {X : Type 0} (P : X → Type 0) (p : X → Bool) (xs : List X)
    → AllByRecursion P xs → AllByRecursion P (filter p xs)
AllByRecursion-filter P p [] all = tt
AllByRecursion-filter {X} P p (x ∷ xs) all =
    elim (p x) as (λ t. AllByRecursion P (cond t (x ∷ filter p xs) (filter p xs))) [
      | true ↦ (all.0, AllByRecursion-filter P p xs all.1)
      | false ↦ AllByRecursion-filter P p xs all.1
    ]

-- a type is in the first 2 bytes of its attribute
abbrev HaveTypes : List Member → Type 0
HaveTypes members = AllByRecursion (λ m. m.1.kind < 2 ^ 16) members

first-fits : (bytes : List ℕ) → AreBytes bytes → (first_attribute bytes).kind < 2 ^ 16
first-fits bytes small =
    let first = small.each 0 in
    let second = small.each 1 in
    omega (arith, first, second)

HaveTypes-walk_up_to : (most place : ℕ) (bytes : List ℕ) → AreBytes bytes
    → HaveTypes (walk_up_to most place bytes)
unfolding walk_up_to
HaveTypes-walk_up_to zero place bytes small = tt
HaveTypes-walk_up_to (suc most) place bytes small =
    let m : Member = (place, first_attribute (drop place bytes)) in
    let others = walk_up_to most (next_place place bytes) bytes in
    elim (has_attribute (drop place bytes)) as (λ t. HaveTypes (cond t (m ∷ others) [])) [
      | true ↦ (
        first-fits (drop place bytes) (AreBytes-drop place bytes small),
        HaveTypes-walk_up_to most (next_place place bytes) bytes small,
      )
      | false ↦ tt
    ]

HaveTypes-visible : (bytes : List ℕ) → AreBytes bytes → HaveTypes (visible bytes)
unfolding visible
HaveTypes-visible bytes small =
    AllByRecursion-filter (λ (m : Member). m.1.kind < 2 ^ 16) (is_visible (walk bytes)) (walk bytes)
    (HaveTypes-walk_up_to (length bytes) HEADER_LENGTH bytes small)

abbrev AreKinds : List ℕ → Type 0
AreKinds kinds = AllByRecursion (λ kind. kind < 2 ^ 16) kinds

AreKinds-of : (members : List Member) → HaveTypes members → AreKinds (kinds_of members)
AreKinds-of [] fit = tt
AreKinds-of (m ∷ members) fit = (fit.0, AreKinds-of members fit.1)

AreKinds-without_repeats : (kinds : List ℕ) → AreKinds kinds → AreKinds (without_repeats kinds)
AreKinds-without_repeats [] fit = tt
AreKinds-without_repeats (kind ∷ kinds) fit = (
  fit.0,
  AllByRecursion-filter (λ (n : ℕ). n < 2 ^ 16) (λ n. not (n == kind)) (without_repeats kinds)
      (AreKinds-without_repeats kinds fit.1),
)

AreTypes-of : (kinds : List ℕ) → AreKinds kinds → AreTypes (types_of kinds)
AreTypes-of [] fit = tt
AreTypes-of (kind ∷ kinds) fit = (fit.0, AreTypes-of kinds fit.1)

pub AreTypes-unknown : (known : List AttributeType) (bytes : List ℕ) → AreBytes bytes
    → AreTypes (unknown_types known bytes)
AreTypes-unknown known bytes small =
    let kinds = kinds_of (visible bytes) in
    let unknown = filter (is_unknown known) kinds in
    AreTypes-of (without_repeats unknown)
    (AreKinds-without_repeats unknown
    (AllByRecursion-filter (λ (n : ℕ). n < 2 ^ 16) (is_unknown known) kinds
    (AreKinds-of (visible bytes) (HaveTypes-visible bytes small))))
