-- What is left to tell, from one attribute to the next.
use Rattle.std.proofs.Common.{◌≡◌, ℕ, ◌*◌, ◌≤◌, true, false, List, [], ◌∷◌, length, refl, ap, arith}
use Rattle.std.specs.Prelude.{Option, filter, not, ◌==◌, ◌||◌}
use Rattle.std.proofs.lemmas.List.{length-map}
use Rattle.std.proofs.lemmas.List.Sums.{count_by-le-length, length-filter}
use Rattle.stun_base.specs.declared.wire.attribute_type.AttributeType.{AttributeType}
use Rattle.stun_types.specs.Visible.{visible}
use Rattle.stun_types.specs.Walk.{Member}
use Rattle.stun_extra.specs.Unknown.{is_unknown, kinds_of, without_repeats}
use Rattle.stun_extra.specs.Unknown.{spelled_types, types_of, unknown_types}
use Rattle.stun_extra.specs.code.Told.{is_new, is_told, left_to_tell}
use Rattle.stun_extra.proofs.OnceLemmas.{untold-none, untold-skipped, untold-told}

-- nothing is left after the last attribute
pub left_to_tell-end : (known : List AttributeType) (words : Option (List ℕ))
    → left_to_tell known words [] ≡ []
unfolding left_to_tell
left_to_tell-end known words = refl

-- an attribute that is not new is passed over
pub left_to_tell-skipped : (known : List AttributeType) (words : Option (List ℕ)) (m : Member)
    (left : List Member)
    → is_new known words m.1.kind ≡ false
    → left_to_tell known words (m ∷ left) ≡ left_to_tell known words left
unfolding left_to_tell
left_to_tell-skipped known words m left skipped =
    ap types_of (untold-skipped (is_unknown known) (is_told words) m.1.kind (kinds_of left) skipped)

-- the type of a new one is told
pub left_to_tell-told : (known : List AttributeType) (words more : Option (List ℕ)) (m : Member)
    (left : List Member)
    → is_new known words m.1.kind ≡ true
    → ((other : ℕ) → is_told more other ≡ (is_told words other || (other == m.1.kind)))
    → left_to_tell known words (m ∷ left) ≡ record { 0 = m.1.kind } ∷ left_to_tell known more left
unfolding left_to_tell
left_to_tell-told known words more m left shown add =
    ap types_of
    (untold-told (is_unknown known) (is_told words) (is_told more) m.1.kind (kinds_of left)
    shown add)

-- where nothing was told all is left
pub left_to_tell-none : (known : List AttributeType) (words : Option (List ℕ)) (bytes : List ℕ)
    → ((kind : ℕ) → is_told words kind ≡ false)
    → left_to_tell known words (visible bytes) ≡ unknown_types known bytes
unfolding left_to_tell
left_to_tell-none known words bytes none =
    ap types_of (untold-none (is_unknown known) (is_told words) (kinds_of (visible bytes)) none)

-- ---- how many there are

-- each number once are no more numbers
without_repeats-few : (xs : List ℕ) → length (without_repeats xs) ≤ length xs
without_repeats-few [] = omega arith
without_repeats-few (x ∷ xs) =
    let kept = λ (y : ℕ). not (y == x) in
    omega (
      arith,
      without_repeats-few xs,
      length-filter kept
          (without_repeats xs),
      count_by-le-length kept (without_repeats xs),
    )

-- there are no more of them than visible attributes
pub unknown_types-few : (known : List AttributeType) (bytes : List ℕ)
    → length (unknown_types known bytes) ≤ length (visible bytes)
unknown_types-few known bytes =
    let kinds = kinds_of (visible bytes) in
    let unknown = filter (is_unknown known) kinds in
    let one : length (types_of (without_repeats unknown)) ≡ length (without_repeats unknown) =
    length-map (without_repeats unknown) _ in
    let two : length kinds ≡ length (visible bytes) = length-map (visible bytes) _ in
    omega (
      arith,
      one,
      two,
      without_repeats-few unknown,
      length-filter (is_unknown known) kinds,
      count_by-le-length (is_unknown known) kinds,
    )

-- each takes 2 bytes
pub length_of_types : (types : List AttributeType) → length (spelled_types types) ≡ 2 * length types
length_of_types [] = refl
length_of_types (kind ∷ types) = omega (arith, length_of_types types)
