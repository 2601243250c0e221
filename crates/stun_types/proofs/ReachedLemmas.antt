-- A member of a walk divides it: what comes before it is the walk of the bytes before it.
use Rattle.std.proofs.Common.{◌≡◌, ℕ, zero, suc, ◌+◌, ◌-◌, ◌*◌, ◌≤◌, true, false}
use Rattle.std.proofs.Common.{cond, List, [], ◌∷◌, ◌++◌, length, take, drop, refl}
use Rattle.std.proofs.Common.{sym, ◌∙◌, ap, arith, take-append-drop, take-take}
use Rattle.std.specs.List.{AllByRecursion}
use Rattle.std.proofs.lemmas.Grind.{common_steps}
use Rattle.std.proofs.lemmas.List.{drop-append-le, drop-take, length-take, length-take-le}
use Rattle.std.proofs.lemmas.List.Sums.{sum_by-cons}
use Rattle.stun_base.specs.Header.{HEADER_LENGTH}
use Rattle.stun_types.specs.Attribute.{attribute_length, has_attribute, first_attribute, kind_field}
use Rattle.stun_types.specs.Walk.{Member, next_place, walk_up_to, walk_from, walk}
use Rattle.stun_types.specs.Walk.{attributes_length}
use Rattle.stun_types.proofs.AddingLemmas.{walk_up_to-extended}
use Rattle.stun_types.proofs.GrammarLemmas.{length-first_value}
use Rattle.stun_types.proofs.WalkLemmas.{has_attribute-past_end, has_attribute-within}
use Rattle.stun_types.proofs.WalkLemmas.{walk_from-end, walk_from-step}

-- an attribute at the front is the same in each front that has it whole
pub first_attribute-take : (n : ℕ) (bytes : List ℕ) → has_attribute bytes ≡ true
    → attribute_length (length (first_attribute bytes).value) ≤ n
    → (has_attribute (take n bytes) ≡ true)
    × (first_attribute (take n bytes) ≡ first_attribute bytes)
first_attribute-take zero bytes whole fits = absurd (omega (arith, fits))
first_attribute-take (suc zero) bytes whole fits = absurd (omega (arith, fits))
first_attribute-take (suc (suc zero)) bytes whole fits = absurd (omega (arith, fits))
first_attribute-take (suc (suc (suc zero))) bytes whole fits = absurd (omega (arith, fits))
first_attribute-take (suc (suc (suc (suc n)))) [] whole fits = cc
first_attribute-take (suc (suc (suc (suc n)))) (x ∷ []) whole fits = cc
first_attribute-take (suc (suc (suc (suc n)))) (x ∷ y ∷ []) whole fits = cc
first_attribute-take (suc (suc (suc (suc n)))) (x ∷ y ∷ z ∷ []) whole fits = cc
first_attribute-take (suc (suc (suc (suc n)))) (x ∷ y ∷ z ∷ w ∷ bytes) whole fits =
    let count = z * 256 + (w * 1 + 0) in
    let long = length-first_value (x ∷ y ∷ z ∷ w ∷ bytes) whole in
    let short : attribute_length count ≤ suc (suc (suc (suc n))) = omega (arith, long, fits) in
    let kept = length-take n bytes in
    let inside : count ≤ n = omega (arith, short) in
    let still : has_attribute (x ∷ y ∷ z ∷ w ∷ take n bytes) ≡ true =
    grind (arith, common_steps, kept, short) in (
      still,
      λ i. record {
        kind = kind_field (x ∷ y ∷ z ∷ w ∷ bytes);
        value = take-take count n bytes inside i;
      },
    )

-- a walk from a place reaches a member: it fills the bytes before it
pub record Reaches (place : ℕ) (bytes : List ℕ) (m : Member) : Type 0 where
  pub behind : place ≤ m.0
  pub filled : place + attributes_length (walk_from place (take m.0 bytes)) ≡ m.0
  pub whole : has_attribute (drop m.0 bytes) ≡ true
  pub attribute_is : first_attribute (drop m.0 bytes) ≡ m.1

Reaches-here : (place : ℕ) (bytes : List ℕ) → has_attribute (drop place bytes) ≡ true
    → Reaches place bytes (place, first_attribute (drop place bytes))
Reaches-here place bytes whole =
    let within = has_attribute-within place bytes whole in
    let end =
    walk_from-end place (take place bytes)
    (has_attribute-past_end place (take place bytes)
    (omega (arith, length-take-le place bytes (omega (arith, within))))) in
    record {
      behind = omega arith;
      filled = rw end (omega arith);
      whole = whole;
      attribute_is = refl;
    }

-- where a walk goes on to a member from after an attribute, it does so from the attribute
Reaches-earlier : (place : ℕ) (bytes : List ℕ) (m : Member) → has_attribute (drop place bytes)
    ≡ true → Reaches (next_place place bytes) bytes m → Reaches place bytes m
Reaches-earlier place bytes m whole later =
    let front = take m.0 bytes in
    let behind = later.behind in
    let sum : place + (m.0 - place) ≡ m.0 = omega (arith, behind) in
    let dropped : drop place front ≡ take (m.0 - place) (drop place bytes) =
    rw sum at (drop-take place (m.0 - place) bytes) in
    let again =
    first_attribute-take (m.0 - place) (drop place bytes) whole (omega (arith, behind)) in
    let here : has_attribute (drop place front) ≡ true = ap has_attribute dropped ∙ again.0 in
    let attribute_is : first_attribute (drop place front) ≡ first_attribute (drop place bytes) =
    ap first_attribute dropped ∙ again.1 in
    let first : Member = (place, first_attribute (drop place bytes)) in
    let others = walk_from (next_place place bytes) front in
    let moved : (place, first_attribute (drop place front))
    ∷ walk_from (next_place place front) front ≡ first ∷ others =
    λ i. (place, attribute_is i)
    ∷ walk_from (place + attribute_length (length (attribute_is i).value)) front in
    let all : attributes_length (walk_from place front) ≡ attributes_length (first ∷ others) =
    ap attributes_length (walk_from-step place front here ∙ moved) in
    let more = sum_by-cons (λ n. attribute_length (length n.1.value)) first others in
    record {
      behind = omega (arith, behind);
      filled = omega (arith, all, more, later.filled);
      whole = later.whole;
      attribute_is = later.attribute_is;
    }

-- what holds of each element, where another fact gives it
pub weaker : {X : Type 0} (P Q : X → Type 0) (xs : List X) → ((x : X) → P x → Q x)
    → AllByRecursion P xs → AllByRecursion Q xs
weaker P Q [] gives all = tt
weaker P Q (x ∷ xs) gives all = (gives x all.0, weaker P Q xs gives all.1)

-- a walk reaches each of its members
pub walk_up_to-reaches : (most place : ℕ) (bytes : List ℕ)
    → AllByRecursion (Reaches place bytes) (walk_up_to most place bytes)
unfolding walk_up_to
walk_up_to-reaches zero place bytes = tt
walk_up_to-reaches (suc most) place bytes =
    let m : Member = (place, first_attribute (drop place bytes)) in
    let others = walk_up_to most (next_place place bytes) bytes in
    let rest = walk_up_to-reaches most (next_place place bytes) bytes in
    elim (has_attribute (drop place bytes)) as (λ whole. has_attribute (drop place bytes) ≡ whole
    → AllByRecursion (Reaches place bytes) (cond whole (m ∷ others) [])) [
      | true ↦ λ whole. (
        Reaches-here place bytes whole,
        weaker (Reaches (next_place place bytes) bytes) (Reaches place bytes) others
            (λ n. Reaches-earlier place bytes n whole) rest,
      )
      | false ↦ λ none. tt
    ] refl

-- the bytes before a member that is reached are all that its place says
pub length-front : {place : ℕ} {bytes : List ℕ} {m : Member} → Reaches place bytes m
    → length (take m.0 bytes) ≡ m.0
length-front {bytes = bytes} {m} reaches =
    length-take-le m.0 bytes (omega (arith, has_attribute-within m.0 bytes reaches.whole))

-- a walk is that of the bytes before a member, the member, and the walk from behind it
pub walk-divided : (bytes : List ℕ) (m : Member) → Reaches HEADER_LENGTH bytes m
    → walk bytes
    ≡ walk (take m.0 bytes) ++ m ∷ walk_from (m.0 + attribute_length (length m.1.value)) bytes
walk-divided bytes m reaches =
    let front = take m.0 bytes in
    let tail = drop m.0 bytes in
    let long = length-front reaches in
    let behind : drop 20 bytes ≡ drop 20 front ++ tail =
    ap (drop 20) (sym (take-append-drop m.0 bytes))
    ∙ drop-append-le 20 front tail (omega (arith, long, reaches.behind)) in
    let goes_on =
    walk_up_to-extended (length front) 20 front bytes tail behind
    (omega (arith, reaches.filled, long)) in
    let here : walk_from m.0 bytes
    ≡ m ∷ walk_from (m.0 + attribute_length (length m.1.value)) bytes =
    walk_from-step m.0 bytes reaches.whole
    ∙ (λ i. (m.0, reaches.attribute_is i)
    ∷ walk_from (m.0 + attribute_length (length (reaches.attribute_is i).value)) bytes) in
    goes_on ∙ (ap (λ p. walk front ++ walk_from p bytes) long ∙ ap (λ ms. walk front ++ ms) here)
