-- A list of algorithms that is written is read again.
use Rattle.std.proofs.Common.{◌≡◌, ℕ, ◌+◌, ◌-◌, ◌≤◌, true, false, List, [], ◌∷◌, length, drop}
use Rattle.std.proofs.Common.{replicate, refl, sym, ◌∙◌, ap, subst, arith, length-drop}
use Rattle.std.specs.Prelude.{Some}
use Rattle.std.specs.List.{AllByRecursion}
use Rattle.std.proofs.lemmas.List.{drop-drop, length-replicate}
use Rattle.std.proofs.lemmas.List.Sums.{sum_by-cons}
use Rattle.stun_base.specs.Attributes.{PASSWORD_ALGORITHMS}
use Rattle.stun_types.specs.Attribute.{TypedValue, padded_length, attribute_length}
use Rattle.stun_types.specs.Attribute.{has_attribute, first_attribute}
use Rattle.stun_types.specs.Walk.{Member, next_place, walk_from, attributes_length, attributes_of}
use Rattle.stun_types.specs.Grammar.{BeginsWith, AreSpelled, IsSpellable, spelled_attributes}
use Rattle.stun_types.proofs.GrammarLemmas.{read_again}
use Rattle.stun_types.proofs.WalkLemmas.{walk_from-step, walk_from-end, whole_within}
use Rattle.stun_extra.specs.AlgorithmList.{algorithm_list_in, are_filled}

-- entries that are spelled are found
walked : (entries : List TypedValue) (place : ℕ) (bytes : List ℕ) → place ≤ length bytes
    → AreSpelled entries (drop place bytes) →
    (attributes_of (walk_from place bytes) ≡ entries)
    × (place + attributes_length (walk_from place bytes) ≡ length bytes)
walked [] place bytes within spelled =
    let none : has_attribute (drop place bytes) ≡ false = rw spelled refl in
    let end = walk_from-end place bytes none in (
      rw end refl,
      omega
          (arith, ap attributes_length end, ap length spelled, length-drop place bytes),
    )
walked (entry ∷ others) place bytes within spelled =
    let again = read_again entry spelled.0 spelled.1 (drop place bytes) spelled.2 in
    let step = walk_from-step place bytes again.whole in
    let m : Member = (place, first_attribute (drop place bytes)) in
    let rest_at : drop (next_place place bytes) bytes ≡ spelled.1 =
    sym (drop-drop (attribute_length (length (first_attribute (drop place bytes)).value)) place
    bytes)
    ∙ (ap (λ (a : TypedValue). drop (attribute_length (length a.value)) (drop place bytes))
    again.attribute_is ∙ again.rest_is) in
    let ih =
    walked others (next_place place bytes) bytes (whole_within place bytes again.whole)
    (subst (AreSpelled others) (sym rest_at) spelled.3) in
    let first =
    sum_by-cons (λ n. attribute_length (length n.1.value)) m
    (walk_from (next_place place bytes) bytes) in (
      ap attributes_of step ∙ rw (again.attribute_is, ih.0) refl,
      omega (arith, ap attributes_length step, first, ih.1),
    )

-- entries that are written are spelled
AreSpelled-written : (entries : List TypedValue) → AllByRecursion IsSpellable entries
    → AreSpelled entries (spelled_attributes entries)
AreSpelled-written [] fit = refl
AreSpelled-written (entry ∷ others) fit =
    let n = length entry.value in
    let begins : BeginsWith entry (replicate (padded_length n - n) 0)
    (spelled_attributes others) (spelled_attributes (entry ∷ others)) = record {
      spelled = refl;
      padded = rw length-replicate (omega arith);
      kind = fit.0.0;
      value = fit.0.1;
    } in (
      replicate (padded_length n - n) 0,
      spelled_attributes others,
      begins,
      AreSpelled-written others fit.1,
    )

-- entries that are written are found, and fill what is written
walked-spelled : (entries : List TypedValue) → AllByRecursion IsSpellable entries →
    (attributes_of (walk_from 0 (spelled_attributes entries)) ≡ entries)
    × (attributes_length (walk_from 0 (spelled_attributes entries))
    ≡ length (spelled_attributes entries))
walked-spelled entries fit =
    let found =
    walked entries 0 (spelled_attributes entries) (omega arith) (AreSpelled-written entries fit) in
    (found.0, omega (arith, found.1))

-- entries that are written are read again; their padding is written as zeros
pub algorithm_list_in-written : (entries : List TypedValue) → AllByRecursion IsSpellable entries
    → algorithm_list_in
    (record { kind = PASSWORD_ALGORITHMS; value = spelled_attributes entries })
    ≡ Some entries
algorithm_list_in-written entries fit =
    let found = walked-spelled entries fit in
    let same : are_filled (spelled_attributes entries) ≡ true = grind (arith, found.1) in
    rw (same, found.0) refl
