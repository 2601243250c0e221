-- The known algorithms of a list: what a server that knows no others reads of it, and the first that
-- is supported.
use Rattle.std.proofs.Common.{◌≡◌, ℕ, ◌+◌, ◌≤◌, Bool, true, false, List, [], ◌∷◌, length, drop}
use Rattle.std.proofs.Common.{Option, Some, None, cond, refl, sym, ◌∙◌, ap, arith}
use Rattle.std.specs.Prelude.{find, map, take, ◌==◌}
use Rattle.std.specs.Option.{option_map}
use Rattle.std.proofs.lemmas.List.{drop-drop}
use Rattle.byteorder.specs.Endian.{big_number}
use Rattle.stun_base.specs.declared.keys.algorithm.IntegrityAlgorithm.{IntegrityAlgorithm}
use Rattle.stun_types.specs.Attribute.{attribute_length, first_attribute, has_attribute}
use Rattle.stun_types.specs.PasswordAlgorithms.{algorithm_of_number, entries, entry_at_front}
use Rattle.stun_types.specs.PasswordAlgorithms.{in_front_of, integrity_of}
use Rattle.stun_types.specs.Walk.{attributes_of, next_place, walk_from}
use Rattle.stun_types.specs.declared.attribute.password_algorithm.PasswordAlgorithmValue.{
  PasswordAlgorithmValue,
}
use Rattle.stun_types.proofs.WalkLemmas.{has_attribute-within, walk_from-end, walk_from-step}
use Rattle.stun_judging.specs.AddedAttribute.{password_algorithm}
use Rattle.stun_judging.specs.Additions.{attribute}
use Rattle.stun_client.specs.Challenge.{algorithm_choice, repeated_list}
use Rattle.stun_client.specs.Offers.{algorithms_in, in_front, known, known_of}
use Rattle.stun_client.specs.Preferences.{supports}
use Rattle.stun_client.specs.code.Offers.{if_supported}
use Rattle.stun_client.specs.declared.preferences.Preferences.{Preferences}

-- a list that is not empty is repeated, and the choice named
pub choice_of_list : (list : List ℕ) (algorithm : IntegrityAlgorithm) → 1 ≤ length list
    → algorithm_choice list algorithm
    ≡ attribute (repeated_list list) ∷ attribute (password_algorithm algorithm) ∷ []
choice_of_list [] algorithm some = absurd (omega (arith, some))
choice_of_list (byte ∷ list) algorithm some = refl

-- an empty list has no algorithm
pub none_in_nothing : algorithms_in [] ≡ []
none_in_nothing = ap (λ members. known_of (attributes_of members)) (walk_from-end 0 [] refl)

-- ---- the first that is supported

-- an entry that is not supported is passed over, and else it is the first
pub found_at : (p : Preferences) (o : Option IntegrityAlgorithm) (others : List IntegrityAlgorithm)
    (a : IntegrityAlgorithm) → if_supported p o ≡ Some a
    → find (supports p) (in_front o others) ≡ Some a
found_at p None others a is = cc
found_at p (Some b) others a is = by (supports p b) is
  where
    by : (yes : Bool) → cond yes (Some b) None ≡ Some a
        → cond yes (Some b) (find (supports p) others) ≡ Some a
    by true is = is
    by false is = cc

pub found_past : (p : Preferences) (o : Option IntegrityAlgorithm) (others : List IntegrityAlgorithm)
    → if_supported p o ≡ None → find (supports p) (in_front o others) ≡ find (supports p) others
found_past p None others is = refl
found_past p (Some b) others is = by (supports p b) is
  where
    by : (yes : Bool) → cond yes (Some b) None ≡ None
        → cond yes (Some b) (find (supports p) others) ≡ find (supports p) others
    by true is = cc
    by false is = refl

-- ---- what a server that knows no others reads

-- an entry that such a server reads is known, and has four bytes
record IsRead (bytes rest : List ℕ) (a : PasswordAlgorithmValue) : Type 0 where
  whole : has_attribute bytes ≡ true
  value : (first_attribute bytes).value ≡ []
  known_is : known (first_attribute bytes) ≡ Some (integrity_of a)

read_front : (x y z w : ℕ) (rest : List ℕ) (a : PasswordAlgorithmValue)
    → entry_at_front (x ∷ y ∷ z ∷ w ∷ []) ≡ Some a → IsRead (x ∷ y ∷ z ∷ w ∷ rest) rest a
read_front x y z w rest a is =
    by (big_number 2 (z ∷ w ∷ []) == 0) refl is
  where
    bytes : List ℕ
    bytes = x ∷ y ∷ z ∷ w ∷ rest

    by : (none : Bool) → (big_number 2 (z ∷ w ∷ []) == 0) ≡ none
        → cond none (algorithm_of_number (big_number 2 (x ∷ y ∷ []))) None ≡ Some a
        → IsRead bytes rest a
    by true test is =
        let zero : big_number 2 (z ∷ w ∷ []) ≡ 0 = grind (arith, test) in
        let empty : (first_attribute bytes).value ≡ [] = ap (λ n. take n rest) zero in
        record {
          whole = grind (arith, zero);
          value = empty;
          known_is = ap (λ (v : List ℕ). cond (length v == 0)
              (option_map integrity_of (algorithm_of_number (big_number 2 (x ∷ y ∷ [])))) None) empty
              ∙ ap (option_map integrity_of) is;
        }
    by false test is = cc

-- the entries from a place on
known_from : (place : ℕ) (bytes left : List ℕ) (list : List PasswordAlgorithmValue)
    → place ≤ length bytes → drop place bytes ≡ left → entries left ≡ Some list
    → known_of (attributes_of (walk_from place bytes)) ≡ map integrity_of list
known_from place bytes [] list within here is =
    let none : has_attribute (drop place bytes) ≡ false = ap has_attribute here in
    let nothing : list ≡ [] = cc in
    ap (λ members. known_of (attributes_of members)) (walk_from-end place bytes none)
    ∙ ap (map integrity_of) (sym nothing)
known_from place bytes (x ∷ []) list within here is = cc
known_from place bytes (x ∷ y ∷ []) list within here is = cc
known_from place bytes (x ∷ y ∷ z ∷ []) list within here is = cc
known_from place bytes (x ∷ y ∷ z ∷ w ∷ rest) list within here is =
    by (λ others inside behind read. known_from (place + 4) bytes rest others inside behind read)
    (entries rest) refl (entry_at_front (x ∷ y ∷ z ∷ w ∷ [])) refl is
  where
    by : ((others : List PasswordAlgorithmValue) → place + 4 ≤ length bytes
        → drop (place + 4) bytes ≡ rest → entries rest ≡ Some others
        → known_of (attributes_of (walk_from (place + 4) bytes)) ≡ map integrity_of others)
        → (others : Option (List PasswordAlgorithmValue)) → entries rest ≡ others
        → (first : Option PasswordAlgorithmValue) → entry_at_front (x ∷ y ∷ z ∷ w ∷ []) ≡ first
        → in_front_of others first ≡ Some list
        → known_of (attributes_of (walk_from place bytes)) ≡ map integrity_of list
    by next_known None read first front is = cc
    by next_known (Some others) read None front is = cc
    by next_known (Some others) read (Some a) front is =
        let one = read_front x y z w rest a front in
        let all : list ≡ a ∷ others = cc in
        let whole : has_attribute (drop place bytes) ≡ true = ap has_attribute here ∙ one.whole in
        let next : next_place place bytes ≡ place + 4 =
        ap (λ (b : List ℕ). place + attribute_length (length (first_attribute b).value)) here
        ∙ ap (λ (v : List ℕ). place + attribute_length (length v)) one.value in
        let inside : place + 4 ≤ length bytes = has_attribute-within place bytes whole in
        let behind : drop (place + 4) bytes ≡ rest =
        sym (drop-drop 4 place bytes) ∙ ap (drop 4) here in
        ap (λ members. known_of (attributes_of members)) (walk_from-step place bytes whole)
        ∙ ap (λ (b : List ℕ). in_front (known (first_attribute b))
        (known_of (attributes_of (walk_from (next_place place bytes) bytes)))) here
        ∙ ap (λ o. in_front o (known_of (attributes_of (walk_from (next_place place bytes) bytes))))
        one.known_is
        ∙ ap (λ n. integrity_of a ∷ known_of (attributes_of (walk_from n bytes))) next
        ∙ ap (λ algorithms. integrity_of a ∷ algorithms)
        (next_known others inside behind read)
        ∙ ap (map integrity_of) (sym all)

-- so the algorithms of a list are those that it reads
pub known_read : (offered : List ℕ) (list : List PasswordAlgorithmValue)
    → entries offered ≡ Some list → algorithms_in offered ≡ map integrity_of list
known_read offered list is = known_from 0 offered offered list (omega arith) refl is
