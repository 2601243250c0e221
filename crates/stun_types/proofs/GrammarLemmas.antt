-- Reading and spelling attributes are inverse.
use Rattle.std.proofs.Common.{◌≡◌, ℕ, zero, suc, ◌+◌, ◌-◌, ◌*◌, ◌/◌, ◌%◌, ◌≤◌, ◌<◌, ◌^◌}
use Rattle.std.proofs.Common.{true, false, cond, List, [], ◌∷◌, ◌++◌, length, take}
use Rattle.std.proofs.Common.{drop, get_or, map, refl, sym, ◌∙◌, ap, subst, replicate}
use Rattle.std.proofs.Common.{arith, append_assoc, length-drop, length-append}
use Rattle.std.proofs.lemmas.Grind.{common_steps}
use Rattle.std.proofs.lemmas.List.{take-append-drop, drop-drop, drop_all}
use Rattle.std.proofs.lemmas.List.{get_or-drop, length-replicate}
use Rattle.std.proofs.Math.Seq.{take-append_seam, drop-append_seam}
use Rattle.std.proofs.lemmas.List.Sums.{sum_by-cons}
use Rattle.byteorder.specs.Endian.{big_bytes}
use Rattle.byteorder.specs.Numbers.{big_number-reads_back}
use Rattle.stun_types.specs.Attribute.{TypedValue, padded_length, attribute_length, kind_field}
use Rattle.stun_types.specs.Attribute.{value_length_field, has_attribute, first_attribute}
use Rattle.stun_types.specs.Walk.{Member, next_place, walk_up_to, walk_from, attributes_length}
use Rattle.stun_types.specs.Walk.{attributes_of}
use Rattle.stun_types.specs.Grammar.{BeginsWith, type_length_value, AreSpelled, SpellsWhatIsFound}
use Rattle.stun_types.specs.Grammar.{FindsWhatIsSpelled, spelled_attribute, spelled_attributes}
use Rattle.stun_types.specs.Grammar.{spelled_message, IsSpellable, FindsWhatIsWritten}
use Rattle.std.specs.List.{AllByRecursion}
use Rattle.stun_types.proofs.WalkLemmas.{walk_from-step, walk_from-end}
use Rattle.stun_types.proofs.HeaderLemmas.{HasFields, is_stun-fields}
use Rattle.stun_types.proofs.WalkLemmas.{whole_within}
use Rattle.stun_base.specs.Header.{HEADER_LENGTH, BeginsWithHeader, type_field, length_field}

-- each number is that of a byte
pub record AreBytes (bytes : List ℕ) : Type 0 where
  pub each : (i : ℕ) → get_or bytes i 0 < 2 ^ 8

-- the value has as many bytes as its length field says
pub length-first_value : (bytes : List ℕ) → has_attribute bytes ≡ true
    → length (first_attribute bytes).value ≡ value_length_field bytes
length-first_value bytes whole = grind (arith, common_steps)

-- the two bytes of a number that two bytes make
high_byte : (x y : ℕ) → x < 2 ^ 8 → y < 2 ^ 8 → (x * 256 + (y * 1 + 0)) / 256 % 256 ≡ x
high_byte x y hx hy = omega arith

low_byte : (x y : ℕ) → x < 2 ^ 8 → y < 2 ^ 8 → (x * 256 + (y * 1 + 0)) % 256 ≡ y
low_byte x y hx hy = omega arith

-- a list is its first n elements, those up to p, and the others
parts : (n p : ℕ) (xs : List ℕ) → n ≤ p → (take n xs ++ take (p - n) (drop n xs)) ++ drop p xs ≡ xs
parts n p xs h =
    let sum : n + (p - n) ≡ p = omega arith in
    let rest : drop p xs ≡ drop (p - n) (drop n xs) =
    sym (drop-drop (p - n) n xs ∙ ap (λ m. drop m xs) sum) in
    append_assoc (take n xs) (take (p - n) (drop n xs)) (drop p xs)
    ∙ rw (rest, take-append-drop) (take-append-drop n xs)

-- the padding of the attribute at the front
abbrev pub first_padding : List ℕ → List ℕ
first_padding bytes =
    take (padded_length (value_length_field bytes) - value_length_field bytes)
    (drop (value_length_field bytes) (drop 4 bytes))

-- the front is the attribute that is there, its padding, and the others
pub front-spelled_message : (bytes : List ℕ) → AreBytes bytes → has_attribute bytes ≡ true →
    bytes ≡ type_length_value (first_attribute bytes) ++ first_padding bytes
    ++ drop (attribute_length (length (first_attribute bytes).value)) bytes
front-spelled_message [] fits whole = cc
front-spelled_message (x ∷ []) fits whole = cc
front-spelled_message (x ∷ y ∷ []) fits whole = cc
front-spelled_message (x ∷ y ∷ z ∷ []) fits whole = cc
front-spelled_message (x ∷ y ∷ z ∷ w ∷ xs) fits whole =
    let n = z * 256 + (w * 1 + 0) in
    let long = length-first_value (x ∷ y ∷ z ∷ w ∷ xs) whole in
    let others : drop (attribute_length n) (x ∷ y ∷ z ∷ w ∷ xs) ≡ drop (padded_length n) xs =
    sym (drop-drop (padded_length n) 4 (x ∷ y ∷ z ∷ w ∷ xs)) in
    let behind : n ≤ padded_length n = omega arith in
    let whole_value = parts n (padded_length n) xs behind in
    let first = high_byte x y (fits.each 0) (fits.each 1) in
    let second = low_byte x y (fits.each 0) (fits.each 1) in
    let third = high_byte z w (fits.each 2) (fits.each 3) in
    let fourth = low_byte z w (fits.each 2) (fits.each 3) in
    rw (long, others, first, second, third, fourth, whole_value) refl

-- the bytes from a place are bytes
pub AreBytes-drop : (place : ℕ) (bytes : List ℕ) → AreBytes bytes → AreBytes (drop place bytes)
AreBytes-drop place bytes fits = record { each = λ i. rw get_or-drop (fits.each (place + i)) }

-- value and padding together have the padded length
length-first_padding : (bytes : List ℕ) → has_attribute bytes ≡ true
    → length (first_attribute bytes).value + length (first_padding bytes)
    ≡ padded_length (length (first_attribute bytes).value)
length-first_padding bytes whole =
    rw (length-first_value bytes whole)
    (grind (
      arith,
      common_steps,
      length-drop 4 bytes,
      length-drop (value_length_field bytes) (drop 4 bytes),
    ))

-- the attribute at a place, its padding and the bytes after it
begins_with : (place : ℕ) (bytes : List ℕ) → AreBytes bytes
    → has_attribute (drop place bytes) ≡ true →
    BeginsWith (first_attribute (drop place bytes)) (first_padding (drop place bytes))
    (drop (next_place place bytes) bytes) (drop place bytes)
begins_with place bytes fits whole =
    let front = drop place bytes in
    let front_fits = AreBytes-drop place bytes fits in
    let length_fits = AreBytes-drop 2 front front_fits in
    let behind = drop-drop (attribute_length (length (first_attribute front).value)) place bytes in
    record {
      spelled = front-spelled_message front front_fits whole
          ∙ ap (λ rest. type_length_value (first_attribute front) ++ first_padding front ++ rest)
          behind;
      padded = length-first_padding front whole;
      kind = omega (arith, front_fits.each 0, front_fits.each 1);
      value = omega (arith, length-first_value front whole, length_fits.each 0, length_fits.each 1);
    }

-- a walk that reaches the end of the bytes has spelled them
pub AreSpelled-walk_up_to : (most place : ℕ) (bytes : List ℕ) → AreBytes bytes
    → place + attributes_length (walk_up_to most place bytes) ≡ length bytes
    → AreSpelled (map (λ m. m.1) (walk_up_to most place bytes)) (drop place bytes)
unfolding walk_up_to
AreSpelled-walk_up_to zero place bytes fits filled = drop_all place bytes (omega (arith, filled))
AreSpelled-walk_up_to (suc most) place bytes fits filled =
    let m : Member = (place, first_attribute (drop place bytes)) in
    let others = walk_up_to most (next_place place bytes) bytes in
    let more = AreSpelled-walk_up_to most (next_place place bytes) bytes fits in
    let first = sum_by-cons (λ n. attribute_length (length n.1.value)) m others in
    elim (has_attribute (drop place bytes)) as (λ whole.
    (whole ≡ true
    → BeginsWith (first_attribute (drop place bytes)) (first_padding (drop place bytes))
    (drop (next_place place bytes) bytes) (drop place bytes))
    → place + attributes_length (cond whole (m ∷ others) []) ≡ length bytes
    → AreSpelled (map (λ n. n.1) (cond whole (m ∷ others) [])) (drop place bytes)) [
      | true ↦ λ at filled. (
        first_padding (drop place bytes),
        drop (next_place place bytes) bytes,
        at refl,
        more (omega (arith, filled, first)),
      )
      | false ↦ λ at filled. drop_all place bytes (omega (arith, filled))
    ] (begins_with place bytes fits) filled

-- a spelled attribute is read again, whatever follows it
pub record IsReadAgain (attribute : TypedValue) (rest bytes : List ℕ) : Type 0 where
  pub whole : has_attribute bytes ≡ true
  pub attribute_is : first_attribute bytes ≡ attribute
  pub rest_is : drop (attribute_length (length attribute.value)) bytes ≡ rest

pub read_again : (attribute : TypedValue) (padding rest bytes : List ℕ)
    → BeginsWith attribute padding rest bytes → IsReadAgain attribute rest bytes
read_again attribute padding rest bytes begins =
    let text = type_length_value attribute ++ padding ++ rest in
    let tail = attribute.value ++ padding ++ rest in
    let kind : kind_field text ≡ attribute.kind =
    big_number-reads_back 2 attribute.kind (big_bytes 2 (length attribute.value) ++ tail)
    begins.kind in
    let count : value_length_field text ≡ length attribute.value =
    big_number-reads_back 2 (length attribute.value) tail begins.value in
    let value : take (length attribute.value) tail ≡ attribute.value =
    rw append_assoc (take-append_seam attribute.value (padding ++ rest)) in
    let long : length text ≡ 4 + (length attribute.value + length padding + length rest) =
    simp length-append (omega arith) in
    let front : drop (padded_length (length attribute.value)) tail ≡ rest =
    ap (λ n. drop n tail) (sym begins.padded ∙ sym (length-append attribute.value padding))
    ∙ drop-append_seam (attribute.value ++ padding) rest in
    rw begins.spelled (record {
      whole = grind (arith, common_steps, count, long, begins.padded);
      attribute_is = λ i. record { kind = kind i; value = (ap (λ n. take n tail) count ∙ value) i };
      rest_is = sym (drop-drop (padded_length (length attribute.value)) 4 text) ∙ front;
    })

-- spelled attributes from a place to the end are found, and nothing else is
pub walked_again : (attributes : List TypedValue) (place : ℕ) (bytes : List ℕ) → place ≤ length bytes
    → AreSpelled attributes (drop place bytes) →
    (attributes_of (walk_from place bytes) ≡ attributes)
    × (place + attributes_length (walk_from place bytes) ≡ length bytes)
walked_again [] place bytes within spelled =
    let none : has_attribute (drop place bytes) ≡ false = rw spelled refl in
    let end = walk_from-end place bytes none in (
      rw end refl,
      omega
          (arith, ap attributes_length end, ap length spelled, length-drop place bytes),
    )
walked_again (attribute ∷ others) place bytes within spelled =
    let again = read_again attribute spelled.0 spelled.1 (drop place bytes) spelled.2 in
    let step = walk_from-step place bytes again.whole in
    let m : Member = (place, first_attribute (drop place bytes)) in
    let rest_at : drop (next_place place bytes) bytes ≡ spelled.1 =
    sym (drop-drop (attribute_length (length (first_attribute (drop place bytes)).value)) place
    bytes)
    ∙ (ap (λ (a : TypedValue). drop (attribute_length (length a.value)) (drop place bytes))
    again.attribute_is ∙ again.rest_is) in
    let ih =
    walked_again others (next_place place bytes) bytes (whole_within place bytes again.whole)
    (subst (AreSpelled others) (sym rest_at) spelled.3) in
    let first =
    sum_by-cons (λ n. attribute_length (length n.1.value)) m
    (walk_from (next_place place bytes) bytes) in (
      ap attributes_of step ∙ rw (again.attribute_is, ih.0) refl,
      omega (arith, ap attributes_length step, first, ih.1),
    )

pub spells_what_is_found : (bytes : List ℕ) → AreBytes bytes → SpellsWhatIsFound bytes
spells_what_is_found bytes fits message =
    AreSpelled-walk_up_to (length bytes) HEADER_LENGTH bytes fits message.filled

pub finds_what_is_spelled : (bytes : List ℕ) (attributes : List TypedValue)
    → FindsWhatIsSpelled bytes attributes
finds_what_is_spelled bytes attributes header stated spelled =
    let found = walked_again attributes HEADER_LENGTH bytes header.is_whole spelled in
    (record { header = header; stated = stated; filled = found.1 }, found.0)

-- written attributes are spelled
pub AreSpelled-spelled_attributes : (attributes : List TypedValue)
    → AllByRecursion IsSpellable attributes → AreSpelled attributes (spelled_attributes attributes)
AreSpelled-spelled_attributes [] fit = refl
AreSpelled-spelled_attributes (attribute ∷ others) fit =
    let n = length attribute.value in
    let begins : BeginsWith attribute (replicate (padded_length n - n) 0)
    (spelled_attributes others) (spelled_attributes (attribute ∷ others)) = record {
      spelled = refl;
      padded = rw length-replicate (omega arith);
      kind = fit.0.0;
      value = fit.0.1;
    } in (
      replicate (padded_length n - n) 0,
      spelled_attributes others,
      begins,
      AreSpelled-spelled_attributes others fit.1,
    )

-- written attributes take a multiple of 4 bytes
length-spelled_attributes : (attributes : List TypedValue)
    → length (spelled_attributes attributes) % 4 ≡ 0
length-spelled_attributes [] = refl
length-spelled_attributes (attribute ∷ others) =
    let rest = length-spelled_attributes others in
    let first : length (spelled_attribute attribute) ≡ attribute_length (length attribute.value) =
    simp (length-append, length-replicate) (omega arith) in
    omega (
      arith,
      rest,
      first,
      length-append (spelled_attribute attribute) (spelled_attributes others),
    )

pub finds_what_is_written : (message_type transaction_id : ℕ) (attributes : List TypedValue)
    → FindsWhatIsWritten message_type transaction_id attributes
finds_what_is_written message_type transaction_id attributes type_fits fit length_fits =
    let bytes = spelled_message message_type transaction_id attributes in
    let behind = spelled_attributes attributes in
    let stated : length_field bytes ≡ length behind =
    big_number-reads_back 2 (length behind) (drop 4 bytes) length_fits in
    let kind : type_field bytes ≡ message_type =
    big_number-reads_back 2 message_type (drop 2 bytes) (omega arith) in
    let long : length bytes ≡ HEADER_LENGTH + length behind = omega arith in
    let fields : HasFields bytes =
    record {
      top_bits = omega arith;
      cookie = refl;
      aligned = omega (arith, length-spelled_attributes attributes);
    } in
    let header : BeginsWithHeader bytes =
    record { is_whole = omega arith; fields = is_stun-fields bytes fields } in
    finds_what_is_spelled bytes attributes header (omega arith)
    (AreSpelled-spelled_attributes attributes fit)
