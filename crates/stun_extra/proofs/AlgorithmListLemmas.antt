-- The entries of a list of algorithms: one after the other, and as they are written.
use Rattle.std.proofs.Common.{◌≡◌, ℕ, ◌+◌, ◌-◌, ◌*◌, ◌/◌, ◌%◌, ◌≤◌, true, false, List, [], ◌∷◌}
use Rattle.std.proofs.Common.{◌++◌, length, drop, replicate, refl, sym, ◌∙◌, ap, arith}
use Rattle.std.proofs.Common.{append_assoc, length-append}
use Rattle.std.specs.Prelude.{min}
use Rattle.std.proofs.lemmas.List.{append-nil, length-replicate}
use Rattle.std.proofs.lemmas.List.Sums.{sum_by-cons}
use Rattle.byteorder.specs.Endian.{big_bytes}
use Rattle.stun_types.specs.Attribute.{TypedValue, padded_length, attribute_length}
use Rattle.stun_types.specs.Attribute.{has_attribute, first_attribute}
use Rattle.stun_types.specs.Walk.{next_place, walk_from, attributes_length, attributes_of}
use Rattle.stun_types.specs.Grammar.{spelled_attribute, spelled_attributes}
use Rattle.stun_types.proofs.WalkLemmas.{walk_from-step, walk_from-end, whole_within}

-- the entry at an offset, of this many bytes, is in front of those after it
pub record IsPassed (place count : ℕ) (bytes : List ℕ) (entry : TypedValue) : Type 0 where
  pub entries_are : attributes_of (walk_from place bytes)
      ≡ entry ∷ attributes_of (walk_from (place + count) bytes)
  pub filled : place + attributes_length (walk_from place bytes)
      ≡ (place + count) + attributes_length (walk_from (place + count) bytes)
  pub within : place + count ≤ length bytes

pub passed : (place count : ℕ) (bytes : List ℕ) (entry : TypedValue)
    → has_attribute (drop place bytes) ≡ true → entry ≡ first_attribute (drop place bytes)
    → count ≡ attribute_length (length entry.value) → IsPassed place count bytes entry
passed place count bytes entry whole is long =
    let at : next_place place bytes ≡ place + count =
    ap (λ (e : TypedValue). place + attribute_length (length e.value)) (sym is)
    ∙ ap (λ n. place + n) (sym long) in
    let behind = walk_from (next_place place bytes) bytes in
    let step = walk_from-step place bytes whole in
    let first =
    sum_by-cons (λ n. attribute_length (length n.1.value))
    (place, first_attribute (drop place bytes)) behind in
    let sum : place + attributes_length (walk_from place bytes)
    ≡ next_place place bytes + attributes_length behind =
    omega (arith, ap attributes_length step, first) in
    record {
      entries_are = ap attributes_of step
          ∙ (ap (λ e. e ∷ attributes_of behind) (sym is)
          ∙ ap (λ n. entry ∷ attributes_of (walk_from n bytes)) at);
      filled = sum ∙ ap (λ n. n + attributes_length (walk_from n bytes)) at;
      within = omega (arith, whole_within place bytes whole, at);
    }

-- where no whole entry is the walk has ended
pub ended : (place : ℕ) (bytes : List ℕ) → has_attribute (drop place bytes) ≡ false
    → place + attributes_length (walk_from place bytes) ≡ attributes_length (walk_from 0 bytes)
    → place ≡ attributes_length (walk_from 0 bytes)
ended place bytes none sum =
    let nothing : attributes_length (walk_from place bytes) ≡ 0 =
    ap attributes_length (walk_from-end place bytes none) in
    omega (arith, sum, nothing)

-- there are no entries where no whole entry is
pub no_entries : (place : ℕ) (bytes : List ℕ) → has_attribute (drop place bytes) ≡ false
    → attributes_of (walk_from place bytes) ≡ []
no_entries place bytes none = ap attributes_of (walk_from-end place bytes none)

-- a sum with nothing left to add
pub whole_sum : (total rest all limit : ℕ) → rest ≡ 0 → total ≤ limit
    → min (total + rest) limit ≡ min all limit → total ≡ min all limit
whole_sum total rest all limit none small same = omega arith

-- an entry takes the bytes of an attribute
pub length_of_entry : (entry : TypedValue)
    → length (spelled_attribute entry) ≡ attribute_length (length entry.value)
length_of_entry entry = simp (length-append, length-replicate) (omega arith)

-- one entry and others
pub length_of_more : (entry : TypedValue) (others : List TypedValue)
    → length (spelled_attributes (entry ∷ others))
    ≡ attribute_length (length entry.value) + length (spelled_attributes others)
length_of_more entry others =
    length-append (spelled_attribute entry) (spelled_attributes others)
    ∙ ap (λ n. n + length (spelled_attributes others)) (length_of_entry entry)

-- entries take a multiple of 4 bytes, so no padding follows them
pub entries-aligned : (entries : List TypedValue) → length (spelled_attributes entries) % 4 ≡ 0
entries-aligned [] = refl
entries-aligned (entry ∷ others) =
    omega (arith, entries-aligned others, length_of_more entry others)

-- the header and the entries are the attribute, without padding
pub spelled-unpadded : (front : List ℕ) (kind count : ℕ) (entries : List TypedValue)
    → count ≡ length (spelled_attributes entries)
    → ((front ++ big_bytes 2 kind) ++ big_bytes 2 count) ++ spelled_attributes entries
    ≡ front ++ spelled_attribute (record { kind = kind; value = spelled_attributes entries })
spelled-unpadded front kind count entries whole =
    let value = spelled_attributes entries in
    let number = big_bytes 2 kind in
    let stated = big_bytes 2 (length value) in
    let none : padded_length (length value) - length value ≡ 0 =
    omega (arith, entries-aligned entries) in
    let behind : number ++ (big_bytes 2 count ++ value)
    ≡ (number ++ (stated ++ value)) ++ replicate (padded_length (length value) - length value) 0 =
    (λ i. number ++ (big_bytes 2 (whole i) ++ value))
    ∙ (sym (append-nil (number ++ (stated ++ value)))
    ∙ ap (λ p. (number ++ (stated ++ value)) ++ replicate p 0) (sym none)) in
    append_assoc (front ++ number) (big_bytes 2 count) value
    ∙ (append_assoc front number (big_bytes 2 count ++ value) ∙ ap (λ xs. front ++ xs) behind)
