-- The numbers of types at the front of a buffer, as one after the other is told.
use Rattle.std.proofs.Common.{◌≡◌, ◌<◌, ◌≤◌, ℕ, zero, suc, ◌+◌, ◌-◌, Bool, true, false}
use Rattle.std.proofs.Common.{length-append, List, [], ◌∷◌, ◌++◌, length, map, take}
use Rattle.std.proofs.Common.{drop, set, append_assoc, refl, sym, ◌∙◌, ap, arith}
use Rattle.std.specs.Prelude.{nat_lt, slice_get, Some, None}
use Rattle.std.proofs.lemmas.List.{drop-drop, drop_all, drop_more, length-map, length-take}
use Rattle.std.proofs.lemmas.List.{length-take-le, length_push, map_push, set-append_right}
use Rattle.std.proofs.lemmas.List.{set_past, take-append-le, take_all, take_at}
use Rattle.byteorder.specs.Endian.{big_bytes}
use Rattle.stun_base.specs.declared.wire.attribute_type.AttributeType.{AttributeType}
use Rattle.stun_extra.specs.Unknown.{spelled_types, types_in}
use Rattle.stun_c.specs.Extra.{numbers_after}

-- the numbers of types
abbrev numbers : List AttributeType → List ℕ
numbers types = map (λ kind. kind.0) types

-- with room for all of them they are there
all_told : (types : List AttributeType) (old : List ℕ) → length types ≤ length old
    → numbers_after types old ≡ numbers types ++ drop (length types) old
all_told types old few =
    let within : length (numbers types) ≤ length old =
    omega (arith, few, length-map types (λ kind. kind.0)) in
    ap (λ front. front ++ drop (length types) old) (take_all (length old) (numbers types) within)

-- one more where there is room
told_more : (types : List AttributeType) (kind : AttributeType) (old : List ℕ)
    → length types < length old
    → set (numbers_after types old) (length types) kind.0 ≡ numbers_after (types ++ kind ∷ []) old
told_more types kind old room =
    let n = length types in
    let one : length (types ++ kind ∷ []) ≡ n + 1 = length_push types kind in
    let fits : n ≤ length old = omega (arith, room) in
    let fits' : length (types ++ kind ∷ []) ≤ length old = omega (arith, room, one) in
    let behind : set (drop n old) (n - n) kind.0 ≡ kind.0 ∷ drop (n + 1) old =
    let zero : n - n ≡ 0 = omega arith in
    λ i. set (drop_more old n 0 room i) (zero i) kind.0 in
    let before = ap (λ front. set front n kind.0) (all_told types old fits) in
    let put =
    set-append_right (numbers types) (drop n old) n n kind.0 (length-map types (λ kind. kind.0))
    (omega arith) in
    before
    ∙ (put
    ∙ ((λ i. numbers types ++ behind i)
    ∙ (sym (append_assoc (numbers types) (kind.0 ∷ []) (drop (n + 1) old))
    ∙ ((λ i. sym (map_push (λ kind. kind.0) types kind) i ++ drop (sym one i) old)
    ∙ sym (all_told (types ++ kind ∷ []) old fits')))))

-- one more where there is none
told_past : (types : List AttributeType) (kind : AttributeType) (old : List ℕ)
    → length old ≤ length types
    → numbers_after types old ≡ numbers_after (types ++ kind ∷ []) old
told_past types kind old full =
    let one : length (types ++ kind ∷ []) ≡ length types + 1 = length_push types kind in
    let long : length old ≤ length (numbers types) =
    omega (arith, full, length-map types (λ kind. kind.0)) in
    let front : take (length old) (numbers (types ++ kind ∷ []))
    ≡ take (length old) (numbers types) =
    ap (take (length old)) (map_push (λ kind. kind.0) types kind)
    ∙ take-append-le (length old) (numbers types) (kind.0 ∷ []) long in
    let none : drop (length types) old ≡ [] = drop_all (length types) old full in
    let none' : drop (length (types ++ kind ∷ [])) old ≡ [] =
    drop_all (length (types ++ kind ∷ [])) old (omega (arith, full, one)) in
    λ i. sym front i ++ (none ∙ sym none') i

-- a place that is not there
pub not_set : (numbers : List ℕ) (place number : ℕ) → length numbers ≤ place
    → set numbers place number ≡ numbers
not_set numbers place number past = set_past numbers place number past

-- one more, whether or not there is room
told_put : (types : List AttributeType) (kind : AttributeType) (old : List ℕ)
    → set (numbers_after types old) (length types) kind.0 ≡ numbers_after (types ++ kind ∷ []) old
told_put types kind old = by (nat_lt (length types) (length old)) refl
  where
    by : (room : Bool) → nat_lt (length types) (length old) ≡ room
        → set (numbers_after types old) (length types) kind.0
        ≡ numbers_after (types ++ kind ∷ []) old
    by true room = told_more types kind old (grind arith)
    by false room =
        let full : length old ≤ length types = grind arith in
        let none : drop (length types) old ≡ [] = drop_all (length types) old full in
        let short : length (numbers_after types old) ≤ length types =
        omega (
          arith,
          full,
          length-append (take (length old) (numbers types)) (drop (length types) old),
          ap length none,
          length-take (length old) (numbers types),
        ) in
        set_past (numbers_after types old) (length types) kind.0 short
        ∙ told_past types kind old full

-- ---- one step of the loop

take_next : (n : ℕ) (all rest : List AttributeType) (kind : AttributeType)
    → drop n all ≡ kind ∷ rest → take (n + 1) all ≡ take n all ++ kind ∷ []
take_next zero all rest kind is = rw is refl
take_next (suc n) [] rest kind is = cc
take_next (suc n) (x ∷ all) rest kind is =
    let one : suc n + 1 ≡ suc (n + 1) = omega arith in
    ap (λ k. take k (x ∷ all)) one ∙ ap (λ xs. x ∷ xs) (take_next n all rest kind is)

length_next : (n : ℕ) (all rest : List AttributeType) (kind : AttributeType)
    → drop n all ≡ kind ∷ rest → length (take n all) ≡ n
length_next zero all rest kind is = refl
length_next (suc n) [] rest kind is = cc
length_next (suc n) (x ∷ all) rest kind is = ap suc (length_next n all rest kind is)

pub told_next : (n : ℕ) (all rest : List AttributeType) (kind : AttributeType) (old : List ℕ)
    → drop n all ≡ kind ∷ rest
    → set (numbers_after (take n all) old) n kind.0 ≡ numbers_after (take (n + 1) all) old
told_next n all rest kind old is =
    (λ i. set (numbers_after (take n all) old) (sym (length_next n all rest kind is) i) kind.0)
    ∙ (told_put (take n all) kind old
    ∙ ap (λ types. numbers_after types old) (sym (take_next n all rest kind is)))

pub left_next : (n : ℕ) (all rest : List AttributeType) (kind : AttributeType)
    → drop n all ≡ kind ∷ rest → drop (n + 1) all ≡ rest
left_next n all rest kind is = sym (drop-drop 1 n all) ∙ ap (drop 1) is

-- ---- and of that which writes bytes

pub spelled_next : (place placed all : List ℕ) (end : ℕ) (kind : AttributeType)
    (rest : List AttributeType)
    → placed ≡ take end place ++ big_bytes 2 kind.0 ++ drop (end + 2) place → end + 2 ≤ length place
    → take end place ++ spelled_types (kind ∷ rest) ≡ all
    → take (end + 2) placed ++ spelled_types rest ≡ all
spelled_next place placed all end kind rest is_placed room is_all =
    let two = big_bytes 2 kind.0 in
    let count : length (take end place ++ two) ≡ end + 2 =
    omega (
      arith,
      length-append (take end place) two,
      length-take-le end place (omega (arith, room)),
    ) in
    let front : take (end + 2) placed ≡ take end place ++ two =
    ap (take (end + 2)) is_placed
    ∙ take_at (take end place ++ two) (drop (end + 2) place) (end + 2) count in
    ap (λ xs. xs ++ spelled_types rest) front
    ∙ (append_assoc (take end place) two (spelled_types rest) ∙ is_all)

-- ---- one step by an index

get_drop : (n : ℕ) (all : List AttributeType) (kind : AttributeType) → slice_get all n ≡ Some kind
    → drop n all ≡ kind ∷ drop (n + 1) all
get_drop n [] kind is = cc
get_drop zero (x ∷ all) kind is = cc
get_drop (suc n) (x ∷ all) kind is =
    let one : suc n + 1 ≡ suc (n + 1) = omega arith in
    get_drop n all kind is ∙ ap (λ k. kind ∷ drop k (x ∷ all)) (sym one)

pub held_next : (n : ℕ) (all : List AttributeType) (kind : AttributeType) (old : List ℕ)
    → slice_get all n ≡ Some kind
    → set (numbers_after (take n all) old) n kind.0 ≡ numbers_after (take (n + 1) all) old
held_next n all kind old is = told_next n all (drop (n + 1) all) kind old (get_drop n all kind is)

-- where none is, all were before
past_all : (n : ℕ) (all : List AttributeType) → slice_get all n ≡ None → length all ≤ n
past_all n [] none = omega arith
past_all zero (x ∷ all) none = cc
past_all (suc n) (x ∷ all) none = omega (arith, past_all n all none)

pub held_all : (n : ℕ) (all : List AttributeType) (old : List ℕ) → length all ≤ n
    → numbers_after (take n all) old ≡ numbers_after all old
held_all n all old whole = ap (λ types. numbers_after types old) (take_all n all whole)

pub held_none : (n : ℕ) (all : List AttributeType) (old : List ℕ) → slice_get all n ≡ None
    → numbers_after (take n all) old ≡ numbers_after (take (n + 1) all) old
held_none n all old none =
    let whole : length all ≤ n = past_all n all none in
    held_all n all old whole ∙ sym (held_all (n + 1) all old (omega (arith, whole)))

-- bytes spell no more types than they are
few_types : (value : List ℕ) → length (types_in value) ≤ length value
few_types [] = omega arith
few_types (a ∷ []) = omega arith
few_types (a ∷ b ∷ rest) = omega (arith, few_types rest)

pub held_few : (value : List ℕ) (types : List AttributeType) → types ≡ types_in value
    → length value < 65536 → length types < 65536
held_few value types is short = rw is (omega (arith, few_types value, short))
