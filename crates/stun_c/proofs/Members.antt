-- The first attribute of a type as it is read, and where the attributes after a place are.
use Rattle.std.proofs.Common.{◌≡◌, ◌∙◌, ◌≤◌, ◌+◌, ◌-◌, ℕ, zero, suc, Bool, true, false, List}
use Rattle.std.proofs.Common.{length, take, drop, sym, ap, subst, arith, rules}
use Rattle.std.specs.Prelude.{nat_lt, not, ◌||◌, if◌then◌else◌, IfSome, IfOk}
use Rattle.std.specs.Prelude.{MatchOption, Option, Some, None, Result, Ok, Err}
use Rattle.std.proofs.lemmas.List.{drop-drop, length-take, take_min}
use Rattle.stun_base.specs.Header.{HEADER_LENGTH}
use Rattle.stun_base.specs.declared.wire.error.StunParseError.{StunParseError}
use Rattle.stun_base.specs.declared.wire.error.StunParseError.TheVariants.{MissingAttribute}
use Rattle.stun_types.specs.Attribute.{TypedValue, has_attribute, value_length_field}
use Rattle.stun_types.specs.Reading.{attribute_answer}
use Rattle.stun_types.specs.Integrity.{first_of}
use Rattle.stun_types.specs.Visible.{visible}
use Rattle.stun_types.specs.Walk.{Member}
use Rattle.stun_types.specs.code.Walk.{IsInside}
use Rattle.stun_types.proofs.IntegrityLemmas.{IfSome-find, first_of-within, visible-within}
use Rattle.stun_types.proofs.WalkLemmas.{whole_within}
use Rattle.stun_numbers.specs.declared.refusal.Refusal.{Refusal}
use Rattle.stun_numbers.specs.declared.refusal.Refusal.TheVariants.{BadArgument}
use Rattle.stun_c.specs.Reading.{attribute_place, next_member, read_member, value_at}

-- what reading answers of a member that may be there
pub read_member-is : {A : Type 0} (kind : ℕ) (reading : TypedValue → Option A)
    (found : Option Member) (answer : Result A StunParseError)
    → MatchOption found (answer ≡ Err (MissingAttribute (record { 0 = kind })))
    (λ m. answer ≡ attribute_answer (reading m.1))
    → answer ≡ read_member kind reading found
read_member-is kind reading None answer is = is
read_member-is kind reading (Some m) answer is = is

-- the header of an attribute ends within
place-within : (bytes : List ℕ) (found : Option Member) → IfSome found (IsInside bytes)
    → IfSome found (λ m. m.0 + 4 ≤ length bytes)
place-within bytes None within = within
place-within bytes (Some m) within = omega (arith, within.whole)

-- the attribute that comes after a place does so within
pub next-within : (place : ℕ) (bytes : List ℕ)
    → IfSome (next_member place bytes) (λ m. m.0 + 4 ≤ length bytes)
next-within place bytes =
    place-within bytes (next_member place bytes)
    (IfSome-find (IsInside bytes) (λ m. nat_lt place m.0) (visible bytes) (visible-within bytes))

-- so does the first of a type
pub first-within : (kind : ℕ) (bytes : List ℕ)
    → IfSome (first_of kind (visible bytes)) (λ m. m.0 + 4 ≤ length bytes)
first-within kind bytes =
    place-within bytes (first_of kind (visible bytes)) (first_of-within kind bytes)

-- a whole attribute after a header has the header before it
pub header_before : (place : ℕ) (bytes : List ℕ) → 20 ≤ place
    → has_attribute (drop place bytes) ≡ true → 20 ≤ length bytes
header_before place bytes behind whole = omega (arith, behind, whole_within place bytes whole)

-- what is taken of bytes is at their front
at_front : (n : ℕ) (bytes : List ℕ) → take (length (take n bytes)) bytes ≡ take n bytes
at_front n bytes = ap (λ k. take k bytes) (length-take n bytes) ∙ take_min n bytes

-- a value is where it is taken
taken_there : (refused : Bool) (n place : ℕ) (bytes : List ℕ)
    → IfOk {T = List ℕ} {E = Refusal}
    (if refused then Err BadArgument else Ok (take n (drop 4 (drop place bytes))))
    (λ value. take (length value) (drop (place + 4) bytes) ≡ value)
taken_there true n place bytes = search rules
taken_there false n place bytes =
    let value = take n (drop 4 (drop place bytes)) in
    ap (take (length value)) (sym (drop-drop 4 place bytes))
    ∙ at_front n (drop 4 (drop place bytes))

pub value_there : (bytes : List ℕ) (place : ℕ)
    → IfOk (value_at bytes place) (λ value. take (length value) (drop (place + 4) bytes) ≡ value)
value_there bytes place =
    taken_there (nat_lt place HEADER_LENGTH || not (has_attribute (drop place bytes)))
    (value_length_field (drop place bytes)) place bytes

-- a value is where it begins
pub value_begins : (bytes : List ℕ) (place : ℕ)
    → IfOk (value_at bytes (attribute_place place))
    (λ value. take (length value) (drop place bytes) ≡ value)
value_begins bytes zero = search rules
value_begins bytes (suc zero) = search rules
value_begins bytes (suc (suc zero)) = search rules
value_begins bytes (suc (suc (suc zero))) = search rules
value_begins bytes (suc (suc (suc (suc n)))) =
    let begins : n + 4 ≡ suc (suc (suc (suc n))) = omega arith in
    let before : suc (suc (suc (suc n))) - 4 ≡ n = omega arith in
    subst (λ at. IfOk (value_at bytes at)
    (λ value. take (length value) (drop (suc (suc (suc (suc n)))) bytes) ≡ value)) (sym before)
    (subst (λ at. IfOk (value_at bytes n) (λ value. take (length value) (drop at bytes) ≡ value))
    begins (value_there bytes n))
