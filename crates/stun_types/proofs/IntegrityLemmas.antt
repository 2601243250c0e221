-- Where the deciding attribute is, and what tells that its value is its digest.
use Rattle.std.proofs.Common.{◌≡◌, ℕ, zero, suc, ◌+◌, ◌++◌, ◌-◌, ◌≤◌, Bool, true, false, cond}
use Rattle.std.proofs.Common.{List, [], ◌∷◌, length, take, drop, Some, None, refl, sym, subst}
use Rattle.std.proofs.Common.{arith}
use Rattle.std.specs.Prelude.{find, IfSome, IsTrue, Option, nat_eq, ◌==◌, ◌↔◌}
use Rattle.std.specs.Cmp.Lexicographic.{other_text, pointwise, same_text}
use Rattle.std.specs.Option.{option_or}
use Rattle.std.specs.List.{AllByRecursion}
use Rattle.std.proofs.lemmas.Bool.Decides.{nat_tests}
use Rattle.std.proofs.lemmas.List.{append-nil, drop-take}
use Rattle.std.specs.List.{concat}
use Rattle.byteorder.specs.Endian.{big_bytes}
use Rattle.std.proofs.lemmas.List.Elements.{All-filter, All-from_recursion, recursion_from_All}
use Rattle.stun_base.specs.declared.keys.algorithm.IntegrityAlgorithm.{IntegrityAlgorithm}
use Rattle.stun_base.specs.Algorithm.{digest, digest_length}
use Rattle.stun_base.specs.Attributes.{MESSAGE_INTEGRITY, MESSAGE_INTEGRITY_SHA256}
use Rattle.stun_base.specs.Header.{HEADER_LENGTH}
use Rattle.stun_types.specs.Attribute.{TypedValue, has_attribute, first_attribute}
use Rattle.stun_types.specs.Walk.{Member, next_place, walk_up_to, walk}
use Rattle.stun_types.specs.code.Walk.{IsInside}
use Rattle.stun_types.specs.Visible.{is_visible, visible}
use Rattle.stun_types.specs.Integrity.{first_of, deciding, covered_bytes}
use Rattle.stun_types.specs.Integrity.{integrity_algorithm, is_digest}
use Rattle.stun_types.proofs.WalkLemmas.{whole_within}

-- what holds of each element holds of the one that is found
pub IfSome-find : {X : Type 0} (P : X → Type 0) (test : X → Bool) (xs : List X)
    → AllByRecursion P xs → IfSome (find test xs) P
IfSome-find P test [] all = tt
IfSome-find P test (x ∷ xs) all =
    elim (test x) as (λ found. IfSome (cond found (Some x) (find test xs)) P)
    [ true ↦ all.0 | false ↦ IfSome-find P test xs all.1 ]

-- the attribute at a place is within
first_within : (place : ℕ) (bytes : List ℕ) → HEADER_LENGTH ≤ place
    → has_attribute (drop place bytes) ≡ true
    → IsInside bytes (place, first_attribute (drop place bytes))
first_within place bytes behind whole =
    record { behind_header = behind; whole = omega (arith, whole_within place bytes whole) }

-- each attribute of a walk is within
pub walk_up_to-within : (most place : ℕ) (bytes : List ℕ) → HEADER_LENGTH ≤ place
    → AllByRecursion (IsInside bytes) (walk_up_to most place bytes)
unfolding walk_up_to
walk_up_to-within zero place bytes behind = tt
walk_up_to-within (suc most) place bytes behind =
    let rest = walk_up_to-within most (next_place place bytes) bytes (omega arith) in
    let first = first_within place bytes behind in
    elim (has_attribute (drop place bytes)) as (λ whole.
    (whole ≡ true → IsInside bytes (place, first_attribute (drop place bytes))) →
    AllByRecursion (IsInside bytes)
    (cond whole
    ((place, first_attribute (drop place bytes)) ∷ walk_up_to most (next_place place bytes) bytes)
    [])) [
      | true ↦ λ within. (within refl, rest)
      | false ↦ λ within. tt
    ] first

-- each attribute that counts is within
pub visible-within : (bytes : List ℕ) → AllByRecursion (IsInside bytes) (visible bytes)
unfolding visible
visible-within bytes =
    recursion_from_All (IsInside bytes) _
    (All-filter (is_visible (walk bytes)) (IsInside bytes) (walk bytes)
    (All-from_recursion (IsInside bytes) _
    (walk_up_to-within (length bytes) HEADER_LENGTH bytes (omega arith))))

-- the first attribute of a type is within
pub first_of-within : (kind : ℕ) (bytes : List ℕ)
    → IfSome (first_of kind (visible bytes)) (IsInside bytes)
first_of-within kind bytes =
    IfSome-find (IsInside bytes) (λ m. m.1.kind == kind) (visible bytes) (visible-within bytes)

-- what holds of one or else the other, where it holds of each
IfSome-option_or : {X : Type 0} (P : X → Type 0) (one other : Option X) → IfSome one P
    → IfSome other P → IfSome (option_or one other) P
IfSome-option_or P (Some x) other holds others = holds
IfSome-option_or P None other holds others = others

-- the attribute that decides is within
pub deciding_within : (bytes : List ℕ) (found : Option Member) → deciding bytes ≡ found
    → IfSome found (IsInside bytes)
deciding_within bytes found decides =
    subst (λ found. IfSome found (IsInside bytes)) decides
    (IfSome-option_or (IsInside bytes) (first_of MESSAGE_INTEGRITY_SHA256 (visible bytes))
    (first_of MESSAGE_INTEGRITY (visible bytes))
    (first_of-within MESSAGE_INTEGRITY_SHA256 bytes) (first_of-within MESSAGE_INTEGRITY bytes))

-- the bytes before the length field are in each longer piece
take-header : (place : ℕ) (bytes : List ℕ) → 20 ≤ place → take 2 (take place bytes) ≡ take 2 bytes
take-header zero bytes h = absurd (omega arith)
take-header (suc zero) bytes h = absurd (omega arith)
take-header (suc (suc p)) [] h = refl
take-header (suc (suc p)) (x ∷ []) h = refl
take-header (suc (suc p)) (x ∷ y ∷ bytes) h = refl

-- what is covered, in two pieces
pub covered_pieces : (bytes : List ℕ) (place count : ℕ) → 20 ≤ place
    → concat
    ((take 2 bytes ++ big_bytes 2 (place + 4 + count - 20)) ∷ take (place - 4) (drop 4 bytes) ∷ [])
    ≡ covered_bytes bytes place count
covered_pieces bytes place count behind =
    let front = take-header place bytes behind in
    let sum : 4 + (place - 4) ≡ place = omega arith in
    let back : drop 4 (take place bytes) ≡ take (place - 4) (drop 4 bytes) =
    rw sum at (drop-take 4 (place - 4) bytes) in
    rw (front, back, append-nil) refl

-- a test that holds of two texts if and only if they are equal is the test of their bytes one by
-- one
pub test_of_texts : (r : Bool) (xs ys : List ℕ) → IsTrue r ↔ (xs ≡ ys) → r ≡ pointwise nat_eq xs ys
test_of_texts r xs ys told = by r (pointwise nat_eq xs ys) refl told.0 told.1
  where
    by : (r b : Bool) → b ≡ pointwise nat_eq xs ys → (IsTrue r → xs ≡ ys) → (xs ≡ ys → IsTrue r)
        → r ≡ b
    by true true is there back = refl
    by true false is there back = absurd (other_text xs ys is (there refl))
    by false true is there back = back (same_text xs ys is)
    by false false is there back = refl

-- a test whether a value is the digest of the two pieces tells whether it is that of the attribute
pub is_digest-told : {r : Bool} {claimed made start : List ℕ} {place count : ℕ}
    (bytes key : List ℕ) (attribute : TypedValue) (algorithm : IntegrityAlgorithm)
    → integrity_algorithm attribute ≡ algorithm → HEADER_LENGTH ≤ place
    → length attribute.value ≡ digest_length (integrity_algorithm attribute)
    → claimed ≡ attribute.value → count ≡ length attribute.value
    → start ≡ take 2 bytes ++ big_bytes 2 (place + 4 + count - 20)
    → made ≡ digest algorithm key (concat (start ∷ take (place - 4) (drop 4 bytes) ∷ []))
    → IsTrue r ↔ (claimed ≡ made) → r ≡ is_digest bytes key (place, attribute)
is_digest-told {r} {claimed} {made} {start} {place} {count} bytes key attribute algorithm is
    behind whole claims counts starts makes told =
    let covers = covered_pieces bytes place (length attribute.value) behind in
    let long : (length attribute.value == digest_length (integrity_algorithm attribute)) ≡ true =
    grind (arith, nat_tests, whole) in
    let texts = test_of_texts r claimed made told in
    rw (long, is, sym covers, texts, claims, makes, starts, counts) refl
