-- Of each type that hides what comes after it, at most one attribute counts.
use Rattle.std.proofs.Common.{◌≡◌, ℕ, zero, suc, ◌+◌, ◌≤◌, Bool, true, false, cond}
use Rattle.std.proofs.Common.{List, ◌∷◌, length, drop, refl, sym, ◌∙◌, ap, subst, arith}
use Rattle.std.specs.Prelude.{◌||◌, ◌==◌}
use Rattle.stun_base.specs.Attributes.{MESSAGE_INTEGRITY, MESSAGE_INTEGRITY_SHA256, FINGERPRINT}
use Rattle.stun_base.specs.Header.{HEADER_LENGTH}
use Rattle.stun_types.specs.Attribute.{has_attribute, first_attribute}
use Rattle.stun_types.specs.Visible.{before, is_visible, has_kind, of_kind}
use Rattle.stun_types.specs.Visible.{visible}
use Rattle.stun_types.specs.Walk.{Member, next_place, walk}
use Rattle.stun_types.proofs.VisibleLemmas.{visible_from, HasSeenKinds, is_visible_after}
use Rattle.stun_types.proofs.VisibleLemmas.{HasSeenKinds-none, HasSeenKinds-step}
use Rattle.stun_types.proofs.VisibleLemmas.{has_kind-append, visible_from-end}
use Rattle.stun_types.proofs.VisibleLemmas.{visible_from-header, visible_from-step}
use Rattle.stun_types.proofs.WalkLemmas.{before-step, has_attribute-past_end}

-- one more member of a type, where none may be after another
bound : (shown same seen : Bool) (m : Member) (others : List Member)
    → length others ≤ cond (seen || same) 0 1
    → (shown ≡ true → same ≡ true → seen ≡ false)
    → length (cond shown (cond same (m ∷ others) others) others) ≤ cond seen 0 1
bound false false false m others few first = few
bound false false true m others few first = few
bound false true false m others few first = omega (arith, few)
bound false true true m others few first = few
bound true false false m others few first = few
bound true false true m others few first = few
bound true true false m others few first = omega (arith, few)
bound true true true m others few first = let no : true ≡ false = first refl refl in cc

-- a member of this type counts only where none of the type is before it
abbrev pub CountsFirst : ℕ → List ℕ → Type 0
CountsFirst kind bytes = (m : Member) → is_visible (walk bytes) m ≡ true → (m.1.kind == kind) ≡ true
    → has_kind kind (before m.0 (walk bytes)) ≡ false

-- from a place on, at most one of such a type counts, and none where one is before
once_from : (kind most place : ℕ) (bytes : List ℕ) {integrity integrity_sha256 fingerprint : Bool}
    → CountsFirst kind bytes
    → HasSeenKinds place integrity integrity_sha256 fingerprint bytes → length bytes ≤ place + most
    → length (of_kind kind (visible_from place bytes))
    ≤ cond (has_kind kind (before place (walk bytes))) 0 1
once_from kind zero place bytes first passed past =
    rw (visible_from-end place bytes (has_attribute-past_end place bytes (omega (arith, past))))
    (omega arith)
once_from kind (suc most) place bytes first passed past =
    let m : Member = (place, first_attribute (drop place bytes)) in
    let rest = visible_from (next_place place bytes) bytes in
    elim (has_attribute (drop place bytes)) as (λ whole. has_attribute (drop place bytes) ≡ whole
    → length (of_kind kind (visible_from place bytes))
    ≤ cond (has_kind kind (before place (walk bytes))) 0 1) [
      | true ↦ λ whole.
          let more =
          once_from kind most (next_place place bytes) bytes first (HasSeenKinds-step passed whole)
          (omega (arith, past)) in
          let seen : has_kind kind (before (next_place place bytes) (walk bytes))
          ≡ (has_kind kind (before place (walk bytes)) || (m.1.kind == kind)) =
          ap (has_kind kind) (before-step place bytes passed.is_place whole)
          ∙ has_kind-append kind (before place (walk bytes)) m in
          let few : length (of_kind kind rest)
          ≤ cond (has_kind kind (before place (walk bytes)) || (m.1.kind == kind)) 0 1 =
          subst (λ s. length (of_kind kind rest) ≤ cond s 0 1) seen more in
          let split : (shown : Bool)
          → of_kind kind (cond shown (m ∷ rest) rest)
          ≡ cond shown (cond (m.1.kind == kind) (m ∷ of_kind kind rest) (of_kind kind rest))
          (of_kind kind rest) =
          λ shown.
          elim shown as (λ s. of_kind kind (cond s (m ∷ rest) rest)
          ≡ cond s (cond (m.1.kind == kind) (m ∷ of_kind kind rest) (of_kind kind rest))
          (of_kind kind rest)) [ true ↦ refl | false ↦ refl ] in
          subst (λ ms. length ms ≤ cond (has_kind kind (before place (walk bytes))) 0 1)
          (sym (ap (of_kind kind) (visible_from-step place bytes whole)
          ∙ split (is_visible (walk bytes) m)))
          (bound (is_visible (walk bytes) m) (m.1.kind == kind)
          (has_kind kind (before place (walk bytes))) m (of_kind kind rest) few (first m))
      | false ↦ λ none. rw (visible_from-end place bytes none) (omega arith)
    ] refl

-- at most one of such a type counts
once : (kind : ℕ) (bytes : List ℕ) → CountsFirst kind bytes
    → length (of_kind kind (visible bytes)) ≤ 1
once kind bytes first =
    let from =
    once_from kind (length bytes) HEADER_LENGTH bytes first (HasSeenKinds-none bytes)
    (omega arith) in
    let seen : (b : Bool) → cond b 0 1 ≤ 1 =
    λ b. elim b as (λ s. cond s 0 1 ≤ 1) [ true ↦ omega arith | false ↦ omega arith ] in
    let few =
    subst (λ ms. length (of_kind kind ms)
    ≤ cond (has_kind kind (before HEADER_LENGTH (walk bytes))) 0 1) (visible_from-header bytes)
    from in
    omega (arith, few, seen (has_kind kind (before HEADER_LENGTH (walk bytes))))

integrity_first : (i s f : Bool) (kind : ℕ) → is_visible_after i s f kind ≡ true
    → (kind == MESSAGE_INTEGRITY) ≡ true → i ≡ false
integrity_first false s f kind shown same = refl
integrity_first true s f kind shown same =
    let is : kind ≡ MESSAGE_INTEGRITY = grind (arith, same) in
    let hidden : (f s : Bool) → is_visible_after true s f MESSAGE_INTEGRITY ≡ false =
    λ f s. elim f as (λ f. is_visible_after true s f MESSAGE_INTEGRITY ≡ false) [
      | true ↦ refl
      | false ↦ elim s as (λ s. is_visible_after true s false MESSAGE_INTEGRITY ≡ false)
          [ true ↦ refl | false ↦ refl ]
    ] in
    let none : true ≡ false = sym shown ∙ (ap (is_visible_after true s f) is ∙ hidden f s) in cc

integrity_sha256_first : (i s f : Bool) (kind : ℕ) → is_visible_after i s f kind ≡ true
    → (kind == MESSAGE_INTEGRITY_SHA256) ≡ true → s ≡ false
integrity_sha256_first i false f kind shown same = refl
integrity_sha256_first i true f kind shown same =
    let is : kind ≡ MESSAGE_INTEGRITY_SHA256 = grind (arith, same) in
    let hidden : (f : Bool) → is_visible_after i true f MESSAGE_INTEGRITY_SHA256 ≡ false =
    λ f. elim f as (λ f. is_visible_after i true f MESSAGE_INTEGRITY_SHA256 ≡ false)
    [ true ↦ refl | false ↦ refl ] in
    let none : true ≡ false = sym shown ∙ (ap (is_visible_after i true f) is ∙ hidden f) in cc

fingerprint_first : (i s f : Bool) (kind : ℕ) → is_visible_after i s f kind ≡ true → f ≡ false
fingerprint_first i s false kind shown = refl
fingerprint_first i s true kind shown = cc

pub once-integrity : (bytes : List ℕ) → length (of_kind MESSAGE_INTEGRITY (visible bytes)) ≤ 1
once-integrity bytes =
    once MESSAGE_INTEGRITY bytes (λ m shown same. integrity_first _ _ _ m.1.kind shown same)

pub once-integrity_sha256 : (bytes : List ℕ)
    → length (of_kind MESSAGE_INTEGRITY_SHA256 (visible bytes)) ≤ 1
once-integrity_sha256 bytes =
    once MESSAGE_INTEGRITY_SHA256 bytes
    (λ m shown same. integrity_sha256_first _ _ _ m.1.kind shown same)

pub once-fingerprint : (bytes : List ℕ) → length (of_kind FINGERPRINT (visible bytes)) ≤ 1
once-fingerprint bytes =
    once FINGERPRINT bytes (λ m shown same. fingerprint_first _ _ _ m.1.kind shown)
