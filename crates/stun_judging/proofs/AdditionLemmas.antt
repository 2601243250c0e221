-- What additions take, and why texts are refused.
use Rattle.std.proofs.Common.{[]}
use Rattle.std.proofs.Common.{◌≡◌, ℕ, ◌+◌, ◌*◌, ◌<◌, List, ◌∷◌, ◌++◌}
use Rattle.std.proofs.Common.{Result, Ok, Err, true, refl, arith, length-append, lt-ltb}
use Rattle.std.specs.Prelude.{length, map}
use Rattle.std.proofs.lemmas.List.Sums.{sum_by-append}
use Rattle.stun_base.specs.declared.wire.error.StunWriteError.{StunWriteError}
use Rattle.stun_base.specs.declared.wire.error.StunWriteError.TheVariants.{NotAllowed}
use Rattle.stun_base.specs.declared.wire.error.StunWriteError.TheVariants.{MessageIntegrityExists}
use Rattle.stun_base.specs.declared.wire.error.StunWriteError.TheVariants.{AttributeExists}
use Rattle.stun_base.specs.declared.wire.error.StunWriteError.TheVariants.{TooLarge, TooSmall}
use Rattle.stun_base.specs.declared.wire.error.StunWriteError.TheVariants.{IntegrityFailed}
use Rattle.stun_base.specs.declared.wire.error.StunWriteError.TheVariants.{OutOfMemory}
use Rattle.stun_types.specs.Attribute.{TypedValue, attribute_length}
use Rattle.stun_types.specs.PasswordAlgorithms.{integrity_of, password_algorithm_of}
use Rattle.stun_types.specs.PasswordAlgorithms.{spelled_entries, spelled_entry}
use Rattle.stun_types.specs.declared.attribute.password_algorithm.PasswordAlgorithmValue.{
  PasswordAlgorithmValue,
}
use Rattle.stun_types.specs.declared.attribute.password_algorithm.PasswordAlgorithmValue.TheVariants.{
  MD5,
  SHA256,
}
use Rattle.stun_judging.specs.AddedAttribute.{nonce, realm, username}
use Rattle.stun_judging.specs.Additions.{Addition, attribute, Page, growth_of}
use Rattle.stun_judging.specs.Additions.{growth, added_all, added_one, after, is_text_too_long}
use Rattle.stun_judging.specs.Outcome.{IsAdded}

-- what two lists take together
pub growth-append : (xs ys : List Addition) → growth (xs ++ ys) ≡ growth xs + growth ys
growth-append xs ys = sum_by-append growth_of xs ys

-- what one list leaves is what the next begins on
pub added_all-append : (xs ys : List Addition) (page : Page)
    → added_all (xs ++ ys) page ≡ after (added_all xs page) (added_all ys)
added_all-append [] ys page = refl
added_all-append (x ∷ xs) ys page =
    elim (added_one x page) as (λ (r : Result Page StunWriteError). after r (added_all (xs ++ ys))
    ≡ after (after r (added_all xs)) (added_all ys)) [
      | Ok next ↦ added_all-append xs ys next
      | Err reason ↦ refl
    ]

-- a text past its limit is refused, whatever the writer
pub too_long : (a : TypedValue) (page now : Page) (reserved reserved_now : ℕ)
    (reason : StunWriteError) → reason ≡ TooLarge → is_text_too_long a ≡ true
    → IsAdded (attribute a ∷ []) page reserved (Err reason) now reserved_now
unfolding added_one
too_long a page now reserved reserved_now NotAllowed is long =
    absurd (let h : NotAllowed ≡ TooLarge = is in cc)
too_long a page now reserved reserved_now MessageIntegrityExists is long =
    absurd (let h : MessageIntegrityExists ≡ TooLarge = is in cc)
too_long a page now reserved reserved_now (AttributeExists kind) is long =
    absurd (let h : AttributeExists kind ≡ TooLarge = is in cc)
too_long a page now reserved reserved_now TooLarge is long =
    record { outcome = rw long refl; kept = tt }
too_long a page now reserved reserved_now TooSmall is long =
    absurd (let h : TooSmall ≡ TooLarge = is in cc)
too_long a page now reserved reserved_now IntegrityFailed is long =
    absurd (let h : IntegrityFailed ≡ TooLarge = is in cc)
too_long a page now reserved reserved_now OutOfMemory is long =
    absurd (let h : OutOfMemory ≡ TooLarge = is in cc)

named_again : (algorithm : PasswordAlgorithmValue)
    → password_algorithm_of (integrity_of algorithm) ≡ algorithm
named_again MD5 = refl
named_again SHA256 = refl

-- each digest has one password algorithm
pub all_named_again : (list : List PasswordAlgorithmValue)
    → map password_algorithm_of (map integrity_of list) ≡ list
all_named_again [] = refl
all_named_again (algorithm ∷ list) = rw (named_again algorithm, all_named_again list) refl

-- texts past their limits
pub long_nonce : (text : List ℕ) → 763 < length text → is_text_too_long (nonce text) ≡ true
long_nonce text long = let h = lt-ltb 763 (length text) long in rw h refl

pub long_realm : (text : List ℕ) → 763 < length text → is_text_too_long (realm text) ≡ true
long_realm text long = let h = lt-ltb 763 (length text) long in rw h refl

pub long_username : (text : List ℕ) → 513 < length text → is_text_too_long (username text) ≡ true
long_username text long = let h = lt-ltb 513 (length text) long in rw h refl

-- a password algorithm takes four bytes
length-spelled_entry : (algorithm : PasswordAlgorithmValue) → length (spelled_entry algorithm) ≡ 4
length-spelled_entry MD5 = refl
length-spelled_entry SHA256 = refl

length-spelled_entries : (list : List PasswordAlgorithmValue)
    → length (spelled_entries list) ≡ 4 * length list
length-spelled_entries [] = refl
length-spelled_entries (algorithm ∷ list) =
    let first = length-spelled_entry algorithm in
    let others = length-spelled_entries list in
    let both = length-append (spelled_entry algorithm) (spelled_entries list) in
    omega (arith, first, others, both)

pub growth-list : (list : List PasswordAlgorithmValue)
    → attribute_length
    (length (spelled_entries (map password_algorithm_of (map integrity_of list))))
    ≡ 4 + 4 * length list
growth-list list =
    let same = all_named_again list in
    let four = length-spelled_entries list in
    rw (same, four) (omega arith)

-- what the choice of an algorithm from a list takes
