-- Where memory is missing for one addition, and for one list after another.
use Rattle.std.proofs.Common.{[]}
use Rattle.std.proofs.Common.{◌≡◌, ℕ, ◌+◌, ◌<◌, ◌≤◌, Bool, true, false, true≢false}
use Rattle.std.proofs.Common.{List, ◌∷◌, ◌++◌, Option, Some, None, Result, Ok, Err}
use Rattle.std.proofs.Common.{refl, sym, ◌∙◌, ap, subst, arith, append_assoc, inl, inr}
use Rattle.std.specs.Prelude.{◌-◌, ⊤, IsOk, OnOk, if◌then◌else◌, length, nat_lt}
use Rattle.std.proofs.lemmas.Bool.{cases_lt}
use Rattle.std.proofs.lemmas.List.Sums.{sum_by-cons}
use Rattle.stun_base.specs.declared.wire.error.StunWriteError.{StunWriteError}
use Rattle.stun_base.specs.declared.wire.error.StunWriteError.TheVariants.{NotAllowed}
use Rattle.stun_base.specs.declared.wire.error.StunWriteError.TheVariants.{MessageIntegrityExists}
use Rattle.stun_base.specs.declared.wire.error.StunWriteError.TheVariants.{AttributeExists}
use Rattle.stun_base.specs.declared.wire.error.StunWriteError.TheVariants.{TooLarge, TooSmall}
use Rattle.stun_base.specs.declared.wire.error.StunWriteError.TheVariants.{IntegrityFailed}
use Rattle.stun_base.specs.declared.wire.error.StunWriteError.TheVariants.{OutOfMemory}
use Rattle.stun_base.specs.Algorithm.{digest_length}
use Rattle.stun_base.specs.declared.keys.algorithm.IntegrityAlgorithm.{IntegrityAlgorithm}
use Rattle.stun_types.specs.Attribute.{TypedValue, attribute_length}
use Rattle.stun_types.specs.Visible.{has_kind}
use Rattle.stun_types.specs.Walk.{walk}
use Rattle.stun_types.specs.Writing.{RefusedBy, attribute_refusal, has_integrity}
use Rattle.stun_types.specs.Writing.{is_set_apart, length_with, max_length, signing_refusal}
use Rattle.stun_types.specs.Writing.{size_refusal, with_attribute, with_integrity}
use Rattle.stun_judging.specs.Additions.{Addition, Page, UnlessMemory, WantsMemory, added_all}
use Rattle.stun_judging.specs.Additions.{added_one, after, growth, attribute, growth_of, integrity}
use Rattle.stun_judging.specs.Additions.{is_text_too_long, page_in, addition_refusal}
use Rattle.stun_judging.specs.Additions.{page_unless_refused, with_addition, written_page}
use Rattle.stun_judging.specs.Outcome.{IsAdded, IsOutcome, outcome_of}
use Rattle.stun_judging.proofs.AdditionLemmas.{added_all-append, growth-append}

-- memory that is missing for a list is missing for a longer one
pub wants_longer : (xs ys : List Addition) (page : Page) (reserved : ℕ)
    → WantsMemory xs page reserved → WantsMemory (xs ++ ys) page reserved
wants_longer xs ys page reserved w = record {
  first = w.first;
  others = w.others ++ ys;
  in_order = ap (λ list. list ++ ys) w.in_order ∙ append_assoc w.first w.others ys;
  not_refused = w.not_refused;
  not_reserved = w.not_reserved;
}

-- memory that is missing after a list is missing for both
pub wants_later : (xs ys : List Addition) (page next : Page) (reserved left : ℕ)
    → Ok next ≡ added_all xs page → reserved ≤ left + growth xs
    → WantsMemory ys next left → WantsMemory (xs ++ ys) page reserved
wants_later xs ys page next reserved left done kept w = record {
  first = xs ++ w.first;
  others = w.others;
  in_order = ap (λ list. xs ++ list) w.in_order ∙ sym (append_assoc xs w.first w.others);
  not_refused =
      subst IsOk
      (ap (λ (r : Result Page StunWriteError). after r (added_all w.first)) done
      ∙ sym (added_all-append xs w.first page)) w.not_refused;
  not_reserved = omega (arith, growth-append xs w.first, kept, w.not_reserved);
}

-- an allocation fails for one addition that is not refused and takes more than is reserved
pub wants_one : (x : Addition) (page next : Page) (reserved : ℕ) → added_one x page ≡ Ok next
    → reserved < growth_of x → WantsMemory (x ∷ []) page reserved
wants_one x page next reserved accepted short = record {
  first = x ∷ [];
  others = [];
  in_order = refl;
  not_refused =
      subst IsOk
      (sym (ap (λ (r : Result Page StunWriteError). after r (added_all [])) accepted)) refl;
  not_reserved = omega (arith, sum_by-cons growth_of x [], short);
}

-- what follows where an answer is as one says, and where an allocation fails
mapped : {V : Type 0} (result : Result V StunWriteError) {P Q R S : Type 0} → (P → R) → (Q → S)
    → UnlessMemory result P Q → UnlessMemory result R S
mapped (Ok value) f g h = f h
mapped (Err NotAllowed) f g h = f h
mapped (Err MessageIntegrityExists) f g h = f h
mapped (Err (AttributeExists kind)) f g h = f h
mapped (Err TooLarge) f g h = f h
mapped (Err TooSmall) f g h = f h
mapped (Err IntegrityFailed) f g h = f h
mapped (Err OutOfMemory) f g h = g h

-- where a list is refused, a longer one is
pub refused_first : (xs ys : List Addition) (page now end : Page) (reserved : ℕ)
    (reason : StunWriteError)
    → IsOutcome xs page reserved (Err reason) now
    → IsOutcome (xs ++ ys) page reserved (Err reason) end
refused_first xs ys page now end reserved reason h =
    mapped {V = Unit {0}} (Err reason)
    (λ is. ap (λ (r : Result Page StunWriteError). after r (added_all ys)) is
    ∙ sym (added_all-append xs ys page))
    (wants_longer xs ys page reserved) h

-- what comes after a list that was added
pub outcome_after : (xs ys : List Addition) (page next end : Page) (reserved left : ℕ)
    (result : Result (Unit {0}) StunWriteError)
    → Ok next ≡ added_all xs page → reserved ≤ left + growth xs → IsOutcome ys next left result end
    → IsOutcome (xs ++ ys) page reserved result end
outcome_after xs ys page next end reserved left result done kept h =
    mapped result
    (λ is. is ∙ (ap (λ (r : Result Page StunWriteError). after r (added_all ys)) done
    ∙ sym (added_all-append xs ys page)))
    (wants_later xs ys page next reserved left done kept) h

-- so it is of lists that say what they leave reserved
pub added_after : (xs ys : List Addition) (page next end : Page) (reserved left last : ℕ)
    (result : Result (Unit {0}) StunWriteError)
    → Ok next ≡ added_all xs page → reserved ≤ left + growth xs
    → IsAdded ys next left result end last → IsAdded (xs ++ ys) page reserved result end last
added_after xs ys page next end reserved left last (Ok value) done kept h = record {
  outcome = outcome_after xs ys page next end reserved left (Ok value) done kept h.outcome;
  kept = omega (arith, kept, h.kept, growth-append xs ys);
}
added_after xs ys page next end reserved left last (Err reason) done kept h = record {
  outcome = outcome_after xs ys page next end reserved left (Err reason) done kept h.outcome;
  kept = tt;
}

pub added_refused : (xs ys : List Addition) (page now end : Page) (reserved left last : ℕ)
    (reason : StunWriteError)
    → IsAdded xs page reserved (Err reason) now left
    → IsAdded (xs ++ ys) page reserved (Err reason) end last
added_refused xs ys page now end reserved left last reason h =
    record { outcome = refused_first xs ys page now end reserved reason h.outcome; kept = tt }

-- ---- one addition

-- what is refused by the first reason that applies is refused by none where an allocation fails
pub if_not : (b : Bool) (reason : StunWriteError) (rest : Option StunWriteError)
    → (reason ≡ OutOfMemory → ⊥) → (rest ≡ Some OutOfMemory → ⊥)
    → (if b then Some reason else rest) ≡ Some OutOfMemory → ⊥
if_not true reason rest not others is = not (let h : Some reason ≡ Some OutOfMemory = is in cc)
if_not false reason rest not others is = others is

-- no refusal of an addition is a failed allocation
pub size_not_memory : (message : List ℕ) (room n : ℕ)
    → size_refusal message room n ≡ Some OutOfMemory → ⊥
size_not_memory message room n =
    if_not (nat_lt max_length (length_with message n)) TooLarge _ (λ is. cc)
    (if_not (nat_lt room (attribute_length n)) TooSmall None (λ is. cc) (λ is. cc))

pub signing_not_memory : (message : List ℕ) (room : ℕ) (algorithm : IntegrityAlgorithm)
    → signing_refusal message room algorithm ≡ Some OutOfMemory → ⊥
signing_not_memory message room algorithm =
    if_not (has_integrity message) MessageIntegrityExists _ (λ is. cc)
    (size_not_memory message room (digest_length algorithm))

pub attribute_not_memory : (message : List ℕ) (room kind n : ℕ)
    → attribute_refusal message room kind n ≡ Some OutOfMemory → ⊥
attribute_not_memory message room kind n =
    if_not (is_set_apart kind) NotAllowed _ (λ is. cc)
    (if_not (has_integrity message) MessageIntegrityExists _ (λ is. cc)
    (if_not (has_kind kind (walk message)) (AttributeExists (record { 0 = kind })) _ (λ is. cc)
    (size_not_memory message room n)))

refusal_not_memory : (x : Addition) (page : Page) → addition_refusal x page ≡ Some OutOfMemory → ⊥
refusal_not_memory (attribute a) page =
    if_not (is_text_too_long a) TooLarge _ (λ is. cc)
    (attribute_not_memory page.bytes page.room a.kind (length a.value))
refusal_not_memory (integrity algorithm key) page =
    signing_not_memory page.bytes page.room algorithm

-- what one addition leaves
abbrev left_by : Addition → Page → Page
left_by x page = record { bytes = with_addition x page.bytes; room = page.room - growth_of x }

refused_by : (x : Addition) (page now : Page) (reserved : ℕ) (reason : StunWriteError)
    → addition_refusal x page ≡ Some reason → IsOutcome (x ∷ []) page reserved (Err reason) now
unfolding added_one
refused_by x page now reserved NotAllowed is =
    sym (ap (λ o. after (page_unless_refused o (left_by x page)) (added_all [])) is)
refused_by x page now reserved MessageIntegrityExists is =
    sym (ap (λ o. after (page_unless_refused o (left_by x page)) (added_all [])) is)
refused_by x page now reserved (AttributeExists kind) is =
    sym (ap (λ o. after (page_unless_refused o (left_by x page)) (added_all [])) is)
refused_by x page now reserved TooLarge is =
    sym (ap (λ o. after (page_unless_refused o (left_by x page)) (added_all [])) is)
refused_by x page now reserved TooSmall is =
    sym (ap (λ o. after (page_unless_refused o (left_by x page)) (added_all [])) is)
refused_by x page now reserved IntegrityFailed is =
    sym (ap (λ o. after (page_unless_refused o (left_by x page)) (added_all [])) is)
refused_by x page now reserved OutOfMemory is = absurd (refusal_not_memory x page is)

-- only an allocation fails, where less than it takes is reserved
wanting : (x : Addition) (page now : Page) (reserved : ℕ) → addition_refusal x page ≡ None
    → reserved < growth_of x → IsOutcome (x ∷ []) page reserved (Err OutOfMemory) now
unfolding added_one
wanting x page now reserved is short =
    wants_one x page (left_by x page) reserved
    (ap (λ o. page_unless_refused o (left_by x page)) is) short

not_reserved : (n reserved : ℕ) (reason : StunWriteError)
    → (n ≤ reserved → IsOk {T = Unit {0}} (Err reason)) → reserved < n
not_reserved n reserved reason reserves = elim (cases_lt reserved n) as (λ _. reserved < n) [
  | inl short ↦ short
  | inr enough ↦ absurd (true≢false (sym (reserves enough)))
]

-- an answer that is the refusal, if there is one; else only an allocation fails, where less than it
-- takes is reserved
pub by_refusal : (x : Addition) (page now : Page) (reserved : ℕ)
    (result : Result (Unit {0}) StunWriteError) (refusal : Option StunWriteError)
    → addition_refusal x page ≡ refusal → RefusedBy refusal result
    → OnOk result (now ≡ left_by x page)
    → (refusal ≡ None → growth_of x ≤ reserved → IsOk result)
    → IsOutcome (x ∷ []) page reserved result now
unfolding added_one
by_refusal x page now reserved (Ok value) (Some reason) is refused done reserves =
    absurd (let h : Ok value ≡ Err reason = refused in cc)
by_refusal x page now reserved (Ok value) None is refused done reserves =
    ap (λ (p : Page). Ok p) done
    ∙ sym (ap (λ o. after (page_unless_refused o (left_by x page)) (added_all [])) is)
by_refusal x page now reserved (Err reason) (Some other) is refused done reserves =
    let same : reason ≡ other = let h : Err reason ≡ Err other = refused in cc in
    refused_by x page now reserved reason (is ∙ ap (λ r. Some r) (sym same))
by_refusal x page now reserved (Err reason) None is refused done reserves =
    subst (λ r. IsOutcome (x ∷ []) page reserved (Err r) now) (sym refused)
    (wanting x page now reserved is (not_reserved (growth_of x) reserved reason (reserves refl)))

-- the page that a success leaves
page_is : {W : Type 0} (bytes : W → List ℕ) (room : W → ℕ) (x : Addition) (before now : W)
    (result : Result (Unit {0}) StunWriteError)
    → OnOk result (bytes now ≡ with_addition x (bytes before))
    → OnOk result (room now + growth_of x ≡ room before)
    → OnOk result (page_in bytes room now ≡ left_by x (page_in bytes room before))
page_is bytes room x before now (Ok value) written rooms =
    let n : room now ≡ room before - growth_of x = omega (arith, rooms) in
    λ i. record { bytes = written i; room = n i }
page_is bytes room x before now (Err reason) written rooms = tt

-- the outcome of adding an attribute within its limit
pub added_by : {W : Type 0} (bytes : W → List ℕ) (room : W → ℕ) (a : TypedValue) (before now : W)
    (reserved left : ℕ) (result : Result (Unit {0}) StunWriteError)
    → is_text_too_long a ≡ false
    → RefusedBy (attribute_refusal (bytes before) (room before) a.kind (length a.value)) result
    → OnOk result (bytes now ≡ with_attribute (bytes before) a)
    → OnOk result (room now + attribute_length (length a.value) ≡ room before)
    → OnOk result (reserved ≤ left + attribute_length (length a.value))
    → (attribute_refusal (bytes before) (room before) a.kind (length a.value) ≡ None
    → attribute_length (length a.value) ≤ reserved → IsOk result)
    → IsAdded (attribute a ∷ []) (page_in bytes room before) reserved result
    (page_in bytes room now) left
added_by bytes room a before now reserved left result short refused written rooms kept reserves =
    record {
      outcome =
          by_refusal (attribute a) (page_in bytes room before) (page_in bytes room now) reserved
          result (attribute_refusal (bytes before) (room before) a.kind (length a.value))
          (ap (λ b. if b then Some TooLarge
          else attribute_refusal (bytes before) (room before) a.kind (length a.value)) short)
          refused
          (page_is bytes room (attribute a) before now result written rooms) reserves;
      kept = kept_is a reserved left result kept;
    }
  where
    kept_is : (a : TypedValue) (reserved left : ℕ) (result : Result (Unit {0}) StunWriteError)
        → OnOk result (reserved ≤ left + attribute_length (length a.value))
        → OnOk result (reserved ≤ left + growth (attribute a ∷ []))
    kept_is a reserved left (Ok value) kept =
        omega (arith, kept, sum_by-cons growth_of (attribute a) [])
    kept_is a reserved left (Err reason) kept = tt

-- ---- one list after another, as calls answer

-- the first list is refused
pub refused_at_first : (list xs ys : List Addition) (page now end : Page) (reserved left last : ℕ)
    (result : Result (Unit {0}) StunWriteError) (reason : StunWriteError)
    → result ≡ Err reason → list ≡ xs ++ ys → IsAdded xs page reserved (Err reason) now left
    → IsAdded list page reserved result end last
refused_at_first list xs ys page now end reserved left last result reason is same h =
    subst (λ r. IsAdded list page reserved r end last) (sym is)
    (subst (λ all. IsAdded all page reserved (Err reason) end last) (sym same)
    (added_refused xs ys page now end reserved left last reason h))

-- the first list is added, and then the second has an outcome
pub then_added : (list xs ys : List Addition) (page next end : Page) (reserved left last : ℕ)
    (value : Unit {0}) (result : Result (Unit {0}) StunWriteError)
    → list ≡ xs ++ ys → IsAdded xs page reserved (Ok value) next left
    → IsAdded ys next left result end last → IsAdded list page reserved result end last
then_added list xs ys page next end reserved left last value result same first h =
    subst (λ all. IsAdded all page reserved result end last) (sym same)
    (added_after xs ys page next end reserved left last result first.outcome first.kept h)

-- so it is of outcomes
pub refused_outcome : (list xs ys : List Addition) (page now end : Page) (reserved left : ℕ)
    (result : Result (Unit {0}) StunWriteError) (reason : StunWriteError)
    → result ≡ Err reason → list ≡ xs ++ ys → IsAdded xs page reserved (Err reason) now left
    → IsOutcome list page reserved result end
refused_outcome list xs ys page now end reserved left result reason is same h =
    subst (λ r. IsOutcome list page reserved r end) (sym is)
    (subst (λ all. IsOutcome all page reserved (Err reason) end) (sym same)
    (refused_first xs ys page now end reserved reason h.outcome))

pub then_outcome : (list xs ys : List Addition) (page next end : Page) (reserved left : ℕ)
    (value : Unit {0}) (result : Result (Unit {0}) StunWriteError)
    → list ≡ xs ++ ys → IsAdded xs page reserved (Ok value) next left
    → IsOutcome ys next left result end → IsOutcome list page reserved result end
then_outcome list xs ys page next end reserved left value result same first h =
    subst (λ all. IsOutcome all page reserved result end) (sym same)
    (outcome_after xs ys page next end reserved left result first.outcome first.kept h)

-- the outcome of adding the integrity attribute
pub signed_by : {W : Type 0} (bytes : W → List ℕ) (room : W → ℕ) (algorithm : IntegrityAlgorithm)
    (key : List ℕ) (before now : W) (reserved : ℕ) (result : Result (Unit {0}) StunWriteError)
    → RefusedBy (signing_refusal (bytes before) (room before) algorithm) result
    → OnOk result (bytes now ≡ with_integrity (bytes before) algorithm key)
    → OnOk result (room now + attribute_length (digest_length algorithm) ≡ room before)
    → (signing_refusal (bytes before) (room before) algorithm ≡ None
    → attribute_length (digest_length algorithm) ≤ reserved → IsOk result)
    → IsOutcome (integrity algorithm key ∷ []) (page_in bytes room before) reserved result
    (page_in bytes room now)
signed_by bytes room algorithm key before now reserved result refused written rooms reserves =
    by_refusal (integrity algorithm key) (page_in bytes room before) (page_in bytes room now)
    reserved result (signing_refusal (bytes before) (room before) algorithm) refl refused
    (page_is bytes room (integrity algorithm key) before now result written rooms) reserves

-- ---- additions, and then what is no addition

-- the additions are refused
refused_then : (xs ys : List Addition) (page now end : Page) (reserved : ℕ)
    (reason : StunWriteError) (next : Page → Result Page StunWriteError)
    → IsOutcome xs page reserved (Err reason) now
    → UnlessMemory {V = Unit {0}} (Err reason)
    (outcome_of {V = Unit {0}} (Err reason) end ≡ after (added_all xs page) next)
    (WantsMemory (xs ++ ys) page reserved)
refused_then xs ys page now end reserved reason next h =
    mapped {V = Unit {0}} (Err reason)
    (λ is. ap (λ (r : Result Page StunWriteError). after r next) is)
    (wants_longer xs ys page reserved) h

pub refused_before : (xs ys : List Addition) (page now end : Page) (reserved left : ℕ)
    (result : Result (Unit {0}) StunWriteError) (reason : StunWriteError)
    (next : Page → Result Page StunWriteError)
    → result ≡ Err reason → IsAdded xs page reserved (Err reason) now left
    → UnlessMemory result (outcome_of result end ≡ after (added_all xs page) next)
    (WantsMemory (xs ++ ys) page reserved)
refused_before xs ys page now end reserved left result reason next is h =
    subst (λ r. UnlessMemory r (outcome_of r end ≡ after (added_all xs page) next)
    (WantsMemory (xs ++ ys) page reserved)) (sym is)
    (refused_then xs ys page now end reserved reason next h.outcome)

-- they are added, and then there is an outcome
pub followed : (xs ys : List Addition) (page p end : Page) (reserved left : ℕ) (value : Unit {0})
    (result : Result (Unit {0}) StunWriteError) (next : Page → Result Page StunWriteError)
    → IsAdded xs page reserved (Ok value) p left
    → UnlessMemory result (outcome_of result end ≡ next p) (WantsMemory ys p left)
    → UnlessMemory result (outcome_of result end ≡ after (added_all xs page) next)
    (WantsMemory (xs ++ ys) page reserved)
followed xs ys page p end reserved left value result next first h =
    mapped result
    (λ is. is ∙ ap (λ (r : Result Page StunWriteError). after r next) first.outcome)
    (wants_later xs ys page p reserved left first.outcome first.kept) h

-- the same of what follows for an equal value
pub followed_as : {X : Type 0} (x y : X) (ys : X → List Addition)
    (next : X → Page → Result Page StunWriteError) (xs : List Addition) (page p end : Page)
    (reserved left : ℕ) (value : Unit {0}) (result : Result (Unit {0}) StunWriteError) → x ≡ y
    → IsAdded xs page reserved (Ok value) p left
    → UnlessMemory result (outcome_of result end ≡ next x p) (WantsMemory (ys x) p left)
    → UnlessMemory result (outcome_of result end ≡ after (added_all xs page) (next y))
    (WantsMemory (xs ++ ys y) page reserved)
followed_as x y ys next xs page p end reserved left value result is first h =
    followed xs (ys y) page p end reserved left value result (next y) first
    (subst (λ z. UnlessMemory result (outcome_of result end ≡ next z p)
    (WantsMemory (ys z) p left)) is h)

-- what is added for a value is added for an equal one
pub added_as : {X : Type 0} (ys : X → List Addition) (x y : X) (page now : Page)
    (reserved left : ℕ) (result : Result (Unit {0}) StunWriteError) → x ≡ y
    → IsAdded (ys x) page reserved result now left → IsAdded (ys y) page reserved result now left
added_as ys x y page now reserved left result is h =
    subst (λ z. IsAdded (ys z) page reserved result now left) is h

-- a list of algorithms is added with the choice from it
-- ---- where no allocation is refused

-- what is refused by no reason but want of memory succeeds or is refused
not_wanting : (reason : StunWriteError) → (reason ≡ OutOfMemory → ⊥)
    → UnlessMemory {V = Unit {0}} (Err reason) ⊤ ⊥
not_wanting NotAllowed other = tt
not_wanting MessageIntegrityExists other = tt
not_wanting (AttributeExists kind) other = tt
not_wanting TooLarge other = tt
not_wanting TooSmall other = tt
not_wanting IntegrityFailed other = tt
not_wanting OutOfMemory other = other refl

granted_by : {G : Type 0} (result : Result (Unit {0}) StunWriteError)
    (refusal : Option StunWriteError) → (refusal ≡ Some OutOfMemory → ⊥)
    → RefusedBy refusal result → (G → refusal ≡ None → IsOk result)
    → G → UnlessMemory result ⊤ ⊥
granted_by (Ok value) refusal other refused succeeds granted = tt
granted_by (Err reason) None other refused succeeds granted =
    absurd (true≢false (sym (succeeds granted refl)))
granted_by (Err reason) (Some first) other refused succeeds granted =
    let same : reason ≡ first = let h : Err reason ≡ Err first = refused in cc in
    not_wanting reason (λ is. other (ap (λ r. Some r) (sym same ∙ is)))

-- so it is of an attribute, and of the integrity attribute
pub attribute_granted : {G : Type 0} (message : List ℕ) (room kind n : ℕ)
    (result : Result (Unit {0}) StunWriteError)
    → RefusedBy (attribute_refusal message room kind n) result
    → (G → attribute_refusal message room kind n ≡ None → IsOk result)
    → G → UnlessMemory result ⊤ ⊥
attribute_granted message room kind n result =
    granted_by result (attribute_refusal message room kind n)
    (attribute_not_memory message room kind n)

pub signing_granted : {G : Type 0} (message : List ℕ) (room : ℕ) (algorithm : IntegrityAlgorithm)
    (result : Result (Unit {0}) StunWriteError)
    → RefusedBy (signing_refusal message room algorithm) result
    → (G → signing_refusal message room algorithm ≡ None → IsOk result)
    → G → UnlessMemory result ⊤ ⊥
signing_granted message room algorithm result =
    granted_by result (signing_refusal message room algorithm)
    (signing_not_memory message room algorithm)

-- what holds unless memory is wanted holds where it is not
pub where_granted : {V P : Type 0} (Q : Type 0) (result : Result V StunWriteError)
    → UnlessMemory result P Q → UnlessMemory result ⊤ ⊥ → P
where_granted Q (Ok value) h granted = h
where_granted Q (Err NotAllowed) h granted = h
where_granted Q (Err MessageIntegrityExists) h granted = h
where_granted Q (Err (AttributeExists kind)) h granted = h
where_granted Q (Err TooLarge) h granted = h
where_granted Q (Err TooSmall) h granted = h
where_granted Q (Err IntegrityFailed) h granted = h
where_granted Q (Err OutOfMemory) h granted = absurd granted

-- what may be signed is not refused
pub signable_refused : (V Q : Type 0) (reason : StunWriteError)
    (page : Result Page StunWriteError)
    → UnlessMemory {V = Unit {0}} (Err reason) (Err reason ≡ page) Q → IsOk page
    → UnlessMemory {V = V} (Err reason) (IsOk {T = V} (Err reason)) ⊤
signable_refused V Q NotAllowed page h ok = subst IsOk (sym h) ok
signable_refused V Q MessageIntegrityExists page h ok = subst IsOk (sym h) ok
signable_refused V Q (AttributeExists kind) page h ok = subst IsOk (sym h) ok
signable_refused V Q TooLarge page h ok = subst IsOk (sym h) ok
signable_refused V Q TooSmall page h ok = subst IsOk (sym h) ok
signable_refused V Q IntegrityFailed page h ok = subst IsOk (sym h) ok
signable_refused V Q OutOfMemory page h ok = tt

pub signable_answer : {W : Type 0} (Q : Type 0) (bytes : W → List ℕ) (room : W → ℕ)
    (result : Result W StunWriteError) (page : Result Page StunWriteError)
    → UnlessMemory result (written_page bytes room result ≡ page) Q → IsOk page
    → UnlessMemory result (IsOk result) ⊤
signable_answer Q bytes room (Ok writer) page h ok = refl
signable_answer Q bytes room (Err NotAllowed) page h ok = subst IsOk (sym h) ok
signable_answer Q bytes room (Err MessageIntegrityExists) page h ok = subst IsOk (sym h) ok
signable_answer Q bytes room (Err (AttributeExists kind)) page h ok = subst IsOk (sym h) ok
signable_answer Q bytes room (Err TooLarge) page h ok = subst IsOk (sym h) ok
signable_answer Q bytes room (Err TooSmall) page h ok = subst IsOk (sym h) ok
signable_answer Q bytes room (Err IntegrityFailed) page h ok = subst IsOk (sym h) ok
signable_answer Q bytes room (Err OutOfMemory) page h ok = tt
