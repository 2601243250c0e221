-- A message grows by what is added to it.
use Rattle.std.proofs.Common.{[]}
use Rattle.std.proofs.Common.{◌≡◌, ℕ, ◌+◌, ◌<◌, ◌≤◌, true≢false, List}
use Rattle.std.proofs.Common.{◌∷◌, ◌++◌, length, Option, Some, None, Result, Ok}
use Rattle.std.proofs.Common.{Err, refl, ap, sym, ◌∙◌, arith, length-append}
use Rattle.std.proofs.lemmas.List.{length-replicate}
use Rattle.std.specs.Prelude.{IfOk, IsOk}
use Rattle.std.specs.Result.{is_ok}
use Rattle.stun_base.specs.Algorithm.{digest_length}
use Rattle.stun_base.specs.code.Algorithm.{length-digest}
use Rattle.stun_base.specs.declared.keys.algorithm.IntegrityAlgorithm.{IntegrityAlgorithm}
use Rattle.stun_base.specs.declared.wire.error.StunWriteError.{StunWriteError}
use Rattle.stun_base.specs.declared.wire.error.StunWriteError.TheVariants.{NotAllowed}
use Rattle.stun_base.specs.declared.wire.error.StunWriteError.TheVariants.{MessageIntegrityExists}
use Rattle.stun_base.specs.declared.wire.error.StunWriteError.TheVariants.{AttributeExists}
use Rattle.stun_base.specs.declared.wire.error.StunWriteError.TheVariants.{TooLarge, TooSmall}
use Rattle.stun_base.specs.declared.wire.error.StunWriteError.TheVariants.{IntegrityFailed}
use Rattle.stun_base.specs.declared.wire.error.StunWriteError.TheVariants.{OutOfMemory}
use Rattle.stun_types.specs.Attribute.{TypedValue, attribute_length}
use Rattle.stun_types.specs.Grammar.{spelled_attribute}
use Rattle.stun_types.specs.Message.{with_length}
use Rattle.stun_types.specs.Writing.{covered_at_end, integrity_attribute, with_integrity}
use Rattle.stun_judging.specs.Additions.{Addition, attribute, integrity, Page, growth_of, growth}
use Rattle.stun_judging.specs.Additions.{addition_refusal, with_addition, page_unless_refused}
use Rattle.stun_judging.specs.Additions.{added_one, after, added_all, UnlessMemory, WantsMemory}
use Rattle.stun_judging.specs.Additions.{page_in, written_page}
use Rattle.stun_types.proofs.SigningLemmas.{length-with_length}
use Rattle.stun_judging.proofs.AdditionLemmas.{growth-append}

length-spelled_attribute : (a : TypedValue)
    → length (spelled_attribute a) ≡ attribute_length (length a.value)
length-spelled_attribute a = simp (length-append, length-replicate) (omega arith)

length-with_attribute : (message : List ℕ) (a : TypedValue) (n : ℕ) → 20 ≤ length message
    → length (with_length message n ++ spelled_attribute a)
    ≡ length message + attribute_length (length a.value)
length-with_attribute message a n long =
    let front = length-with_length message n long in
    let back = length-spelled_attribute a in
    let both = length-append (with_length message n) (spelled_attribute a) in
    both ∙ (rw (front, back) refl)

-- the integrity attribute is after the message with its length raised
pub length-with_integrity : (message : List ℕ) (algorithm : IntegrityAlgorithm) (key : List ℕ)
    → 20 ≤ length message
    → length (with_integrity message algorithm key)
    ≡ length message + attribute_length (digest_length algorithm)
length-with_integrity message algorithm key long =
    length-with_attribute message (integrity_attribute message algorithm key) _ long
    ∙ ap (λ (n : ℕ). length message + attribute_length n)
    (length-digest algorithm key (covered_at_end message algorithm))

-- the same, as tactics find it
pub length_of_signed : (message signed : List ℕ) (algorithm : IntegrityAlgorithm) (key : List ℕ)
    → 20 ≤ length message
    → signed ≡ with_integrity message algorithm key
    → length signed ≡ length message + attribute_length (digest_length algorithm)
length_of_signed message signed algorithm key long is =
    ap (λ (bytes : List ℕ). length bytes) is ∙ length-with_integrity message algorithm key long

pub length-with_addition : (x : Addition) (message : List ℕ) → 20 ≤ length message
    → length (with_addition x message) ≡ length message + growth_of x
length-with_addition (attribute a) message long = length-with_attribute message a _ long
length-with_addition (integrity algorithm key) message long =
    length-with_integrity message algorithm key long

not_refused : (refusal : Option StunWriteError) (page q : Page)
    → page_unless_refused refusal page ≡ Ok q
    → page ≡ q
not_refused None page q h = cc
not_refused (Some reason) page q h = cc

grown_one : (x : Addition) (p q : Page) → 20 ≤ length p.bytes → added_one x p ≡ Ok q
    → length q.bytes ≡ length p.bytes + growth_of x
unfolding added_one
grown_one x p q long h =
    let same = not_refused (addition_refusal x p) _ q h in
    ap (λ (r : Page). length r.bytes) (sym same) ∙ length-with_addition x p.bytes long

grown_after : (x : Addition) (list : List Addition) (p q : Page) → 20 ≤ length p.bytes
    → ((m : Page) → 20 ≤ length m.bytes → added_all list m ≡ Ok q
    → length q.bytes ≡ length m.bytes + growth list)
    → (first : Result Page StunWriteError) → added_one x p ≡ first
    → after first (added_all list) ≡ Ok q
    → length q.bytes ≡ length p.bytes + growth (x ∷ list)
grown_after x list p q long rest (Err reason) e h = absurd (let clash : Err reason ≡ Ok q = h in cc)
grown_after x list p q long rest (Ok m) e h =
    let one = grown_one x p m long e in
    let others = rest m (omega (arith, one, long)) h in
    let both = growth-append (x ∷ []) list in
    omega (arith, one, others, both)

-- a message grows by what all additions take
pub grown_all : (list : List Addition) (p q : Page) → 20 ≤ length p.bytes → added_all list p ≡ Ok q
    → length q.bytes ≡ length p.bytes + growth list
grown_all [] p q long h =
    let same : p ≡ q = cc in
    omega (arith, ap (λ (r : Page). length r.bytes) same)
grown_all (x ∷ list) p q long h =
    grown_after x list p q long (λ m. grown_all list m q) (added_one x p) refl h

-- a writer that is answered holds so many bytes more
pub grown_answer : {W : Type 0} (bytes : W → List ℕ) (room : W → ℕ) (list : List Addition)
    (before : W) (Q : Type 0) (result : Result W StunWriteError)
    → 20 ≤ length (bytes before)
    → UnlessMemory result
    (written_page bytes room result ≡ added_all list (page_in bytes room before)) Q
    → IfOk result (λ signed. length (bytes signed) ≡ length (bytes before) + growth list)
grown_answer bytes room list before Q (Ok signed) long h =
    grown_all list (page_in bytes room before) (page_in bytes room signed) long (sym h)
grown_answer bytes room list before Q (Err reason) long h = tt

-- ---- no memory

refused_not : {V : Type 0} (reason : StunWriteError) (page : Result Page StunWriteError)
    → Err reason ≡ page → IsOk page → V
refused_not reason page is ok = absurd (true≢false (sym (ap is_ok is ∙ ok)))

-- where an allocation fails for additions, less than they take is reserved
pub wants_short : (list : List Addition) (page : Page) (reserved : ℕ)
    → WantsMemory list page reserved → reserved < growth list
wants_short list page reserved w =
    let all : growth list ≡ growth (w.first ++ w.others) = ap growth w.in_order in
    omega (arith, all, growth-append w.first w.others, w.not_reserved)

pub succeeds_reserved : {V : Type 0} (answer : Result V StunWriteError → Result Page StunWriteError)
    → ((reason : StunWriteError) → Err reason ≡ answer (Err reason))
    → (page : Result Page StunWriteError) (reserved taken : ℕ) (Q : Type 0) → (Q → reserved < taken)
    → (result : Result V StunWriteError)
    → UnlessMemory result (answer result ≡ page) Q → IsOk page → taken ≤ reserved → IsOk result
succeeds_reserved answer passes page reserved taken Q short (Ok signed) h ok enough = refl
succeeds_reserved answer passes page reserved taken Q short (Err NotAllowed) h ok enough =
    refused_not NotAllowed page (passes NotAllowed ∙ h) ok
succeeds_reserved answer passes page reserved taken Q short (Err MessageIntegrityExists) h ok
    enough = refused_not MessageIntegrityExists page (passes MessageIntegrityExists ∙ h) ok
succeeds_reserved answer passes page reserved taken Q short (Err (AttributeExists kind)) h ok
    enough = refused_not (AttributeExists kind) page (passes (AttributeExists kind) ∙ h) ok
succeeds_reserved answer passes page reserved taken Q short (Err TooLarge) h ok enough =
    refused_not TooLarge page (passes TooLarge ∙ h) ok
succeeds_reserved answer passes page reserved taken Q short (Err TooSmall) h ok enough =
    refused_not TooSmall page (passes TooSmall ∙ h) ok
succeeds_reserved answer passes page reserved taken Q short (Err IntegrityFailed) h ok enough =
    refused_not IntegrityFailed page (passes IntegrityFailed ∙ h) ok
succeeds_reserved answer passes page reserved taken Q short (Err OutOfMemory) h ok enough =
    absurd (let less = short h in omega (arith, less, enough))
