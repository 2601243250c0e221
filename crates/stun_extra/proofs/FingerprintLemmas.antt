-- What FINGERPRINT at the end of a message does to it: the attributes that count, its own value,
-- and the digest before it.
use Rattle.std.proofs.Common.{◌≡◌, ℕ, zero, suc, ◌+◌, ◌≤◌, ◌<◌, ◌^◌, Bool, true, false, cond}
use Rattle.std.proofs.Common.{List, [], ◌∷◌, ◌++◌, length, take, refl, sym, ◌∙◌, ap, arith}
use Rattle.std.specs.Prelude.{Option, Some, None, nat_lt, filter, find, ◌==◌}
use Rattle.std.specs.List.{AllByRecursion, list_any}
use Rattle.std.specs.Option.{option_or, option_and_then}
use Rattle.std.proofs.Math.Seq.{take-append_seam}
use Rattle.std.proofs.lemmas.Bool.Decides.{nat_tests}
use Rattle.std.proofs.lemmas.List.{append-nil, take-append-le}
use Rattle.std.proofs.lemmas.List.Elements.{filter-append}
use Rattle.std.proofs.lemmas.List.Folds.{find-append}
use Rattle.byteorder.specs.Endian.{big_bytes, big_number}
use Rattle.byteorder.specs.Numbers.{big_number-reads_back}
use Rattle.stun_base.specs.Attributes.{MESSAGE_INTEGRITY, MESSAGE_INTEGRITY_SHA256, FINGERPRINT}
use Rattle.stun_base.specs.Header.{HEADER_LENGTH}
use Rattle.stun_base.specs.declared.keys.algorithm.IntegrityAlgorithm.{IntegrityAlgorithm}
use Rattle.stun_types.specs.Grammar.{spelled_attribute}
use Rattle.stun_types.specs.Integrity.{deciding, first_of, verified_at, verified_by}
use Rattle.stun_types.specs.Limits.{max_length}
use Rattle.stun_types.specs.Message.{IsMessage, with_length}
use Rattle.stun_types.specs.Visible.{before, is_visible, has_kind, visible}
use Rattle.stun_types.specs.Walk.{Member, walk}
use Rattle.stun_types.specs.Writing.{HasOneMore, IsAddable, length_with}
use Rattle.stun_types.specs.code.Walk.{IsInside}
use Rattle.stun_types.proofs.AddingLemmas.{IsMessage-added, has_kind-before}
use Rattle.stun_types.proofs.AddingLemmas.{length-spelled_attribute, or_none, raised, walk-added}
use Rattle.stun_types.proofs.IntegrityLemmas.{deciding_within, walk_up_to-within}
use Rattle.stun_types.proofs.SigningLemmas.{length-with_length}
use Rattle.stun_types.proofs.TailLemmas.{verified_by-tail}
use Rattle.stun_types.proofs.VisibleLemmas.{is_visible_after}
use Rattle.stun_extra.specs.Crc32.{crc32}
use Rattle.stun_extra.specs.Fingerprint.{FINGERPRINT_XOR, fingerprint_at}
use Rattle.stun_extra.specs.Fingerprint.{fingerprint_attribute, fingerprint_if}
use Rattle.stun_extra.specs.Fingerprint.{fingerprint_in, fingerprint_word, with_fingerprint}
use Rattle.stun_extra.specs.declared.fingerprint.Fingerprint.TheVariants.{Right, Wrong, Misplaced}
use Rattle.stun_extra.proofs.Crc32Lemmas.{crc32-below}
use lib.Bits.{xor_lt}

-- a message that FINGERPRINT can be added to
pub record IsFree (message : List ℕ) : Type 0 where
  pub is_message : IsMessage message
  pub none : has_kind FINGERPRINT (walk message) ≡ false
  pub short : length_with message 4 ≤ max_length

-- ---- its attributes

-- FINGERPRINT fits it
fits : (message : List ℕ) → IsFree message → IsAddable message (fingerprint_attribute message)
fits message free = record { kind = omega arith; value = free.short }

-- one more attribute is not before what is at its place or before
before-added : (members : List Member) (last : Member) (place : ℕ) → place ≤ last.0
    → before place (members ++ last ∷ []) ≡ before place members
before-added members last place earlier =
    let later : nat_lt last.0 place ≡ false = grind arith in
    filter-append (λ n. nat_lt n.0 place) members (last ∷ [])
    ∙ rw later (append-nil (before place members))

-- so it hides nothing of that
is_visible-added : (members : List Member) (last m : Member) → m.0 ≤ last.0
    → is_visible (members ++ last ∷ []) m ≡ is_visible members m
is_visible-added members last m earlier =
    ap (λ ms. is_visible_after (has_kind MESSAGE_INTEGRITY ms)
    (has_kind MESSAGE_INTEGRITY_SHA256 ms)
    (has_kind FINGERPRINT ms) m.1.kind) (before-added members last m.0 earlier)

-- two tests that agree keep the same
filter-same : {X : Type 0} (P : X → Type 0) (one other : X → Bool) (xs : List X)
    → AllByRecursion P xs
    → ((x : X) → P x → one x ≡ other x) → filter one xs ≡ filter other xs
filter-same P one other [] all agree = refl
filter-same P one other (x ∷ xs) all agree =
    let rest = filter-same P one other xs all.1 agree in
    let here = agree x all.0 in
    λ i. cond (here i) (x ∷ rest i) (rest i)

-- FINGERPRINT is hidden by another alone
fingerprint-shown : (integrity integrity_sha256 : Bool)
    → is_visible_after integrity integrity_sha256 false FINGERPRINT ≡ true
fingerprint-shown false false = refl
fingerprint-shown false true = refl
fingerprint-shown true false = refl
fingerprint-shown true true = refl

-- FINGERPRINT at the end counts, and all that counted
visible-added : (message longer : List ℕ) (last : Member) → last.0 ≡ length message
    → last.1.kind ≡ FINGERPRINT
    → has_kind FINGERPRINT (walk message) ≡ false → walk longer ≡ walk message ++ last ∷ []
    → visible longer ≡ visible message ++ last ∷ []
unfolding visible
visible-added message longer last place kind none walked =
    let members = walk message in
    let test = is_visible (members ++ last ∷ []) in
    let earlier : filter test members ≡ filter (is_visible members) members =
    filter-same (IsInside message) test (is_visible members) members
    (walk_up_to-within (length message) HEADER_LENGTH message (omega arith))
    (λ m within. is_visible-added members last m (omega (arith, within.whole, place))) in
    let no_other = has_kind-before FINGERPRINT last.0 members none in
    let last_counts : test last ≡ true =
    is_visible-added members last last (omega arith)
    ∙ ((λ i. is_visible_after (has_kind MESSAGE_INTEGRITY (before last.0 members))
    (has_kind MESSAGE_INTEGRITY_SHA256 (before last.0 members)) (no_other i) (kind i))
    ∙ fingerprint-shown (has_kind MESSAGE_INTEGRITY (before last.0 members))
    (has_kind MESSAGE_INTEGRITY_SHA256 (before last.0 members))) in
    ap (λ ms. filter (is_visible ms) ms) walked
    ∙ (filter-append test members (last ∷ [])
    ∙ (λ i. earlier i ++ cond (last_counts i) (last ∷ []) []))

-- the member that FINGERPRINT is
abbrev pub fingerprint_member : List ℕ → Member
fingerprint_member message = (length message, fingerprint_attribute message)

-- reading finds what it found before, and FINGERPRINT
pub HasOneMore-fingerprint : (message : List ℕ) → IsFree message
    → HasOneMore message (with_fingerprint message) (fingerprint_attribute message)
HasOneMore-fingerprint message free =
    let attribute = fingerprint_attribute message in
    let n = length_with message 4 in
    let small : n < 2 ^ 16 = omega (arith, free.short) in
    let kept =
    raised message (spelled_attribute attribute) n free.is_message.header.is_whole small in
    let walked = walk-added message attribute free.is_message (fits message free) in
    record {
      is_message = IsMessage-added message attribute free.is_message (fits message free);
      type_is = kept.type_is;
      transaction_id_is = kept.transaction_id_is;
      walk_is = walked;
      visible_is =
          visible-added message (with_fingerprint message) (fingerprint_member message) refl refl
          free.none walked;
    }

-- ---- its value

-- a test that no element passes, none of those that are kept passes
any-filter : {X : Type 0} (test keep : X → Bool) (xs : List X) → list_any test xs ≡ false
    → find test (filter keep xs) ≡ None
any-filter test keep [] none = refl
any-filter test keep (x ∷ xs) none =
    let parts = or_none (test x) (list_any test xs) none in
    let rest = any-filter test keep xs parts.1 in
    elim (keep x) as (λ kept. find test (cond kept (x ∷ filter keep xs) (filter keep xs)) ≡ None) [
      | true ↦ λ i. cond (parts.0 i) (Some x) (rest i)
      | false ↦ rest
    ]

-- a type that is not among the attributes of a message is not among those that count
first_of-none : (kind : ℕ) (message : List ℕ) → has_kind kind (walk message) ≡ false
    → first_of kind (visible message) ≡ None
unfolding visible
first_of-none kind message none =
    any-filter (λ m. m.1.kind == kind) (is_visible (walk message)) (walk message) none

-- FINGERPRINT is found
found : (message : List ℕ) → IsFree message
    → first_of FINGERPRINT (visible (with_fingerprint message)) ≡ Some (fingerprint_member message)
found message free =
    let last = fingerprint_member message in
    let none = first_of-none FINGERPRINT message free.none in
    ap (first_of FINGERPRINT) (HasOneMore-fingerprint message free).visible_is
    ∙ (find-append (λ m. m.1.kind == FINGERPRINT) (visible message) (last ∷ [])
    ∙ ap (λ f. option_or f (first_of FINGERPRINT (last ∷ []))) none)

-- what is before it is the message with its length raised
front-fingerprint : (message : List ℕ) → 20 ≤ length message
    → take (length message) (with_fingerprint message) ≡ with_length message (length_with message 4)
front-fingerprint message long =
    let front = with_length message (length_with message 4) in
    let behind = spelled_attribute (fingerprint_attribute message) in
    ap (λ k. take k (front ++ behind))
    (sym (length-with_length message (length_with message 4) long)) ∙ take-append_seam front behind

-- a message with its FINGERPRINT is 8 bytes longer
length-fingerprint : (message : List ℕ) → IsFree message
    → length message + 8 ≡ length (with_fingerprint message)
length-fingerprint message free =
    let small : length_with message 4 < 2 ^ 16 = omega (arith, free.short) in
    let kept =
    raised message (spelled_attribute (fingerprint_attribute message)) (length_with message 4)
    free.is_message.header.is_whole small in
    omega (arith, kept.long, length-spelled_attribute (fingerprint_attribute message))

-- a number of 32 bits is read from the bytes that it is written as
number-again : (number : ℕ) → number < 2 ^ 32 → big_number 4 (big_bytes 4 number) ≡ number
number-again number small =
    ap (big_number 4) (sym (append-nil (big_bytes 4 number)))
    ∙ big_number-reads_back 4 number [] small

alike : (a b : ℕ) → a ≡ b → (a == b) ≡ true
alike a b same = grind (arith, nat_tests)

-- what was added is right
fingerprint_at-added : (message : List ℕ) → IsFree message
    → fingerprint_at (with_fingerprint message) (fingerprint_member message) ≡ Right
fingerprint_at-added message free =
    let covered = with_length message (length_with message 4) in
    let small : fingerprint_word covered < 2 ^ 32 =
    xor_lt 32 (crc32 covered) FINGERPRINT_XOR (crc32-below covered) (omega arith) in
    let ends : (length message + 8 == length (with_fingerprint message)) ≡ true =
    alike (length message + 8) (length (with_fingerprint message))
    (length-fingerprint message free) in
    let front = front-fingerprint message free.is_message.header.is_whole in
    let same : big_number 4 (big_bytes 4 (fingerprint_word covered))
    ≡ fingerprint_word (take (length message) (with_fingerprint message)) =
    number-again (fingerprint_word covered) small ∙ ap fingerprint_word (sym front) in
    let right : (big_number 4 (big_bytes 4 (fingerprint_word covered))
    == fingerprint_word (take (length message) (with_fingerprint message))) ≡ true =
    alike (big_number 4 (big_bytes 4 (fingerprint_word covered)))
    (fingerprint_word (take (length message) (with_fingerprint message))) same in
    λ i. cond (ends i) (cond (right i) Right Wrong) Misplaced

pub fingerprint_in-added : (message : List ℕ) → IsFree message
    → fingerprint_in (with_fingerprint message) ≡ Right
fingerprint_in-added message free =
    ap (fingerprint_if (with_fingerprint message)) (found message free)
    ∙ fingerprint_at-added message free

-- ---- the digest before it

-- the last attribute is of another type
pub first_of-other : (kind : ℕ) (members : List Member) (last : Member) → (last.1.kind == kind) ≡ false
    → first_of kind (members ++ last ∷ []) ≡ first_of kind members
first_of-other kind members last other =
    let none : (found : Option Member) → option_or found None ≡ found =
    λ found. elim found as (λ f. option_or f None ≡ f) [ Some m ↦ refl | None ↦ refl ] in
    find-append (λ m. m.1.kind == kind) members (last ∷ [])
    ∙ (ap (λ b. option_or (first_of kind members) (cond b (Some last) None)) other
    ∙ none (first_of kind members))

-- the same attribute decides
deciding-fingerprint : (message : List ℕ) → IsFree message
    → deciding (with_fingerprint message) ≡ deciding message
deciding-fingerprint message free =
    let last = fingerprint_member message in
    let shown = (HasOneMore-fingerprint message free).visible_is in
    let stronger : first_of MESSAGE_INTEGRITY_SHA256 (visible (with_fingerprint message))
    ≡ first_of MESSAGE_INTEGRITY_SHA256 (visible message) =
    ap (first_of MESSAGE_INTEGRITY_SHA256) shown
    ∙ first_of-other MESSAGE_INTEGRITY_SHA256 (visible message) last refl in
    let weaker : first_of MESSAGE_INTEGRITY (visible (with_fingerprint message))
    ≡ first_of MESSAGE_INTEGRITY (visible message) =
    ap (first_of MESSAGE_INTEGRITY) shown
    ∙ first_of-other MESSAGE_INTEGRITY (visible message) last refl in
    λ i. option_or (stronger i) (weaker i)

-- the length field alone is set before a place after it
set_before : (place n : ℕ) (bytes : List ℕ) → 20 ≤ place → 20 ≤ length bytes
    → with_length (take place (with_length bytes n)) 0 ≡ with_length (take place bytes) 0
set_before place n [] behind long = absurd (omega (arith, long))
set_before place n (x ∷ []) behind long = absurd (omega (arith, long))
set_before place n (x ∷ y ∷ []) behind long = absurd (omega (arith, long))
set_before place n (x ∷ y ∷ z ∷ []) behind long = absurd (omega (arith, long))
set_before zero n (x ∷ y ∷ z ∷ w ∷ bytes) behind long = absurd (omega (arith, behind))
set_before (suc zero) n (x ∷ y ∷ z ∷ w ∷ bytes) behind long = absurd (omega (arith, behind))
set_before (suc (suc zero)) n (x ∷ y ∷ z ∷ w ∷ bytes) behind long = absurd (omega (arith, behind))
set_before (suc (suc (suc zero))) n (x ∷ y ∷ z ∷ w ∷ bytes) behind long =
    absurd (omega (arith, behind))
set_before (suc (suc (suc (suc place)))) n (x ∷ y ∷ z ∷ w ∷ bytes) behind long = refl

-- what is before an attribute is the same, but for the length field
same_before : (message : List ℕ) (m : Member) → 20 ≤ length message → IsInside message m
    → with_length (take m.0 (with_fingerprint message)) 0 ≡ with_length (take m.0 message) 0
same_before message m long within =
    let raised_message = with_length message (length_with message 4) in
    let reach : m.0 ≤ length raised_message =
    omega (arith, within.whole, length-with_length message (length_with message 4) long) in
    ap (λ xs. with_length xs 0)
    (take-append-le m.0 raised_message (spelled_attribute (fingerprint_attribute message)) reach)
    ∙ set_before m.0 (length_with message 4) message within.behind_header long

-- so the same digest verifies
pub verified_by-fingerprint : (keys : IntegrityAlgorithm → List ℕ) (message : List ℕ)
    → IsFree message
    → verified_by keys (with_fingerprint message) ≡ verified_by keys message
verified_by-fingerprint keys message free = by (deciding message) refl
  where
    longer : List ℕ
    longer = with_fingerprint message

    by : (decided : Option Member) → deciding message ≡ decided
        → verified_by keys longer ≡ verified_by keys message
    by None none =
        ap (option_and_then (verified_at keys longer)) (deciding-fingerprint message free ∙ none)
        ∙ sym (ap (option_and_then (verified_at keys message)) none)
    by (Some m) decides =
        let within : IsInside message m = deciding_within message (Some m) decides in
        verified_by-tail keys longer message m (deciding-fingerprint message free ∙ decides) decides
        (same_before message m free.is_message.header.is_whole within)
