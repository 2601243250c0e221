-- What follows the deciding attribute is hidden but for FINGERPRINT, and what is before it hangs on
-- the bytes before it alone.
use Rattle.std.proofs.Common.{◌≡◌, ◌⊎◌, inl, inr, ℕ, zero, suc, ◌+◌, ◌≤◌, ◌<◌, Bool}
use Rattle.std.proofs.Common.{true, false, cond, List, [], ◌∷◌, ◌++◌, length, take, drop}
use Rattle.std.proofs.Common.{refl, sym, ◌∙◌, ap, subst, arith, append-nil, drop-drop}
use Rattle.std.specs.Prelude.{Option, Some, None, IfSome, find}
use Rattle.std.specs.Prelude.{filter, nat_lt, not, ◌&&◌, ◌||◌, ◌==◌}
use Rattle.std.specs.List.{AllByRecursion}
use Rattle.std.specs.Option.{option_or}
use Rattle.std.proofs.lemmas.List.Elements.{filter-append}
use Rattle.std.proofs.lemmas.List.Folds.{find-append}
use Rattle.stun_base.specs.Attributes.{MESSAGE_INTEGRITY, MESSAGE_INTEGRITY_SHA256, FINGERPRINT}
use Rattle.stun_base.specs.Header.{HEADER_LENGTH}
use Rattle.stun_types.specs.Attribute.{attribute_length, has_attribute, first_attribute}
use Rattle.stun_types.specs.Integrity.{deciding, first_of}
use Rattle.stun_types.specs.Message.{with_length}
use Rattle.stun_types.specs.Tail.{besides_fingerprint, place_behind}
use Rattle.stun_types.specs.Visible.{before, is_visible, has_kind, visible}
use Rattle.stun_types.specs.Walk.{Member, next_place, walk_up_to, walk_from, walk}
use Rattle.stun_types.specs.code.Walk.{IsInside}
use Rattle.stun_types.proofs.IntegrityLemmas.{walk_up_to-within}
use Rattle.stun_types.proofs.ReachedLemmas.{Reaches, length-front, walk-divided, walk_up_to-reaches}
use Rattle.stun_types.proofs.VisibleLemmas.{is_visible_after, is_visible_after-all}
use Rattle.stun_types.proofs.WalkLemmas.{before-walk_from}

-- ---- lists

-- two tests that agree at each element keep the same
filter-agree : {X : Type 0} (P : X → Type 0) (one other : X → Bool) (xs : List X)
    → AllByRecursion P xs → ((x : X) → P x → one x ≡ other x) → filter one xs ≡ filter other xs
filter-agree P one other [] all agree = refl
filter-agree P one other (x ∷ xs) all agree =
    rw (agree x all.0)
    (ap (λ ys. cond (other x) (x ∷ ys) ys) (filter-agree P one other xs all.1 agree))

-- of what passes one test none passes another
filter-none : {X : Type 0} (P Q : X → Type 0) (one other : X → Bool) (xs : List X)
    → AllByRecursion P xs → AllByRecursion Q xs
    → ((x : X) → P x → Q x → one x ≡ true → other x ≡ false) → filter other (filter one xs) ≡ []
filter-none P Q one other [] all all' excludes = refl
filter-none P Q one other (x ∷ xs) all all' excludes =
    let rest = filter-none P Q one other xs all.1 all'.1 excludes in
    elim (one x) as (λ passed. (passed ≡ true → other x ≡ false)
    → filter other (cond passed (x ∷ filter one xs) (filter one xs)) ≡ []) [
      | true ↦ λ hidden. rw (hidden refl) rest
      | false ↦ λ hidden. rest
    ] (excludes x all.0 all'.0)

-- where none is found of what passes a test, none that passes it is sought
none_found : {X : Type 0} (test sought : X → Bool) (xs : List X)
    → find sought (filter test xs) ≡ None
    → AllByRecursion (λ x. test x ≡ true → sought x ≡ false) xs
none_found test sought [] none = tt
none_found test sought (x ∷ xs) none =
    let rest = none_found test sought xs in (
      elim (test x) as (λ passed. find sought (cond passed (x ∷ filter test xs) (filter test xs))
          ≡ None → passed ≡ true → sought x ≡ false) [
            | true ↦ λ none passed.
                elim (sought x) as (λ found. cond found (Some x) (find sought (filter test xs))
                ≡ None → found ≡ false) [ true ↦ λ none. cc | false ↦ λ none. refl ] none
            | false ↦ λ none passed. cc
          ] none,
      rest (elim
          (test x) as (λ passed. find sought (cond passed (x ∷ filter test xs) (filter test xs))
          ≡ None → find sought (filter test xs) ≡ None) [
            | true ↦ λ none.
                elim (sought x) as (λ found. cond found (Some x) (find sought (filter test xs))
                ≡ None → find sought (filter test xs) ≡ None)
                [ true ↦ λ none. cc | false ↦ λ none. none ] none
            | false ↦ λ none. none
          ] none),
    )

-- what passes a test does so, besides what holds of each element
passing : {X : Type 0} (P : X → Type 0) (test : X → Bool) (xs : List X) → AllByRecursion P xs
    → AllByRecursion (λ x. P x × (test x ≡ true)) (filter test xs)
passing P test [] all = tt
passing P test (x ∷ xs) all =
    let rest = passing P test xs all.1 in
    elim (test x) as (λ passed. test x ≡ passed
    → AllByRecursion (λ x. P x × (test x ≡ true))
    (cond passed (x ∷ filter test xs) (filter test xs))) [
      | true ↦ λ passed. ((all.0, passed), rest)
      | false ↦ λ passed. rest
    ] refl

-- what is found passes the test, besides what holds of each element
found_passing : {X : Type 0} (P : X → Type 0) (test : X → Bool) (xs : List X) → AllByRecursion P xs
    → IfSome (find test xs) (λ x. P x × (test x ≡ true))
found_passing P test [] all = tt
found_passing P test (x ∷ xs) all =
    elim (test x) as (λ passed. test x ≡ passed
    → IfSome (cond passed (Some x) (find test xs)) (λ x. P x × (test x ≡ true))) [
      | true ↦ λ passed. (all.0, passed)
      | false ↦ λ passed. found_passing P test xs all.1
    ] refl

-- a type is among attributes one of which has it
has_kind-middle : (kind : ℕ) (front rest : List Member) (m : Member) → (m.1.kind == kind) ≡ true
    → has_kind kind (front ++ m ∷ rest) ≡ true
has_kind-middle kind [] rest m is = rw is refl
has_kind-middle kind (n ∷ front) rest m is =
    let others = has_kind-middle kind front rest m is in
    elim (n.1.kind == kind) as (λ same. (same || has_kind kind (front ++ m ∷ rest)) ≡ true)
    [ true ↦ refl | false ↦ others ]

-- neither of two is found
neither : {X : Type 0} (one other : Option X) → option_or one other ≡ None
    → (one ≡ None) × (other ≡ None)
neither None other none = (refl, none)
neither (Some x) other none = cc

-- ---- the bytes before a member

-- the attributes before a place that is no later than a member are those of the bytes before the
-- member
before-front : (bytes : List ℕ) (m : Member) (place : ℕ) → Reaches HEADER_LENGTH bytes m
    → place ≤ m.0 → before place (walk bytes) ≡ before place (walk (take m.0 bytes))
before-front bytes m place reaches earlier =
    let front = walk (take m.0 bytes) in
    let rest = walk_from (place_behind m) bytes in
    let at : nat_lt m.0 place ≡ false = grind (arith, earlier) in
    let behind = before-walk_from place (place_behind m) bytes (omega (arith, earlier)) in
    ap (before place) (walk-divided bytes m reaches)
    ∙ (filter-append (λ n. nat_lt n.0 place) front (m ∷ rest)
    ∙ rw (at, behind) (append-nil (before place front)))

-- so whether an attribute up to the member counts is told by these bytes
pub is_visible-front : (bytes : List ℕ) (m n : Member) → Reaches HEADER_LENGTH bytes m → n.0 ≤ m.0
    → is_visible (walk bytes) n ≡ is_visible (walk (take m.0 bytes)) n
is_visible-front bytes m n reaches earlier =
    let same = before-front bytes m n.0 reaches earlier in
    λ i. is_visible_after (has_kind MESSAGE_INTEGRITY (same i))
    (has_kind MESSAGE_INTEGRITY_SHA256 (same i)) (has_kind FINGERPRINT (same i)) n.1.kind

-- what counts behind a member
abbrev pub counted_behind : List ℕ → Member → List Member
counted_behind bytes m = filter (is_visible (walk bytes)) (walk_from (place_behind m) bytes)

-- what counts: what does of the bytes before a member that counts, the member, and what does behind
-- it
pub visible-divided : (bytes : List ℕ) (m : Member) → Reaches HEADER_LENGTH bytes m
    → is_visible (walk bytes) m ≡ true
    → visible bytes ≡ visible (take m.0 bytes) ++ m ∷ counted_behind bytes m
unfolding visible
visible-divided bytes m reaches counted =
    let front = take m.0 bytes in
    let test = is_visible (walk bytes) in
    let long = length-front reaches in
    let earlier : filter test (walk front) ≡ filter (is_visible (walk front)) (walk front) =
    filter-agree (IsInside front) test (is_visible (walk front)) (walk front)
    (walk_up_to-within (length front) HEADER_LENGTH front (omega arith))
    (λ n within. is_visible-front bytes m n reaches (omega (arith, within.whole, long))) in
    ap (filter test) (walk-divided bytes m reaches)
    ∙ (filter-append test (walk front) (m ∷ walk_from (place_behind m) bytes)
    ∙ rw (earlier, counted) refl)

-- ---- what is hidden behind a member

hidden_by_sha256 : (i f stronger fingerprint : Bool)
    → (not f && (false || fingerprint) && (not i || stronger || fingerprint)) ≡ true
    → not fingerprint ≡ false
hidden_by_sha256 i f stronger true shown = refl
hidden_by_sha256 i true stronger false shown = cc
hidden_by_sha256 i false stronger false shown = cc

hidden_by_integrity : (s f stronger fingerprint : Bool)
    → (not f && (not s || fingerprint) && (false || stronger || fingerprint)) ≡ true
    → stronger ≡ false → not fingerprint ≡ false
hidden_by_integrity s f stronger true shown none = refl
hidden_by_integrity true true true false shown none = cc
hidden_by_integrity true true false false shown none = cc
hidden_by_integrity true false true false shown none = cc
hidden_by_integrity true false false false shown none = cc
hidden_by_integrity false true true false shown none = cc
hidden_by_integrity false true false false shown none = cc
hidden_by_integrity false false true false shown none = cc
hidden_by_integrity false false false false shown none = cc

-- a member is among what is before a later place
seen : (bytes : List ℕ) (m : Member) (kind place : ℕ) → Reaches HEADER_LENGTH bytes m
    → (m.1.kind == kind) ≡ true → m.0 < place → has_kind kind (before place (walk bytes)) ≡ true
seen bytes m kind place reaches is later =
    let front = walk (take m.0 bytes) in
    let rest = walk_from (place_behind m) bytes in
    let at : nat_lt m.0 place ≡ true = grind (arith, later) in
    ap (has_kind kind)
    (ap (before place) (walk-divided bytes m reaches)
    ∙ filter-append (λ n. nat_lt n.0 place) front (m ∷ rest))
    ∙ rw at (has_kind-middle kind (before place front) (before place rest) m is)

-- what is before a member that counts lets it through
all_let_through : (bytes : List ℕ) (m : Member) → is_visible (walk bytes) m ≡ true
    → (not (has_kind FINGERPRINT (before m.0 (walk bytes)))
    && (not (has_kind MESSAGE_INTEGRITY_SHA256 (before m.0 (walk bytes)))
    || (m.1.kind == FINGERPRINT))
    && (not (has_kind MESSAGE_INTEGRITY (before m.0 (walk bytes)))
    || (m.1.kind == MESSAGE_INTEGRITY_SHA256) || (m.1.kind == FINGERPRINT))) ≡ true
all_let_through bytes m shown =
    sym (is_visible_after-all (has_kind MESSAGE_INTEGRITY (before m.0 (walk bytes)))
    (has_kind MESSAGE_INTEGRITY_SHA256 (before m.0 (walk bytes)))
    (has_kind FINGERPRINT (before m.0 (walk bytes))) m.1.kind) ∙ shown

-- only FINGERPRINT counts behind the stronger attribute
hidden-sha256 : (bytes : List ℕ) (m : Member) → Reaches HEADER_LENGTH bytes m
    → (m.1.kind == MESSAGE_INTEGRITY_SHA256) ≡ true
    → besides_fingerprint (counted_behind bytes m) ≡ []
hidden-sha256 bytes m reaches is =
    let rest = walk_from (place_behind m) bytes in
    let later = walk_up_to-reaches (length bytes) (place_behind m) bytes in
    filter-none (Reaches (place_behind m) bytes) (Reaches (place_behind m) bytes)
    (is_visible (walk bytes)) (λ n. not (n.1.kind == FINGERPRINT)) rest later later
    (λ n reached again shown.
    let there =
    seen bytes m MESSAGE_INTEGRITY_SHA256 n.0 reaches is (omega (arith, reached.behind)) in
    let all = all_let_through bytes n shown in
    hidden_by_sha256 (has_kind MESSAGE_INTEGRITY (before n.0 (walk bytes)))
    (has_kind FINGERPRINT (before n.0 (walk bytes)))
    (n.1.kind == MESSAGE_INTEGRITY_SHA256) (n.1.kind == FINGERPRINT) (rw there at all))

-- and behind the weaker one, where the stronger one does not count
hidden-integrity : (bytes : List ℕ) (m : Member) → Reaches HEADER_LENGTH bytes m
    → (m.1.kind == MESSAGE_INTEGRITY) ≡ true
    → first_of MESSAGE_INTEGRITY_SHA256 (counted_behind bytes m) ≡ None
    → besides_fingerprint (counted_behind bytes m) ≡ []
hidden-integrity bytes m reaches is none =
    let rest = walk_from (place_behind m) bytes in
    let test = is_visible (walk bytes) in
    filter-none (Reaches (place_behind m) bytes)
    (λ n. test n ≡ true → (n.1.kind == MESSAGE_INTEGRITY_SHA256) ≡ false) test
    (λ n. not (n.1.kind == FINGERPRINT)) rest
    (walk_up_to-reaches (length bytes) (place_behind m) bytes)
    (none_found test (λ n. n.1.kind == MESSAGE_INTEGRITY_SHA256) rest none)
    (λ n reached absent shown.
    let there = seen bytes m MESSAGE_INTEGRITY n.0 reaches is (omega (arith, reached.behind)) in
    let all = all_let_through bytes n shown in
    hidden_by_integrity (has_kind MESSAGE_INTEGRITY_SHA256 (before n.0 (walk bytes)))
    (has_kind FINGERPRINT (before n.0 (walk bytes)))
    (n.1.kind == MESSAGE_INTEGRITY_SHA256) (n.1.kind == FINGERPRINT) (rw there at all)
    (absent shown))

-- ---- the deciding attribute

-- a member of a type is reached and counts
abbrev pub Counted : List ℕ → ℕ → Member → Type 0
Counted bytes kind m =
    (Reaches HEADER_LENGTH bytes m × (is_visible (walk bytes) m ≡ true))
    × ((m.1.kind == kind) ≡ true)

first_of-counted : (kind : ℕ) (bytes : List ℕ)
    → IfSome (first_of kind (visible bytes)) (Counted bytes kind)
unfolding visible
first_of-counted kind bytes =
    found_passing (λ m. Reaches HEADER_LENGTH bytes m × (is_visible (walk bytes) m ≡ true))
    (λ m. m.1.kind == kind) (visible bytes)
    (passing (Reaches HEADER_LENGTH bytes) (is_visible (walk bytes)) (walk bytes)
    (walk_up_to-reaches (length bytes) HEADER_LENGTH bytes))

-- of two that may be there, the one that is taken
taken_of : {X : Type 0} (P Q : X → Type 0) (one other : Option X) (x : X) → IfSome one P
    → IfSome other Q → option_or one other ≡ Some x → P x ⊎ (Q x × (one ≡ None))
taken_of P Q (Some y) other x holds holds_other is = inl (subst (λ o. IfSome o P) is holds)
taken_of P Q None other x holds holds_other is = inr (subst (λ o. IfSome o Q) is holds_other, refl)

-- the attribute that decides is the stronger one, or the weaker one where the stronger one does not
-- count
pub decider : (bytes : List ℕ) (m : Member) → deciding bytes ≡ Some m
    → Counted bytes MESSAGE_INTEGRITY_SHA256 m
    ⊎ (Counted bytes MESSAGE_INTEGRITY m
    × (first_of MESSAGE_INTEGRITY_SHA256 (visible bytes) ≡ None))
decider bytes m decides =
    taken_of (Counted bytes MESSAGE_INTEGRITY_SHA256) (Counted bytes MESSAGE_INTEGRITY)
    (first_of MESSAGE_INTEGRITY_SHA256 (visible bytes))
    (first_of MESSAGE_INTEGRITY (visible bytes)) m
    (first_of-counted MESSAGE_INTEGRITY_SHA256 bytes) (first_of-counted MESSAGE_INTEGRITY bytes)
    decides

-- besides FINGERPRINT, what counts before the deciding attribute and this one count
shown_with : (bytes : List ℕ) (m : Member) → Reaches HEADER_LENGTH bytes m
    → is_visible (walk bytes) m ≡ true → not (m.1.kind == FINGERPRINT) ≡ true
    → besides_fingerprint (counted_behind bytes m) ≡ [] → besides_fingerprint (visible bytes)
    ≡ besides_fingerprint (visible (take m.0 bytes)) ++ m ∷ []
shown_with bytes m reaches counted other hidden =
    ap besides_fingerprint (visible-divided bytes m reaches counted)
    ∙ (filter-append (λ n. not (n.1.kind == FINGERPRINT)) (visible (take m.0 bytes))
    (m ∷ counted_behind bytes m) ∙ rw (other, hidden) refl)

-- a type that is another than FINGERPRINT
not_fingerprint : (kind other : ℕ) → (kind == other) ≡ true → (other == FINGERPRINT) ≡ false
    → not (kind == FINGERPRINT) ≡ true
not_fingerprint kind other is differs =
    let same : kind ≡ other = grind (arith, is) in
    ap (λ k. not (k == FINGERPRINT)) same ∙ rw differs refl

pub shown-decided : (bytes : List ℕ) (m : Member) → deciding bytes ≡ Some m
    → besides_fingerprint (visible bytes) ≡ besides_fingerprint (visible (take m.0 bytes)) ++ m ∷ []
shown-decided bytes m decides = by (decider bytes m decides)
  where
    by : Counted bytes MESSAGE_INTEGRITY_SHA256 m
        ⊎ (Counted bytes MESSAGE_INTEGRITY m
        × (first_of MESSAGE_INTEGRITY_SHA256 (visible bytes) ≡ None))
        → besides_fingerprint (visible bytes)
        ≡ besides_fingerprint (visible (take m.0 bytes)) ++ m ∷ []
    by (inl strong) =
        shown_with bytes m strong.0.0 strong.0.1
        (not_fingerprint m.1.kind MESSAGE_INTEGRITY_SHA256 strong.1 refl)
        (hidden-sha256 bytes m strong.0.0 strong.1)
    by (inr weak) =
        let parts =
        find-append (λ (n : Member). n.1.kind == MESSAGE_INTEGRITY_SHA256)
        (visible (take m.0 bytes)) (m ∷ counted_behind bytes m) in
        let none = sym parts
        ∙ (ap (first_of MESSAGE_INTEGRITY_SHA256)
        (sym (visible-divided bytes m weak.0.0.0 weak.0.0.1)) ∙ weak.1) in
        let behind =
        (neither (first_of MESSAGE_INTEGRITY_SHA256 (visible (take m.0 bytes)))
        (first_of MESSAGE_INTEGRITY_SHA256 (m ∷ counted_behind bytes m)) none).1 in
        let other : (m.1.kind == MESSAGE_INTEGRITY_SHA256) ≡ false =
        (let same : m.1.kind ≡ MESSAGE_INTEGRITY = grind (arith, weak.0.1) in
        ap (λ k. k == MESSAGE_INTEGRITY_SHA256) same) in
        shown_with bytes m weak.0.0.0 weak.0.0.1
        (not_fingerprint m.1.kind MESSAGE_INTEGRITY weak.0.1 refl)
        (hidden-integrity bytes m weak.0.0.0 weak.0.1 (rw other at behind))

-- ---- the length field

-- a walk hangs on the bytes from its place
walk_up_to-same : (most place : ℕ) (bytes others : List ℕ) → drop place bytes ≡ drop place others
    → walk_up_to most place bytes ≡ walk_up_to most place others
unfolding walk_up_to
walk_up_to-same zero place bytes others same = refl
walk_up_to-same (suc most) place bytes others same =
    let n = attribute_length (length (first_attribute (drop place bytes)).value) in
    let behind : drop (place + n) bytes ≡ drop (place + n) others = sym (drop-drop n place bytes)
    ∙ (ap (drop n) same ∙ drop-drop n place others) in
    let rest = walk_up_to-same most (place + n) bytes others behind in
    let moved : walk_up_to most (next_place place bytes) bytes
    ≡ walk_up_to most (next_place place others) others =
    rest ∙ ap
    (λ xs. walk_up_to most (place + attribute_length (length (first_attribute xs).value)) others)
    same in
    λ i. cond (has_attribute (same i)) ((place, first_attribute (same i)) ∷ moved i) []

-- so it is the same with another length field
pub walk-relengthed : (bytes : List ℕ) (n : ℕ) → 20 ≤ length bytes
    → walk (with_length bytes n) ≡ walk bytes
walk-relengthed [] n long = absurd (omega (arith, long))
walk-relengthed (x ∷ []) n long = absurd (omega (arith, long))
walk-relengthed (x ∷ y ∷ []) n long = absurd (omega (arith, long))
walk-relengthed (x ∷ y ∷ z ∷ []) n long = absurd (omega (arith, long))
walk-relengthed (x ∷ y ∷ z ∷ w ∷ bytes) n long =
    walk_up_to-same (length (x ∷ y ∷ z ∷ w ∷ bytes)) 20 (with_length (x ∷ y ∷ z ∷ w ∷ bytes) n)
    (x ∷ y ∷ z ∷ w ∷ bytes) refl

pub visible-relengthed : (bytes : List ℕ) (n : ℕ) → 20 ≤ length bytes
    → visible (with_length bytes n) ≡ visible bytes
unfolding visible
visible-relengthed bytes n long =
    ap (λ ms. filter (is_visible ms) ms) (walk-relengthed bytes n long)
