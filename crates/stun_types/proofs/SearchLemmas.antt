-- The first attribute of a type that counts, and the one that decides, as a walk finds them.
use Rattle.std.proofs.Common.{◌≡◌, ℕ, zero, suc, Bool, true, false, cond, List, [], ◌∷◌}
use Rattle.std.proofs.Common.{length, drop, refl, sym, ◌∙◌, ap, subst}
use Rattle.std.specs.Prelude.{Option, Some, None, filter, not, ◌&&◌, ◌||◌, ◌==◌}
use Rattle.std.specs.Option.{is_some, option_map, option_or}
use Rattle.std.proofs.lemmas.Bool.{eqb-true}
use Rattle.stun_base.specs.Attributes.{MESSAGE_INTEGRITY, MESSAGE_INTEGRITY_SHA256, FINGERPRINT}
use Rattle.stun_base.specs.Header.{HEADER_LENGTH}
use Rattle.stun_types.specs.Attribute.{TypedValue, has_attribute, first_attribute}
use Rattle.stun_types.specs.Integrity.{deciding, first_of}
use Rattle.stun_types.specs.Visible.{is_visible, visible}
use Rattle.stun_types.specs.Walk.{Member, next_place, walk_up_to, walk}
use Rattle.stun_types.proofs.VisibleLemmas.{visible_from, HasSeenKinds, is_visible_after}
use Rattle.stun_types.proofs.VisibleLemmas.{is_visible_after-all}
use Rattle.stun_types.proofs.VisibleLemmas.{StandsAt, HasSeenKinds-none, HasSeenKinds-step}
use Rattle.stun_types.proofs.VisibleLemmas.{HasSeenKinds-and}
use Rattle.stun_types.proofs.VisibleLemmas.{is_visible-passed, visible_from-header}
use Rattle.stun_types.proofs.VisibleLemmas.{visible_from-end}
use Rattle.stun_types.proofs.VisibleLemmas.{visible_from-step, visible_from-shown}

-- ---- what is shown behind more

not-or : (a b : Bool) → not (a || b) ≡ (not a && not b)
not-or true b = refl
not-or false b = refl

unless-or : (a b x : Bool) → (not (a || b) || x) ≡ ((not a || x) && (not b || x))
unless-or true true true = refl
unless-or true true false = refl
unless-or true false true = refl
unless-or true false false = refl
unless-or false true true = refl
unless-or false true false = refl
unless-or false false x = refl

unless-or_either : (a b y x : Bool)
    → (not (a || b) || y || x) ≡ ((not a || y || x) && (not b || y || x))
unless-or_either true true true x = refl
unless-or_either true false true x = refl
unless-or_either true true false true = refl
unless-or_either true false false true = refl
unless-or_either true b false false = refl
unless-or_either false b y x = refl

in_threes : (a a' b b' c c' : Bool)
    → ((a && a') && (b && b') && (c && c')) ≡ ((a && b && c) && (a' && b' && c'))
in_threes false a' b b' c c' = refl
in_threes true true true b' true c' = refl
in_threes true true true true false c' = refl
in_threes true true true false false c' = refl
in_threes true true false b' c c' = refl
in_threes true false true b' true c' = refl
in_threes true false true b' false c' = refl
in_threes true false false b' c c' = refl

-- a type counts behind attributes and others where it counts behind each
pub is_visible_after-or : (i s f a b c : Bool) (kind : ℕ)
    → is_visible_after (i || a) (s || b) (f || c) kind
    ≡ (is_visible_after i s f kind && is_visible_after a b c kind)
is_visible_after-or i s f a b c kind =
    let x = (kind == FINGERPRINT) in
    let y = (kind == MESSAGE_INTEGRITY_SHA256) in
    is_visible_after-all (i || a) (s || b) (f || c) kind
    ∙ ((λ j. not-or f c j && unless-or s b x j && unless-or_either i a y x j)
    ∙ (in_threes (not f) (not c) (not s || x) (not b || x) (not i || y || x) (not a || y || x)
    ∙ (λ j. sym (is_visible_after-all i s f kind) j && sym (is_visible_after-all a b c kind) j)))

-- ---- the first of a type from a place

-- an attribute of another type is not it
pub first_of-past : (sought : ℕ) {place kind behind : ℕ}
    {bytes : List ℕ} {attribute : TypedValue}
    → StandsAt place bytes attribute kind behind → (kind == sought) ≡ false
    → first_of sought (visible_from place bytes) ≡ first_of sought (visible_from behind bytes)
first_of-past sought {place} {behind = behind} {bytes = bytes} stands other =
    let m : Member = (place, first_attribute (drop place bytes)) in
    let rest : List Member = visible_from (next_place place bytes) bytes in
    let not_it : (m.1.kind == sought) ≡ false =
    rw (stands.kind_is, stands.attribute_is) at other in
    let skipped : first_of sought (m ∷ rest) ≡ first_of sought rest = rw not_it refl in
    let either : (b : Bool) → first_of sought (cond b (m ∷ rest) rest) ≡ first_of sought rest =
    λ b. elim b as (λ b. first_of sought (cond b (m ∷ rest) rest) ≡ first_of sought rest) [
      | true ↦ skipped
      | false ↦ refl
    ] in
    let on : first_of sought rest ≡ first_of sought (visible_from behind bytes) =
    rw (stands.behind_is, stands.attribute_is) refl in
    ap (first_of sought) (visible_from-step place bytes stands.whole)
    ∙ (either (is_visible (walk bytes) m) ∙ on)

-- one of the type is it, where it counts
pub first_of-here : (sought : ℕ) {place kind behind : ℕ} {i s f : Bool}
    {bytes : List ℕ} {attribute : TypedValue}
    → HasSeenKinds place i s f bytes → StandsAt place bytes attribute kind behind
    → (kind == sought) ≡ true → is_visible_after i s f sought ≡ true
    → first_of sought (visible_from place bytes) ≡ Some (place, attribute)
first_of-here sought {kind = kind} {i = i} {s} {f} passed stands same shown =
    let is : kind ≡ sought = eqb-true kind sought same in
    let counted : is_visible_after i s f kind ≡ true = ap (is_visible_after i s f) is ∙ shown in
    let found = rw stands.kind_is at same in
    ap (first_of sought) (visible_from-shown passed stands counted) ∙ rw found refl

-- what does not count is not found
skipped : (sought : ℕ) (test : Member → Bool) (m : Member) (others : List Member)
    → ((m.1.kind == sought) ≡ true → test m ≡ false)
    → first_of sought (filter test others) ≡ None
    → first_of sought (filter test (m ∷ others)) ≡ None
skipped sought test m others hidden rest =
    let left : List Member = filter test others in
    elim (test m) as (λ shown. ((m.1.kind == sought) ≡ true → shown ≡ false)
    → first_of sought (cond shown (m ∷ left) left) ≡ None) [
      | true ↦ λ hidden. elim (m.1.kind == sought) as (λ is. (is ≡ true → true ≡ false)
          → cond is (Some m) (first_of sought left) ≡ None) [
            | true ↦ λ hidden. let never = hidden refl in cc
            | false ↦ λ hidden. rest
          ] hidden
      | false ↦ λ hidden. rest
    ] hidden

shut : (most place : ℕ) (bytes : List ℕ) (sought : ℕ) (i s f : Bool)
    → HasSeenKinds place i s f bytes → is_visible_after i s f sought ≡ false
    → first_of sought (filter (is_visible (walk bytes)) (walk_up_to most place bytes)) ≡ None
unfolding walk_up_to
shut zero place bytes sought i s f passed hidden = refl
shut (suc most) place bytes sought i s f passed hidden =
    let test = is_visible (walk bytes) in
    let m : Member = (place, first_attribute (drop place bytes)) in
    let kind = m.1.kind in
    let others : List Member = walk_up_to most (next_place place bytes) bytes in
    let still : (a b c : Bool) → is_visible_after (i || a) (s || b) (f || c) sought ≡ false =
    λ a b c. is_visible_after-or i s f a b c sought ∙ rw hidden refl in
    let uncounted : (kind == sought) ≡ true → test m ≡ false =
    λ same. is_visible-passed passed
    ∙ (ap (is_visible_after i s f) (eqb-true kind sought same) ∙ hidden) in
    elim (has_attribute (drop place bytes)) as (λ whole. has_attribute (drop place bytes) ≡ whole
    → first_of sought (filter test (cond whole (m ∷ others) [])) ≡ None) [
      | true ↦ λ whole. skipped sought test m others uncounted
          (shut most (next_place place bytes) bytes sought _ _ _ (HasSeenKinds-step passed whole)
          (still (kind == MESSAGE_INTEGRITY) (kind == MESSAGE_INTEGRITY_SHA256)
          (kind == FINGERPRINT)))
      | false ↦ λ none. refl
    ] refl

-- none of a type is found behind what hides it
pub first_of-shut : {place : ℕ} {i s f : Bool} {bytes : List ℕ} (sought : ℕ)
    → HasSeenKinds place i s f bytes → is_visible_after i s f sought ≡ false
    → first_of sought (visible_from place bytes) ≡ None
unfolding visible_from
first_of-shut {place} {i} {s} {f} {bytes} sought passed hidden =
    shut (length bytes) place bytes sought i s f passed hidden

-- ---- the search for the first of a type

-- whether one type is shown behind an attribute of another
abbrev pub shows : ℕ → ℕ → Bool
shows kind sought =
    is_visible_after (kind == MESSAGE_INTEGRITY) (kind == MESSAGE_INTEGRITY_SHA256)
    (kind == FINGERPRINT) sought

-- it is not before a place, and nothing before the place hides it
pub record IsSought (sought place : ℕ) (bytes : List ℕ) : Type 0 where
  pub integrity : Bool
  pub integrity_sha256 : Bool
  pub fingerprint : Bool
  pub passed : HasSeenKinds place integrity integrity_sha256 fingerprint bytes
  pub shown : is_visible_after integrity integrity_sha256 fingerprint sought ≡ true
  pub left : first_of sought (visible bytes) ≡ first_of sought (visible_from place bytes)

pub IsSought-header : (sought : ℕ) (bytes : List ℕ) → IsSought sought HEADER_LENGTH bytes
IsSought-header sought bytes = record {
  integrity = false;
  integrity_sha256 = false;
  fingerprint = false;
  passed = HasSeenKinds-none bytes;
  shown = refl;
  left = ap (first_of sought) (sym (visible_from-header bytes));
}

pub IsSought-found : {sought place kind behind : ℕ}
    {bytes : List ℕ} {attribute : TypedValue}
    → IsSought sought place bytes → StandsAt place bytes attribute kind behind
    → (kind == sought) ≡ true → first_of sought (visible bytes) ≡ Some (place, attribute)
IsSought-found {sought} so stands same =
    so.left ∙ first_of-here sought so.passed stands same so.shown

-- what is shown behind one attribute more
shown-and : {sought place : ℕ} {bytes : List ℕ} (so : IsSought sought place bytes) (kind : ℕ)
    → is_visible_after (so.integrity || (kind == MESSAGE_INTEGRITY))
    (so.integrity_sha256 || (kind == MESSAGE_INTEGRITY_SHA256))
    (so.fingerprint || (kind == FINGERPRINT)) sought
    ≡ shows kind sought
shown-and {sought} so kind =
    is_visible_after-or so.integrity so.integrity_sha256 so.fingerprint (kind == MESSAGE_INTEGRITY)
    (kind == MESSAGE_INTEGRITY_SHA256) (kind == FINGERPRINT) sought
    ∙ (λ j. so.shown j && shows kind sought)

-- the search goes on behind an attribute of another type that does not hide it
pub IsSought-past : {sought place kind behind : ℕ}
    {bytes : List ℕ} {attribute : TypedValue}
    → IsSought sought place bytes → StandsAt place bytes attribute kind behind
    → (kind == sought) ≡ false → shows kind sought ≡ true → IsSought sought behind bytes
IsSought-past {sought} {kind = kind} so stands other shown = record {
  integrity = so.integrity || (kind == MESSAGE_INTEGRITY);
  integrity_sha256 = so.integrity_sha256 || (kind == MESSAGE_INTEGRITY_SHA256);
  fingerprint = so.fingerprint || (kind == FINGERPRINT);
  passed = HasSeenKinds-and so.passed stands refl refl refl;
  shown = shown-and so kind ∙ shown;
  left = so.left ∙ first_of-past sought stands other;
}

-- there is none behind an attribute of another type that hides it
pub IsSought-hidden : {sought place kind behind : ℕ}
    {bytes : List ℕ} {attribute : TypedValue}
    → IsSought sought place bytes → StandsAt place bytes attribute kind behind
    → (kind == sought) ≡ false → shows kind sought ≡ false → first_of sought (visible bytes) ≡ None
IsSought-hidden {sought} {kind = kind} so stands other hidden =
    let all = HasSeenKinds-and so.passed stands refl refl refl in
    so.left
    ∙ (first_of-past sought stands other ∙ first_of-shut sought all (shown-and so kind ∙ hidden))

pub IsSought-end : {sought place : ℕ} {bytes : List ℕ} → IsSought sought place bytes
    → has_attribute (drop place bytes) ≡ false → first_of sought (visible bytes) ≡ None
IsSought-end {sought} {place} {bytes} so none =
    so.left ∙ ap (first_of sought) (visible_from-end place bytes none)

-- ---- the search for the one that decides

-- the attribute at a place, if there is a place
abbrev pub member_at : List ℕ → Option ℕ → Option Member
member_at bytes place = option_map (λ place. (place, first_attribute (drop place bytes))) place

-- the stronger one of these members, and without one the weaker one, passed or among them
abbrev pub decides : Option Member → List Member → Option Member
decides weaker members =
    option_or (first_of MESSAGE_INTEGRITY_SHA256 members)
    (option_or weaker (first_of MESSAGE_INTEGRITY members))

-- the weaker one was passed at this place, or not, and nothing else that hides one that decides
pub record IsUndecided (weaker : Option ℕ) (place : ℕ) (bytes : List ℕ) : Type 0 where
  pub passed : HasSeenKinds place (is_some weaker) false false bytes
  pub left : deciding bytes ≡ decides (member_at bytes weaker) (visible_from place bytes)

pub IsUndecided-header : (bytes : List ℕ) → IsUndecided None HEADER_LENGTH bytes
IsUndecided-header bytes = record {
  passed = HasSeenKinds-none bytes;
  left = ap (decides None) (sym (visible_from-header bytes));
}

stronger_counts : (integrity : Bool)
    → is_visible_after integrity false false MESSAGE_INTEGRITY_SHA256 ≡ true
stronger_counts true = refl
stronger_counts false = refl

-- the stronger one decides
pub IsUndecided-stronger : {weaker : Option ℕ} {place kind behind : ℕ}
    {bytes : List ℕ} {attribute : TypedValue}
    → IsUndecided weaker place bytes → StandsAt place bytes attribute kind behind
    → (kind == MESSAGE_INTEGRITY_SHA256) ≡ true → deciding bytes ≡ Some (place, attribute)
IsUndecided-stronger {weaker} so stands same =
    let counted = stronger_counts (is_some weaker) in
    so.left ∙ rw (first_of-here MESSAGE_INTEGRITY_SHA256 so.passed stands same counted) refl

or_none : {X : Type 0} (found : Option X) → option_or None (option_or found None) ≡ found
or_none None = refl
or_none (Some x) = refl

-- where neither is found any more, the weaker one that was passed decides
unless_found : {weaker : Option ℕ} {place : ℕ} {bytes : List ℕ} → IsUndecided weaker place bytes
    → first_of MESSAGE_INTEGRITY_SHA256 (visible_from place bytes) ≡ None
    → first_of MESSAGE_INTEGRITY (visible_from place bytes) ≡ None
    → deciding bytes ≡ member_at bytes weaker
unless_found {weaker} {bytes = bytes} so no_stronger no_weaker =
    let before = member_at bytes weaker in
    so.left ∙ ((λ j. option_or (no_stronger j) (option_or before (no_weaker j))) ∙ or_none before)

pub IsUndecided-end : {weaker : Option ℕ} {place : ℕ} {bytes : List ℕ}
    → IsUndecided weaker place bytes → has_attribute (drop place bytes) ≡ false
    → deciding bytes ≡ member_at bytes weaker
IsUndecided-end {place = place} {bytes} so none =
    let no_more = visible_from-end place bytes none in
    unless_found so (ap (first_of MESSAGE_INTEGRITY_SHA256) no_more)
    (ap (first_of MESSAGE_INTEGRITY) no_more)

-- FINGERPRINT hides both
pub IsUndecided-fingerprint : {weaker : Option ℕ} {place kind behind : ℕ}
    {bytes : List ℕ} {attribute : TypedValue}
    → IsUndecided weaker place bytes → StandsAt place bytes attribute kind behind
    → (kind == FINGERPRINT) ≡ true → deciding bytes ≡ member_at bytes weaker
IsUndecided-fingerprint {kind = kind} so stands same =
    let is : kind ≡ FINGERPRINT = eqb-true kind FINGERPRINT same in
    let all = HasSeenKinds-and so.passed stands refl refl (sym same) in
    let no_stronger = first_of-shut MESSAGE_INTEGRITY_SHA256 all refl in
    let no_weaker = first_of-shut MESSAGE_INTEGRITY all refl in
    unless_found so (first_of-past MESSAGE_INTEGRITY_SHA256 stands (rw is refl) ∙ no_stronger)
    (first_of-past MESSAGE_INTEGRITY stands (rw is refl) ∙ no_weaker)

or_false : (a b : Bool) → b ≡ false → a ≡ (a || b)
or_false true b is = refl
or_false false b is = sym is

-- another attribute changes nothing
pub IsUndecided-other : {weaker : Option ℕ} {place kind behind : ℕ}
    {bytes : List ℕ} {attribute : TypedValue}
    → IsUndecided weaker place bytes → StandsAt place bytes attribute kind behind
    → (kind == MESSAGE_INTEGRITY_SHA256) ≡ false → (kind == FINGERPRINT) ≡ false
    → (kind == MESSAGE_INTEGRITY) ≡ false → IsUndecided weaker behind bytes
IsUndecided-other {weaker} {kind = kind} {bytes = bytes} so stands no_stronger no_print no_weaker =
    let unchanged = or_false (is_some weaker) (kind == MESSAGE_INTEGRITY) no_weaker in
    let stronger = first_of-past MESSAGE_INTEGRITY_SHA256 stands no_stronger in
    let weak = first_of-past MESSAGE_INTEGRITY stands no_weaker in
    record {
      passed = HasSeenKinds-and so.passed stands unchanged (sym no_stronger) (sym no_print);
      left = so.left ∙ (λ j. option_or (stronger j) (option_or (member_at bytes weaker) (weak j)));
    }

-- the first weaker one is kept
pub IsUndecided-weaker : {weaker : Option ℕ} {place kind behind : ℕ}
    {bytes : List ℕ} {attribute : TypedValue}
    → IsUndecided weaker place bytes → StandsAt place bytes attribute kind behind
    → (kind == MESSAGE_INTEGRITY_SHA256) ≡ false → (kind == FINGERPRINT) ≡ false
    → (kind == MESSAGE_INTEGRITY) ≡ true → weaker ≡ None → IsUndecided (Some place) behind bytes
IsUndecided-weaker {place = place} {bytes = bytes} undecided stands no_stronger no_print same none =
    let so : IsUndecided None place bytes =
    subst (λ weaker. IsUndecided weaker place bytes) none undecided in
    let here : first_of MESSAGE_INTEGRITY (visible_from place bytes)
    ≡ member_at bytes (Some place) =
    first_of-here MESSAGE_INTEGRITY so.passed stands same refl
    ∙ ap (λ attribute. Some (place, attribute)) stands.attribute_is in
    let stronger = first_of-past MESSAGE_INTEGRITY_SHA256 stands no_stronger in
    record {
      passed = HasSeenKinds-and so.passed stands (sym same) (sym no_stronger) (sym no_print);
      left = so.left ∙ (λ j. option_or (stronger j) (here j));
    }

-- a later one changes nothing
pub IsUndecided-again : {weaker : Option ℕ} {place kind behind : ℕ}
    {bytes : List ℕ} {attribute : TypedValue}
    → IsUndecided weaker place bytes → StandsAt place bytes attribute kind behind
    → (kind == MESSAGE_INTEGRITY_SHA256) ≡ false → (kind == FINGERPRINT) ≡ false
    → is_some weaker ≡ true → IsUndecided weaker behind bytes
IsUndecided-again {weaker} {place} {behind = behind} {bytes} so stands no_stronger no_print is =
    by weaker so is
  where
    by : (weaker : Option ℕ) → IsUndecided weaker place bytes → is_some weaker ≡ true
        → IsUndecided weaker behind bytes
    by None so passed = cc
    by (Some earlier) so passed =
        let stronger = first_of-past MESSAGE_INTEGRITY_SHA256 stands no_stronger in
        record {
          passed = HasSeenKinds-and so.passed stands refl (sym no_stronger) (sym no_print);
          left = so.left ∙ (λ j. option_or (stronger j) (member_at bytes (Some earlier)));
        }
