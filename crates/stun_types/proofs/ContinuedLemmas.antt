-- The attribute that decides does so in each message that goes on from its end, unless a stronger
-- one does.
use Rattle.std.proofs.Common.{◌≡◌, ◌⊎◌, inl, inr, ℕ, zero, suc, ◌+◌, ◌≤◌, true}
use Rattle.std.proofs.Common.{List, [], ◌∷◌, ◌++◌, length, take, drop, refl}
use Rattle.std.proofs.Common.{sym, ◌∙◌, ap, arith, take-append-drop, take-take}
use Rattle.std.specs.Prelude.{Option, Some, None, ◌==◌}
use Rattle.std.specs.Option.{option_or}
use Rattle.std.proofs.lemmas.List.{drop-take, length-take, length-take-le}
use Rattle.std.proofs.lemmas.List.Folds.{find-append}
use Rattle.stun_base.specs.Attributes.{MESSAGE_INTEGRITY, MESSAGE_INTEGRITY_SHA256}
use Rattle.stun_base.specs.Header.{HEADER_LENGTH}
use Rattle.stun_types.specs.Attribute.{attribute_length, has_attribute, first_attribute}
use Rattle.stun_types.specs.Integrity.{deciding, first_of}
use Rattle.stun_types.specs.Message.{with_length}
use Rattle.stun_types.specs.Tail.{AgreeUpToIntegrity, IsContinuedAnew, place_behind}
use Rattle.stun_types.specs.Visible.{is_visible, visible}
use Rattle.stun_types.specs.Walk.{Member, attributes_length, walk}
use Rattle.stun_types.proofs.AddingLemmas.{first_attribute-append}
use Rattle.stun_types.proofs.HiddenLemmas.{Counted, counted_behind, is_visible-front, decider}
use Rattle.stun_types.proofs.HiddenLemmas.{visible-divided, visible-relengthed, walk-relengthed}
use Rattle.stun_types.proofs.ReachedLemmas.{Reaches, first_attribute-take, length-front}
use Rattle.stun_types.proofs.WalkLemmas.{whole_within}

-- ---- bytes with another length field

length-relengthed : (bytes : List ℕ) (n : ℕ) → 20 ≤ length (with_length bytes n)
    → length (with_length bytes n) ≡ length bytes
length-relengthed [] n long = absurd (omega (arith, long))
length-relengthed (x ∷ []) n long = absurd (omega (arith, long))
length-relengthed (x ∷ y ∷ []) n long = absurd (omega (arith, long))
length-relengthed (x ∷ y ∷ z ∷ []) n long = absurd (omega (arith, long))
length-relengthed (x ∷ y ∷ z ∷ w ∷ bytes) n long = refl

-- the length field is before each later place
pub record IsRelengthed (place n : ℕ) (bytes : List ℕ) : Type 0 where
  pub taken_is : take place (with_length bytes n) ≡ with_length (take place bytes) n
  pub dropped_is : drop place (with_length bytes n) ≡ drop place bytes

relengthed : (place n : ℕ) (bytes : List ℕ) → 20 ≤ place → 20 ≤ length bytes
    → IsRelengthed place n bytes
relengthed zero n bytes behind long = absurd (omega (arith, behind))
relengthed (suc zero) n bytes behind long = absurd (omega (arith, behind))
relengthed (suc (suc zero)) n bytes behind long = absurd (omega (arith, behind))
relengthed (suc (suc (suc zero))) n bytes behind long = absurd (omega (arith, behind))
relengthed (suc (suc (suc (suc p)))) n [] behind long = absurd (omega (arith, long))
relengthed (suc (suc (suc (suc p)))) n (x ∷ []) behind long = absurd (omega (arith, long))
relengthed (suc (suc (suc (suc p)))) n (x ∷ y ∷ []) behind long = absurd (omega (arith, long))
relengthed (suc (suc (suc (suc p)))) n (x ∷ y ∷ z ∷ []) behind long = absurd (omega (arith, long))
relengthed (suc (suc (suc (suc p)))) n (x ∷ y ∷ z ∷ w ∷ bytes) behind long =
    record { taken_is = refl; dropped_is = refl }

-- ---- a member in bytes that go on from its end

-- what two messages share that have the same bytes up to the end of a member, but for the length
-- field
pub record ShareMember (bytes others : List ℕ) (m : Member) : Type 0 where
  pub reaches : Reaches HEADER_LENGTH others m
  pub before : with_length (take m.0 bytes) 0 ≡ with_length (take m.0 others) 0
  pub long : 20 ≤ length (take m.0 others)

shared : (bytes others : List ℕ) (m : Member) → Reaches HEADER_LENGTH bytes m
    → with_length (take (place_behind m) bytes) 0 ≡ with_length (take (place_behind m) others) 0
    → ShareMember bytes others m
shared bytes others m reaches same =
    let count = attribute_length (length m.1.value) in
    let end = place_behind m in
    let one = take end bytes in
    let other = take end others in
    let behind = reaches.behind in
    let width : attribute_length (length (first_attribute (drop m.0 bytes)).value) ≡ count =
    ap (λ a. attribute_length (length a.value)) reaches.attribute_is in
    let within : end ≤ length bytes = omega (arith, whole_within m.0 bytes reaches.whole, width) in
    let one_long : length one ≡ end = length-take-le end bytes within in
    let one_set : length (with_length one 0) ≡ length one =
    length-relengthed one 0 (long_set one (omega (arith, one_long, behind))) in
    let other_set =
    length-relengthed other 0 (omega (arith, ap length same, one_set, one_long, behind)) in
    let other_long : 20 ≤ length other =
    omega (arith, other_set, ap length same, one_set, one_long, behind) in
    let at_one = relengthed m.0 0 one behind (omega (arith, one_long, behind)) in
    let at_other = relengthed m.0 0 other behind other_long in
    let front_one : take m.0 one ≡ take m.0 bytes = take-take m.0 end bytes (omega arith) in
    let front_other : take m.0 other ≡ take m.0 others = take-take m.0 end others (omega arith) in
    let before : with_length (take m.0 bytes) 0 ≡ with_length (take m.0 others) 0 =
    ap (λ xs. with_length xs 0) (sym front_one)
    ∙ (sym at_one.taken_is
    ∙ (ap (take m.0) same ∙ (at_other.taken_is ∙ ap (λ xs. with_length xs 0) front_other))) in
    let fronts_long : length (take m.0 bytes) ≡ m.0 = length-front reaches in
    let short : m.0 ≤ length others =
    omega (arith, other_set, ap length same, one_set, one_long, taken_short end others) in
    let others_long : length (take m.0 others) ≡ m.0 = length-take-le m.0 others short in
    let walked : walk (take m.0 others) ≡ walk (take m.0 bytes) =
    sym (walk-relengthed (take m.0 others) 0 (omega (arith, others_long, behind)))
    ∙ (ap walk (sym before)
    ∙ walk-relengthed (take m.0 bytes) 0 (omega (arith, fronts_long, behind))) in
    let here = first_attribute-take count (drop m.0 bytes) reaches.whole (omega (arith, width)) in
    let attribute_bytes : take count (drop m.0 bytes) ≡ take count (drop m.0 others) =
    sym (drop-take m.0 count bytes)
    ∙ (sym at_one.dropped_is
    ∙ (ap (drop m.0) same ∙ (at_other.dropped_is ∙ drop-take m.0 count others))) in
    let whole : has_attribute (take count (drop m.0 others)) ≡ true =
    ap has_attribute (sym attribute_bytes) ∙ here.0 in
    let goes_on =
    first_attribute-append (take count (drop m.0 others)) (drop count (drop m.0 others)) whole in
    let parts = take-append-drop count (drop m.0 others) in
    record {
      reaches = record {
        behind = behind;
        filled = ap (λ ms. HEADER_LENGTH + attributes_length ms) walked ∙ reaches.filled;
        whole = ap has_attribute (sym parts) ∙ goes_on.0;
        attribute_is = ap first_attribute (sym parts)
            ∙ (goes_on.1
            ∙ (ap first_attribute (sym attribute_bytes) ∙ (here.1 ∙ reaches.attribute_is)));
      };
      before = before;
      long = omega (arith, others_long, behind);
    }
  where
    long_set : (xs : List ℕ) → 20 ≤ length xs → 20 ≤ length (with_length xs 0)
    long_set [] long = absurd (omega (arith, long))
    long_set (x ∷ []) long = absurd (omega (arith, long))
    long_set (x ∷ y ∷ []) long = absurd (omega (arith, long))
    long_set (x ∷ y ∷ z ∷ []) long = absurd (omega (arith, long))
    long_set (x ∷ y ∷ z ∷ w ∷ xs) long = long

    taken_short : (n : ℕ) (xs : List ℕ) → length (take n xs) ≤ length xs
    taken_short n xs = omega (arith, length-take n xs)

-- the member counts in the other message too, after the same attributes
visible-shared : (bytes others : List ℕ) (m : Member) → Reaches HEADER_LENGTH bytes m
    → is_visible (walk bytes) m ≡ true → ShareMember bytes others m
    → visible others ≡ visible (take m.0 bytes) ++ m ∷ counted_behind others m
visible-shared bytes others m reaches counted share =
    let long = length-front reaches in
    let front_long : 20 ≤ length (take m.0 bytes) = omega (arith, long, reaches.behind) in
    let walked : walk (take m.0 others) ≡ walk (take m.0 bytes) =
    sym (walk-relengthed (take m.0 others) 0 share.long)
    ∙ (ap walk (sym share.before) ∙ walk-relengthed (take m.0 bytes) 0 front_long) in
    let shown : visible (take m.0 others) ≡ visible (take m.0 bytes) =
    sym (visible-relengthed (take m.0 others) 0 share.long)
    ∙ (ap visible (sym share.before) ∙ visible-relengthed (take m.0 bytes) 0 front_long) in
    let counted_other : is_visible (walk others) m ≡ true =
    is_visible-front others m m share.reaches (omega arith)
    ∙ (ap (λ ms. is_visible ms m) walked
    ∙ (sym (is_visible-front bytes m m reaches (omega arith)) ∙ counted)) in
    visible-divided others m share.reaches counted_other
    ∙ ap (λ ms. ms ++ m ∷ counted_behind others m) shown

-- ---- what decides

-- the first of a type is a member of it, or one before it
first_of-divided : (kind : ℕ) (front rest : List Member) (m : Member) → (m.1.kind == kind) ≡ true
    → first_of kind (front ++ m ∷ rest) ≡ option_or (first_of kind front) (Some m)
first_of-divided kind front rest m is =
    find-append (λ (n : Member). n.1.kind == kind) front (m ∷ rest) ∙ rw is refl

-- of two that may be there, the first one is taken
one_or : {X : Type 0} (first : Option X) (x : X) (one other : Option X)
    → option_or (option_or first (Some x)) one ≡ option_or (option_or first (Some x)) other
one_or (Some y) x one other = refl
one_or None x one other = refl

-- so it decides there too
pub agree-continued : (bytes others : List ℕ) (m : Member) → IsContinuedAnew bytes others m
    → AgreeUpToIntegrity bytes others
agree-continued bytes others m continued =
    by (decider bytes m continued.decides) continued.none_stronger
  where
    by : Counted bytes MESSAGE_INTEGRITY_SHA256 m
        ⊎ (Counted bytes MESSAGE_INTEGRITY m
        × (first_of MESSAGE_INTEGRITY_SHA256 (visible bytes) ≡ None))
        → (m.1.kind ≡ MESSAGE_INTEGRITY_SHA256)
        ⊎ (first_of MESSAGE_INTEGRITY_SHA256 (visible others) ≡ None)
        → AgreeUpToIntegrity bytes others
    by (inl strong) apart =
        let reaches = strong.0.0 in
        let share = shared bytes others m reaches continued.same_up_to_end in
        let front = visible (take m.0 bytes) in
        let one : first_of MESSAGE_INTEGRITY_SHA256 (visible bytes)
        ≡ option_or (first_of MESSAGE_INTEGRITY_SHA256 front) (Some m) =
        ap (first_of MESSAGE_INTEGRITY_SHA256) (visible-divided bytes m reaches strong.0.1)
        ∙ first_of-divided MESSAGE_INTEGRITY_SHA256 front (counted_behind bytes m) m strong.1 in
        let other : first_of MESSAGE_INTEGRITY_SHA256 (visible others)
        ≡ option_or (first_of MESSAGE_INTEGRITY_SHA256 front) (Some m) =
        ap (first_of MESSAGE_INTEGRITY_SHA256)
        (visible-shared bytes others m reaches strong.0.1 share)
        ∙ first_of-divided MESSAGE_INTEGRITY_SHA256 front (counted_behind others m) m strong.1 in
        let same : deciding others ≡ deciding bytes =
        ap (λ o. option_or o (first_of MESSAGE_INTEGRITY (visible others))) other
        ∙ (one_or (first_of MESSAGE_INTEGRITY_SHA256 front) m
        (first_of MESSAGE_INTEGRITY (visible others)) (first_of MESSAGE_INTEGRITY (visible bytes))
        ∙ ap (λ o. option_or o (first_of MESSAGE_INTEGRITY (visible bytes))) (sym one)) in
        record {
          decider = m;
          decides = continued.decides;
          decides_other = same ∙ continued.decides;
          same_before = share.before;
        }
    by (inr weak) (inl stronger) =
        let apart : (MESSAGE_INTEGRITY_SHA256 == MESSAGE_INTEGRITY) ≡ true =
        ap (λ k. k == MESSAGE_INTEGRITY) (sym stronger) ∙ weak.0.1 in cc
    by (inr weak) (inr none) =
        let reaches = weak.0.0.0 in
        let share = shared bytes others m reaches continued.same_up_to_end in
        let front = visible (take m.0 bytes) in
        let one : first_of MESSAGE_INTEGRITY (visible bytes)
        ≡ option_or (first_of MESSAGE_INTEGRITY front) (Some m) =
        ap (first_of MESSAGE_INTEGRITY) (visible-divided bytes m reaches weak.0.0.1)
        ∙ first_of-divided MESSAGE_INTEGRITY front (counted_behind bytes m) m weak.0.1 in
        let other : first_of MESSAGE_INTEGRITY (visible others)
        ≡ option_or (first_of MESSAGE_INTEGRITY front) (Some m) =
        ap (first_of MESSAGE_INTEGRITY) (visible-shared bytes others m reaches weak.0.0.1 share)
        ∙ first_of-divided MESSAGE_INTEGRITY front (counted_behind others m) m weak.0.1 in
        let same : deciding others ≡ deciding bytes =
        (λ i. option_or (none i) (other i)) ∙ (λ i. option_or (sym weak.1 i) (sym one i)) in
        record {
          decider = m;
          decides = continued.decides;
          decides_other = same ∙ continued.decides;
          same_before = share.before;
        }
