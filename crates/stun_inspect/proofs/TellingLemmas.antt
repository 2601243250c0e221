-- What is told of a message, and which of it nothing hides.
use Rattle.std.proofs.Common.{◌≡◌, ℕ, true, false, cond, List, [], ◌∷◌, ◌++◌, drop, refl, sym, ap}
use Rattle.std.proofs.Common.{◌∙◌}
use Rattle.std.specs.Prelude.{is_none, map, filter, None}
use Rattle.std.proofs.lemmas.List.{map-append}
use Rattle.stun_base.specs.Attributes.{MESSAGE_INTEGRITY, MESSAGE_INTEGRITY_SHA256, FINGERPRINT}
use Rattle.stun_types.specs.Attribute.{TypedValue, first_attribute}
use Rattle.stun_types.specs.Walk.{Member, walk, walk_from}
use Rattle.stun_types.specs.Visible.{after, before, has_kind, hider, hiding_type, is_visible}
use Rattle.stun_types.specs.Visible.{shows, visibility_at, visibility_of, visible}
use Rattle.stun_types.specs.declared.message.visibility.Visibility.{Visibility}
use Rattle.stun_types.specs.declared.message.visibility.Visibility.TheVariants.{Everything, Nothing}
use Rattle.stun_types.specs.declared.message.visibility.Visibility.TheVariants.{AfterIntegrity}
use Rattle.stun_types.specs.declared.message.visibility.Visibility.TheVariants.{
  AfterIntegritySha256,
}
use Rattle.stun_types.proofs.WalkLemmas.{before-step}
use Rattle.stun_types.proofs.VisibleLemmas.{after-of, HasSeenKinds, HasSeenKinds-and, StandsAt}
use Rattle.stun_inspect.specs.declared.telling.Told.{Told}
use Rattle.stun_inspect.specs.Telling.{told_at, told_attributes, unhidden_members}

-- nothing hides what is visible, and something hides the rest
hider-none : (visibility : Visibility) (kind : ℕ) → is_none (hider visibility kind)
    ≡ shows visibility kind
hider-none Everything kind = refl
hider-none AfterIntegrity kind =
    elim (shows AfterIntegrity kind)
    as (λ is. is_none (cond is None (hiding_type AfterIntegrity)) ≡ is)
    [ true ↦ refl | false ↦ refl ]
hider-none AfterIntegritySha256 kind =
    elim (shows AfterIntegritySha256 kind)
    as (λ is. is_none (cond is None (hiding_type AfterIntegritySha256)) ≡ is)
    [ true ↦ refl | false ↦ refl ]
hider-none Nothing kind = refl

-- what is told of attributes shows those that are visible among all
unhidden_members-told : (all members : List Member)
    → unhidden_members (map (told_at all) members) ≡ filter (is_visible all) members
unhidden_members-told all [] = refl
unhidden_members-told all (m ∷ members) =
    let rest = unhidden_members-told all members in
    let same : is_none (told_at all m).hidden_by ≡ is_visible all m = hider-none _ m.1.kind in
    rw same (elim (is_visible all m) as (λ is_shown.
    map (λ t. (t.place, t.attribute))
    (cond is_shown (told_at all m ∷ filter (λ t. is_none t.hidden_by) (map (told_at all) members))
    (filter (λ t. is_none t.hidden_by) (map (told_at all) members)))
    ≡ cond is_shown (m ∷ filter (is_visible all) members) (filter (is_visible all) members)) [
      | true ↦ ap (λ ms. m ∷ ms) rest
      | false ↦ rest
    ])

-- what is told of a message shows what is visible
pub unhidden_members-visible : (bytes : List ℕ)
    → unhidden_members (told_attributes bytes) ≡ visible bytes
unfolding visible
unhidden_members-visible bytes = unhidden_members-told (walk bytes) (walk bytes)

-- the attribute at a place is passed, which changes what is visible
pub passed-step : {place kind behind : ℕ} {bytes : List ℕ} {attribute : TypedValue}
    → before place (walk bytes) ++ walk_from place bytes ≡ walk bytes
    → StandsAt place bytes attribute kind behind
    → (before behind (walk bytes) ++ walk_from behind bytes ≡ walk bytes)
    × (after (visibility_at place (walk bytes)) kind ≡ visibility_at behind (walk bytes))
passed-step {place} {kind} {bytes = bytes} is_place stands =
    let integrity = has_kind MESSAGE_INTEGRITY (before place (walk bytes)) in
    let integrity_sha256 = has_kind MESSAGE_INTEGRITY_SHA256 (before place (walk bytes)) in
    let fingerprint = has_kind FINGERPRINT (before place (walk bytes)) in
    let passed : HasSeenKinds place integrity integrity_sha256 fingerprint bytes = record {
      is_place = is_place;
      integrity_seen = refl;
      integrity_sha256_seen = refl;
      fingerprint_seen = refl;
    } in
    let next = HasSeenKinds-and passed stands refl refl refl in (
      next.is_place,
      after-of integrity integrity_sha256 fingerprint kind
          ∙ (λ i. visibility_of (next.integrity_seen i) (next.integrity_sha256_seen i)
          (next.fingerprint_seen i)),
    )

-- it is told after those before it
pub told-step : {place kind behind : ℕ} {bytes : List ℕ} {attribute : TypedValue}
    {visibility : Visibility} {told : List Told}
    → before place (walk bytes) ++ walk_from place bytes ≡ walk bytes
    → StandsAt place bytes attribute kind behind
    → visibility ≡ visibility_at place (walk bytes)
    → told ≡ map (told_at (walk bytes)) (before place (walk bytes))
    → told ++ record {
      place = place;
      attribute = attribute;
      hidden_by = hider visibility kind;
    } ∷ []
    ≡ map (told_at (walk bytes)) (before behind (walk bytes))
told-step {place} {bytes = bytes} is_place stands visibility_is so_far =
    let step = before-step place bytes is_place stands.whole in
    rw (
      stands.behind_is,
      stands.kind_is,
      stands.attribute_is,
      so_far,
      step,
      visibility_is,
    )
    (sym (map-append (told_at (walk bytes)) (before place (walk bytes))
    ((place, first_attribute (drop place bytes)) ∷ [])))
