-- A walk that goes on from a cursor comes to what is visible.
use Rattle.std.proofs.Common.{◌≡◌, ℕ, zero, suc, ◌+◌, ◌≤◌, List, [], ◌∷◌, length, drop, refl}
use Rattle.std.proofs.Common.{◌∙◌, ap, arith}
use Rattle.std.specs.Prelude.{slice_get}
use Rattle.std.proofs.lemmas.List.{drop-drop}
use Rattle.stun_types.specs.Attribute.{TypedValue}
use Rattle.stun_types.specs.Visible.{visible, visible_after}
use Rattle.stun_types.specs.Walk.{walk}
use Rattle.stun_types.specs.declared.message.visibility.Visibility.TheVariants.{Everything}
use Rattle.stun_types.proofs.VisibleLemmas.{StandsAt, visible_after-header}
use Rattle.stun_types.proofs.WalkLemmas.{whole_within}
use Rattle.stun_c.specs.declared.walk.Cursor.{Cursor}
use Rattle.stun_c.specs.Walking.{ahead}

-- from the header it comes to all that is visible
pub shown_visible : (bytes : List ℕ) → visible_after Everything (walk bytes) ≡ visible bytes
shown_visible bytes = visible_after-header bytes

-- the attribute at a place ends within the bytes
pub stands-within : {place kind behind : ℕ} {bytes : List ℕ} {attribute : TypedValue}
    → StandsAt place bytes attribute kind behind → behind ≤ length bytes
stands-within {place} {bytes = bytes} stands =
    rw (stands.behind_is, stands.attribute_is) (whole_within place bytes stands.whole)

-- the first of those that are left after n is the one at n
first-left : {X : Type 0} (n : ℕ) (xs : List X) → slice_get (drop n xs) 0 ≡ slice_get xs n
first-left zero xs = refl
first-left (suc n) [] = refl
first-left (suc n) (x ∷ xs) = first-left n xs

-- a cursor that went on n times from the first place has the first n attributes behind it
gone-on : (bytes : List ℕ) (cursors : ℕ → Cursor) → (cursors 0).place ≡ 0
    → ((n : ℕ) → ahead (cursors (suc n)) bytes ≡ drop 1 (ahead (cursors n) bytes))
    → (n : ℕ) → ahead (cursors n) bytes ≡ drop n (visible bytes)
gone-on bytes cursors first follows zero = rw first refl
gone-on bytes cursors first follows (suc n) =
    let one : n + 1 ≡ suc n = omega arith in
    follows n
    ∙ (ap (drop 1) (gone-on bytes cursors first follows n)
    ∙ (drop-drop 1 n (visible bytes) ∙ ap (λ k. drop k (visible bytes)) one))

pub walks-come : (bytes : List ℕ) (cursors : ℕ → Cursor) → (cursors 0).place ≡ 0
    → ((n : ℕ) → ahead (cursors (suc n)) bytes ≡ drop 1 (ahead (cursors n) bytes))
    → (n : ℕ) → slice_get (ahead (cursors n) bytes) 0 ≡ slice_get (visible bytes) n
walks-come bytes cursors first follows n =
    ap (λ left. slice_get left 0) (gone-on bytes cursors first follows n)
    ∙ first-left n (visible bytes)
