-- What a text reads as, by the facts that a reader finds out.
use Rattle.std.proofs.Common.{◌≡◌, ◌≤◌, ℕ, List, length, refl, rules, true, false}
use Rattle.std.specs.Prelude.{Some, None, IsUtf8}
use Rattle.std.specs.Str.{is_utf8}
use Rattle.std.proofs.lemmas.Str.{is_utf8-from_IsUtf8, IsUtf8-from_is_utf8}
use Rattle.stun_types.specs.Text.{short_text}

-- a short text is read
pub short_text_read : (most : ℕ) (text : List ℕ) → length text ≤ most → IsUtf8 text
    → short_text most text ≡ Some text
short_text_read most text short utf8 =
    let e = is_utf8-from_IsUtf8 text utf8 in
    search rules

-- what is no text is not read
pub short_text_not_read : (most : ℕ) (text : List ℕ) → (IsUtf8 text → ⊥)
    → short_text most text ≡ None
short_text_not_read most text other =
    elim (is_utf8 text) as (λ t. is_utf8 text ≡ t → short_text most text ≡ None) [
      | true ↦ (λ e. absurd (other (IsUtf8-from_is_utf8 text e)))
      | false ↦ (λ e. search rules)
    ] refl
