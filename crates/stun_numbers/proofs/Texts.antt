-- Whether bytes are a text, as the test says it.
use Rattle.std.proofs.Common.{◌≡◌, ℕ, List, refl, true, false}
use Rattle.std.specs.Prelude.{IsUtf8}
use Rattle.std.specs.Str.{is_utf8}
use Rattle.std.proofs.lemmas.Str.{is_utf8-from_IsUtf8, IsUtf8-from_is_utf8}

-- UTF-8 passes
pub is_text : (bytes : List ℕ) → IsUtf8 bytes → is_utf8 bytes ≡ true
is_text bytes utf8 = is_utf8-from_IsUtf8 bytes utf8

-- what is not UTF-8 does not
pub is_no_text : (bytes : List ℕ) → (IsUtf8 bytes → ⊥) → is_utf8 bytes ≡ false
is_no_text bytes other =
    elim (is_utf8 bytes) as (λ t. is_utf8 bytes ≡ t → t ≡ false) [
      | true ↦ (λ e. absurd (other (IsUtf8-from_is_utf8 bytes e)))
      | false ↦ (λ e. refl)
    ] refl
