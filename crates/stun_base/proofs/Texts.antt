-- Texts with colons between them, and whether bytes are UTF-8.
use Rattle.std.proofs.Common.{◌≡◌, ◌↔◌, ◌<◌, ◌+◌, ℕ, List, ◌∷◌, ◌++◌, []}
use Rattle.std.proofs.Common.{length, length-append, drop, get_or, refl, sym}
use Rattle.std.proofs.Common.{true, false, arith, IsTrue, append_assoc, ap, ◌∙◌}
use Rattle.std.specs.Prelude.{Bool, ◌&&◌}
use Rattle.std.specs.Str.{IsUtf8, is_utf8}
use Rattle.std.proofs.lemmas.Bool.{and_from, and_parts}
use Rattle.std.proofs.lemmas.List.{take_at, drop_at, get_or_at}
use Rattle.std.proofs.lemmas.Str.{is_utf8-from_IsUtf8, IsUtf8-from_is_utf8, IsUtf8-append}
use Rattle.std.proofs.lemmas.Str.{IsUtf8-from_ascii, IsUtf8-drop, IsUtf8-take}
use Rattle.std.proofs.lemmas.Str.{IsCharBoundary-before_ascii, IsCharBoundary-after_ascii}
use Rattle.simdutf8.proofs.StepsLemmas.{IsAscii-replicate}
use Rattle.stun_base.specs.Keys.{with_colon, are_utf8}

-- a test for UTF-8 answers as the definition does
pub is_utf8_from : (test : Bool) (bytes : List ℕ) → (IsTrue test ↔ IsUtf8 bytes)
    → test ≡ is_utf8 bytes
is_utf8_from true bytes said = sym (is_utf8-from_IsUtf8 bytes (said.0 refl))
is_utf8_from false bytes said =
    elim (is_utf8 bytes) as (λ t. is_utf8 bytes ≡ t → false ≡ t) [
      | true ↦ (λ e. said.1 (IsUtf8-from_is_utf8 bytes e))
      | false ↦ (λ e. refl)
    ] refl

-- the colon goes with either text
colon_behind : (front back : List ℕ) → with_colon front back ≡ front ++ 58 ∷ back
colon_behind front back = append_assoc front (58 ∷ []) back

colon_is_text : IsUtf8 (58 ∷ [])
colon_is_text = IsUtf8-from_ascii (58 ∷ []) (IsAscii-replicate 1 58 (omega arith))

-- a colon is a character of its own, so the whole is UTF-8 just where both texts are
utf8_with_colon : (front back : List ℕ)
    → IsUtf8 (with_colon front back) ↔ (IsUtf8 front × IsUtf8 back)
utf8_with_colon front back =
    let whole = front ++ 58 ∷ back in
    let at = length front in
    let ascii : get_or whole at 0 < 128 = rw (get_or_at front 58 back 0 at refl) (omega arith) in
    let long : at < length whole = rw (length-append front (58 ∷ back)) (omega arith) in
    let behind : drop (at + 1) whole ≡ back =
    ap (drop (at + 1)) (sym (append_assoc front (58 ∷ []) back))
    ∙ drop_at (front ++ 58 ∷ []) back (at + 1) (length-append front (58 ∷ [])) in (
      λ u. (
          let text : IsUtf8 whole = rw (colon_behind front back) at u in (
            rw (take_at front (58 ∷ back) at refl)
                at (IsUtf8-take whole at text (IsCharBoundary-before_ascii whole at long ascii)),
            rw behind
                at (IsUtf8-drop whole (at + 1) text
                (IsCharBoundary-after_ascii whole at text long ascii)),
          )
          ),
      λ both. IsUtf8-append (front ++ 58 ∷ []) back
          (IsUtf8-append front (58 ∷ []) both.0 colon_is_text) both.1,
    )

-- the same of three texts
pub are_utf8_joined : (username realm password : List ℕ)
    → IsUtf8 (with_colon (with_colon username realm) password)
    ↔ (are_utf8 username realm password ≡ true)
are_utf8_joined username realm password =
    let outer = utf8_with_colon (with_colon username realm) password in
    let inner = utf8_with_colon username realm in (
      λ u. (
          let two = outer.0 u in
          let one = inner.0 two.0 in
          and_from (is_utf8 username && is_utf8 realm) (is_utf8 password)
          (and_from (is_utf8 username) (is_utf8 realm) (is_utf8-from_IsUtf8 username one.0)
          (is_utf8-from_IsUtf8 realm one.1))
          (is_utf8-from_IsUtf8 password two.1)
          ),
      λ e. (
          let two = and_parts (is_utf8 username && is_utf8 realm) (is_utf8 password) e in
          let one = and_parts (is_utf8 username) (is_utf8 realm) two.0 in
          outer.1 (
            inner.1 (IsUtf8-from_is_utf8 username one.0, IsUtf8-from_is_utf8 realm one.1),
            IsUtf8-from_is_utf8 password two.1,
          )
          ),
    )
