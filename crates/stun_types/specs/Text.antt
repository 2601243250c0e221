-- Attributes whose value is a text (RFC 8489, sections 14.3, 14.9 and 14.10).
use Rattle.std.specs.Prelude.{◌≡◌, ℕ, ◌≤◌, List, length, Option, Some, None}
use Rattle.std.specs.Prelude.{IsUtf8, nat_le, ◌==◌, ◌&&◌, if◌then◌else◌}
use Rattle.std.specs.Str.{is_utf8}
use Rattle.std.proofs.Common.{rules}
use Rattle.std.proofs.lemmas.Str.{is_utf8-from_IsUtf8}
use Rattle.stun_types.specs.Attribute.{TypedValue}

-- bytes as a text, if they are UTF-8 and at most this many
abbrev pub short_text : ℕ → List ℕ → Option (List ℕ)
short_text most bytes = if is_utf8 bytes && nat_le (length bytes) most then Some bytes else None

-- the text of an attribute of this type, if it is UTF-8 of at most this many bytes
abbrev pub text_of : ℕ → ℕ → TypedValue → Option (List ℕ)
text_of kind most attribute =
    if attribute.kind == kind then short_text most attribute.value else None

-- a text that is written is read again
pub text_of-written : (kind most : ℕ) (text : List ℕ) → IsUtf8 text × (length text ≤ most)
    → text_of kind most (record { kind = kind; value = text }) ≡ Some text
text_of-written kind most text fits =
    let utf8 = is_utf8-from_IsUtf8 text fits.0 in
    let short = fits.1 in
    search rules
