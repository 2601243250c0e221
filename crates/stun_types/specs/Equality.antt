-- Which attributes are equal.
use Rattle.std.specs.Prelude.{Bool, nat_eq}
use Rattle.std.specs.Ordering.{on, eq_of_both}
use Rattle.std.specs.Cmp.{IsEquivalence, on_equiv, and_equiv, nat_eq_equiv}
use Rattle.stun_base.specs.Credentials.{same_text, same_text_equivalence}
use Rattle.stun_types.specs.Attribute.{TypedValue}
use Rattle.stun_types.specs.ErrorCode.{CodeAndReason}

-- two attributes have the same type and value
abbrev pub same_attribute : TypedValue → TypedValue → Bool
same_attribute =
    eq_of_both (on (λ (a : TypedValue). a.kind) nat_eq) (on (λ (a : TypedValue). a.value) same_text)

-- `same_attribute` is an equivalence
pub same_attribute_equivalence : IsEquivalence same_attribute
same_attribute_equivalence =
    and_equiv (on_equiv (λ (a : TypedValue). a.kind) nat_eq_equiv)
    (on_equiv (λ (a : TypedValue). a.value) same_text_equivalence)

-- two errors have the same code and reason
abbrev pub same_error : CodeAndReason → CodeAndReason → Bool
same_error =
    eq_of_both (on (λ (e : CodeAndReason). e.code) nat_eq)
    (on (λ (e : CodeAndReason). e.reason) same_text)

-- `same_error` is an equivalence
pub same_error_equivalence : IsEquivalence same_error
same_error_equivalence =
    and_equiv (on_equiv (λ (e : CodeAndReason). e.code) nat_eq_equiv)
    (on_equiv (λ (e : CodeAndReason). e.reason) same_text_equivalence)
