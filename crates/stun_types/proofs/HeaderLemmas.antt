-- The fields of a header one by one.
use Rattle.std.proofs.Common.{◌≡◌, ℕ, ◌<◌, ◌^◌, ◌%◌, List, rules}
use Rattle.std.specs.Prelude.{IsTrue, nat_lt, ◌&&◌, ◌==◌}
use Rattle.stun_base.specs.Header.{MAGIC_COOKIE, cookie_field, is_stun, length_field, type_field}

-- what each field of a header is
pub record HasFields (bytes : List ℕ) : Type 0 where
  pub top_bits : type_field bytes < 2 ^ 14
  pub cookie : cookie_field bytes ≡ MAGIC_COOKIE
  pub aligned : length_field bytes % 4 ≡ 0

tests : (kind cookie count : ℕ)
    → IsTrue (nat_lt kind (2 ^ 14) && (cookie == MAGIC_COOKIE) && (count % 4 == 0))
    → (kind < 2 ^ 14) × ((cookie ≡ MAGIC_COOKIE) × (count % 4 ≡ 0))
tests kind cookie count all = search rules

passed : (kind cookie count : ℕ) → kind < 2 ^ 14 → cookie ≡ MAGIC_COOKIE → count % 4 ≡ 0
    → IsTrue (nat_lt kind (2 ^ 14) && (cookie == MAGIC_COOKIE) && (count % 4 == 0))
passed kind cookie count top_bits is aligned = search rules

-- the test of all tells of each
pub fields_of : (bytes : List ℕ) → IsTrue (is_stun bytes) → HasFields bytes
fields_of bytes all =
    let each = tests (type_field bytes) (cookie_field bytes) (length_field bytes) all in
    record { top_bits = each.0; cookie = each.1.0; aligned = each.1.1 }

-- and each tell of all
pub is_stun-fields : (bytes : List ℕ) → HasFields bytes → IsTrue (is_stun bytes)
is_stun-fields bytes each =
    passed (type_field bytes) (cookie_field bytes) (length_field bytes) each.top_bits each.cookie
    each.aligned
