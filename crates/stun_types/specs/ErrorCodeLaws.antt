-- An error that is written is read again.
use Rattle.std.specs.Prelude.{◌≡◌, ℕ, ◌+◌, ◌*◌, ◌/◌, ◌%◌, ◌≤◌, nat_le}
use Rattle.std.specs.Prelude.{◌&&◌, if◌then◌else◌, Some, None}
use Rattle.std.proofs.Common.{arith, rules, ap, ◌∙◌}
use Rattle.std.proofs.lemmas.Str.{is_utf8-from_IsUtf8}
use Rattle.stun_base.specs.Attributes.{ERROR_CODE}
use Rattle.stun_types.specs.Limits.{TEXT_LIMIT}
use Rattle.stun_types.specs.Text.{short_text}
use Rattle.stun_types.specs.ErrorCode.{CodeAndReason, IsError, code_in, error_of, error_value}

-- a class and a number within their limits
within : (class number : ℕ) → 3 ≤ class → class ≤ 6 → number ≤ 99
    → (if nat_le 3 class && nat_le class 6 && nat_le number 99 then Some (100 * class + number)
    else None) ≡ Some (100 * class + number)
within class number from below rest = search rules

-- the code in a written value
code_in-written : (error : CodeAndReason) → IsError error
    → code_in (error_value error) ≡ Some error.code
code_in-written error fits =
    let from : 3 ≤ error.code / 100 = omega (arith, fits.from_300) in
    let below : error.code / 100 ≤ 6 = omega (arith, fits.below_700) in
    let class : (error.code / 100) % 8 ≡ error.code / 100 = omega arith in
    let number : error.code % 100 ≤ 99 = omega arith in
    let whole : 100 * (error.code / 100) + error.code % 100 ≡ error.code = omega arith in
    rw class (within (error.code / 100) (error.code % 100) from below number ∙ ap Some whole)

-- the reason in a written value
reason-written : (error : CodeAndReason) → IsError error
    → short_text TEXT_LIMIT error.reason ≡ Some error.reason
reason-written error fits =
    let utf8 = is_utf8-from_IsUtf8 error.reason fits.text in
    let short = fits.short in
    search rules

-- an error that is written is read again
pub error_of-written : (error : CodeAndReason) → IsError error
    → error_of (record { kind = ERROR_CODE; value = error_value error }) ≡ Some error
error_of-written error fits =
    rw (code_in-written error fits, reason-written error fits) (search rules)
