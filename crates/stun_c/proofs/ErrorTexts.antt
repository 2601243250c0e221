-- No text of an answer is long.
use Rattle.std.proofs.Common.{◌≤◌, ℕ, Bool, true, false, List, length, arith}
use Rattle.std.specs.Prelude.{ℤ, pos, int_lt, unsigned_abs, ◌==◌, if◌then◌else◌}
use Rattle.stun_c.specs.Codes.{error_text, refusal_text}

-- one of two texts
either : (one : Bool) (x y : List ℕ) → length x ≤ 64 → length y ≤ 64
    → length (if one then x else y) ≤ 64
either true x y short other = short
either false x y short other = other

short_refusal : (n : ℕ) → length (refusal_text n) ≤ 64
unfolding refusal_text
short_refusal n =
    either (n == 1) _ _ (omega arith) (
    either (n == 2) _ _ (omega arith) (
    either (n == 3) _ _ (omega arith) (
    either (n == 4) _ _ (omega arith) (
    either (n == 5) _ _ (omega arith) (
    either (n == 6) _ _ (omega arith) (
    either (n == 7) _ _ (omega arith) (
    either (n == 8) _ _ (omega arith) (
    either (n == 9) _ _ (omega arith) (
    either (n == 10) _ _ (omega arith) (
    either (n == 11) _ _ (omega arith) (
    either (n == 12) _ _ (omega arith) (
    either (n == 13) _ _ (omega arith) (
    either (n == 14) _ _ (omega arith) (
    either (n == 15) _ _ (omega arith) (
    either (n == 16) _ _ (omega arith) (
    either (n == 17) _ _ (omega arith) (
    either (n == 18) _ _ (omega arith) (
    either (n == 19) _ _ (omega arith) (
    either (n == 20) _ _ (omega arith) (
    either (n == 21) _ _ (omega arith) (
    either (n == 22) _ _ (omega arith) (
    either (n == 23) _ _ (omega arith) (
    either (n == 24) _ _ (omega arith) (
    either (n == 25) _ _ (omega arith) (
    either (n == 26) _ _ (omega arith) (
    either (n == 27) _ _ (omega arith) (
    either (n == 28) _ _ (omega arith) (
    either (n == 29) _ _ (omega arith) (
    omega arith)))))))))))))))))))))))))))))

pub short_text : (answer : ℤ) → length (error_text answer) ≤ 64
short_text answer =
    either (int_lt answer (pos 0)) _ _ (short_refusal (unsigned_abs answer)) (omega arith)
