-- The numbers that calls return.
use Rattle.std.specs.Prelude.{◌≡◌, ◌⊎◌, ℕ, ℤ, pos, min, Result, Ok, Err}
use Rattle.stun_numbers.specs.Refusals.{refusal_number}
use Rattle.stun_numbers.specs.declared.refusal.Refusal.{Refusal}
use Rattle.stun_numbers.specs.declared.refusal.Refusal.TheVariants.{OutOfMemory}

-- 0, or the number of the error
abbrev pub done_answer : Result (Unit {0}) Refusal → ℤ
done_answer (Ok done) = pos 0
done_answer (Err refusal) = refusal_number refusal

-- the number, or that of the error
abbrev pub number_answer : Result ℕ Refusal → ℤ
number_answer (Ok number) = pos number
number_answer (Err refusal) = refusal_number refusal

-- the number of bytes, which is less than 2^63 for any buffer, or the number of the error
abbrev pub length_answer : Result ℕ Refusal → ℤ
length_answer (Ok length) = pos (min length 9223372036854775807)
length_answer (Err refusal) = refusal_number refusal

-- a call returns this number and leaves this in its handle; or an allocation failed: it returns the
-- number of that, and the handle is unchanged
abbrev pub OrOutOfMemory : {S : Type 0} → ℤ → S → S → ℤ → S → Type 0
OrOutOfMemory result before now number after =
    ((result ≡ number) × (now ≡ after)) ⊎ ((result ≡ refusal_number OutOfMemory) × (now ≡ before))
