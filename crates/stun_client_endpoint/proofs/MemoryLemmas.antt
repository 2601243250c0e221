-- No refusal of a writer is want of memory, so with all memory granted nothing fails for want of it.
use Rattle.std.proofs.Common.{◌≡◌, ◌∙◌, ℕ, Bool, true, false, List, Option, Some, None, Result}
use Rattle.std.proofs.Common.{Ok, Err, ap, refl, sym, true≢false}
use Rattle.std.specs.Prelude.{⊤, IsOk, IsOkUnless, MatchOption, if◌then◌else◌, nat_lt}
use Rattle.stun_base.specs.Attributes.{FINGERPRINT}
use Rattle.stun_base.specs.declared.wire.error.StunWriteError.{StunWriteError}
use Rattle.stun_base.specs.declared.wire.error.StunWriteError.TheVariants.{AttributeExists}
use Rattle.stun_base.specs.declared.wire.error.StunWriteError.TheVariants.{IntegrityFailed}
use Rattle.stun_base.specs.declared.wire.error.StunWriteError.TheVariants.{MessageIntegrityExists}
use Rattle.stun_base.specs.declared.wire.error.StunWriteError.TheVariants.{NotAllowed, OutOfMemory}
use Rattle.stun_base.specs.declared.wire.error.StunWriteError.TheVariants.{TooLarge, TooSmall}
use Rattle.stun_types.specs.Attribute.{attribute_length}
use Rattle.stun_types.specs.Limits.{max_length}
use Rattle.stun_types.specs.Visible.{has_kind}
use Rattle.stun_types.specs.Walk.{walk}
use Rattle.stun_types.specs.Writing.{another_refusal, attribute_refusal, has_integrity, is_set_apart}
use Rattle.stun_types.specs.Writing.{length_with, size_refusal}
use Rattle.stun_judging.specs.Additions.{UnlessMemory}
use Rattle.stun_judging.proofs.Wanting.{attribute_not_memory, if_not, size_not_memory}
use Rattle.stun_extra.specs.Fingerprint.{fingerprint_refusal}
use Rattle.stun_client_endpoint.specs.Written.{room_left}

-- ---- refusals

another_not_memory : (message : List ℕ) (room kind n : ℕ)
    → another_refusal message room kind n ≡ Some OutOfMemory → ⊥
another_not_memory message room kind n =
    if_not (is_set_apart kind) NotAllowed _ (λ is. cc)
    (if_not (has_integrity message) MessageIntegrityExists _ (λ is. cc)
    (size_not_memory message room n))

fingerprint_not_memory : (message : List ℕ) (room : ℕ)
    → fingerprint_refusal message room ≡ Some OutOfMemory → ⊥
fingerprint_not_memory message room =
    if_not (has_kind FINGERPRINT (walk message)) (AttributeExists (record { 0 = FINGERPRINT })) _
    (λ is. cc) (size_not_memory message room 4)

-- ---- answers

not_wanting : (V : Type 0) (reason : StunWriteError) → (reason ≡ OutOfMemory → ⊥)
    → UnlessMemory {V = V} (Err reason) ⊤ ⊥
not_wanting V NotAllowed other = tt
not_wanting V MessageIntegrityExists other = tt
not_wanting V (AttributeExists kind) other = tt
not_wanting V TooLarge other = tt
not_wanting V TooSmall other = tt
not_wanting V IntegrityFailed other = tt
not_wanting V OutOfMemory other = other refl

granted_by : {G V : Type 0} (result : Result V StunWriteError) (refusal : Option StunWriteError)
    → (refusal ≡ Some OutOfMemory → ⊥)
    → MatchOption refusal (IsOkUnless result OutOfMemory) (λ reason. result ≡ Err reason)
    → (G → refusal ≡ None → IsOk result)
    → G → UnlessMemory result ⊤ ⊥
granted_by (Ok value) refusal other refused succeeds granted = tt
granted_by (Err reason) None other refused succeeds granted =
    absurd (true≢false (sym (succeeds granted refl)))
granted_by {V = V} (Err reason) (Some first) other refused succeeds granted =
    let same : reason ≡ first =
    let h : ◌≡◌ {A = Result V StunWriteError} (Err reason) (Err first) = refused in cc in
    not_wanting V reason (λ is. other (ap (λ r. Some r) (sym same ∙ is)))

pub another_granted : {G V : Type 0} (message : List ℕ) (kind n : ℕ)
    (result : Result V StunWriteError)
    → MatchOption (another_refusal message (room_left message) kind n)
    (IsOkUnless result OutOfMemory) (λ reason. result ≡ Err reason)
    → (G → another_refusal message (room_left message) kind n ≡ None → IsOk result)
    → G → UnlessMemory result ⊤ ⊥
another_granted message kind n result =
    granted_by result (another_refusal message (room_left message) kind n)
    (another_not_memory message (room_left message) kind n)

pub one_granted : {G V : Type 0} (message : List ℕ) (kind n : ℕ)
    (result : Result V StunWriteError)
    → MatchOption (attribute_refusal message (room_left message) kind n)
    (IsOkUnless result OutOfMemory) (λ reason. result ≡ Err reason)
    → (G → attribute_refusal message (room_left message) kind n ≡ None → IsOk result)
    → G → UnlessMemory result ⊤ ⊥
one_granted message kind n result =
    granted_by result (attribute_refusal message (room_left message) kind n)
    (attribute_not_memory message (room_left message) kind n)

pub end_granted : {G V : Type 0} (message : List ℕ) (result : Result V StunWriteError)
    → MatchOption (fingerprint_refusal message (room_left message))
    (IsOkUnless result OutOfMemory) (λ reason. result ≡ Err reason)
    → (G → fingerprint_refusal message (room_left message) ≡ None → IsOk result)
    → G → UnlessMemory result ⊤ ⊥
end_granted message result =
    granted_by result (fingerprint_refusal message (room_left message))
    (fingerprint_not_memory message (room_left message))
