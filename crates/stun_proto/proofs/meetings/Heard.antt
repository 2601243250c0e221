-- What a side makes of a message, or want of memory.
use Rattle.std.proofs.Common.{◌≡◌, false, true, sym, subst, Ok, Err, IfOk, OnOk, OnErr}
use Rattle.std.specs.Prelude.{IsErr}
use Rattle.std.specs.declared.result.Result.{Result}
use Rattle.std.specs.declared.alloc.AllocError.{AllocError}
use Rattle.stun_auth.specs.declared.client.answer.LongTermClientAuthErrorReason.{
  LongTermClientAuthErrorReason,
}
use Rattle.stun_auth.specs.declared.client.answer.LongTermClientAuthErrorReason.TheVariants.{
  Unauthorized,
  IntegrityFailed,
  UnsupportedFeature,
  OutOfMemory,
}
use Rattle.stun_auth.specs.ClientStep.{ForClientReason}

false-true : false ≡ true → ⊥
false-true h = cc

-- what follows either way from two facts about a reason
pub either_client : (reason : LongTermClientAuthErrorReason) {P Q P' Q' R : Type 0} → (P → P' → R)
    → (Q → Q' → R)
    → ForClientReason reason P Q → ForClientReason reason P' Q' → R
either_client Unauthorized one other a b = one a b
either_client IntegrityFailed one other a b = one a b
either_client UnsupportedFeature one other a b = one a b
either_client OutOfMemory one other a b = other a b

-- ---- an answer, or want of memory
pub told : {A : Type 0} (result : Result A AllocError) (v w : A) → result ≡ Ok v → v ≡ w
    → IfOk result (λ a. a ≡ w)
told result v w is h = subst (λ r. IfOk r (λ a. a ≡ w)) (sym is) h

pub untold : {A : Type 0} (result : Result A AllocError) (w : A) → IsErr result
    → IfOk result (λ a. a ≡ w)
untold (Ok v) w h = let same : false ≡ true = h in absurd (false-true same)
untold (Err e) w h = tt

pub on_told : {A : Type 0} (result : Result A AllocError) (v : A) (X : Type 0) → result ≡ Ok v → X
    → OnOk result X
on_told result v X is x = subst (λ r. OnOk r X) (sym is) x

pub on_untold : {A : Type 0} (result : Result A AllocError) (X : Type 0) → IsErr result
    → OnOk result X
on_untold (Ok v) X h = let same : false ≡ true = h in absurd (false-true same)
on_untold (Err e) X h = tt

pub off_told : {A : Type 0} (result : Result A AllocError) (v : A) (X : Type 0) → result ≡ Ok v
    → OnErr result X
off_told result v X is = subst (λ r. OnErr r X) (sym is) tt

pub off_untold : {A : Type 0} (result : Result A AllocError) (X : Type 0) → X → OnErr result X
off_untold (Ok v) X x = tt
off_untold (Err e) X x = x

-- an answer that is read as another
pub told_as : {A B : Type 0} (f : A → B) (result : Result A AllocError) (v : A) (w : B)
    → result ≡ Ok v → f v ≡ w → IfOk result (λ a. f a ≡ w)
told_as f result v w is h = subst (λ r. IfOk r (λ a. f a ≡ w)) (sym is) h

pub untold_as : {A B : Type 0} (f : A → B) (result : Result A AllocError) (w : B) → IsErr result
    → IfOk result (λ a. f a ≡ w)
untold_as f (Ok v) w h = let same : false ≡ true = h in absurd (false-true same)
untold_as f (Err e) w h = tt
