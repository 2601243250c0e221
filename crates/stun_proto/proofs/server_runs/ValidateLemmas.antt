-- One message is validated.
use Rattle.std.proofs.Common.{◌≡◌, true, false, ◌∙◌, Ok, Err, OnOk, IfOk, IsErr}
use Rattle.std.specs.Prelude.{IsOkAnd}
use Rattle.std.specs.declared.result.Result.{Result}
use Rattle.std.specs.declared.alloc.AllocError.{AllocError}
use Rattle.stun_auth.specs.Reasons.{ForServerReason}
use Rattle.stun_auth.specs.declared.server.reason.LongTermServerAuthErrorReason.{
  LongTermServerAuthErrorReason,
}
use Rattle.stun_auth.specs.declared.server.reason.LongTermServerAuthErrorReason.TheVariants.{
  Unauthorized,
  IntegrityFailed,
  UnsupportedFeature,
  BadRequest,
  StaleNonce,
  OutOfMemory,
}
use Rattle.stun_proto.specs.Serving.{Reply, reply_of}
use Rattle.stun_proto.specs.declared.replay.call.ServerReply.{ServerReply}

-- what follows either way from two facts about a reason
pub either : (reason : LongTermServerAuthErrorReason) {P Q P' Q' R : Type 0} → (P → P' → R)
    → (Q → Q' → R)
    → ForServerReason reason P Q → ForServerReason reason P' Q' → R
either Unauthorized one other a b = one a b
either IntegrityFailed one other a b = one a b
either UnsupportedFeature one other a b = one a b
either BadRequest one other a b = one a b
either StaleNonce one other a b = one a b
either OutOfMemory one other a b = other a b

-- ---- a reply, or want of memory

false-true : false ≡ true → ⊥
false-true h = cc

pub reply_given : {A : Type 0} (result : Result (ServerReply A) AllocError) (x y : Reply) → x ≡ y
    → IsOkAnd result (λ given. reply_of given ≡ x) → IfOk result (λ given. reply_of given ≡ y)
reply_given (Ok given) x y same h = h ∙ same
reply_given (Err e) x y same h = tt

pub no_reply : {A : Type 0} (result : Result (ServerReply A) AllocError) (y : Reply) → IsErr result
    → IfOk result (λ given. reply_of given ≡ y)
no_reply (Ok given) y h = let same : false ≡ true = h in absurd (false-true same)
no_reply (Err e) y h = tt

pub on_given : {A : Type 0} (result : Result (ServerReply A) AllocError) (X : Type 0) → X
    → OnOk result X
on_given (Ok given) X x = x
on_given (Err e) X x = tt

pub on_none_given : {A : Type 0} (result : Result (ServerReply A) AllocError) (X : Type 0)
    → IsErr result → OnOk result X
on_none_given (Ok given) X h = let same : false ≡ true = h in absurd (false-true same)
on_none_given (Err e) X h = tt
