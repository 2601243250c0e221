-- Why a server refuses a message (RFC 8489, section 9.2.4), and which answers a failed allocation
-- may replace.
use Rattle.std.specs.declared.result.Result.{Result}
use Rattle.std.specs.declared.result.Result.TheVariants.{Ok, Err}
use Rattle.stun_judging.specs.declared.refusal.VerdictRefusal.{VerdictRefusal}
use Rattle.stun_judging.specs.declared.refusal.VerdictRefusal.TheVariants as Refused
use Rattle.stun_auth.specs.declared.server.reason.LongTermServerAuthErrorReason.{
  LongTermServerAuthErrorReason,
}
use Rattle.stun_auth.specs.declared.server.reason.LongTermServerAuthErrorReason.TheVariants.{
  Unauthorized,
  IntegrityFailed,
  UnsupportedFeature,
  BadRequest,
  StaleNonce,
  OutOfMemory,
}

-- the refusals by their names
abbrev pub ServerRefusal : Type 0
ServerRefusal = VerdictRefusal

-- the reason of a refusal
abbrev pub server_reason : VerdictRefusal → LongTermServerAuthErrorReason
server_reason Refused.Unauthorized = Unauthorized
server_reason Refused.BadRequest = BadRequest
server_reason Refused.StaleNonce = StaleNonce

-- the first fact holds, or the second if the reason is a failed allocation
abbrev pub ForServerReason : LongTermServerAuthErrorReason → Type 0 → Type 0 → Type 0
ForServerReason Unauthorized P Q = P
ForServerReason IntegrityFailed P Q = P
ForServerReason UnsupportedFeature P Q = P
ForServerReason BadRequest P Q = P
ForServerReason StaleNonce P Q = P
ForServerReason OutOfMemory P Q = Q

-- the first fact holds, or the second if an allocation failed
abbrev pub ServerUnlessMemory : {V : Type 0} → Result V LongTermServerAuthErrorReason
    → Type 0 → Type 0
    → Type 0
ServerUnlessMemory (Ok v) P Q = P
ServerUnlessMemory (Err reason) P Q = ForServerReason reason P Q
