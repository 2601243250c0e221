-- What the code knows about a request that waits: it is one that is judged.
use Rattle.std.specs.Prelude.{◌≡◌, ℕ, List, false, None}
use Rattle.stun_base.specs.MessageType.{class_in}
use Rattle.stun_base.specs.declared.wire.message_type.MessageClass.TheVariants.{Request}
use Rattle.stun_endpoint.specs.Responding.{drop_reason}

-- a message that is a request, and is not dropped if the server requires no FINGERPRINT
pub record IsWaiting (message : List ℕ) : Type 0 where
  pub undropped : drop_reason false message ≡ None
  pub request : class_in message ≡ Request
