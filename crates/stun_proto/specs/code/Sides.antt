-- A run of a meeting that may stop early.
use Rattle.std.specs.Prelude.{◌≡◌, ◌≢◌, IfSome}
use Rattle.std.specs.declared.result.Result.{Result}
use Rattle.std.specs.declared.result.Result.TheVariants.{Err}
use Rattle.stun_base.specs.declared.wire.error.StunWriteError.TheVariants.{OutOfMemory}
use Rattle.stun_auth.specs.Client.{ClientState}
use Rattle.stun_auth.specs.Validation.{ServerSeen}
use Rattle.stun_proto.specs.Negotiating.{met_by}
use Rattle.stun_proto.specs.Negotiation.{Met}
use Rattle.stun_proto.specs.declared.replay.negotiation.NegotiateError.{NegotiateError}
use Rattle.stun_proto.specs.declared.replay.negotiation.NegotiateError.TheVariants.{Memory, Write}
use Rattle.stun_proto.specs.declared.replay.negotiation.Outcome.{Outcome}
use Rattle.stun_proto.specs.Sides.{Sides, sides}

-- if no allocation failed, the run has ended like this and has left this. If one failed, it has
-- left both sides like this. No signing is refused as out of memory
pub record IsRun (result : Result Outcome NegotiateError) (client : ClientState)
    (server : ServerSeen) (met : Met) (passes : Sides → Type 0) : Type 0 where
  pub steps : IfSome (met_by result client server) (λ end. end ≡ met)
  pub memory : result ≡ Err Memory → passes (sides client server)
  pub write : result ≢ Err (Write OutOfMemory)
