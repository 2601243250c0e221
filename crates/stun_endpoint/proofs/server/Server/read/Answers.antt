-- The responder requires a FINGERPRINT if the settings do.
use Rattle.std.proofs.Common.{◌≡◌, subst}
use Rattle.stun_endpoint.specs.Responding.{drop_reason}
use Rattle.stun_endpoint.specs.Settings.{Settings}
use Rattle.stun_endpoint.specs.code.Arriving.{dropped_in}
use Rattle.stun_endpoint.proofs.server.Server.read.Goals as goal

pub returns-clause-dropped : goal.returns-clause-dropped
returns-clause-dropped g c =
    subst (λ (s : Settings). drop_reason s.requires_fingerprint c.args.bytes.now
    ≡ dropped_in c.read.result) c.self.view_is c.read.ensures.dropped
