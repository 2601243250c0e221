-- The request is stored.
use Rattle.std.proofs.Common.{◌∙◌, ap}
use Rattle.stun_client_requests.specs.Requests.{datum_of}
use Rattle.stun_client_calls.specs.Clients.{Client}
use Rattle.stun_client_calls.proofs.GrantedLemmas.{not_gone}
use Rattle.stun_client_calls.proofs.endpoint.ClientEndpoint.write_bytes.Goals as goal

pub returns-in_default-clause-granted : goal.returns-in_default-clause-granted
returns-in_default-clause-granted g c =
    λ grants a there. not_gone _ a c.in_default.ensures
    (ap (λ (x : Client). datum_of c.args.number x.requests) c.self.view_is ∙ there)
