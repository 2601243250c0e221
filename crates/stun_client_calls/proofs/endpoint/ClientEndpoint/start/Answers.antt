-- Why a request is not started is why it is not stored.
use Rattle.std.proofs.Common.{◌∙◌, ap}
use Rattle.stun_client_requests.specs.Requests.{start_refusal}
use Rattle.stun_client_calls.specs.Clients.{Client}
use Rattle.stun_client_calls.proofs.RequestingLemmas.{not_stored, stored_anyway}
use Rattle.stun_client_calls.proofs.endpoint.ClientEndpoint.start.Goals as goal

pub returns-in-Ok-clause-refused : goal.returns-in-Ok-clause-refused
returns-in-Ok-clause-refused g c =
    stored_anyway (start_refusal c.self.inside.requests c.args.free.id)
    (start_refusal c.args.self.now.requests c.args.free.id) c.in-Ok.number
    (ap (λ (x : Client). start_refusal x.requests c.args.free.id) c.self.view_is)
    c.in-Ok.ensures.refused

pub returns-in-Err-clause-refused : goal.returns-in-Err-clause-refused
returns-in-Err-clause-refused g c =
    not_stored (start_refusal c.self.inside.requests c.args.free.id)
    (start_refusal c.args.self.now.requests c.args.free.id) c.in-Err.refusal c.to_error.result
    (ap (λ (x : Client). start_refusal x.requests c.args.free.id) c.self.view_is)
    c.to_error.ensures c.in-Err.ensures.refused

pub returns-in-Err-clause-granted : goal.returns-in-Err-clause-granted
returns-in-Err-clause-granted g c =
    λ grants none. c.in-Err.ensures.granted grants
    (ap (λ (x : Client). start_refusal x.requests c.args.free.id) c.self.view_is ∙ none)
