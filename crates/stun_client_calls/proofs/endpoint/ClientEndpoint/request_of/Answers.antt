-- The message is an earlier one if it is the current one of no request.
use Rattle.std.proofs.Common.{◌∙◌, ℕ, Option, ap}
use Rattle.std.specs.Option.{option_or}
use Rattle.stun_client_calls.specs.Clients.{Client}
use Rattle.stun_client_calls.specs.Ids.{number_in, number_with}
use Rattle.stun_client_calls.proofs.endpoint.ClientEndpoint.request_of.Goals as goal

pub returns-in-None : goal.returns-in-None
returns-in-None g c =
    c.copied.ensures ∙ c.get.ensures.value
    ∙ ap (λ (o : Option ℕ). option_or o (number_in c.args.id c.self.inside.earlier.entries))
    c.in-None.ensures
    ∙ ap (λ (x : Client). number_with c.args.id x.requests.table.attached x.earlier) c.self.view_is
