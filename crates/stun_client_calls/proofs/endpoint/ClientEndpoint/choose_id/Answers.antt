-- The number is chosen over what the client stores.
use Rattle.std.proofs.Common.{◌≡◌, ◌∙◌, ap, subst}
use Rattle.std.specs.Option.{IfSome}
use Rattle.stun_client.specs.Ids.{id_of}
use Rattle.stun_client_calls.specs.Clients.{Client, chosen}
use Rattle.stun_client_calls.proofs.endpoint.ClientEndpoint.choose_id.Goals as goal

pub returns-clause-chosen : goal.returns-clause-chosen
returns-clause-chosen g c =
    c.free_number.ensures.free ∙ ap (λ (x : Client). chosen x) c.self.view_is

pub returns-clause-named : goal.returns-clause-named
returns-clause-named g c =
    subst (λ (x : Client). IfSome c.free_number.result (λ free. free.id ≡ id_of x.seed free.number))
    c.self.view_is c.free_number.ensures.named
