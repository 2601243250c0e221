-- What is stored last is what was stored before, with the change.
use Rattle.std.proofs.Common.{◌∙◌, ap}
use Rattle.std.specs.Option.{option_map_or}
use Rattle.stun_client_requests.specs.Requests.{after_replacing}
use Rattle.stun_client_calls.specs.Clients.{changed}
use Rattle.stun_client_calls.proofs.ChangeLemmas.{replaced_twice}
use Rattle.stun_client_calls.proofs.endpoint.changing.change.Goals as goal

pub returns-in-Some-replace : goal.returns-in-Some-replace
returns-in-Some-replace g c =
    c.replace-in-Some-replace.ensures.after
    ∙ ap (λ r. after_replacing c.args.number c.changed.result r) c.replace.ensures.after
    ∙ replaced_twice c.args.number c.make_placeholder.result c.changed.result c.args.requests.now
    ∙ ap (λ a. after_replacing c.args.number a c.args.requests.now) c.changed.ensures
    ∙ ap (λ o. option_map_or (λ a. after_replacing c.args.number (changed c.args.change a)
    c.args.requests.now) o c.args.requests.now) c.in-Some-replace.ensures.before
