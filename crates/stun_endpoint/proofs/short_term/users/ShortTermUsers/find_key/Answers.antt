-- The tree finds the key by the bytes of the name.
use Rattle.std.proofs.Common.{sym, ap, ◌∙◌}
use Rattle.std.specs.FinMap as map
use Rattle.stun_endpoint.specs.ShortTerm.{Keys}
use Rattle.stun_endpoint.proofs.KeyLemmas.{key_found}
use Rattle.stun_endpoint.proofs.short_term.users.ShortTermUsers.find_key.Goals as goal

pub returns : goal.returns
returns g c =
    c.get.ensures.value ∙ sym (key_found c.self.inside.keys c.args.name.now)
    ∙ ap (λ (users : Keys). map.get users c.args.name.now) c.self.view_is
