-- The tree changes at this name alone.
use Rattle.std.proofs.Common.{ap, ◌∙◌}
use Rattle.std.specs.FinMap as map
use Rattle.stun_endpoint.specs.ShortTerm.{Keys}
use Rattle.stun_endpoint.proofs.KeyLemmas.{keys_removed}
use Rattle.stun_endpoint.proofs.short_term.users.ShortTermUsers.remove.Goals as goal

pub returns : goal.returns
returns g c =
    keys_removed c.self.inside.keys c.remove.new.self c.args.name.now c.remove.ensures.updates
    ∙ ap (λ (users : Keys). map.remove users c.args.name.now) c.self.view_is
