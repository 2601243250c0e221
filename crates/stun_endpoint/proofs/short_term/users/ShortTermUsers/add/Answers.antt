-- The tree changes at this name alone, and the key is the password.
use Rattle.std.proofs.Common.{ap, ◌∙◌}
use Rattle.std.specs.FinMap as map
use Rattle.std.specs.String.{string_bytes}
use Rattle.stun_endpoint.specs.ShortTerm.{Keys}
use Rattle.stun_endpoint.proofs.KeyLemmas.{keys_inserted}
use Rattle.stun_endpoint.proofs.short_term.users.ShortTermUsers.add.Goals as goal

pub returns-in-Ok-clause-ok : goal.returns-in-Ok-clause-ok
returns-in-Ok-clause-ok g c =
    let name = string_bytes c.args.name in
    keys_inserted c.self.inside.keys c.insert.new.map name c.new-key.result
    c.in-Ok.ensures.updates
    ∙ ap (λ (users : Keys). map.insert users name c.new-key.result) c.self.view_is
    ∙ ap (map.insert c.args.self.now name) (c.new-key.ensures ∙ c.in_ok-make_key.ensures.key)
