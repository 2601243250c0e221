-- The index is ordered by hash and name, so the first pair is the least name of the hash.
use Rattle.std.proofs.Common.{◌∙◌, ap}
use Rattle.std.specs.Option.{option_copied}
use Rattle.std.specs.String.{string_bytes}
use Rattle.stun_judging.specs.Registered.{name_with_hash}
use Rattle.stun_judging.specs.code.Users.{secrets_seen}
use Rattle.stun_judging.proofs.LeastNames.{name_found}
use Rattle.stun_judging.proofs.registry.Registry.find_name_by_hash.Goals as goal

pub returns : goal.returns
returns g c =
    let r = c.self.inside in
    name_found (string_bytes r.realm) (secrets_seen r.users.entries) r.hashed c.args.hash.now
    (option_copied c.find_first.result) c.self.invariant.1 c.find_first.ensures
    ∙ ap (λ s. name_with_hash s c.args.hash.now) c.self.view_is
