-- The name that the map kept has the bytes by which it was sought.
use Rattle.std.proofs.Common.{sym}
use Rattle.std.specs.String.{string_bytes}
use Rattle.std.proofs.lemmas.Map.Lookups.{exact_bytes}
use Rattle.stun_judging.proofs.registry.take_user.Goals as goal

pub returns-clause-name : goal.returns-clause-name
returns-clause-name g c =
    sym (exact_bytes c.args.name.now (string_bytes c.in_ok-name.name) c.in_ok-name.ensures.same_key)
