-- The index loses one pair, seen as a set of pairs.
use Rattle.std.proofs.Common.{◌∙◌, ap}
use Rattle.std.specs.FinSet as set
use Rattle.std.specs.String.{string_bytes}
use Rattle.stun_judging.proofs.HashedNames.{names_hashed-removed}
use Rattle.stun_judging.proofs.name_index.NameIndex.remove.Goals as goal

pub returns : goal.returns
returns g c =
    names_hashed-removed c.self.inside.hashed c.remove.new.self (
      c.args.hash,
      c.args.name,
    ) c.remove.ensures.updates
    ∙ ap (λ names. set.remove names (c.args.hash, string_bytes c.args.name)) c.self.view_is
