-- The index gains one pair, seen as a set of pairs.
use Rattle.std.proofs.Common.{◌∙◌, ap}
use Rattle.std.specs.FinSet as set
use Rattle.std.specs.String.{string_bytes}
use Rattle.stun_judging.proofs.HashedNames.{names_hashed-inserted}
use Rattle.stun_judging.proofs.name_index.NameIndex.insert.Goals as goal

pub returns-clause-ok : goal.returns-clause-ok
returns-clause-ok g c =
    names_hashed-inserted c.self.inside.hashed c.add.new.set (
      c.args.hash,
      c.args.name,
    ) c.in_ok-add.ensures.updates
    ∙ ap (λ names. set.insert names (c.args.hash, string_bytes c.args.name)) c.self.view_is
