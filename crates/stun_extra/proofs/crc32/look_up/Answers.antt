-- The table's entry is at the byte.
use Rattle.std.proofs.Common.{◌∙◌, [], ap, get_or}
use Rattle.stun_extra.proofs.Crc32Lemmas.{TABLES-entry}
use Rattle.stun_extra.specs.declared.crc32.TheConstants.{TABLES}
use Rattle.stun_extra.proofs.crc32.look_up.Goals as goal

pub returns : goal.returns
returns c =
    ap (λ i. get_or (get_or TABLES c.args.zeros []) i 0) c.from.ensures
    ∙ TABLES-entry c.args.zeros c.args.byte c.requires c.ranges.byte.fits
