-- What is looked up is the remainder after the lowest byte; what is above it is moved.
use Rattle.std.proofs.Common.{◌∙◌, ◌/◌, ap, sym}
use Rattle.std.specs.Prelude.{bit_xor}
use Rattle.stun_extra.proofs.Crc32Lemmas.{after_byte-by_table}
use Rattle.stun_extra.proofs.crc32.update_byte.Goals as goal

pub returns : goal.returns
returns c =
    ap (bit_xor (c.args.remainder / 256)) c.look_up.ensures
    ∙ sym (after_byte-by_table c.args.remainder c.args.byte c.ranges.byte.fits)
