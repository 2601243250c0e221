-- Each of the eight bytes is looked up alone.
use Rattle.std.proofs.Common.{◌∙◌}
use Rattle.std.specs.Prelude.{bit_xor}
use Rattle.stun_extra.proofs.Crc32Lemmas.{eight_alone}
use Rattle.stun_extra.proofs.crc32.update_eight.Goals as goal

pub returns : goal.returns
returns c =
    (λ i. bit_xor
    (bit_xor
    (bit_xor
    (bit_xor
    (bit_xor
    (bit_xor (bit_xor (c.look_up.ensures i) (c.look_up-2.ensures i))
    (c.look_up-3.ensures i)) (c.look_up-4.ensures i)) (c.look_up-5.ensures i))
    (c.look_up-6.ensures i)) (c.look_up-7.ensures i)) (c.look_up-8.ensures i))
    ∙ eight_alone c.args.remainder c.to_le_bytes.result c.args.bytes.now c.ranges.remainder.fits
    c.to_le_bytes.ensures c.told-bytes c.fits-bytes
