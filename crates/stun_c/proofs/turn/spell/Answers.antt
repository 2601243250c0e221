-- Four parts of the buffer, one after the other, are ChannelData, its padding and what is left.
use Rattle.std.proofs.Common.{ap, ◌∙◌}
use Rattle.std.specs.Prelude.{replicate}
use Rattle.stun_c.proofs.Appended.{channel_data_in}
use Rattle.stun_c.proofs.turn.spell.Goals as goal

pub returns : goal.returns
returns c =
    channel_data_in c.args.channel _ c.args.data.now c.args.buffer.now _ _ _ _ _ _
    c.write_header.ensures c.copy_from_slice.ensures.after
    (c.write_zeros.ensures ∙ ap (λ n. replicate n 0) c.split_at_mut-padding.ensures.front_len)
    c.split_at_mut-header.ensures.back c.split_at_mut-place.ensures.back
    c.split_at_mut-padding.ensures.back
