-- The bytes are copied over the front of a block of zeros.
use Rattle.std.proofs.lemmas.List.{drop-replicate}
use Rattle.stun_base.proofs.keys.hmac.fill_block.Goals as goal

pub returns : goal.returns
returns c = rw (c.copy_from_slice.ensures.after, drop-replicate)
