-- The bytes are copied over the front of a block of zeros.
use Rattle.std.proofs.lemmas.List.{drop-replicate}
use Rattle.stun_c_endpoint.proofs.received.KeyBlock.pad.Goals as goal

pub returns-clause-bytes : goal.returns-clause-bytes
returns-clause-bytes c = rw (c.copy_from_slice.ensures.after, drop-replicate)
