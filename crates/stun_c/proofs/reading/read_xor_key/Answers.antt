-- The key is that of the id.
use Rattle.std.proofs.Common.{ap, ◌∙◌}
use Rattle.stun_types.specs.XorMappedAddress.{xor_key}
use Rattle.stun_c.proofs.reading.read_xor_key.Goals as goal

pub returns : goal.returns
returns c = c.xor_key.ensures ∙ ap xor_key c.read_id-id.ensures
