-- Base64 of the bits is read back as the bits.
use Rattle.stun_judging.proofs.NonceBits.{bits_read_back}
use Rattle.stun_judging.proofs.laws.security_bits_are_read_back.Goals as goal

pub returns : goal.returns
returns c = bits_read_back
