-- Each step of the CRC can be undone, so a difference stays one to the end.
use Rattle.stun_extra.proofs.Crc32Lemmas.{crc32-apart}
use Rattle.stun_extra.proofs.laws.one_changed_byte_changes_the_crc.Goals as goal

pub returns : goal.returns
returns c = crc32-apart
