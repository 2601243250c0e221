-- Each part of the header is read back, and the data is behind it.
use Rattle.stun_c.proofs.Channels.{read_again}
use Rattle.stun_c.proofs.laws.channel_data_is_read_back.Goals as goal

pub returns : goal.returns
returns c = read_again
