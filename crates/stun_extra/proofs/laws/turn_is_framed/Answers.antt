-- The first byte tells a message from ChannelData, and each says its length.
use Rattle.stun_extra.specs.Framing.{IsTurnItem, turn_frame_of}
use Rattle.stun_extra.proofs.CuttingLemmas.{cut_of-append, cut_of-messages}
use Rattle.stun_extra.proofs.TurnLemmas.{channel-part, channel-whole, turn-item, turn-message}
use Rattle.stun_extra.proofs.TurnLemmas.{turn-never, turn-part, turn-steady}
use Rattle.stun_extra.proofs.laws.turn_is_framed.Goals as goal

pub returns-clause-message : goal.returns-clause-message
returns-clause-message c = turn-message

pub returns-clause-message_begun : goal.returns-clause-message_begun
returns-clause-message_begun c = turn-part

pub returns-clause-channel : goal.returns-clause-channel
returns-clause-channel c = channel-whole

pub returns-clause-begun : goal.returns-clause-begun
returns-clause-begun c = channel-part

pub returns-clause-refused : goal.returns-clause-refused
returns-clause-refused c = turn-never

pub returns-clause-cut : goal.returns-clause-cut
returns-clause-cut c = cut_of-messages turn_frame_of IsTurnItem turn-steady turn-item

pub returns-clause-fed : goal.returns-clause-fed
returns-clause-fed c = cut_of-append turn_frame_of turn-steady
