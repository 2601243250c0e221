-- The length in the first two bytes says where the packet ends.
use Rattle.stun_extra.specs.Framing.{IsFramedPacket, packet_frame_of}
use Rattle.stun_extra.proofs.CuttingLemmas.{cut_of-append, cut_of-messages}
use Rattle.stun_extra.proofs.PacketLemmas.{packet-item, packet-part, packet-steady, packet-whole}
use Rattle.stun_extra.proofs.laws.packet_is_framed.Goals as goal

pub returns-clause-whole : goal.returns-clause-whole
returns-clause-whole c = packet-whole

pub returns-clause-begun : goal.returns-clause-begun
returns-clause-begun c = packet-part

pub returns-clause-cut : goal.returns-clause-cut
returns-clause-cut c = cut_of-messages packet_frame_of IsFramedPacket packet-steady packet-item

pub returns-clause-fed : goal.returns-clause-fed
returns-clause-fed c = cut_of-append packet_frame_of packet-steady
