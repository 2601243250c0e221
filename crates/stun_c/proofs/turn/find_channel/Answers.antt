-- The answer of the reader is that of the definition.
use Rattle.stun_types.specs.Integrity.{first_of}
use Rattle.stun_types.specs.Visible.{visible}
use Rattle.stun_extra.specs.AttributeTypes.{CHANNEL_NUMBER}
use Rattle.stun_extra.specs.Turn.{channel_of}
use Rattle.stun_c.proofs.Members.{read_member-is}
use Rattle.stun_c.proofs.turn.find_channel.Goals as goal

pub returns : goal.returns
returns c =
    read_member-is CHANNEL_NUMBER channel_of
    (first_of CHANNEL_NUMBER (visible c.args.message.now)) c.attribute.result
    c.attribute.ensures
