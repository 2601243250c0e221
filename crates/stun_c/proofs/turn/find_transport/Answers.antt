-- The answer of the reader is that of the definition.
use Rattle.stun_types.specs.Integrity.{first_of}
use Rattle.stun_types.specs.Visible.{visible}
use Rattle.stun_extra.specs.AttributeTypes.{REQUESTED_TRANSPORT}
use Rattle.stun_extra.specs.Turn.{transport_of}
use Rattle.stun_c.proofs.Members.{read_member-is}
use Rattle.stun_c.proofs.turn.find_transport.Goals as goal

pub returns : goal.returns
returns c =
    read_member-is REQUESTED_TRANSPORT transport_of
    (first_of REQUESTED_TRANSPORT (visible c.args.message.now)) c.attribute.result
    c.attribute.ensures
