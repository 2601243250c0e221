-- The answer of the reader is that of the definition.
use Rattle.stun_base.specs.Attributes.{ERROR_CODE}
use Rattle.stun_types.specs.ErrorCode.{error_of}
use Rattle.stun_types.specs.Integrity.{first_of}
use Rattle.stun_types.specs.Visible.{visible}
use Rattle.stun_c.proofs.Members.{read_member-is}
use Rattle.stun_c.proofs.reading.find_error.Goals as goal

pub returns : goal.returns
returns c =
    read_member-is ERROR_CODE error_of (first_of ERROR_CODE (visible c.args.message.now))
    c.attribute.result c.attribute.ensures
