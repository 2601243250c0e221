-- A value is what is taken after its header.
use Rattle.stun_c.proofs.Members.{value_begins}
use Rattle.stun_c.proofs.laws.a_value_is_where_it_begins.Goals as goal

pub returns : goal.returns
returns c = value_begins
