-- What may be signed is refused for lack of memory alone.
use Rattle.std.specs.Prelude.{⊤, Err, IsOk}
use Rattle.stun_judging.proofs.Wanting.{where_granted}
use Rattle.stun_auth.proofs.server.LongTermServerAuth.sign_outgoing_message_unchecked.Goals as goal

pub returns-in-Err-clause-granted : goal.returns-in-Err-clause-granted
returns-in-Err-clause-granted g c = λ granted.
    where_granted {V = g.row.W.Denot} {P = IsOk {T = g.row.W.Denot} (Err c.in-Err.field-0)} ⊤
    (Err c.in-Err.field-0) (c.in-Err.ensures.signable c.requires.signable)
    (c.in-Err.ensures.granted granted)
