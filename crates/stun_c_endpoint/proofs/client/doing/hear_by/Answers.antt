-- The client makes of the datagram what the call says.
use Rattle.std.proofs.Common.{ap, pos, refl}
use Rattle.stun_c_endpoint.proofs.HearingLemmas.{heard_from}
use Rattle.stun_c_endpoint.proofs.client.doing.hear_by.Goals as goal

pub returns : goal.returns
returns c =
    heard_from c.in_ok-from.from c.args.message.now c.args.now c.args.client.now
    (c.receive-received.result, c.receive-received.new.self) _ c.args.why.now _ _ _ _ _
    c.in_ok-from.ensures.ok c.from_nanos.ensures c.receive-received.ensures.received
    (ap pos c.tell_received.ensures.number) c.tell_received.ensures.why refl
