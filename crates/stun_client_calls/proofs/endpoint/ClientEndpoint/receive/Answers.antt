-- What is not a message is not for this client.
use Rattle.stun_client_calls.specs.Receiving.{all_memory}
use Rattle.stun_client_calls.proofs.GrantedLemmas.{received_as, unread_as}
use Rattle.stun_client_calls.proofs.PassingLemmas.{dropped_so_in, unheeded_so}
use Rattle.stun_client_calls.proofs.ReceivingLemmas.{received_so, unread_so}
use Rattle.stun_client_calls.proofs.endpoint.ClientEndpoint.receive.Goals as goal

pub returns-in_default-clause-received : goal.returns-in_default-clause-received
returns-in_default-clause-received g c =
    unread_so c.args.from c.args.bytes.now _ c.args.now c.args.self.now _ c.in_default.ensures.refused

pub returns-clause-received : goal.returns-clause-received
returns-clause-received g c =
    received_so c.args.from c.args.bytes.now c.in-Ok.message c.args.now c.args.self.now _
    c.in-Ok.ensures.value c.in-Ok.ensures.accepted c.by_class.ensures.acted

pub returns-clause-unheeded : goal.returns-clause-unheeded
returns-clause-unheeded g c =
    unheeded_so c.args.from c.args.bytes.now c.in-Ok.message c.args.now c.args.self.now _
    c.in-Ok.ensures.value c.in-Ok.ensures.accepted c.by_class.ensures.unheeded

pub returns-clause-drops : goal.returns-clause-drops
returns-clause-drops g c =
    dropped_so_in c.args.from c.args.bytes.now c.in-Ok.message c.args.now c.args.self.now _
    c.in-Ok.ensures.value c.by_class.ensures.drops

pub returns-in_default-clause-granted : goal.returns-in_default-clause-granted
returns-in_default-clause-granted g c =
    λ grants. unread_as all_memory c.args.from c.args.bytes.now c.args.now c.args.self.now _
    c.in_default.ensures.refused

pub returns-clause-granted : goal.returns-clause-granted
returns-clause-granted g c =
    λ grants. received_as all_memory c.args.from c.args.bytes.now c.in-Ok.message c.args.now
    c.args.self.now _ c.in-Ok.ensures.value c.in-Ok.ensures.accepted
    (c.by_class.ensures.granted grants)
