-- The request is sent by the other message, and that is the current one.
use Rattle.std.proofs.Common.{◌∙◌, ℕ, List, Some, ap, length, sym}
use Rattle.stun_client_requests.specs.Requests.{datum_of}
use Rattle.stun_client_calls.specs.Clients.{Client}
use Rattle.stun_client_calls.specs.Receiving.{all_memory}
use Rattle.stun_client_calls.proofs.GrantedLemmas.{goes_out, never, not_gone}
use Rattle.stun_client_calls.proofs.ReceivingLemmas.{met_is_stored, turned_from, turned_from_as}
use Rattle.stun_client_calls.proofs.endpoint.ClientEndpoint.turn_to.Goals as goal

pub returns-in-Ok-again-clause-acted : goal.returns-in-Ok-again-clause-acted
returns-in-Ok-again-clause-acted g c =
    λ m found same.
    turned_from c.args.self.now _ c.exchange.new.self c.again.new.self c.args.now c.args.message.now m
    c.args.number c.transaction_id.result c.method.result _ c.args.why c.args.signed_for
    c.in-Ok.answered c.args.spot _ c.args.bytes.items c.into_parts-bytes.result.1 c.in-Some.asked.now
    c.make_placeholder-empty.result _ found same c.self.view_is c.spot.view_is c.in-Ok.ensures.value
    (c.in-Ok-again.ensures.former ∙ ap Some (sym c.into_parts-bytes.ensures.datum)) c.in-Some.ensures
    c.method.ensures c.plan-plan.ensures c.make_placeholder-empty.ensures
    (ap (λ (x : List ℕ). length x) c.as_bytes.ensures.bytes) c.in-Ok-again.ensures.after
    c.transaction_id.ensures c.exchange.ensures.exchanged

pub returns-in-Ok-again-clause-granted : goal.returns-in-Ok-again-clause-granted
returns-in-Ok-again-clause-granted g c =
    λ grants m found same free.
    turned_from_as all_memory c.args.self.now _ c.exchange.new.self c.again.new.self c.args.now c.args.message.now m
    c.args.number c.transaction_id.result c.method.result _ c.args.why c.args.signed_for
    c.in-Ok.answered c.args.spot _ c.args.bytes.items c.into_parts-bytes.result.1 c.in-Some.asked.now
    c.make_placeholder-empty.result _ found same c.self.view_is c.spot.view_is c.in-Ok.ensures.value
    (c.in-Ok-again.ensures.former ∙ ap Some (sym c.into_parts-bytes.ensures.datum)) c.in-Some.ensures
    c.method.ensures c.plan-plan.ensures c.make_placeholder-empty.ensures
    (ap (λ (x : List ℕ). length x) c.as_bytes.ensures.bytes) c.in-Ok-again.ensures.after
    c.transaction_id.ensures (c.exchange.ensures.granted grants)

pub returns-in-Err-clause-granted : goal.returns-in-Err-clause-granted
returns-in-Err-clause-granted g c =
    λ grants m found same free.
    absurd
    (goes_out _ c.args.self.now _ c.args.message.now m c.args.number c.args.spot _ c.in-Err.field-0
    found same c.self.view_is c.spot.view_is c.in-Err.ensures.refused
    (c.in-Err.ensures.granted grants) c.in-Err.ensures.taken free)

pub returns-in_default-clause-granted : goal.returns-in_default-clause-granted
returns-in_default-clause-granted g c = λ grants m found same free. never (c.in_default.ensures.granted grants)

pub returns-in_default-datum_of-clause-granted : goal.returns-in_default-datum_of-clause-granted
returns-in_default-datum_of-clause-granted g c =
    λ grants m found same free.
    not_gone _ m.asked c.in_default-datum_of.ensures
    (ap (λ (x : Client). datum_of c.args.number x.requests) c.self.view_is
    ∙ met_is_stored c.args.message.now c.args.self.now m c.args.number found same)
