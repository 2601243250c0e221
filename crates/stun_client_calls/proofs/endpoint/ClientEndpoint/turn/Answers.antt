-- The message is written where it stands.
use Rattle.std.proofs.Common.{◌∙◌, Ok, ap, sym}
use Rattle.stun_client_calls.specs.Receiving.{Spot, all_memory}
use Rattle.stun_client_calls.specs.Writing.{message_bytes}
use Rattle.stun_client_calls.proofs.GrantedLemmas.{not_written_as, with_spot_as, without_spot_as}
use Rattle.stun_client_calls.proofs.HeardLemmas.{spot_is_free}
use Rattle.stun_client_calls.proofs.ReceivingLemmas.{met_is_stored, not_written, with_spot}
use Rattle.stun_client_calls.proofs.endpoint.ClientEndpoint.turn.Goals as goal

pub returns-in-Ok-clause-acted : goal.returns-in-Ok-clause-acted
returns-in-Ok-clause-acted g c =
    λ m found same.
    let stored = met_is_stored c.args.message.now c.args.self.now m c.args.number found same in
    with_spot c.args.message.now c.args.self.now c.args.now m c.args.why c.args.signed_for
    c.args.place c.in-Some.spot (Ok c.in-Ok.bytes.items) _
    (sym (c.in-Some.ensures m.asked stored))
    (ap (λ (x : Spot). message_bytes c.args.self.now.form c.args.self.now.identity c.args.signed_for
    x.id m.asked) (sym c.spot.view_is)
    ∙ c.in-Ok.ensures.ok m.asked stored)
    (c.turn_to.ensures.acted m found same)

pub returns-clause-acted : goal.returns-clause-acted
returns-clause-acted g c =
    λ m found same.
    let stored = met_is_stored c.args.message.now c.args.self.now m c.args.number found same in
    not_written c.args.message.now c.args.self.now c.args.now m c.args.number c.args.why
    c.args.signed_for c.args.place c.in-Some.spot _ c.in-Err.error c.explain_failure.result _ found same
    (sym (c.in-Some.ensures m.asked stored)) c.spot.view_is
    (c.in-Err.ensures.refused m.asked stored) c.explain_failure.ensures.memory c.explain_failure.ensures.other
    c.drop_for-in-Err.ensures

pub returns-in_default-clause-granted : goal.returns-in_default-clause-granted
returns-in_default-clause-granted g c =
    λ grants m found same.
    let stored = met_is_stored c.args.message.now c.args.self.now m c.args.number found same in
    without_spot_as all_memory c.args.message.now c.args.self.now c.args.now m c.args.number c.args.why
    c.args.signed_for c.args.place _ same (sym (c.in_default.ensures m.asked stored)) c.drop_for.ensures

pub returns-in-Ok-clause-granted : goal.returns-in-Ok-clause-granted
returns-in-Ok-clause-granted g c =
    λ grants m found same.
    let stored = met_is_stored c.args.message.now c.args.self.now m c.args.number found same in
    let stands = sym (c.in-Some.ensures m.asked stored) in
    with_spot_as all_memory c.args.message.now c.args.self.now c.args.now m c.args.why
    c.args.signed_for c.args.place c.in-Some.spot (Ok c.in-Ok.bytes.items) _ stands
    (ap (λ (x : Spot). message_bytes c.args.self.now.form c.args.self.now.identity c.args.signed_for
    x.id m.asked) (sym c.spot.view_is)
    ∙ c.in-Ok.ensures.ok m.asked stored)
    (c.turn_to.ensures.granted grants m found same
    (spot_is_free c.args.self.now m.asked c.args.place c.in-Some.spot stands))

pub returns-clause-granted : goal.returns-clause-granted
returns-clause-granted g c =
    λ grants m found same.
    let stored = met_is_stored c.args.message.now c.args.self.now m c.args.number found same in
    not_written_as (Unit {0}) all_memory c.args.message.now c.args.self.now c.args.now m c.args.number c.args.why
    c.args.signed_for c.args.place c.in-Some.spot _ c.in-Err.error c.explain_failure.result _ same
    (sym (c.in-Some.ensures m.asked stored)) c.spot.view_is
    (c.in-Err.ensures.granted grants m.asked stored) (c.in-Err.ensures.refused m.asked stored)
    c.explain_failure.ensures.other c.drop_for-in-Err.ensures
