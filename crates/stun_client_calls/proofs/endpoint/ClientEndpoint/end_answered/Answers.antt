-- The request that the response answers has ended by it.
use Rattle.std.proofs.Common.{◌∙◌, List, ap}
use Rattle.std.specs.Duration.{as_nanos}
use Rattle.std.specs.Option.{option_map}
use Rattle.stun_base.specs.declared.wire.attribute_type.AttributeType.{AttributeType}
use Rattle.stun_client.specs.Outcomes.{outcome_of}
use Rattle.stun_client_endpoint.specs.declared.ended.RequestEnd.TheVariants as how
use Rattle.stun_client_calls.specs.Clients.{Client}
use Rattle.stun_client_calls.specs.Receiving.{all_memory, round_trip_of}
use Rattle.stun_client_calls.proofs.GrantedLemmas.{never}
use Rattle.stun_client_calls.proofs.ReceivingLemmas.{answered_as, answered_so, end_so, met_is_stored}
use Rattle.stun_client_calls.proofs.ReceivingLemmas.{trip_so}
use Rattle.stun_client_calls.proofs.endpoint.ClientEndpoint.end_answered.Goals as goal

pub returns-clause-acted : goal.returns-clause-acted
returns-clause-acted g c =
    λ m found same current.
    answered_so c.args.self.now _ c.args.now c.args.message.now m c.args.number c.args.is_current
    c.args.by _ c.in-Ok-copy_confirmed.confirmed c.in-Some.asked c.confirm.new.self
    c.forget.new.all.entries found same current
    (end_so (how.Answered c.of.result c.args.by)
    (how.Answered (outcome_of c.args.self.now.understood c.args.message.now) c.args.by)
    c.in-Ok.response.items c.args.message.now (option_map as_nanos c.measure_round_trip.result)
    (round_trip_of c.args.now m)
    (ap (λ o. how.Answered o c.args.by)
    (c.of.ensures
    ∙ ap (λ (kinds : List AttributeType). outcome_of kinds c.args.message.now)
    (c.deref.ensures.value ∙ ap (λ (x : Client). x.understood) c.self.view_is)))
    (c.in-Ok.ensures.items ∙ c.as_bytes.ensures.bytes)
    (trip_so c.args.message.now c.args.self.now c.args.now m c.args.is_current _ current
    (c.measure_round_trip.ensures m.asked
    (met_is_stored c.args.message.now c.args.self.now m c.args.number found same))))
    (c.in-Ok-copy_confirmed.ensures.confirmed m found same current) c.in-Some.ensures.stored
    (c.self-2.view_is ∙ c.end_by.ensures.after) c.confirm.ensures c.forget.ensures

pub returns-clause-granted : goal.returns-clause-granted
returns-clause-granted g c =
    λ grants m found same current.
    answered_as c.args.self.now _ c.args.now c.args.message.now m c.args.number c.args.is_current
    c.args.by _ c.in-Ok-copy_confirmed.confirmed c.in-Some.asked c.confirm.new.self
    c.forget.new.all.entries found same current
    (end_so (how.Answered c.of.result c.args.by)
    (how.Answered (outcome_of c.args.self.now.understood c.args.message.now) c.args.by)
    c.in-Ok.response.items c.args.message.now (option_map as_nanos c.measure_round_trip.result)
    (round_trip_of c.args.now m)
    (ap (λ o. how.Answered o c.args.by)
    (c.of.ensures
    ∙ ap (λ (kinds : List AttributeType). outcome_of kinds c.args.message.now)
    (c.deref.ensures.value ∙ ap (λ (x : Client). x.understood) c.self.view_is)))
    (c.in-Ok.ensures.items ∙ c.as_bytes.ensures.bytes)
    (trip_so c.args.message.now c.args.self.now c.args.now m c.args.is_current _ current
    (c.measure_round_trip.ensures m.asked
    (met_is_stored c.args.message.now c.args.self.now m c.args.number found same))))
    (c.in-Ok-copy_confirmed.ensures.confirmed m found same current) c.in-Some.ensures.stored
    (c.self-2.view_is ∙ c.end_by.ensures.after) c.confirm.ensures c.forget.ensures all_memory

pub returns-in_default-clause-granted : goal.returns-in_default-clause-granted
returns-in_default-clause-granted g c = λ grants m found same current. never (c.in_default.ensures.granted grants)

pub returns-in_default-copy_confirmed-clause-granted : goal.returns-in_default-copy_confirmed-clause-granted
returns-in_default-copy_confirmed-clause-granted g c =
    λ grants m found same current. never (c.in_default-copy_confirmed.ensures.granted grants)
