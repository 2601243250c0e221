-- An indication is passed on, and a response is acted upon.
use Rattle.std.proofs.Common.{◌∙◌, refl, sym}
use Rattle.stun_base.specs.declared.wire.message_type.MessageClass.TheVariants as Classes
use Rattle.stun_client_calls.specs.Receiving.{all_memory}
use Rattle.stun_client_calls.proofs.GrantedLemmas.{class_as}
use Rattle.stun_client_calls.proofs.ReceivingLemmas.{class_so, indication_so}
use Rattle.stun_client_calls.proofs.endpoint.ClientEndpoint.by_class.Goals as goal

pub returns-in-Indication-clause-acted : goal.returns-in-Indication-clause-acted
returns-in-Indication-clause-acted g c =
    indication_so c.args.from c.args.message _ c.args.self.now c.args.now _
    (sym c.class.ensures ∙ c.in-Indication.is) c.receive_indication.ensures

pub returns-in-Success-clause-acted : goal.returns-in-Success-clause-acted
returns-in-Success-clause-acted g c =
    class_so c.args.from c.args.message _ c.args.self.now c.args.now Classes.Success _
    (sym c.class.ensures ∙ c.in-Success.is) c.respond.ensures.acted

pub returns-in-Error-clause-acted : goal.returns-in-Error-clause-acted
returns-in-Error-clause-acted g c =
    class_so c.args.from c.args.message _ c.args.self.now c.args.now Classes.Error _
    (sym c.class.ensures ∙ c.in-Error.is) c.respond-in-Error.ensures.acted

pub returns-in-Request-clause-granted : goal.returns-in-Request-clause-granted
returns-in-Request-clause-granted g c =
    λ grants. class_as all_memory c.args.from c.args.message c.args.self.now c.args.now
    Classes.Request _ (sym c.class.ensures ∙ c.in-Request.is) refl

pub returns-in-Indication-clause-granted : goal.returns-in-Indication-clause-granted
returns-in-Indication-clause-granted g c =
    λ grants. class_as all_memory c.args.from c.args.message c.args.self.now c.args.now
    Classes.Indication _ (sym c.class.ensures ∙ c.in-Indication.is) c.receive_indication.ensures

pub returns-in-Success-clause-granted : goal.returns-in-Success-clause-granted
returns-in-Success-clause-granted g c =
    λ grants. class_as all_memory c.args.from c.args.message c.args.self.now c.args.now
    Classes.Success _ (sym c.class.ensures ∙ c.in-Success.is) (c.respond.ensures.granted grants)

pub returns-in-Error-clause-granted : goal.returns-in-Error-clause-granted
returns-in-Error-clause-granted g c =
    λ grants. class_as all_memory c.args.from c.args.message c.args.self.now c.args.now
    Classes.Error _ (sym c.class.ensures ∙ c.in-Error.is) (c.respond-in-Error.ensures.granted grants)
