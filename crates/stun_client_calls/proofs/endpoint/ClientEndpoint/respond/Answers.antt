-- A response comes to what is decided on it.
use Rattle.std.proofs.Common.{ap, sym}
use Rattle.stun_client_calls.specs.Deciding.{decision_of}
use Rattle.stun_client_calls.specs.Receiving.{Met, all_memory}
use Rattle.stun_client_calls.proofs.GrantedLemmas.{by_its_decision_as, never, unanswered_as}
use Rattle.stun_client_calls.proofs.ReceivingLemmas.{by_its_decision, heard_is}
use Rattle.stun_client_calls.proofs.endpoint.ClientEndpoint.respond.Goals as goal

pub returns-in-Ok-clause-acted : goal.returns-in-Ok-clause-acted
returns-in-Ok-clause-acted g c =
    by_its_decision c.args.from c.args.message.now c.args.self.now c.args.now c.in-Some.met
    (decision_of c.in-Ok.decision) _ (sym c.in-Some.ensures) c.in-Ok.ensures.decided
    (c.act.ensures.acted c.in-Some.met
    (heard_is c.args.from c.args.message.now c.args.self.now c.in-Some.met (sym c.in-Some.ensures))
    (ap (λ (x : Met). x.number) c.met.view_is) (ap (λ (x : Met). x.is_current) c.met.view_is))

pub returns-in_default-clause-granted : goal.returns-in_default-clause-granted
returns-in_default-clause-granted g c =
    λ grants. unanswered_as all_memory c.args.from c.args.message.now c.args.self.now c.args.now
    (sym c.in_default.ensures)

pub returns-in-Ok-clause-granted : goal.returns-in-Ok-clause-granted
returns-in-Ok-clause-granted g c =
    λ grants. by_its_decision_as all_memory c.args.from c.args.message.now c.args.self.now c.args.now
    c.in-Some.met (decision_of c.in-Ok.decision) _ (sym c.in-Some.ensures) c.in-Ok.ensures.decided
    (c.act.ensures.granted grants c.in-Some.met
    (heard_is c.args.from c.args.message.now c.args.self.now c.in-Some.met (sym c.in-Some.ensures))
    (ap (λ (x : Met). x.number) c.met.view_is) (ap (λ (x : Met). x.is_current) c.met.view_is))

pub returns-in-Err-clause-granted : goal.returns-in-Err-clause-granted
returns-in-Err-clause-granted g c = λ grants. never (c.in-Err.ensures.granted grants)
