-- The table of users is judged by as it is seen.
use Rattle.std.proofs.Common.{◌≡◌, IfOk, Some, subst}
use Rattle.stun_judging.specs.Realm.{RealmSeen}
use Rattle.stun_endpoint.specs.Outcomes.{outcome_of}
use Rattle.stun_endpoint.specs.Received.{received_for}
use Rattle.stun_endpoint.proofs.server.Server.resume_among.Goals as goal

pub returns-clause-received : goal.returns-clause-received
returns-clause-received g c =
    subst (λ (table : RealmSeen). IfOk c.judge_lookup.result (λ received. outcome_of received
    ≡ received_for c.args.self.now (Some table.registered) c.args.lookup.from
    c.args.lookup.arrived c.args.lookup.message)) c.users.view_is c.judge_lookup.ensures.received
