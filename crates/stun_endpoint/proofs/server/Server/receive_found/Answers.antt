-- The user who was found is of the server's realm.
use Rattle.std.proofs.Common.{◌≡◌, subst, sym}
use Rattle.std.specs.Prelude.{IfOk}
use Rattle.stun_endpoint.specs.Outcomes.{outcome_of}
use Rattle.stun_endpoint.specs.Received.{Outcome}
use Rattle.stun_endpoint.proofs.RealmLemmas.{found_received}
use Rattle.stun_endpoint.proofs.server.Server.receive_found.Goals as goal

pub returns-clause-received : goal.returns-clause-received
returns-clause-received g c =
    subst (λ (outcome : Outcome). IfOk c.judge_found_datagram.result (λ received.
    outcome_of received ≡ outcome))
    (sym (found_received c.args.self.now c.args.user.now c.args.from c.args.now c.args.bytes.now))
    c.judge_found_datagram.ensures.received
