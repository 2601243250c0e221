-- It is resumed with the one user.
use Rattle.std.proofs.Common.{◌≡◌, Option, subst}
use Rattle.std.specs.Prelude.{IfOk}
use Rattle.stun_judging.specs.Registered.{Registered}
use Rattle.stun_endpoint.specs.Buffered.{outcome_in}
use Rattle.stun_endpoint.specs.Received.{received_for}
use Rattle.stun_endpoint.proofs.server.Server.resume_into.Goals as goal

pub returns-clause-received : goal.returns-clause-received
returns-clause-received g c =
    subst (λ (users : Option Registered). IfOk c.judge_lookup_into.result (λ received. outcome_in received c.judge_lookup_into.new.buffer.items
    ≡ received_for c.args.self.now users c.args.lookup.from c.args.lookup.arrived c.args.lookup.message))
    c.from_user.ensures c.judge_lookup_into.ensures.received
