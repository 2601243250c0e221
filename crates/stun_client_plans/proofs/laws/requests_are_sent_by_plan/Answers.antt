-- Each poll says the next part of the plan, and no other call changes it.
use Rattle.stun_client_calls.specs.Clients.{started}
use Rattle.stun_client_calls.specs.Runs.{next_number, requests, starts}
use Rattle.stun_client_plans.proofs.PlanLemmas.{begins_at, follow, request_of, stays_one}
use Rattle.stun_client_plans.proofs.StepLemmas.{slots_of}
use Rattle.stun_client_plans.proofs.laws.requests_are_sent_by_plan.Goals as goal
use Rattle.std.proofs.Common.{refl, true}

pub returns : goal.returns
returns v = λ late c after method body options start next said is low none calls.
    let stays = v.clients_stay_in_order.ensures.stays in
    follow stays (request_of late c options start) true 0
    (slots_of (request_of late c options start)) start start next
    (started method body options start c) after said
    (stays_one stays c (started method body options start c) (starts (next_number c)) is
    (requests c (started method body options start c) method body options start low none refl))
    (begins_at late c method body options start is low none) calls
