-- A driven run keeps the plan of each of its requests, whoever makes the calls.
use Rattle.std.proofs.Common.{ℕ, ◌≡◌, ◌≤◌, ◌+◌, cond, List, [], ◌∷◌}
use Rattle.std.proofs.Common.{◌++◌, length, subst, ap, refl, ◌∙◌, arith}
use Rattle.std.specs.Prelude.{filter, ◌==◌, Option, None}
use Rattle.std.specs.Option.{option_map_or}
use Rattle.stun_base.specs.Header.{transaction_id_field}
use Rattle.stun_base.specs.Moments.{last_moment}
use Rattle.stun_agent.specs.Agent.{Agent, request_refusal, after_send_request}
use Rattle.stun_agent.specs.Timing.{planned_end}
use Rattle.stun_agent.specs.Transactions.{IsAscending}
use Rattle.stun_agent.specs.declared.error.StunError.{StunError}
use Rattle.stun_proto.specs.declared.replay.event.AgentEvent.{AgentEvent}
use Rattle.stun_proto.specs.declared.replay.event.AgentEvent.TheVariants.{SendRequest}
use Rattle.stun_proto.specs.Run.{IsDriven, Run, Turn, sending, after_event, steps_of_event}
use Rattle.stun_proto.specs.RunLaws.{GoesByPlan, KeepPlans}
use Rattle.stun_proto.specs.Schedule.{AreInOrder, IsUndisturbed, plan, steps_until}
use Rattle.stun_proto.specs.Steps.{Step, Transmitted, Refused, is_of, steps_to_end}
use Rattle.stun_proto.proofs.agent_runs.Said.{run_said, turn_said}
use Rattle.stun_proto.proofs.agent_runs.RunLemmas.{turn_ascends, event_ascends, run_ascends}
use Rattle.stun_proto.proofs.agent_runs.RunLemmas.{comes_to, in_order_then, run_same}
use Rattle.stun_proto.proofs.agent_runs.ScheduleLaw.{keeps_plan}

-- ---- each request of a run keeps its plan
pub keep_plans : (until : ℕ) (a b : Agent) (events : List (ℕ × AgentEvent)) (steps : List Step)
    → until ≤ last_moment → IsAscending a.transactions → AreInOrder until 0 events
    → Run (until + 1) 0 a events steps b → KeepPlans until a events steps
unfolding steps_to_end
keep_plans until a b events steps within ascends order r earlier later start bytes to is =
    let e = SendRequest bytes to in
    let id = transaction_id_field bytes.items in
    let found =
    comes_to start e earlier later (subst (λ es. Run (until + 1) 0 a es steps b) is r) in
    let after =
    in_order_then until 0 earlier later (start, e) (subst (AreInOrder until 0) is order) in
    let there = run_ascends found.comes ascends in
    let all_of_it = found.at_once ++ found.rest in
    let kept : request_refusal found.agent bytes.items to ≡ None
    → IsUndisturbed id to (planned_end found.agent.transport found.agent.settings start) later
    → steps_to_end id (Transmitted start id to bytes.items ∷ all_of_it)
    ≡ steps_until until (plan found.agent.transport start found.agent.settings id to bytes.items) =
    λ accepted quiet.
    let added : after_event start e found.agent
    ≡ after_send_request found.agent bytes.items to start =
    ap (λ (o : Option StunError). option_map_or (λ _. found.agent) o
    (after_send_request found.agent bytes.items to start)) accepted in
    keeps_plan until start bytes.items to found.agent found.next b later found.at_once found.rest
    after.0 within there accepted
    (subst (λ x. Turn start sending x found.at_once found.next) added found.turned) found.goes_on
    after.1 quiet in
    let asked : request_refusal found.agent bytes.items to ≡ None
    → steps_of_event start e found.agent ≡ Transmitted start id to bytes.items ∷ [] =
    λ accepted.
    ap (λ (o : Option StunError). option_map_or (λ error. Refused start error) o
    (Transmitted start id to bytes.items) ∷ []) accepted in
    let here : GoesByPlan until found.agent later start bytes.items to found.before steps =
    record {
      after = steps_of_event start e found.agent ++ all_of_it;
      divided = found.divided;
      keeps = λ accepted quiet. ap (λ ss. steps_to_end id (ss ++ all_of_it)) (asked accepted)
          ∙ kept accepted quiet;
      once = λ accepted quiet others.
          let taken = event_ascends start e found.agent there in
          let said =
          turn_said id start found.rest found.turned taken
          (run_said id found.goes_on (turn_ascends start found.turned taken) others) in
          ap (λ ss. filter (is_of id) (ss ++ all_of_it)) (asked accepted)
          ∙ ap (λ ss. cond (id == id) (Transmitted start id to bytes.items ∷ ss) ss) said.ends_once
          ∙ kept accepted quiet;
    } in
    record {
      comes = (found.agent, found.before, found.comes);
      goes_on = λ agent before r.
          let same = run_same found.comes r in
          subst (λ ss. GoesByPlan until agent later start bytes.items to ss steps) same.0
          (subst (λ x. GoesByPlan until x later start bytes.items to found.before steps) same.1
          here);
    }

-- a list with an element has a length
has_length : (e : ℕ × AgentEvent) (earlier later : List (ℕ × AgentEvent))
    → length (earlier ++ e ∷ later) ≡ 0 → ⊥
has_length e [] later h = omega (arith, h)
has_length e (x ∷ xs) later h = omega (arith, h)

-- without events there is no request
no_plans : (until : ℕ) (a : Agent) (steps : List Step) → KeepPlans until a [] steps
no_plans until a steps earlier later start bytes to is =
    absurd (has_length _ earlier later (subst (λ es. length es ≡ 0) is refl))

pub driven_keeps_plans : (until : ℕ) (a b : Agent) (events : List (ℕ × AgentEvent))
    (steps : List Step) → until ≤ last_moment → IsAscending a.transactions
    → AreInOrder until 0 events → IsDriven until a events steps b → KeepPlans until a events steps
driven_keeps_plans until a b [] steps within ascends order driven = no_plans until a steps
driven_keeps_plans until a b (e ∷ es) steps within ascends order driven =
    keep_plans until a b (e ∷ es) steps within ascends order driven
