-- The turns at awaited moments, and a whole run, turn by turn.
use Rattle.std.proofs.Common.{ℕ, Bool, true, false, ◌≡◌, ◌+◌, ◌<◌, ◌≤◌, inl, inr}
use Rattle.std.proofs.Common.{arith, List, [], ◌∷◌, ◌++◌, subst, ap, sym, refl, ◌∙◌}
use Rattle.std.proofs.Common.{append_assoc, length, drop, get_or, zero, suc, add-one}
use Rattle.std.proofs.lemmas.List.{append-nil, length-append}
use Rattle.std.specs.Prelude.{Option, Some, None, if◌then◌else◌}
use Rattle.stun_base.specs.Moments.{last_moment}
use Rattle.stun_agent.specs.Agent.{Agent}
use Rattle.stun_agent.specs.Transactions.{IsAscending, next_awaited}
use Rattle.stun_proto.specs.declared.replay.event.AgentEvent.{AgentEvent}
use Rattle.stun_proto.specs.declared.replay.step_log.StepLog.{StepLog}
use Rattle.stun_proto.specs.Steps.{Step, steps_of}
use Rattle.stun_proto.specs.Stopped.{next_bound, HasStopped}
use Rattle.stun_proto.specs.code.Calls.{kept_steps, Keeps, HasPassed, TakesTurn, TurnsLead}
use Rattle.stun_proto.specs.code.Calls.{TakesTurns, TakesEvent, TakesWhole, RunLeads}
use Rattle.stun_proto.specs.Run.{sending, Turn, Turns, turn, none, Run, done}
use Rattle.stun_proto.specs.Run.{event, IsDriven, IsAwaited, steps_of_event}
use Rattle.stun_proto.proofs.agent_runs.TurnLemmas.{keeps_all, keeps_more}
use Rattle.stun_proto.proofs.agent_runs.NextLemmas.{next_le, next_none, next_is}
use Rattle.stun_proto.proofs.agent_runs.NextLemmas.{next_is_awaited, turn_passes}

-- ---- the turns at awaited moments
pub turns_start : (bound from : ℕ) (a : Agent) (steps : Option (List Step)) → HasPassed from a
    → TurnsLead bound from from a a steps steps
turns_start bound from a steps passed =
    record { steps = []; added = keeps_all steps; goes_on = λ more b t. t; passed = passed }

turns_stop : (bound from at : ℕ) (a new : Agent) (first after : Option (List Step))
    → TurnsLead bound from at a new first after
    → ((moment : ℕ) → IsAwaited new moment → at ≤ moment → bound ≤ moment)
    → TakesTurns bound from a new first after
turns_stop bound from at a new first after leads h = record {
  steps = leads.steps;
  added = leads.added;
  turned =
      subst (λ s. Turns bound from a s new) (append-nil leads.steps)
      (leads.goes_on [] new (none h));
}

pub turns_none : (bound from at : ℕ) (a new : Agent) (first after : Option (List Step))
    → TurnsLead bound from at a new first after
    → None ≡ next_awaited new.transport new.transactions → TakesTurns bound from a new first after
turns_none bound from at a new first after leads h =
    turns_stop bound from at a new first after leads
    (λ moment awaits _. absurd (next_none new moment h awaits))

pub turns_early : (bound from at n : ℕ) (a new : Agent) (first after : Option (List Step))
    → TurnsLead bound from at a new first after → IsAscending new.transactions
    → Some n ≡ next_awaited new.transport new.transactions → n < at → n ≤ last_moment
    → TakesTurns bound from a new first after
turns_early bound from at n a new first after leads s h early within =
    turns_stop bound from at a new first after leads (by leads.passed)
  where
    by : HasPassed at new → (moment : ℕ) → IsAwaited new moment → at ≤ moment → bound ≤ moment
    by (inl past) moment (k, v, found, live, is) late = absurd (omega (past, late, is, arith))
    by (inr passed) moment awaits late =
        let here = next_is_awaited new n s h in absurd (let no = passed n here in omega arith)

pub turns_late : (bound from at n : ℕ) (a new : Agent) (first after : Option (List Step))
    → TurnsLead bound from at a new first after
    → Some n ≡ next_awaited new.transport new.transactions → bound ≤ n
    → TakesTurns bound from a new first after
turns_late bound from at n a new first after leads h late =
    turns_stop bound from at a new first after leads
    (λ moment awaits _. let least = next_le new n moment h awaits in omega arith)

pub turns_more : (bound from at n : ℕ) (a old new : Agent) (first before after : Option (List Step))
    → TurnsLead bound from at a old first before → IsAscending old.transactions
    → Some n ≡ next_awaited old.transport old.transactions → at ≤ n → n < bound
    → TakesTurn n old new before after → TurnsLead bound from (n + 1) a new first after
turns_more bound from at n a old new first before after leads s h late less taken =
    let next = next_is old at n s h late in
    record {
      steps = leads.steps ++ taken.steps;
      added = keeps_more first leads.steps before taken.steps after leads.added taken.added;
      goes_on = λ more b t.
          subst (λ ss. Turns bound from a ss b) (sym (append_assoc leads.steps taken.steps more))
          (leads.goes_on (taken.steps ++ more) b (turn n next less taken.turned t));
      passed = turn_passes n taken.turned;
    }

-- ---- an event, with the turns before it and the turn at its moment
pub takes_whole : (from moment : ℕ) (e : AgentEvent) (a b c d : Agent)
    (first second third last : Option (List Step)) → TakesTurns moment from a b first second
    → TakesEvent moment e b c second third → TakesTurn moment c d third last
    → TakesWhole from moment e a d first last
takes_whole from moment e a b c d first second third last before there after = record {
  between = b;
  earlier = before.steps;
  later = after.steps;
  added =
      keeps_more first before.steps second (steps_of_event moment e b ++ after.steps) last
      before.added
      (keeps_more second (steps_of_event moment e b) third after.steps last there.added
      after.added);
  turned = before.turned;
  turned_then = subst (λ x. Turn moment sending x after.steps d) there.changed after.turned;
}

pub takes_turn_passes : (moment : ℕ) (c d : Agent) (third last : Option (List Step))
    → TakesTurn moment c d third last → HasPassed (moment + 1) d
takes_turn_passes moment c d third last after = turn_passes moment after.turned

-- ---- a run
-- the list from one element on
drop_from : {X : Type 0} (xs : List X) (i : ℕ) (x : X) → i < length xs → x ≡ get_or xs i x
    → drop i xs ≡ x ∷ drop (suc i) xs
drop_from [] i x less is = absurd (omega (arith, less))
drop_from (y ∷ ys) zero x less is = λ i. sym is i ∷ ys
drop_from (y ∷ ys) (suc i) x less is = drop_from ys i x (omega (arith, less)) is

pub drop_next : {X : Type 0} (xs : List X) (i : ℕ) (x : X) → i < length xs → x ≡ get_or xs i x
    → drop i xs ≡ x ∷ drop (i + 1) xs
drop_next xs i x less is = rw (add-one i) (drop_from xs i x less is)

pub run_start : (a : Agent) (events : List (ℕ × AgentEvent))
    → RunLeads a events 0 0 a events (Some [])
run_start a events =
    record {
      complete = [];
      steps = [];
      divided = refl;
      counted = refl;
      added = refl;
      goes_on = λ bound later more b r. r;
      passed = inr (λ moment awaits. omega arith);
    }

pub run_more : (a : Agent) (events : List (ℕ × AgentEvent)) (count from : ℕ) (old new : Agent)
    (moment : ℕ) (e : AgentEvent) (left : List (ℕ × AgentEvent)) (before after : Option (List Step))
    → RunLeads a events count from old ((moment, e) ∷ left) before
    → TakesWhole from moment e old new before after → HasPassed (moment + 1) new
    → RunLeads a events (count + 1) (moment + 1) new left after
run_more a events count from old new moment e left before after leads taken passed = record {
  complete = leads.complete ++ (moment, e) ∷ [];
  steps = leads.steps ++ (taken.earlier ++ (own ++ taken.later));
  divided = leads.divided ∙ sym (append_assoc leads.complete ((moment, e) ∷ []) left);
  counted = length-append leads.complete ((moment, e) ∷ []) ∙ ap (λ n. n + 1) leads.counted;
  added = keeps_more (Some []) leads.steps before (taken.earlier ++ (own ++ taken.later)) after
      leads.added taken.added;
  goes_on = λ bound later more b r.
      subst (λ ss. Run bound 0 a ((leads.complete ++ (moment, e) ∷ []) ++ later) ss b)
      (sym (joined more))
      (subst (λ es.
      Run bound 0 a es (leads.steps ++ (taken.earlier ++ (own ++ (taken.later ++ more)))) b)
      (sym (append_assoc leads.complete ((moment, e) ∷ []) later))
      (leads.goes_on bound ((moment, e) ∷ later) (taken.earlier ++ (own ++ (taken.later ++ more))) b
      (event moment e taken.turned taken.turned_then r)));
  passed = passed;
}
  where
    own : List Step
    own = steps_of_event moment e taken.between

    joined : (more : List Step) → (leads.steps ++ (taken.earlier ++ (own ++ taken.later))) ++ more
        ≡ leads.steps ++ (taken.earlier ++ (own ++ (taken.later ++ more)))
    joined more =
        append_assoc leads.steps (taken.earlier ++ (own ++ taken.later)) more
        ∙ ap (λ ss. leads.steps ++ ss)
        (append_assoc taken.earlier (own ++ taken.later) more
        ∙ ap (λ ss. taken.earlier ++ ss) (append_assoc own taken.later more))

-- the run stops before an event, or before its end
pub run_stops : (until : ℕ) (a : Agent) (events : List (ℕ × AgentEvent)) (count from : ℕ)
    (old new : Agent) (left : List (ℕ × AgentEvent)) (before : Option (List Step))
    (lost : List Step)
    → RunLeads a events count from old left before → Turns (next_bound until left) from old lost new
    → HasStopped until count a events new
run_stops until a events count from old new left before lost leads turned = record {
  complete = leads.complete;
  left = left;
  lost = leads.steps ++ lost;
  divided = leads.divided;
  counted = leads.counted;
  taken = subst (λ es. Run (next_bound until left) 0 a es (leads.steps ++ lost) new)
      (append-nil leads.complete) (leads.goes_on (next_bound until left) [] lost new (done turned));
}

pub run_done : (until : ℕ) (a : Agent) (events : List (ℕ × AgentEvent)) (count from : ℕ)
    (old new : Agent) (before : Option (List Step)) (steps : List Step)
    → RunLeads a events count from old [] before
    → TakesTurns (until + 1) from old new before (Some steps) → Run (until + 1) 0 a events steps new
run_done until a events count from old new before steps leads taken =
    let all : Keeps (Some []) (leads.steps ++ taken.steps) (Some steps) =
    keeps_more (Some []) leads.steps before taken.steps (Some steps) leads.added taken.added in
    subst (λ es. Run (until + 1) 0 a es steps new) (sym leads.divided)
    (subst (λ ss. Run (until + 1) 0 a (leads.complete ++ []) ss new) (sym all)
    (leads.goes_on (until + 1) [] taken.steps new (done taken.turned)))

-- a log that is not lost has all steps
pub run_kept : {A : Type 0} (until : ℕ) (a : Agent) (events : List (ℕ × AgentEvent))
    (count from : ℕ) (old new : Agent) (before : Option (List Step)) (log : StepLog A)
    → log.is_lost ≡ false → RunLeads a events count from old [] before
    → TakesTurns (until + 1) from old new before (kept_steps log)
    → Run (until + 1) 0 a events (steps_of log.steps.items) new
run_kept until a events count from old new before log whole leads taken =
    let all : kept_steps log ≡ Some (steps_of log.steps.items) =
    ap (λ (lost : Bool). if lost then None else Some (steps_of log.steps.items)) whole in
    run_done until a events count from old new before (steps_of log.steps.items) leads
    (subst (TakesTurns (until + 1) from old new before) all taken)

-- without events nothing happens
pub nothing_is_driven : {A : Type 0} (until : ℕ) (a : Agent) (events : List (ℕ × AgentEvent))
    (log : StepLog A) → length events ≡ 0 → kept_steps log ≡ Some []
    → IsDriven until a events (steps_of log.steps.items) a
nothing_is_driven until a (e ∷ es) log empty new = absurd (omega (arith, empty))
nothing_is_driven until a [] log empty new = (by log.is_lost new, refl)
  where
    by : (lost : Bool) → (if lost then None else Some (steps_of log.steps.items)) ≡ Some []
        → steps_of log.steps.items ≡ []
    by true is = cc
    by false is = cc

pub is_driven : (until : ℕ) (a b : Agent) (events : List (ℕ × AgentEvent)) (steps : List Step)
    → (length events ≡ 0 → ⊥) → Run (until + 1) 0 a events steps b → IsDriven until a events steps b
is_driven until a b [] steps some r = absurd (some refl)
is_driven until a b (e ∷ es) steps some r = r
