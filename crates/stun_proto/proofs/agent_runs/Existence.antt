-- Each list of events has a run: each call that is not the last of a turn leaves less to do.
use Rattle.std.proofs.Common.{ℕ, zero, suc, ◌≡◌, ◌+◌, ◌<◌, ◌≤◌, ◌⊎◌, inl, inr}
use Rattle.std.proofs.Common.{arith, List, [], ◌∷◌, ◌++◌, subst, sym, refl}
use Rattle.std.specs.Prelude.{Option, Some, None}
use Rattle.stun_base.specs.Moments.{last_moment}
use Rattle.stun_agent.specs.Agent.{Agent, sent_by_poll, after_poll_transmit}
use Rattle.stun_agent.specs.Agent.{ended_by_poll, after_poll}
use Rattle.stun_agent.specs.Transactions.{Transaction, IsAscending, wake_up, next_awaited}
use Rattle.stun_proto.specs.declared.replay.event.AgentEvent.{AgentEvent}
use Rattle.stun_proto.specs.code.Calls.{HasPassed}
use Rattle.stun_proto.specs.Run.{transmission_step, end_step, Phase, sending, ending, Turn, sends}
use Rattle.stun_proto.specs.Run.{rests, ends, again, stops, Turns, turn, none, Run, done}
use Rattle.stun_proto.specs.Run.{event, IsAwaited, after_event, steps_of_event}
use Rattle.stun_proto.specs.RunLaws.{EventsHaveRuns}
use Rattle.stun_proto.specs.Schedule.{AreInOrder}
use Rattle.stun_proto.specs.Steps.{Step}
use Rattle.stun_proto.specs.code.Work.{work, IsIdle}
use Rattle.stun_proto.proofs.agent_runs.NextLemmas.{next_le, next_none, next_is}
use Rattle.stun_proto.proofs.agent_runs.NextLemmas.{next_is_awaited, turn_passes}
use Rattle.stun_proto.proofs.agent_runs.RunLemmas.{turn_ascends, turns_ascends, event_ascends}
use Rattle.stun_proto.proofs.agent_runs.Work.{work-sent, work-none, work-ended, wakes_later}
use Rattle.stun_proto.proofs.Tests.{order}

-- ---- a turn
module _ (now : ℕ) (within : now ≤ last_moment) where
  pub record HasTurn (phase : Phase) (a : Agent) : Type 0 where
    pub steps : List Step
    pub after : Agent
    pub turned : Turn now phase a steps after

  -- turns from each agent with less than this left to do
  abbrev HaveTurns : Phase → ℕ → Type 0
  HaveTurns phase n = (a : Agent) → work a.transport a.transactions < n → HasTurn phase a

  -- after a last end: the turn stops where there is a later moment to wait until, or none; else it
  -- begins again
  rest_or_again : (a : Agent) → ended_by_poll now a ≡ None → HasTurn sending a → HasTurn ending a
  rest_or_again a f next =
      by (order (wake_up a.transport now a.transactions) now) (order last_moment now)
    where
      by : (now < wake_up a.transport now a.transactions)
          ⊎ (wake_up a.transport now a.transactions ≤ now)
          → (now < last_moment) ⊎ (last_moment ≤ now) → HasTurn ending a
      by (inl later) last = record { steps = []; after = a; turned = stops f (inl later) }
      by (inr early) (inl less) = record {
        steps = next.steps;
        after = next.after;
        turned = again f (omega arith) less next.turned;
      }
      by (inr early) (inr past) =
          record { steps = []; after = a; turned = stops f (inr (omega arith)) }

  -- nothing is due: the ends come, and then there is a later moment to wait until
  idle_ends : (n : ℕ) → HaveTurns ending n → (a : Agent) → work a.transport a.transactions < suc n
      → IsIdle a.transport now a.transactions → HasTurn ending a
  idle_ends n ends_on a less idle = by (ended_by_poll now a) refl
    where
      late : ended_by_poll now a ≡ None → (now < last_moment) ⊎ (last_moment ≤ now)
          → (now < wake_up a.transport now a.transactions) ⊎ (now ≡ last_moment)
      late f (inl before) = inl (wakes_later now a before idle f)
      late f (inr past) = inr (omega arith)

      by : (o : Option (ℕ × Transaction)) → ended_by_poll now a ≡ o → HasTurn ending a
      by (Some e) f =
          let fewer = work-ended now a e f in
          let r = ends_on (after_poll now a) (omega arith) in
          record { steps = end_step now e ∷ r.steps; after = r.after; turned = ends e f r.turned }
      by None f =
          record { steps = []; after = a; turned = stops f (late f (order last_moment now)) }

  sends_more : (n : ℕ) → HaveTurns sending n → HaveTurns ending n → HaveTurns sending (suc n)
  sends_more n sends_on ends_on a less = by (sent_by_poll now a) refl
    where
      rested : sent_by_poll now a ≡ None
          → (work (after_poll_transmit now a).transport (after_poll_transmit now a).transactions
          < work a.transport a.transactions)
          ⊎ ((after_poll_transmit now a ≡ a) × IsIdle a.transport now a.transactions)
          → HasTurn sending a
      rested f (inl fewer) = let r = ends_on (after_poll_transmit now a) (omega arith) in
          record { steps = r.steps; after = r.after; turned = rests f r.turned }
      rested f (inr (same, idle)) =
          let r = idle_ends n ends_on a less idle in
          record {
            steps = r.steps;
            after = r.after;
            turned = rests f (subst (λ x. Turn now ending x r.steps r.after) (sym same) r.turned);
          }

      by : (o : Option (ℕ × Transaction)) → sent_by_poll now a ≡ o → HasTurn sending a
      by (Some e) f =
          let fewer = work-sent now a e f in
          let r = sends_on (after_poll_transmit now a) (omega arith) in
          record {
            steps = transmission_step now e ∷ r.steps;
            after = r.after;
            turned = sends e f r.turned;
          }
      by None f = rested f (work-none now a f)

  ends_more : (n : ℕ) → HaveTurns sending (suc n) → HaveTurns ending n → HaveTurns ending (suc n)
  ends_more n sends_on ends_on a less = by (ended_by_poll now a) refl
    where
      by : (o : Option (ℕ × Transaction)) → ended_by_poll now a ≡ o → HasTurn ending a
      by (Some e) f =
          let fewer = work-ended now a e f in
          let r = ends_on (after_poll now a) (omega arith) in
          record { steps = end_step now e ∷ r.steps; after = r.after; turned = ends e f r.turned }
      by None f = rest_or_again a f (sends_on a less)

  both_turns : (n : ℕ) → HaveTurns sending n × HaveTurns ending n
  both_turns zero = (λ a less. absurd (omega arith), λ a less. absurd (omega arith))
  both_turns (suc n) =
      let fewer = both_turns n in
      let here = sends_more n fewer.0 fewer.1 in
      (here, ends_more n here fewer.1)

  -- each agent has a turn
  pub has_turn : (a : Agent) → HasTurn sending a
  has_turn a = (both_turns (suc (work a.transport a.transactions))).0 a (omega arith)

-- ---- the turns at awaited moments
pub record HasTurns (bound from : ℕ) (a : Agent) : Type 0 where
  pub steps : List Step
  pub after : Agent
  pub turned : Turns bound from a steps after

-- no awaited moment from one on lies below the bound
no_turns : (bound from : ℕ) (a : Agent)
    → ((moment : ℕ) → IsAwaited a moment → from ≤ moment → bound ≤ moment) → HasTurns bound from a
no_turns bound from a h = record { steps = []; after = a; turned = none h }

has_turns : (gap bound from : ℕ) (a : Agent) → bound ≤ last_moment + 1 → bound ≤ from + gap
    → IsAscending a.transactions → HasPassed from a → HasTurns bound from a
has_turns zero bound from a within near s passed =
    no_turns bound from a (λ moment awaits late. omega arith)
has_turns (suc gap) bound from a within near s passed =
    by (next_awaited a.transport a.transactions) refl
    (λ n b less. has_turns gap bound (n + 1) b within less)
  where
    past : (n : ℕ) → next_awaited a.transport a.transactions ≡ Some n → n < from → HasPassed from a
        → (moment : ℕ) → IsAwaited a moment → from ≤ moment → bound ≤ moment
    past n f early (inl over) moment awaits late = omega arith
    past n f early (inr all) moment awaits late =
        absurd (let no = all n (next_is_awaited a n s (sym f)) in omega arith)

    reaches : (n : ℕ) → (n < from) ⊎ (from ≤ n) → (from ≤ n) ⊎ (n < from)
    reaches n (inl early) = inr early
    reaches n (inr late) = inl late

    next_turn : (n : ℕ) → next_awaited a.transport a.transactions ≡ Some n
        → (n < bound) ⊎ (bound ≤ n) → (from ≤ n) ⊎ (n < from)
        → ((b : Agent) → bound ≤ n + 1 + gap → IsAscending b.transactions → HasPassed (n + 1) b
        → HasTurns bound (n + 1) b) → HasTurns bound from a
    next_turn n f (inr late) order go =
        no_turns bound from a
        (λ moment awaits _. let least = next_le a n moment (sym f) awaits in omega arith)
    next_turn n f (inl less) (inl reached) go =
        let t = has_turn n (omega arith) a in
        let r = go t.after (omega arith) (turn_ascends n t.turned s) (turn_passes n t.turned) in
        record {
          steps = t.steps ++ r.steps;
          after = r.after;
          turned = turn n (next_is a from n s (sym f) reached) less t.turned r.turned;
        }
    next_turn n f (inl less) (inr early) go = no_turns bound from a (past n f early passed)

    by : (o : Option ℕ) → next_awaited a.transport a.transactions ≡ o
        → ((n : ℕ) (b : Agent) → bound ≤ n + 1 + gap → IsAscending b.transactions
        → HasPassed (n + 1) b → HasTurns bound (n + 1) b) → HasTurns bound from a
    by None f go =
        no_turns bound from a (λ moment awaits _. absurd (next_none a moment (sym f) awaits))
    by (Some n) f go = next_turn n f (order bound n) (reaches n (order from n)) (go n)

-- ---- a run
pub record HasRunFrom (bound from : ℕ) (a : Agent) (events : List (ℕ × AgentEvent)) : Type 0 where
  pub steps : List Step
  pub after : Agent
  pub runs : Run bound from a events steps after

has_run : (until earlier from : ℕ) (a : Agent) (events : List (ℕ × AgentEvent))
    → until ≤ last_moment → AreInOrder until earlier events → IsAscending a.transactions
    → HasPassed from a
    → HasRunFrom (until + 1) from a events
has_run until earlier from a [] within ordered s passed =
    let r = has_turns (until + 1) (until + 1) from a (omega arith) (omega arith) s passed in
    record { steps = r.steps; after = r.after; runs = done r.turned }
has_run until earlier from a (e ∷ es) within ordered s passed =
    let before = has_turns e.0 e.0 from a (omega (arith, ordered.1)) (omega arith) s passed in
    let reached = event_ascends e.0 e.1 before.after (turns_ascends before.turned s) in
    let t = has_turn e.0 (omega (arith, ordered.1)) (after_event e.0 e.1 before.after) in
    let rest =
    has_run until e.0 (e.0 + 1) t.after es within ordered.2 (turn_ascends e.0 t.turned reached)
    (turn_passes e.0 t.turned) in
    record {
      steps = before.steps ++ (steps_of_event e.0 e.1 before.after ++ (t.steps ++ rest.steps));
      after = rest.after;
      runs = event {d = rest.after} {more = rest.steps} e.0 e.1 before.turned t.turned rest.runs;
    }

pub events_have_runs : EventsHaveRuns
events_have_runs until a [] within s ordered = ([], a, (refl, refl))
events_have_runs until a (e ∷ es) within s ordered =
    let r = has_run until 0 0 a (e ∷ es) within ordered s (inr (λ moment awaits. omega arith)) in
    (r.steps, r.after, r.runs)
