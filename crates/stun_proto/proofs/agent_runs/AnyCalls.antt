-- A request in whatever calls its user makes: each of its steps comes in time.
use Rattle.std.proofs.Common.{ℕ, suc, ◌+◌, ◌*◌, ◌≡◌, ◌<◌, ◌≤◌, min, Bool, true, false, cond, List, []}
use Rattle.std.proofs.Common.{◌∷◌, ◌++◌, subst, ap, sym, refl, ◌∙◌, arith, add-one}
use Rattle.std.specs.Prelude.{Option, Some, None}
use Rattle.std.specs.List.{AllByRecursion}
use Rattle.std.specs.Option.{option_map_or}
use Rattle.std.specs.Ordering.{nat_cmp}
use Rattle.std.specs.BTreeMap.{is_at}
use Rattle.std.specs.declared.net.socket_addr.SocketAddr.{SocketAddr}
use Rattle.stun_base.specs.Header.{transaction_id_field}
use Rattle.stun_base.specs.Moments.{last_moment, moment_after}
use Rattle.stun_base.specs.declared.keys.algorithm.IntegrityAlgorithm.{IntegrityAlgorithm}
use Rattle.stun_base.specs.declared.wire.transport.TransportType.{TransportType}
use Rattle.stun_types.specs.Integrity.{deciding_algorithm}
use Rattle.stun_agent.specs.Agent.{Agent, after_send_request, sent_by_poll}
use Rattle.stun_agent.specs.Agent.{after_poll_transmit, ended_by_poll, after_poll, with_tally}
use Rattle.stun_agent.specs.Agent.{tally_of_end, with_transactions}
use Rattle.stun_agent.specs.Timing.{Settings, final_wait, planned_end, slots, sum_of_timeouts}
use Rattle.stun_agent.specs.Timing.{timeout}
use Rattle.stun_agent.specs.Transactions.{IsAscending, Transaction, after_slot, at, awaited_moment}
use Rattle.stun_agent.specs.Transactions.{repeats, without}
use Rattle.stun_agent.specs.declared.error.StunError.{StunError}
use Rattle.stun_agent.specs.declared.state.transaction.Sending.TheVariants.{Repeats}
use Rattle.stun_agent.proofs.EntryLemmas.{same_key}
use Rattle.stun_proto.specs.declared.replay.event.AgentEvent.{AgentEvent}
use Rattle.stun_proto.specs.declared.replay.event.AgentEvent.TheVariants.{SendRequest}
use Rattle.stun_proto.specs.AnyLoop.{AreNoEarlier, Called, Calls, CallsExist, CallsSendInTime}
use Rattle.stun_proto.specs.AnyLoop.{InTime, IsBeside, IsCall, IsLate, awaits, beside, ends}
use Rattle.stun_proto.specs.AnyLoop.{ends_none, event, events_called, handed, next_due, poll, poll_transmit}
use Rattle.stun_proto.specs.AnyLoop.{rest, sends, times_out, transmits, transmits_none}
use Rattle.stun_proto.specs.Run.{after_event, end_step, steps_of_event, transmission_step}
use Rattle.stun_proto.specs.Schedule.{IsAimedAt, transmission}
use Rattle.stun_proto.specs.Steps.{Step, Transmitted, TimedOut, Cancelled, steps_to_end}
use Rattle.stun_proto.proofs.agent_runs.Dues.{due_end, due_slot, le_due}
use Rattle.stun_proto.proofs.agent_runs.OneTransaction.{other_key}
use Rattle.stun_proto.proofs.agent_runs.Outstanding.{Outstanding, sent_itself, sent_another}
use Rattle.stun_proto.proofs.agent_runs.Outstanding.{sent_nothing, ended_itself, ended_another}
use Rattle.stun_proto.proofs.agent_runs.Outstanding.{is_outstanding}
use Rattle.stun_proto.proofs.agent_runs.NotAimed.{keeps_event, own_event}
use Rattle.stun_proto.proofs.agent_runs.OwnSteps.{own_nil, own_sent, own_other_sent, own_timed_out}
use Rattle.stun_proto.proofs.agent_runs.OwnSteps.{own_other_ended}

-- a poll that ends nothing leaves the agent as it was
ended_none : (now : ℕ) (a : Agent) → ended_by_poll now a ≡ None → after_poll now a ≡ a
ended_none now a f =
    ap (λ (o : Option (ℕ × Transaction)).
    option_map_or
    (λ e. with_tally (tally_of_end e.1) (with_transactions a (without e.0 a.transactions)))
    o a) f

module _ (late id : ℕ) (transport : TransportType) (settings : Settings) (bytes : List ℕ)
    (to : SocketAddr) (integrity : Option IntegrityAlgorithm) (start last : ℕ) where
  -- ---- one timeout more
  -- it is at most once more late, and never early
  rise : (begun sum span before now span_late : ℕ)
      → before ≤ min (begun + sum) last_moment + span_late
      → now ≤ min (before + span) last_moment + late → now < last_moment
      → now ≤ min (begun + (sum + span)) last_moment + (span_late + late)
  rise begun sum span before now span_late first second less =
      omega (arith, first, second, less)

  later_too : (begun sum span before now : ℕ) → min (begun + sum) last_moment ≤ before
      → min (before + span) last_moment ≤ now → min (begun + (sum + span)) last_moment ≤ now
  later_too begun sum span before now first second = omega (arith, first, second)

  times_next : (k : ℕ) → k * late + late ≡ suc k * late
  times_next k = omega arith

  next_late : (begun sum span k before now : ℕ)
      → IsLate (k * late) (min (begun + sum) last_moment) before
      → IsLate late (min (before + span) last_moment) now → now < last_moment
      → IsLate (suc k * late) (min (begun + (sum + span)) last_moment) now
  next_late begun sum span k before now first second less =
      let risen = rise begun sum span before now (k * late) first.no_later second.no_later less in
      record {
        no_earlier =
            later_too begun sum span before now first.no_earlier second.no_earlier;
        no_later = omega (arith, risen, times_next k);
      }

  slot_late : (k before now : ℕ) → k < slots transport settings
      → IsLate (k * late) (transmission start settings k) before
      → IsLate late (next_due transport settings k before) now → now < last_moment
      → IsLate (suc k * late) (transmission start settings (suc k)) now
  unfolding sum_of_timeouts
  slot_late k before now within first second less =
      next_late start (sum_of_timeouts settings k) (timeout settings k) k before now first
      (subst (λ d. IsLate late d now) (due_slot transport settings k before within) second) less

  end_late : (k before now : ℕ) → k ≡ slots transport settings
      → IsLate (k * late) (transmission start settings k) before
      → IsLate late (next_due transport settings k before) now → now < last_moment
      → IsLate (suc k * late) (planned_end transport settings start) now
  end_late k before now over first second less =
      subst
      (λ n. IsLate (suc k * late)
      (moment_after start (sum_of_timeouts settings n + final_wait transport settings)) now) over
      (next_late start (sum_of_timeouts settings k) (final_wait transport settings) k before now
      first
      (subst (λ d. IsLate late d now) (due_end transport settings k before over) second) less)

  -- ---- the request in an agent
  abbrev due : ℕ → ℕ → ℕ
  due k before = next_due transport settings k before

  abbrev AreInTime : ℕ → ℕ → List Step → Type 0
  AreInTime k before steps = InTime late id transport settings bytes to start last k before steps

  -- the request after k slots, the last of which passed at a moment
  abbrev stage : ℕ → ℕ → Transaction
  stage k before = record {
    bytes = bytes;
    to = to;
    integrity = integrity;
    settings = settings;
    slot = k;
    last = before;
    sending = Repeats;
  }

  -- it is outstanding after a call at this moment
  record Live (k before now : ℕ) (a : Agent) : Type 0 where
    pub there : Outstanding id transport (stage k before) a
    pub within : k ≤ slots transport settings
    pub in_time : now ≤ due k before + late
    pub plan_late : IsLate (k * late) (transmission start settings k) before

  punctual_then : (k before from now : ℕ) (a : Agent) → Live k before from a
      → IsCall late from now a → now ≤ due k before + late
  punctual_then k before from now a live call =
      call.punctual (due k before) (
        id,
        stage k before,
        live.there.stands,
        refl,
        ap (λ tr. awaited_moment tr (stage k before)) live.there.same_transport,
      )

  -- one call of `poll_transmit` that sends
  sends_call : (from now : ℕ) (a : Agent) (e : ℕ × Transaction) (k before : ℕ) (more : List Step)
      → Live k before from a → IsCall late from now a → sent_by_poll now a ≡ Some e
      → ((k before : ℕ) → Live k before now (after_poll_transmit now a)
      → AreInTime k before (steps_to_end id more))
      → AreInTime k before (steps_to_end id (transmission_step now e ∷ more))
  sends_call from now a e k before more live call f next = by (is_at (nat_cmp id) e.0) refl
    where
      punctual : now ≤ due k before + late
      punctual = punctual_then k before from now a live call

      mine : e.0 ≡ id → AreInTime k before (steps_to_end id (transmission_step now e ∷ more))
      mine key =
          let sent = sent_itself id transport (stage k before) now a live.there e f key in
          let within = sent.has_slot in
          let reached : due k before ≤ now = sent.has_come in
          let is = sent.same in
          let less = call.less in
          let moved : after_slot now (stage k before) ≡ stage (suc k) now =
          λ i. record (stage k before) { slot = add-one k i; last = now } in
          let following : now ≤ due (suc k) now =
          le_due transport settings (suc k) now (omega (arith, less)) in
          let here : IsLate late (due k before) now =
          record { no_earlier = reached; no_later = punctual } in
          let planned = slot_late k before now within live.plan_late here less in
          let then : Live (suc k) now now (after_poll_transmit now a) =
          record {
            there =
                subst (λ s. Outstanding id transport s (after_poll_transmit now a)) moved
                sent.goes_on;
            within = omega (arith, within);
            in_time = omega (arith, following);
            plan_late = planned;
          } in
          let same : steps_to_end id (transmission_step now e ∷ more)
          ≡ Transmitted now id to bytes ∷ steps_to_end id more =
          own_sent id now e more key
          ∙ (λ i. Transmitted now (key i) ((is i).to) ((is i).bytes) ∷ steps_to_end id more) in
          subst (AreInTime k before) (sym same)
          (sends now within here planned (next (suc k) now then))

      by : (b : Bool) → is_at (nat_cmp id) e.0 ≡ b
          → AreInTime k before (steps_to_end id (transmission_step now e ∷ more))
      by true is = mine (same_key id e.0 is)
      by false is =
          subst (AreInTime k before)
          (sym (own_other_sent id now e more (other_key id e.0 is)))
          (next k before
          (record {
            there = sent_another id transport (stage k before) now a live.there e f is;
            within = live.within;
            in_time = punctual;
            plan_late = live.plan_late;
          }))

  -- one call of `poll` that ends a request
  ends_call : (from now : ℕ) (a : Agent) (e : ℕ × Transaction) (k before : ℕ) (more : List Step)
      → Live k before from a → IsCall late from now a → ended_by_poll now a ≡ Some e
      → (Live k before now (after_poll now a) → AreInTime k before (steps_to_end id more))
      → AreInTime k before (steps_to_end id (end_step now e ∷ more))
  ends_call from now a e k before more live call f next = by (is_at (nat_cmp id) e.0) refl
    where
      punctual : now ≤ due k before + late
      punctual = punctual_then k before from now a live call

      mine : e.0 ≡ id → AreInTime k before (steps_to_end id (end_step now e ∷ more))
      mine key =
          let over = ended_itself id transport (stage k before) now a live.there e f key in
          let past = over.no_slot in
          let reached : due k before ≤ now = over.has_come in
          let within = live.within in
          let here : IsLate late (due k before) now =
          record { no_earlier = reached; no_later = punctual } in
          let last_slot : k ≡ slots transport settings = omega (arith, past, within) in
          let same : steps_to_end id (end_step now e ∷ more) ≡ TimedOut now id ∷ [] =
          ap (λ b. steps_to_end id (cond b (TimedOut now e.0) (Cancelled now e.0) ∷ more))
          (ap (λ (t : Transaction). repeats t.sending) over.same)
          ∙ own_timed_out id now e.0 more key
          ∙ (λ i. TimedOut now (key i) ∷ []) in
          subst (AreInTime k before) (sym same)
          (times_out now last_slot here (end_late k before now last_slot live.plan_late here call.less))

      by : (b : Bool) → is_at (nat_cmp id) e.0 ≡ b
          → AreInTime k before (steps_to_end id (end_step now e ∷ more))
      by true is = mine (same_key id e.0 is)
      by false is =
          subst (AreInTime k before)
          (sym (own_other_ended id now e more (other_key id e.0 is)))
          (next
          (record {
            there = ended_another id transport (stage k before) now a live.there e f is;
            within = live.within;
            in_time = punctual;
            plan_late = live.plan_late;
          }))

  -- what the calls beside these leave of it
  kept_beside : (k before : ℕ) (a b : Agent) → Outstanding id transport (stage k before) a
      → IsBeside a b → Outstanding id transport (stage k before) b
  kept_beside k before a b there same = record {
    same_transport = same.same_transport ∙ there.same_transport;
    ascends = subst IsAscending (sym same.same_requests) there.ascends;
    stands = ap (at id) same.same_requests ∙ there.stands;
    sounds = there.sounds;
  }

  calls_in_time : {from : ℕ} {a b : Agent} {events : List (ℕ × AgentEvent)}
      {steps : List Step} → Calls late from a events steps last b → (k before : ℕ)
      → Live k before from a → AllByRecursion (λ e. IsAimedAt id to e.1 → ⊥) events
      → AreInTime k before (steps_to_end id steps)
  calls_in_time rest k before live alone =
      subst (AreInTime k before) (sym (own_nil id)) (awaits live.in_time)
  calls_in_time {from = from} {a = a} (event {more = more} now e call calls) k before live alone =
      subst (AreInTime k before)
      (sym (own_event id transport (stage k before) a live.there now e more))
      (calls_in_time calls k before
      (record {
        there = keeps_event id transport (stage k before) a live.there now e alone.0;
        within = live.within;
        in_time = punctual_then k before from now a live call;
        plan_late = live.plan_late;
      }) alone.1)
  calls_in_time {from = from} {a = a} (transmits {more = more} now e call f calls) k before live
      alone =
      sends_call from now a e k before more live call f
      (λ k before live. calls_in_time calls k before live alone)
  calls_in_time {from = from} {a = a} (transmits_none now call f calls) k before live alone =
      let r = sent_nothing id transport (stage k before) now a live.there f in
      calls_in_time calls k before
      (record {
        there = r.1;
        within = live.within;
        in_time = punctual_then k before from now a live call;
        plan_late = live.plan_late;
      }) alone
  calls_in_time {from = from} {a = a} (ends {more = more} now e call f calls) k before live alone =
      ends_call from now a e k before more live call f
      (λ live. calls_in_time calls k before live alone)
  calls_in_time {from = from} {a = a} (ends_none now call f calls) k before live alone =
      calls_in_time calls k before
      (record {
        there =
            subst (Outstanding id transport (stage k before)) (sym (ended_none now a f))
            live.there;
        within = live.within;
        in_time = punctual_then k before from now a live call;
        plan_late = live.plan_late;
      }) alone
  calls_in_time {from = from} {a = a} (beside {b = b} now call same calls) k before live alone =
      calls_in_time calls k before
      (record {
        there = kept_beside k before a b live.there same;
        within = live.within;
        in_time = punctual_then k before from now a live call;
        plan_late = live.plan_late;
      }) alone

-- the first transmission is at its moment
at_first : (start : ℕ) (settings : Settings) (late : ℕ) → start ≤ last_moment
    → IsLate (0 * late) (transmission start settings 0) start
unfolding sum_of_timeouts
at_first start settings late within =
    record { no_earlier = omega (arith, within); no_later = omega (arith, within) }

pub calls_send_in_time : CallsSendInTime
calls_send_in_time late last start a b bytes to later steps less ascends accepted alone calls =
    let id = transaction_id_field bytes.items in
    let integrity = deciding_algorithm bytes.items in
    let added : after_event start (SendRequest bytes to) a
    ≡ after_send_request a bytes.items to start =
    ap (λ (o : Option StunError). option_map_or (λ _. a) o
    (after_send_request a bytes.items to start)) accepted in
    let prompt : start ≤ next_due a.transport a.settings 0 start =
    le_due a.transport a.settings 0 start (omega (arith, less)) in
    calls_in_time late id a.transport a.settings bytes.items to integrity start last
    (subst (λ x. Calls late start x later steps last b) added calls) 0 start
    (record {
      there = is_outstanding a bytes.items to start ascends;
      within = omega arith;
      in_time = omega (arith, prompt);
      plan_late = at_first start a.settings late (omega (arith, less));
    })
    alone

-- ---- there are such calls
-- some that are later than they need to be
later_call : {late from now : ℕ} {a : Agent} → IsCall late from now a → (more : ℕ) → late ≤ more
    → IsCall more from now a
later_call call more le =
    record {
      no_earlier = call.no_earlier;
      less = call.less;
      punctual = λ moment awaited.
          let h = call.punctual moment awaited in
          omega (arith, h, le);
    }

later_calls : {late from last : ℕ} {a b : Agent} {events : List (ℕ × AgentEvent)}
    {steps : List Step} → Calls late from a events steps last b → (more : ℕ) → late ≤ more
    → Calls more from a events steps last b
later_calls rest more le = rest
later_calls (event now e call calls) more le =
    event now e (later_call call more le) (later_calls calls more le)
later_calls (transmits now e call f calls) more le =
    transmits now e (later_call call more le) f (later_calls calls more le)
later_calls (transmits_none now call f calls) more le =
    transmits_none now (later_call call more le) f (later_calls calls more le)
later_calls (ends now e call f calls) more le =
    ends now e (later_call call more le) f (later_calls calls more le)
later_calls (ends_none now call f calls) more le =
    ends_none now (later_call call more le) f (later_calls calls more le)
later_calls (beside now call same calls) more le =
    beside now (later_call call more le) same (later_calls calls more le)

record HasCalls (from : ℕ) (a : Agent) (events : List (ℕ × AgentEvent)) : Type 0 where
  pub late : ℕ
  pub last : ℕ
  pub steps : List Step
  pub after : Agent
  pub calls : Calls late from a events steps last after

-- a call that is as late as its moment is
a_call : (from now late : ℕ) (a : Agent) → from ≤ now → now < last_moment
    → IsCall (now + late) from now a
a_call from now late a low less =
    record { no_earlier = low; less = less; punctual = λ moment awaited. omega arith }

has_calls : (from : ℕ) (a : Agent) (calls : List (ℕ × Called)) → AreNoEarlier from calls
    → HasCalls from a (events_called calls)
has_calls from a [] order =
    record { late = 0; last = from; steps = []; after = a; calls = rest }
has_calls from a ((now, handed e) ∷ calls) (low, less, order) =
    let r = has_calls now (after_event now e a) calls order in
    record {
      late = now + r.late;
      last = r.last;
      steps = steps_of_event now e a ++ r.steps;
      after = r.after;
      calls =
          event now e (a_call from now r.late a low less)
          (later_calls r.calls (now + r.late) (omega arith));
    }
has_calls from a ((now, poll_transmit) ∷ calls) (low, less, order) =
    by (sent_by_poll now a) refl (has_calls now (after_poll_transmit now a) calls order)
  where
    by : (o : Option (ℕ × Transaction)) → sent_by_poll now a ≡ o
        → HasCalls now (after_poll_transmit now a) (events_called calls)
        → HasCalls from a (events_called calls)
    by (Some e) is r =
        record {
          late = now + r.late;
          last = r.last;
          steps = transmission_step now e ∷ r.steps;
          after = r.after;
          calls =
              transmits now e (a_call from now r.late a low less) is
              (later_calls r.calls (now + r.late) (omega arith));
        }
    by None is r =
        record {
          late = now + r.late;
          last = r.last;
          steps = r.steps;
          after = r.after;
          calls =
              transmits_none now (a_call from now r.late a low less) is
              (later_calls r.calls (now + r.late) (omega arith));
        }
has_calls from a ((now, poll) ∷ calls) (low, less, order) =
    by (ended_by_poll now a) refl (has_calls now (after_poll now a) calls order)
  where
    by : (o : Option (ℕ × Transaction)) → ended_by_poll now a ≡ o
        → HasCalls now (after_poll now a) (events_called calls)
        → HasCalls from a (events_called calls)
    by (Some e) is r =
        record {
          late = now + r.late;
          last = r.last;
          steps = end_step now e ∷ r.steps;
          after = r.after;
          calls =
              ends now e (a_call from now r.late a low less) is
              (later_calls r.calls (now + r.late) (omega arith));
        }
    by None is r =
        record {
          late = now + r.late;
          last = r.last;
          steps = r.steps;
          after = r.after;
          calls =
              ends_none now (a_call from now r.late a low less) is
              (later_calls r.calls (now + r.late) (omega arith));
        }

pub calls_exist : CallsExist
calls_exist from a calls order =
    let r = has_calls from a calls order in
    (r.late, r.last, r.steps, r.after, r.calls)
