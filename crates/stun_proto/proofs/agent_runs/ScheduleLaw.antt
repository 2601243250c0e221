-- A request that nothing disturbs keeps its plan. What is kept from call to call is `Live`: it has
-- passed k slots, at the moments of its plan.
use Rattle.std.proofs.Common.{ℕ, zero, suc, ◌+◌, ◌≡◌, ◌<◌, ◌≤◌, ◌⊎◌, inl, inr, min, Bool, true}
use Rattle.std.proofs.Common.{false, not, ◌&&◌, cond, List, [], ◌∷◌, ◌++◌, subst, ap, sym, refl}
use Rattle.std.proofs.Common.{◌∙◌, arith, add-one, append_assoc}
use Rattle.std.specs.Prelude.{Option, Some, None, nat_le, nat_lt}
use Rattle.std.specs.Ordering.{nat_cmp}
use Rattle.std.specs.BTreeMap.{is_at}
use Rattle.std.specs.declared.net.socket_addr.SocketAddr.{SocketAddr}
use Rattle.std.proofs.lemmas.Bool.{le-leb, eq-eqb}
use Rattle.std.proofs.lemmas.List.{append-nil}
use Rattle.stun_base.specs.Header.{transaction_id_field}
use Rattle.stun_base.specs.Moments.{last_moment}
use Rattle.stun_base.specs.declared.keys.algorithm.IntegrityAlgorithm.{IntegrityAlgorithm}
use Rattle.stun_base.specs.declared.wire.transport.TransportType.{TransportType}
use Rattle.stun_agent.specs.Agent.{Agent, request_refusal, request_of, after_send_request}
use Rattle.stun_agent.specs.Agent.{sent_by_poll, after_poll_transmit, ended_by_poll, after_poll}
use Rattle.stun_types.specs.Integrity.{deciding_algorithm}
use Rattle.stun_agent.specs.Timing.{Settings, timeout, slots, final_wait, planned_end}
use Rattle.stun_agent.specs.Timing.{sum_of_timeouts}
use Rattle.stun_agent.specs.Transactions.{IsAscending, Transaction, wake_up, is_due, awaited_moment}
use Rattle.stun_agent.specs.Transactions.{after_slot, repeats}
use Rattle.stun_agent.specs.declared.state.transaction.Sending.TheVariants.{Repeats}
use Rattle.stun_proto.specs.declared.replay.event.AgentEvent.{AgentEvent}
use Rattle.stun_proto.specs.Run.{Run, done, event, Turns, turn, none, IsAwaited, Turn, sends, rests}
use Rattle.stun_proto.specs.Run.{ends, again, stops, Phase, sending, ending, transmission_step}
use Rattle.stun_proto.specs.Run.{end_step}
use Rattle.stun_proto.specs.Run.{steps_of_event}
use Rattle.stun_proto.specs.Schedule.{IsUndisturbed, AreInOrder, plan, transmission, steps_until}
use Rattle.stun_proto.specs.Steps.{Step, Transmitted, TimedOut, Cancelled, steps_to_end}
use Rattle.stun_agent.proofs.EntryLemmas.{same_key}
use Rattle.stun_proto.proofs.agent_runs.OneTransaction.{other_key}
use Rattle.stun_proto.proofs.agent_runs.Outstanding.{Outstanding, is_outstanding, sent_itself}
use Rattle.stun_proto.proofs.agent_runs.Outstanding.{sent_another, sent_nothing, ended_itself}
use Rattle.stun_proto.proofs.agent_runs.Outstanding.{ended_another, ended_nothing, least_is}
use Rattle.stun_proto.proofs.agent_runs.NotAimed.{keeps_event, own_event}
use Rattle.stun_proto.proofs.agent_runs.OwnSteps.{own_nil, own_sent, own_other_sent, own_timed_out}
use Rattle.stun_proto.proofs.agent_runs.OwnSteps.{own_other_ended}
use Rattle.stun_proto.proofs.agent_runs.PlanLemmas.{awaited_after, awaited_slot, awaited_end}
use Rattle.stun_proto.proofs.agent_runs.PlanLemmas.{le-awaited, awaited-le_end, plan_from}
use Rattle.stun_proto.proofs.agent_runs.PlanLemmas.{spelled_out, steps_until-none}

module _ (until start id : ℕ) (transport : TransportType) (settings : Settings) (bytes : List ℕ)
    (to : SocketAddr) (integrity : Option IntegrityAlgorithm) where
  -- the request after k slots
  abbrev pub stage : ℕ → Transaction
  stage k =
      record {
        bytes = bytes;
        to = to;
        integrity = integrity;
        settings = settings;
        slot = k;
        last = transmission start settings k;
        sending = Repeats;
      }

  -- the moment that it awaits then
  abbrev pub due : ℕ → ℕ
  due k = awaited_after start transport settings k

  -- what is left of the plan after transmission k, with `count` slots to come
  abbrev pub left : ℕ → ℕ → List Step
  left k count = plan_from start id transport settings bytes to (suc k) count

  -- ---- the invariant
  pub record Live (k count : ℕ) (a : Agent) : Type 0 where
    pub there : Outstanding id transport (stage k) a
    pub all : k + count ≡ slots transport settings

  -- what is said of the steps to come
  abbrev pub Follows : ℕ → Agent → List Step → Type 0
  Follows now b more = (k count : ℕ) → Live k count b → now < due k
      → steps_to_end id more ≡ steps_until until (left k count)

  -- ---- one call of `poll_transmit`
  sends_step : (now : ℕ) (a : Agent) (e : ℕ × Transaction) (k count : ℕ) (more : List Step)
      → Live k count a → now ≤ due k → now ≤ until → sent_by_poll now a ≡ Some e
      → ((k count : ℕ) → Live k count (after_poll_transmit now a) → now ≤ due k
      → steps_to_end id more ≡ steps_until until (left k count))
      → steps_to_end id (transmission_step now e ∷ more) ≡ steps_until until (left k count)
  unfolding plan_from
  sends_step now a e k count more live early bound f next = by (is_at (nat_cmp id) e.0) refl
    where
      mine : (count : ℕ) → k + count ≡ slots transport settings → e.0 ≡ id
          → k < slots transport settings → due k ≤ now → e.1 ≡ stage k
          → Outstanding id transport (after_slot now (stage k)) (after_poll_transmit now a)
          → steps_to_end id (transmission_step now e ∷ more) ≡ steps_until until (left k count)
      mine zero all key within late is goes_on = absurd (omega arith)
      mine (suc c) all key within late is goes_on =
          let slot = awaited_slot start transport settings k within in
          let same : now ≡ transmission start settings (suc k) = omega arith in
          let moved : after_slot now (stage k) ≡ stage (suc k) =
          λ i. record (stage k) { slot = add-one k i; last = same i } in
          let following = le-awaited start transport settings (suc k) in
          own_sent id now e more key
          ∙ ap (λ ss. transmission_step now e ∷ ss)
          (
          next (suc k) c
          (record {
            there =
                subst (λ s. Outstanding id transport s (after_poll_transmit now a)) moved goes_on;
            all = omega arith;
          })
          (omega arith)
          )
          ∙ (λ i. Transmitted (same i) (key i) ((is i).to) ((is i).bytes)
          ∷ steps_until until (left (suc k) c))
          ∙ sym
          (
          ap (λ b.
          cond b (Transmitted (transmission start settings (suc k)) id to bytes
          ∷ steps_until until (left (suc k) c)) (steps_until until (left (suc k) c)))
          (le-leb (transmission start settings (suc k)) until (omega arith))
          )

      by : (b : Bool) → is_at (nat_cmp id) e.0 ≡ b
          → steps_to_end id (transmission_step now e ∷ more) ≡ steps_until until (left k count)
      by true is =
          let key = same_key id e.0 is in
          let sent = sent_itself id transport (stage k) now a live.there e f key in
          mine count live.all key sent.has_slot sent.has_come sent.same sent.goes_on
      by false is =
          own_other_sent id now e more (other_key id e.0 is)
          ∙ next k count
          (record {
            there = sent_another id transport (stage k) now a live.there e f is;
            all = live.all;
          })
          early

  -- ---- one call of `poll`
  ends_step : (now : ℕ) (a : Agent) (e : ℕ × Transaction) (k count : ℕ) (more : List Step)
      → Live k count a → now ≤ due k → now ≤ until → ended_by_poll now a ≡ Some e
      → (Live k count (after_poll now a) → steps_to_end id more ≡ steps_until until (left k count))
      → steps_to_end id (end_step now e ∷ more) ≡ steps_until until (left k count)
  unfolding plan_from
  ends_step now a e k count more live early bound f next = by (is_at (nat_cmp id) e.0) refl
    where
      mine : (count : ℕ) → k + count ≡ slots transport settings → e.0 ≡ id
          → slots transport settings ≤ k → due k ≤ now → e.1 ≡ stage k
          → steps_to_end id (end_step now e ∷ more) ≡ steps_until until (left k count)
      mine zero all key past late is =
          let last = awaited_end start transport settings k (omega arith) in
          let same : now ≡ planned_end transport settings start = omega arith in
          ap (λ b. steps_to_end id (cond b (TimedOut now e.0) (Cancelled now e.0) ∷ more))
          (ap (λ (t : Transaction). repeats t.sending) is)
          ∙ own_timed_out id now e.0 more key
          ∙ (λ i. TimedOut (same i) (key i) ∷ [])
          ∙ sym (ap (λ b. cond b (TimedOut (planned_end transport settings start) id ∷ []) [])
          (le-leb (planned_end transport settings start) until (omega arith)))
      mine (suc c) all key past late is = absurd (omega arith)

      by : (b : Bool) → is_at (nat_cmp id) e.0 ≡ b
          → steps_to_end id (end_step now e ∷ more) ≡ steps_until until (left k count)
      by true is =
          let key = same_key id e.0 is in
          let over = ended_itself id transport (stage k) now a live.there e f key in
          mine count live.all key over.no_slot over.has_come over.same
      by false is =
          own_other_ended id now e more (other_key id e.0 is)
          ∙ next (record {
            there = ended_another id transport (stage k) now a live.there e f is;
            all = live.all;
          })

  -- ---- a whole turn
  abbrev Settled : Phase → ℕ → ℕ → Type 0
  Settled sending now k = Unit {0}
  Settled ending now k = is_due transport now (stage k) ≡ false

  clash : (b l : Bool) → l ≡ true → (b && l) ≡ false → (not b && l) ≡ false → ⊥
  clash true true l d o = cc
  clash true false l d o = cc
  clash false true l d o = cc
  clash false false l d o = cc

  after_turn : (now : ℕ) (a : Agent) (k count : ℕ) → Live k count a
      → is_due transport now (stage k) ≡ false → ended_by_poll now a ≡ None
      → (now < wake_up a.transport now a.transactions) ⊎ (now ≡ last_moment) → now < due k
  after_turn now a k count live settled f (inl before) =
      let least = least_is id transport (stage k) now a live.there in omega arith
  after_turn now a k count live settled f (inr last) =
      let lasting = ended_nothing id transport (stage k) now a live.there f in
      let capped : due k ≤ now =
      within_last
      (transmission start settings k
      + cond (nat_lt k (slots transport settings)) (timeout settings k)
      (final_wait transport settings)) now last in
      absurd (clash (nat_lt k (slots transport settings)) (nat_le (due k) now)
      (le-leb (due k) now capped) settled lasting)
    where
      within_last : (m n : ℕ) → n ≡ last_moment → min m last_moment ≤ n
      within_last m n h = omega arith

  pub turn_law : (now : ℕ) {phase : Phase} {a b : Agent} {steps : List Step}
      → Turn now phase a steps b → (k count : ℕ) (more : List Step) → Live k count a
      → now ≤ due k → Settled phase now k → now ≤ until → Follows now b more
      → steps_to_end id (steps ++ more) ≡ steps_until until (left k count)
  turn_law now {a = a} (sends e f t) k count more live early settled bound follows =
      sends_step now a e k count _ live early bound f
      (λ k count live early. turn_law now t k count more live early tt bound follows)
  turn_law now {a = a} (rests f t) k count more live early settled bound follows =
      let r = sent_nothing id transport (stage k) now a live.there f in
      turn_law now t k count more (record { there = r.1; all = live.all }) early r.0 bound follows
  turn_law now {a = a} (ends e f t) k count more live early settled bound follows =
      ends_step now a e k count _ live early bound f
      (λ live. turn_law now t k count more live early settled bound follows)
  turn_law now (again f w less t) k count more live early settled bound follows =
      turn_law now t k count more live early tt bound follows
  turn_law now {a = a} (stops f late) k count more live early settled bound follows =
      follows k count live (after_turn now a k count live settled f late)

  -- ---- the turns at awaited moments
  is_awaited : (a : Agent) (k count : ℕ) → Live k count a → IsAwaited a (due k)
  is_awaited a k count live = (
    id,
    stage k,
    live.there.stands,
    refl,
    ap (λ tr. awaited_moment tr (stage k)) live.there.same_transport,
  )

  -- what is said of the steps to come, where it awaits no moment below `bound`
  abbrev pub FollowsFrom : ℕ → Agent → List Step → Type 0
  FollowsFrom bound b more = (k count : ℕ) → Live k count b → bound ≤ due k
      → steps_to_end id more ≡ steps_until until (left k count)

  pub turns_law : {bound from : ℕ} {a b : Agent} {steps : List Step} → Turns bound from a steps b
      → (k count : ℕ) (more : List Step) → Live k count a
      → from ≤ due k → bound ≤ until + 1 → FollowsFrom bound b more
      → steps_to_end id (steps ++ more) ≡ steps_until until (left k count)
  turns_law {bound} {from} {a = a} (turn {steps = s} {more = m} moment next less t rest) k count
      more live early bound' follows =
      let first : moment ≤ due k = next.least (due k) (is_awaited a k count live) early in
      ap (steps_to_end id) (append_assoc s m more)
      ∙ turn_law moment t k count (m ++ more) live first tt (omega arith)
      (λ k count live late. turns_law rest k count more live (omega arith) bound' follows)
  turns_law {a = a} (none h) k count more live early bound' follows =
      follows k count live (h (due k) (is_awaited a k count live) early)

  -- ---- a whole run
  pub run_law : {from : ℕ} {a b : Agent} {events : List (ℕ × AgentEvent)} {steps : List Step}
      → Run (until + 1) from a events steps b → (k count earlier : ℕ) → Live k count a
      → from ≤ due k → AreInOrder until earlier events
      → IsUndisturbed id to (planned_end transport settings start) events
      → steps_to_end id steps ≡ steps_until until (left k count)
  run_law {steps = steps} (done t) k count earlier live early order quiet =
      ap (steps_to_end id) (sym (append-nil steps))
      ∙ turns_law t k count [] live early (omega arith)
      (λ k count live late.
      own_nil id
      ∙ sym (steps_until-none start id transport settings bytes to until count k live.all
      (omega arith)))
  run_law (event {b = b} {before = before} {after = after} {more = more} moment e ts t rest) k count
      earlier live early order quiet =
      turns_law ts k count (steps_of_event moment e b ++ (after ++ more)) live early
      (omega (arith, order.1))
      (λ k count live early.
      let last = awaited-le_end start transport settings count k live.all in
      own_event id transport (stage k) b live.there moment e (after ++ more)
      ∙ turn_law moment t k count more
      (record {
        there =
            keeps_event id transport (stage k) b live.there moment e (quiet.0 (omega arith));
        all = live.all;
      })
      early tt (order.1)
      (λ k count live late. run_law rest k count moment live (omega arith) order.2 quiet.1))

-- ---- the law
first_transmission : (start : ℕ) (settings : Settings) → start ≤ last_moment
    → transmission start settings 0 ≡ start
unfolding sum_of_timeouts
first_transmission start settings within = omega arith

-- a request that is accepted at `start`, with the turn there and the run after it
pub keeps_plan : (until start : ℕ) (bytes : List ℕ) (to : SocketAddr) (a b c : Agent)
    (events : List (ℕ × AgentEvent)) (at_start run : List Step)
    → start ≤ until → until ≤ last_moment → IsAscending a.transactions
    → request_refusal a bytes to ≡ None
    → Turn start sending (after_send_request a bytes to start) at_start b
    → Run (until + 1) (start + 1) b events run c
    → AreInOrder until start events
    → IsUndisturbed (transaction_id_field bytes) to (planned_end a.transport a.settings start)
    events
    → steps_to_end (transaction_id_field bytes)
    (Transmitted start (transaction_id_field bytes) to bytes ∷ (at_start ++ run))
    ≡ steps_until until (plan a.transport start a.settings (transaction_id_field bytes) to bytes)
unfolding steps_to_end plan_from
keeps_plan until start bytes to a b c events at_start run bound within ascends accepted t r order
    quiet =
    let id = transaction_id_field bytes in
    let integrity = deciding_algorithm bytes in
    let fresh = request_of a bytes to start in
    let first = first_transmission start a.settings (omega arith) in
    let n = slots a.transport a.settings in
    let staged : fresh ≡ stage until start id a.transport a.settings bytes to integrity 0 =
    λ i. record fresh { last = sym first i } in
    let live : Live until start id a.transport a.settings bytes to integrity 0 n
    (after_send_request a bytes to start) =
    record {
      there =
          subst (λ s. Outstanding id a.transport s (after_send_request a bytes to start)) staged
          (is_outstanding a bytes to start ascends);
      all = omega arith;
    } in
    let early = le-awaited start a.transport a.settings 0 in
    let later =
    turn_law until start id a.transport a.settings bytes to integrity start t 0 n run live
    (omega arith) tt bound
    (λ k count live late. run_law until start id a.transport a.settings bytes to integrity r k count
    start live (omega arith) order quiet) in
    let sent : steps_to_end id (Transmitted start id to bytes ∷ (at_start ++ run))
    ≡ Transmitted start id to bytes ∷ steps_to_end id (at_start ++ run) =
    ap (λ b. cond b (Transmitted start id to bytes ∷ steps_to_end id (at_start ++ run))
    (steps_to_end id (at_start ++ run))) (eq-eqb id id refl) in
    let rest = left until start id a.transport a.settings bytes to integrity 0 n in
    let planned : steps_until until (plan a.transport start a.settings id to bytes)
    ≡ Transmitted (transmission start a.settings 0) id to bytes ∷ steps_until until rest =
    ap (steps_until until) (spelled_out start id a.transport a.settings bytes to (n + 1) 0)
    ∙ ap (λ m. steps_until until (plan_from start id a.transport a.settings bytes to 0 m))
    (add-one n)
    ∙ ap (λ b. cond b
    (Transmitted (transmission start a.settings 0) id to bytes ∷ steps_until until rest)
    (steps_until until rest)) (le-leb (transmission start a.settings 0) until (omega arith)) in
    sent ∙ ap (λ ss. Transmitted start id to bytes ∷ ss) later
    ∙ (λ i. Transmitted (sym first i) id to bytes ∷ steps_until until rest) ∙ sym planned
