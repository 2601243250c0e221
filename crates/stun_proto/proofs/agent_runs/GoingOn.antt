-- A run that stopped goes on: what it left awaits no moment below the next event's.
use Rattle.std.proofs.Common.{ℕ, ◌≡◌, ◌+◌, ◌<◌, ◌≤◌, ◌⊎◌, inl, inr, arith, Bool}
use Rattle.std.proofs.Common.{true, false, cond, List, [], ◌∷◌, ◌++◌, map, length}
use Rattle.std.proofs.Common.{drop, subst, ap, sym, refl, ◌∙◌, append_assoc}
use Rattle.std.specs.Prelude.{Some, None, nat_le}
use Rattle.std.specs.BTreeMap.{is_at}
use Rattle.std.specs.List.{AllByRecursion}
use Rattle.std.specs.Map.{lookup}
use Rattle.std.specs.Option.{option_map, option_map_or}
use Rattle.std.specs.Ordering.{nat_cmp}
use Rattle.std.proofs.Math.Seq.{drop-append_seam}
use Rattle.std.proofs.lemmas.Bool.{leb-false}
use Rattle.std.proofs.lemmas.List.{append-nil, length-append}
use Rattle.stun_base.specs.Moments.{last_moment, moment_after}
use Rattle.stun_base.specs.declared.wire.transport.TransportType.{TransportType}
use Rattle.stun_agent.specs.Agent.{Agent, sent_by_poll, after_poll_transmit}
use Rattle.stun_agent.specs.Agent.{ended_by_poll, after_poll}
use Rattle.stun_agent.specs.Transactions.{Transaction, Transactions, is_cancelled}
use Rattle.stun_agent.specs.Transactions.{has_slots, awaited_moment, is_due, is_over}
use Rattle.stun_agent.specs.Transactions.{without, an_hour, after_slot, after_slots}
use Rattle.stun_agent.proofs.Ascending.{find-none, fold-min-le_first}
use Rattle.stun_proto.specs.declared.replay.event.AgentEvent.{AgentEvent}
use Rattle.stun_proto.specs.code.Calls.{HasPassed}
use Rattle.stun_proto.specs.Run.{Phase, sending, ending, Turn, sends, rests, ends}
use Rattle.stun_proto.specs.Run.{again, stops, Turns, turn, none, Run, done}
use Rattle.stun_proto.specs.Run.{event, IsDriven, IsAwaited, steps_of_event}
use Rattle.stun_proto.specs.Steps.{Step}
use Rattle.stun_proto.specs.Stopped.{next_bound, HasStopped, StoppedRunsGoOn}
use Rattle.stun_proto.specs.Stopped.{StoppedRunsHaveTheRest, StoppedRunsStopAgain, StoppedRunsEnd}
use Rattle.stun_proto.proofs.agent_runs.AfterCalls.{transmit_transport, transmit_transactions}
use Rattle.stun_proto.proofs.agent_runs.AfterCalls.{poll_transport, poll_transactions}
use Rattle.stun_proto.proofs.agent_runs.DriveLemmas.{is_driven}
use Rattle.stun_proto.proofs.agent_runs.NextLemmas.{turn_passes}
use Rattle.stun_proto.proofs.agent_runs.RunLemmas.{comes_to, run_same}
use Rattle.stun_proto.proofs.agent_runs.Work.{later_one}

-- ---- a turn leaves nothing that is awaited before its own moment
-- a request that is not over awaits this moment or a later one
abbrev IsBehind : TransportType → ℕ → ℕ × Transaction → Type 0
IsBehind transport now e = is_over transport now e.1 ≡ false → now ≤ awaited_moment transport e.1

abbrev AreBehind : TransportType → ℕ → Transactions → Type 0
AreBehind transport now all = AllByRecursion (IsBehind transport now) all

-- what is due takes its slot, and then awaits a timeout from here on
taken_behind : (transport : TransportType) (now id : ℕ) (t : Transaction) → now ≤ last_moment
    → (b : Bool) → is_due transport now t ≡ b
    → IsBehind transport now (id, cond b (after_slot now t) t)
taken_behind transport now id t within true is = λ _. omega (arith, within)
taken_behind transport now id t within false is = λ over.
    let late =
    leb-false (awaited_moment transport t) now
    (later_one (is_cancelled t.sending) (has_slots transport t)
    (nat_le (awaited_moment transport t) now)
    is over) in
    omega (arith, late)

slots_behind : (transport : TransportType) (now : ℕ) (all : Transactions) → now ≤ last_moment
    → AreBehind transport now (after_slots transport now None all)
slots_behind transport now [] within = tt
slots_behind transport now (e ∷ es) within = (
  taken_behind transport now e.0 e.1 within (is_due transport now e.1) refl,
  slots_behind transport now es within,
)

rest_behind : (transport : TransportType) (now id : ℕ) (all : Transactions)
    → AreBehind transport now all → AreBehind transport now (without id all)
rest_behind transport now id [] behind = tt
rest_behind transport now id (e ∷ es) behind =
    by (is_at (nat_cmp id) e.0) (rest_behind transport now id es behind.1)
  where
    by : (b : Bool) → AreBehind transport now (without id es)
        → AreBehind transport now (cond b es (e ∷ without id es))
    by true rest = behind.1
    by false rest = (behind.0, rest)

found_behind : (transport : TransportType) (now id : ℕ) (t : Transaction) (all : Transactions)
    → AreBehind transport now all
    → lookup (is_at (nat_cmp id)) all ≡ Some t → is_over transport now t ≡ false
    → now ≤ awaited_moment transport t
found_behind transport now id t [] behind found over = cc
found_behind transport now id t (e ∷ es) behind found over =
    by (is_at (nat_cmp id) e.0) found (λ h. found_behind transport now id t es behind.1 h over)
  where
    by : (b : Bool) → cond b (Some e.1) (lookup (is_at (nat_cmp id)) es) ≡ Some t
        → (lookup (is_at (nat_cmp id)) es ≡ Some t → now ≤ awaited_moment transport t)
        → now ≤ awaited_moment transport t
    by true h rest =
        let same : e.1 ≡ t = ap (λ o. option_map_or (λ x. x) o e.1) h in
        subst (λ x. is_over transport now x ≡ false → now ≤ awaited_moment transport x) same
        behind.0 over
    by false h rest = rest h

-- once all transmissions are made
abbrev HasRested : ℕ → Phase → Agent → Type 0
HasRested now sending a = Unit {0}
HasRested now ending a = AreBehind a.transport now a.transactions

has_rested : (now : ℕ) (a : Agent) → now ≤ last_moment → sent_by_poll now a ≡ None
    → HasRested now ending (after_poll_transmit now a)
has_rested now a within f =
    let all = transmit_transactions now a
    ∙ ap (λ s. after_slots a.transport now (option_map (λ (x : ℕ × Transaction). x.0) s)
    a.transactions) f in
    subst (λ t. AreBehind t now (after_poll_transmit now a).transactions)
    (sym (transmit_transport now a))
    (subst (AreBehind a.transport now) (sym all)
    (slots_behind a.transport now a.transactions within))

still_rested : (now : ℕ) (a : Agent) (e : ℕ × Transaction) → ended_by_poll now a ≡ Some e
    → HasRested now ending a → HasRested now ending (after_poll now a)
still_rested now a e f rested =
    subst (λ t. AreBehind t now (after_poll now a).transactions) (sym (poll_transport now a e f))
    (subst (AreBehind a.transport now) (sym (poll_transactions now a e f))
    (rest_behind a.transport now e.0 a.transactions rested))

turn_leaves : (now : ℕ) → now ≤ last_moment → {phase : Phase} {a b : Agent} {steps : List Step}
    → Turn now phase a steps b → HasRested now phase a
    → (moment : ℕ) → IsAwaited b moment → now ≤ moment
turn_leaves now within (sends e f t) rested = turn_leaves now within t tt
turn_leaves now within {a = a} (rests f t) rested =
    turn_leaves now within t (has_rested now a within f)
turn_leaves now within {a = a} (ends e f t) rested =
    turn_leaves now within t (still_rested now a e f rested)
turn_leaves now within (again f w less t) rested = turn_leaves now within t tt
turn_leaves now within (stops {a} f late) rested = λ moment awaits. by moment awaits
  where
    by : (moment : ℕ) → IsAwaited a moment → now ≤ moment
    by moment (id, t, found, live, is) =
        let not_over = find-none (λ e. is_over a.transport now e.1) a.transactions id t found f in
        let behind = found_behind a.transport now id t a.transactions rested found not_over in
        omega (arith, behind, is)

-- there are no turns past the last moment
turn_within : (now : ℕ) {phase : Phase} {a b : Agent} {steps : List Step} → Turn now phase a steps b
    → now ≤ last_moment
turn_within now (sends e f t) = turn_within now t
turn_within now (rests f t) = turn_within now t
turn_within now (ends e f t) = turn_within now t
turn_within now (again f w less t) = turn_within now t
turn_within now (stops {a} f (inl before)) =
    let first =
    fold-min-le_first (map (λ (e : ℕ × Transaction). awaited_moment a.transport e.1) a.transactions)
    (moment_after now an_hour) in
    omega (arith, before, first)
turn_within now (stops f (inr last)) = omega (arith, last)

-- ---- what a run leaves
-- no moment below this one is awaited, but perhaps the last one
abbrev HasReached : ℕ → Agent → Type 0
HasReached from a = (moment : ℕ) → IsAwaited a moment → (from ≤ moment) ⊎ (last_moment ≤ moment)

turn_reaches : (now : ℕ) {a b : Agent} {steps : List Step} → Turn now sending a steps b
    → HasReached (now + 1) b
turn_reaches now {b = b} t = by (turn_passes now t) (turn_leaves now (turn_within now t) t tt)
  where
    by : HasPassed (now + 1) b → ((moment : ℕ) → IsAwaited b moment → now ≤ moment)
        → HasReached (now + 1) b
    by (inl past) leaves = λ moment awaits. inr (let late = leaves moment awaits in omega arith)
    by (inr passed) leaves = λ moment awaits. inl (passed moment awaits)

turns_reach : {bound from : ℕ} {a b : Agent} {steps : List Step} → Turns bound from a steps b
    → HasReached from a → HasReached bound b
turns_reach (turn moment next less t rest) reached = turns_reach rest (turn_reaches moment t)
turns_reach {bound} {from} {a} (none h) reached =
    λ moment awaits. by moment awaits (reached moment awaits)
  where
    by : (moment : ℕ) → IsAwaited a moment → (from ≤ moment) ⊎ (last_moment ≤ moment)
        → (bound ≤ moment) ⊎ (last_moment ≤ moment)
    by moment awaits (inl late) = inl (h moment awaits late)
    by moment awaits (inr last) = inr last

run_reaches : {bound from : ℕ} {a b : Agent} {events : List (ℕ × AgentEvent)} {steps : List Step}
    → Run bound from a events steps b → HasReached from a → HasReached bound b
run_reaches (done ts) reached = turns_reach ts reached
run_reaches (event moment e ts t rest) reached = run_reaches rest (turn_reaches moment t)

begins : (a : Agent) → HasReached 0 a
begins a = λ moment awaits. inl (omega arith)

-- so there are no turns up to there
no_turns : {bound : ℕ} {a b : Agent} {steps : List Step} → Turns bound 0 a steps b
    → HasReached bound a → bound ≤ last_moment → (steps ≡ []) × (b ≡ a)
no_turns (none h) reached within = (refl, refl)
no_turns {bound} (turn moment next less t rest) reached within =
    absurd (by (reached moment next.awaited_then))
  where
    by : (bound ≤ moment) ⊎ (last_moment ≤ moment) → ⊥
    by (inl late) = omega (arith, late, less)
    by (inr last) = omega (arith, last, less, within)

-- ---- two runs are one
runs_join : {e : ℕ × AgentEvent} {left : List (ℕ × AgentEvent)} {more : List Step} {bound from : ℕ}
    {a b c : Agent} {complete : List (ℕ × AgentEvent)} {lost : List Step}
    → Run e.0 from a complete lost b → HasReached from a
    → Run bound 0 b (e ∷ left) more c → Run bound from a (complete ++ e ∷ left) (lost ++ more) c
runs_join {left = left} {bound = bound} {from = from} {a = a} {b = b} {c = c} {lost = lost}
    (done ts) reached
    (event {b = d} {c = next} {before = before} {after = after} {more = later} moment x us t rest) =
    subst (λ ss. Run bound from a ((moment, x) ∷ left) (lost ++ ss) c)
    (sym (ap (λ ss. ss ++ (steps_of_event moment x d ++ (after ++ later))) same.0))
    (event moment x (subst (Turns moment from a lost) (sym same.1) ts) t rest)
  where
    same : (before ≡ []) × (d ≡ b)
    same = no_turns us (turns_reach ts reached) (turn_within moment t)
runs_join {e = e} {left = left} {more = more} {bound = bound} {from = from} {a = a} {c = c}
    (event {b = d} {rest = xs} {before = before} {after = after} {more = later} moment x us t rest)
    reached second =
    subst (λ ss. Run bound from a ((moment, x) ∷ (xs ++ e ∷ left)) ss c) (sym joined)
    (event moment x us t (runs_join rest (turn_reaches moment t) second))
  where
    own : List Step
    own = steps_of_event moment x d

    joined : (before ++ (own ++ (after ++ later))) ++ more
        ≡ before ++ (own ++ (after ++ (later ++ more)))
    joined =
        append_assoc before (own ++ (after ++ later)) more
        ∙ ap (λ ss. before ++ ss)
        (append_assoc own (after ++ later) more
        ∙ ap (λ ss. own ++ ss) (append_assoc after later more))

-- ---- the events that are left
drop_complete : (complete left events : List (ℕ × AgentEvent)) (count : ℕ)
    → events ≡ complete ++ left → length complete ≡ count → drop count events ≡ left
drop_complete complete left events count divided counted =
    ap (drop count) divided
    ∙ subst (λ n. drop n (complete ++ left) ≡ left) counted (drop-append_seam complete left)

left_goes_on : (until count : ℕ) (a b c : Agent) (events complete left : List (ℕ × AgentEvent))
    (lost more : List Step) → events ≡ complete ++ left → length complete ≡ count
    → Run (next_bound until left) 0 a complete lost b → count < length events
    → IsDriven until b left more c → IsDriven until a events (lost ++ more) c
left_goes_on until count a b c events complete [] lost more divided counted taken fewer driven =
    absurd (let all = ap length divided ∙ length-append complete [] in
    omega (arith, all, counted, fewer))
left_goes_on until count a b c events complete (e ∷ es) lost more divided counted taken fewer
    driven =
    is_driven until a c events (lost ++ more) (λ empty. omega (arith, empty, fewer))
    (subst (λ xs. Run (until + 1) 0 a xs (lost ++ more) c) (sym divided)
    (runs_join taken (begins a) driven))

pub runs_go_on : StoppedRunsGoOn
runs_go_on until count a b c events more stopped fewer driven =
    let left_is =
    drop_complete stopped.complete stopped.left events count stopped.divided stopped.counted in
    left_goes_on until count a b c events stopped.complete stopped.left stopped.lost more
    stopped.divided stopped.counted stopped.taken fewer
    (subst (λ xs. IsDriven until b xs more c) left_is driven)

-- ---- the whole run, from there
is_run : (until : ℕ) (a b : Agent) (events : List (ℕ × AgentEvent)) (steps : List Step)
    → (length events ≡ 0 → ⊥) → IsDriven until a events steps b → Run (until + 1) 0 a events steps b
is_run until a b [] steps some driven = absurd (some refl)
is_run until a b (e ∷ es) steps some driven = driven

none_before : (bound : ℕ) (a : Agent) → HasReached bound a → bound ≤ last_moment
    → Turns bound 0 a [] a
none_before bound a reached within = none (λ moment awaits _. by moment (reached moment awaits))
  where
    by : (moment : ℕ) → (bound ≤ moment) ⊎ (last_moment ≤ moment) → bound ≤ moment
    by moment (inl late) = late
    by moment (inr last) = omega (arith, last, within)

run_from : (until : ℕ) (a b c : Agent) (complete es : List (ℕ × AgentEvent)) (e : ℕ × AgentEvent)
    (lost steps : List Step) → Run e.0 0 a complete lost b
    → Run (until + 1) 0 a (complete ++ e ∷ es) steps c
    → (more : List Step) × (steps ≡ lost ++ more) × Run (until + 1) 0 b (e ∷ es) more c
run_from until a b c complete es e lost steps taken whole =
    let found = comes_to e.0 e.1 complete es whole in
    let same = run_same found.comes taken in
    let more = steps_of_event e.0 e.1 found.agent ++ (found.at_once ++ found.rest) in
    let before =
    none_before e.0 found.agent (run_reaches found.comes (begins a))
    (turn_within e.0 found.turned) in
    let there : Run (until + 1) 0 found.agent (e ∷ es) more c =
    event e.0 e.1 before found.turned found.goes_on in (
      more,
      found.divided ∙ ap (λ ss. ss ++ more) same.0,
      subst (λ x. Run (until + 1) 0 x (e ∷ es) more c) same.1 there,
    )

rest_left : (until count : ℕ) (a b c : Agent) (events complete left : List (ℕ × AgentEvent))
    (lost steps : List Step) → events ≡ complete ++ left → length complete ≡ count
    → Run (next_bound until left) 0 a complete lost b → count < length events
    → Run (until + 1) 0 a events steps c
    → (more : List Step) × (steps ≡ lost ++ more) × IsDriven until b left more c
rest_left until count a b c events complete [] lost steps divided counted taken fewer whole =
    absurd (let all = ap length divided ∙ length-append complete [] in
    omega (arith, all, counted, fewer))
rest_left until count a b c events complete (e ∷ es) lost steps divided counted taken fewer whole =
    run_from until a b c complete es e lost steps taken
    (subst (λ xs. Run (until + 1) 0 a xs steps c) divided whole)

pub runs_have_the_rest : StoppedRunsHaveTheRest
runs_have_the_rest until count a b c events steps stopped fewer driven =
    let left_is =
    drop_complete stopped.complete stopped.left events count stopped.divided stopped.counted in
    let whole = is_run until a c events steps (λ empty. omega (arith, empty, fewer)) driven in
    let rest =
    rest_left until count a b c events stopped.complete stopped.left stopped.lost steps
    stopped.divided stopped.counted stopped.taken fewer whole in
    (rest.0, rest.1, subst (λ xs. IsDriven until b xs rest.0 c) (sym left_is) rest.2)

pub runs_end : StoppedRunsEnd
runs_end until a b events stopped some = by stopped.left stopped.divided stopped.taken
  where
    by : (left : List (ℕ × AgentEvent)) → events ≡ stopped.complete ++ left
        → Run (next_bound until left) 0 a stopped.complete stopped.lost b
        → IsDriven until a events stopped.lost b
    by [] divided taken =
        is_driven until a b events stopped.lost (λ empty. omega (arith, empty, some))
        (subst (λ xs. Run (until + 1) 0 a xs stopped.lost b)
        (sym (divided ∙ append-nil stopped.complete)) taken)
    by (e ∷ es) divided taken =
        let all = ap length divided ∙ length-append stopped.complete (e ∷ es) in let counted =
        stopped.counted in absurd (omega (arith, all, counted))

-- ---- a second stop
first_left : (P : ℕ × AgentEvent → Type 0) (complete left : List (ℕ × AgentEvent))
    (e : ℕ × AgentEvent) → AllByRecursion P (complete ++ e ∷ left) → P e
first_left P [] left e all = all.0
first_left P (x ∷ xs) left e all = first_left P xs left e all.1

module _ (until count : ℕ) (a b c : Agent) (events complete : List (ℕ × AgentEvent))
    (lost : List Step) (counted : length complete ≡ count) where
  -- before another event
  none_taken : (e : ℕ × AgentEvent) (es : List (ℕ × AgentEvent)) (more : List Step) → events
      ≡ complete ++ e ∷ es → e.0 ≤ last_moment → Run e.0 0 a complete lost b → Run e.0 0 b [] more c
      → HasStopped until count a events c
  none_taken e es more divided within taken (done ts) = record {
    complete = complete;
    left = e ∷ es;
    lost = lost;
    divided = divided;
    counted = counted;
    taken = subst (Run e.0 0 a complete lost)
        (sym (no_turns ts (run_reaches taken (begins a)) within).1) taken;
  }

  -- after some events more
  some_taken : (x : ℕ × AgentEvent) (xs rest : List (ℕ × AgentEvent)) (more : List Step)
      → events ≡ complete ++ ((x ∷ xs) ++ rest) → Run x.0 0 a complete lost b
      → Run (next_bound until rest) 0 b (x ∷ xs) more c
      → HasStopped until (count + length (x ∷ xs)) a events c
  some_taken x xs rest more divided taken then = record {
    complete = complete ++ x ∷ xs;
    left = rest;
    lost = lost ++ more;
    divided = divided ∙ sym (append_assoc complete (x ∷ xs) rest);
    counted = length-append complete (x ∷ xs) ∙ ap (λ n. n + length (x ∷ xs)) counted;
    taken = runs_join taken (begins a) then;
  }

  stops_again : (further : ℕ) (left xs rest : List (ℕ × AgentEvent)) (more : List Step)
      → AllByRecursion (λ e. e.0 ≤ last_moment) events → events ≡ complete ++ left
      → Run (next_bound until left) 0 a complete lost b → count < length events → left ≡ xs ++ rest
      → length xs ≡ further → Run (next_bound until rest) 0 b xs more c
      → HasStopped until (count + further) a events c
  stops_again further [] xs rest more within divided taken fewer split other then =
      absurd (let all = ap length divided ∙ length-append complete [] in
      omega (arith, all, counted, fewer))
  stops_again further (e ∷ es) [] rest more within divided taken fewer split other then =
      let here =
      first_left (λ x. x.0 ≤ last_moment) complete es e
      (subst (AllByRecursion (λ x. x.0 ≤ last_moment)) divided within) in
      let stopped =
      none_taken e es more divided here taken
      (subst (λ ys. Run (next_bound until ys) 0 b [] more c) (sym split) then) in
      subst (λ n. HasStopped until n a events c) (omega (arith, other)) stopped
  stops_again further (e ∷ es) (x ∷ xs) rest more within divided taken fewer split other then =
      let same : e ≡ x = cc in
      let stopped =
      some_taken x xs rest more (divided ∙ ap (λ ys. complete ++ ys) split)
      (subst (λ y. Run y.0 0 a complete lost b) same taken) then in
      subst (λ n. HasStopped until (count + n) a events c) other stopped

pub runs_stop_again : StoppedRunsStopAgain
runs_stop_again until count more a b c events within stopped fewer then =
    let left_is =
    drop_complete stopped.complete stopped.left events count stopped.divided stopped.counted in
    stops_again until count a b c events stopped.complete stopped.lost stopped.counted more
    stopped.left then.complete then.left then.lost within stopped.divided stopped.taken fewer
    (sym left_is ∙ then.divided) then.counted then.taken
