-- How much is left to do: the slots that are left, and the ends.
use Rattle.std.proofs.Common.{ℕ, ◌≡◌, ◌<◌, ◌≤◌, ◌⊎◌, inl, inr, Bool, true, false, not, ◌&&◌}
use Rattle.std.proofs.Common.{◌||◌, min, cond, [], ◌∷◌, map, subst, ap, sym, refl, ◌∙◌, arith}
use Rattle.std.specs.Prelude.{find, fold, Option, Some, None, nat_le}
use Rattle.std.specs.Option.{option_map}
use Rattle.std.specs.Ordering.{nat_cmp}
use Rattle.std.specs.BTreeMap.{is_at}
use Rattle.stun_agent.proofs.EntryLemmas.{own_key}
use Rattle.std.proofs.lemmas.Bool.{ltb-true, leb-false, le-leb}
use Rattle.stun_base.specs.declared.wire.transport.TransportType.{TransportType}
use Rattle.stun_base.specs.Moments.{last_moment, moment_after}
use Rattle.stun_agent.specs.Agent.{Agent, sent_by_poll, after_poll_transmit, ended_by_poll}
use Rattle.stun_agent.specs.Agent.{after_poll, with_transactions, tally_of_sent}
use Rattle.stun_agent.specs.Timing.{slots}
use Rattle.stun_proto.proofs.agent_runs.AfterCalls.{transmit_transport, transmit_transactions}
use Rattle.stun_proto.proofs.agent_runs.AfterCalls.{poll_transport, poll_transactions}
use Rattle.stun_proto.specs.code.Work.{work_of, work, IsIdle}
use Rattle.stun_agent.specs.Transactions.{repeats, is_cancelled, Transaction, Transactions, wake_up}
use Rattle.stun_agent.specs.Transactions.{an_hour, is_over, first_over, without, is_due, is_reached}
use Rattle.stun_agent.specs.Transactions.{after_slot, after_slots, slot_passed, has_slots}
use Rattle.stun_agent.specs.Transactions.{awaited_moment}
use Rattle.stun_proto.proofs.Tests.{both}
use Rattle.stun_agent.proofs.LookupLemmas.{found_passes}

-- one entry has less left where it takes its slot, and else as much
work_of-chosen : (transport : TransportType) (now id : ℕ) (t : Transaction) (r d : Bool)
    → is_due transport now t ≡ d
    → (work_of transport (id, cond (r && d) (after_slot now t) t) ≤ work_of transport (id, t))
    × ((r && d) ≡ true
    → work_of transport (id, cond (r && d) (after_slot now t) t) < work_of transport (id, t))
work_of-chosen transport now id t true true is =
    let tests =
    both (not (is_cancelled t.sending))
    (has_slots transport t && nat_le (awaited_moment transport t) now) is in
    let slot = both (has_slots transport t) (nat_le (awaited_moment transport t) now) tests.1 in
    let within : t.slot < slots transport t.settings =
    ltb-true t.slot (slots transport t.settings) slot.0 in
    (omega arith, λ _. omega arith)
work_of-chosen transport now id t true false is = (omega arith, λ h. cc)
work_of-chosen transport now id t false d is = (omega arith, λ h. cc)

work-le : (transport : TransportType) (now : ℕ) (sent : Option ℕ) (all : Transactions)
    → work transport (after_slots transport now sent all) ≤ work transport all
work-le transport now sent [] = omega arith
work-le transport now sent (e ∷ es) =
    let here =
    (work_of-chosen transport now e.0 e.1 (is_reached sent e.0)
    (is_due transport now e.1) refl).0 in
    let rest = work-le transport now sent es in
    omega arith

-- and less, where an entry that is found takes its slot
work-lt : (transport : TransportType) (now : ℕ) (sent : Option ℕ) (p : ℕ × Transaction → Bool)
    (all : Transactions) (e : ℕ × Transaction) → find p all ≡ Some e
    → ((is_reached sent e.0 && is_due transport now e.1) ≡ true)
    → work transport (after_slots transport now sent all) < work transport all
work-lt transport now sent p [] e f h = cc
work-lt transport now sent p (x ∷ es) e f h =
    by (p x) f (λ f. work-lt transport now sent p es e f h)
  where
    here : (y : ℕ × Transaction)
        → (work_of transport (y.0, slot_passed transport now sent y) ≤ work_of transport y)
        × ((is_reached sent y.0 && is_due transport now y.1) ≡ true
        → work_of transport (y.0, slot_passed transport now sent y) < work_of transport y)
    here y =
        work_of-chosen transport now y.0 y.1 (is_reached sent y.0) (is_due transport now y.1) refl

    by : (b : Bool) → cond b (Some x) (find p es) ≡ Some e
        → (find p es ≡ Some e
        → work transport (after_slots transport now sent es) < work transport es)
        → work transport (after_slots transport now sent (x ∷ es)) < work transport (x ∷ es)
    by true f rest =
        let same : x ≡ e = cc in
        let less =
        (here x).1
        (subst (λ y. (is_reached sent y.0 && is_due transport now y.1) ≡ true) (sym same) h) in
        let others = work-le transport now sent es in
        omega arith
    by false f rest = let less = rest f in let here_le = (here x).0 in omega arith

and_true : (a b : Bool) → a ≡ true → b ≡ true → (a && b) ≡ true
and_true true true h k = refl
and_true true false h k = cc
and_true false b h k = cc

-- each transmission leaves less to do
-- the agent after a transmission has as much left as the transactions that its slots leave
same_work : (now : ℕ) (a : Agent)
    → work (after_poll_transmit now a).transport (after_poll_transmit now a).transactions
    ≡ work a.transport
    (after_slots a.transport now (option_map (λ (x : ℕ × Transaction). x.0) (sent_by_poll now a))
    a.transactions)
same_work now a = λ i. work (transmit_transport now a i) (transmit_transactions now a i)

pub work-sent : (now : ℕ) (a : Agent) (e : ℕ × Transaction) → sent_by_poll now a ≡ Some e
    → work (after_poll_transmit now a).transport (after_poll_transmit now a).transactions
    < work a.transport a.transactions
work-sent now a e f =
    let passes =
    both (is_due a.transport now e.1) (repeats e.1.sending)
    (found_passes (λ e. is_due a.transport now e.1 && repeats e.1.sending) a.transactions e f) in
    subst (λ n. n < work a.transport a.transactions) (sym (same_work now a))
    (subst (λ s. work a.transport (after_slots a.transport now s a.transactions)
    < work a.transport a.transactions) (sym (ap (option_map (λ (x : ℕ × Transaction). x.0)) f))
    (work-lt a.transport now (Some e.0) (λ e. is_due a.transport now e.1 && repeats e.1.sending)
    a.transactions e f
    (and_true (nat_le e.0 e.0) (is_due a.transport now e.1) (le-leb e.0 e.0 (omega arith))
    passes.0)))

-- ---- nothing is sent: due ones that are silent take their slots, and if there are none nothing
-- changes
none-taken : (transport : TransportType) (now : ℕ) (all : Transactions)
    → (work transport (after_slots transport now None all) < work transport all)
    ⊎ ((after_slots transport now None all ≡ all) × IsIdle transport now all)
none-taken transport now [] = inr (refl, tt)
none-taken transport now (e ∷ es) = by (is_due transport now e.1) refl (none-taken transport now es)
  where
    by : (b : Bool) → is_due transport now e.1 ≡ b
        → (work transport (after_slots transport now None es) < work transport es)
        ⊎ ((after_slots transport now None es ≡ es) × IsIdle transport now es)
        → (work transport (after_slots transport now None (e ∷ es)) < work transport (e ∷ es))
        ⊎ ((after_slots transport now None (e ∷ es) ≡ e ∷ es) × IsIdle transport now (e ∷ es))
    by true is rest =
        let here = (work_of-chosen transport now e.0 e.1 true (is_due transport now e.1) refl).1
        is in
        let others = work-le transport now None es in
        inl (omega arith)
    by false is (inl less) = let here =
        (work_of-chosen transport now e.0 e.1 true (is_due transport now e.1) refl).0 in
        inl (omega arith)
    by false is (inr (same, idle)) =
        let kept : slot_passed transport now None e ≡ e.1 =
        ap (λ b. cond b (after_slot now e.1) e.1) is in
        inr (λ i. (e.0, kept i) ∷ same i, (is, idle))

pub work-none : (now : ℕ) (a : Agent) → sent_by_poll now a ≡ None
    → (work (after_poll_transmit now a).transport (after_poll_transmit now a).transactions
    < work a.transport a.transactions)
    ⊎ ((after_poll_transmit now a ≡ a) × IsIdle a.transport now a.transactions)
work-none now a f = by (none-taken a.transport now a.transactions)
  where
    same : after_slots a.transport now
        (option_map (λ (x : ℕ × Transaction). x.0) (sent_by_poll now a)) a.transactions
        ≡ after_slots a.transport now None a.transactions
    same = ap (λ s. after_slots a.transport now s a.transactions)
        (ap (option_map (λ (x : ℕ × Transaction). x.0)) f)

    stays : after_slots a.transport now None a.transactions ≡ a.transactions
        → after_poll_transmit now a ≡ a
    stays kept =
        ap (λ s.
        tally_of_sent s
        (with_transactions a
        (after_slots a.transport now (option_map (λ (x : ℕ × Transaction). x.0) s) a.transactions)))
        f ∙ ap (with_transactions a) kept

    by : (work a.transport (after_slots a.transport now None a.transactions)
        < work a.transport a.transactions)
        ⊎ ((after_slots a.transport now None a.transactions ≡ a.transactions)
        × IsIdle a.transport now a.transactions)
        → (work (after_poll_transmit now a).transport (after_poll_transmit now a).transactions
        < work a.transport a.transactions)
        ⊎ ((after_poll_transmit now a ≡ a) × IsIdle a.transport now a.transactions)
    by (inl less) =
        inl (subst (λ n. n < work a.transport a.transactions) (sym (same_work now a))
        (subst (λ all. work a.transport all < work a.transport a.transactions) (sym same) less))
    by (inr (kept, idle)) = inr (stays kept, idle)

-- ---- an end
work-without : (transport : TransportType) (p : ℕ × Transaction → Bool) (all : Transactions)
    (e : ℕ × Transaction) → find p all ≡ Some e
    → work transport (without e.0 all) < work transport all
work-without transport p [] e f = cc
work-without transport p (x ∷ es) e f =
    by (is_at (nat_cmp e.0) x.0) (p x) refl f (λ f. work-without transport p es e f)
  where
    by : (b c : Bool) → is_at (nat_cmp e.0) x.0 ≡ b → cond c (Some x) (find p es) ≡ Some e
        → (find p es ≡ Some e → work transport (without e.0 es) < work transport es)
        → work transport (cond b es (x ∷ without e.0 es)) < work transport (x ∷ es)
    by true c is f rest = omega arith
    by false true is f rest =
        let same : x ≡ e = cc in
        let own : is_at (nat_cmp e.0) x.0 ≡ true =
        subst (λ y. is_at (nat_cmp e.0) y.0 ≡ true) (sym same) (own_key e.0) in
        absurd (let no : true ≡ false = sym own ∙ is in cc)
    by false false is f rest = let less = rest f in omega arith

pub work-ended : (now : ℕ) (a : Agent) (e : ℕ × Transaction) → ended_by_poll now a ≡ Some e
    → work (after_poll now a).transport (after_poll now a).transactions
    < work a.transport a.transactions
work-ended now a e f =
    let same : work (after_poll now a).transport (after_poll now a).transactions
    ≡ work a.transport (without e.0 a.transactions) =
    λ i. work (poll_transport now a e f i) (poll_transactions now a e f i) in
    subst (λ n. n < work a.transport a.transactions) (sym same)
    (work-without a.transport (λ e. is_over a.transport now e.1) a.transactions e f)

-- ---- rest
pub later_one : (c b l : Bool) → (not c && (b && l)) ≡ false → (c || (not b && l)) ≡ false
    → l ≡ false
later_one true b l d o = cc
later_one false true l d o = d
later_one false false l d o = o

fold-min-later : (transport : TransportType) (now : ℕ) (all : Transactions) (c : ℕ) → now < c
    → IsIdle transport now all → first_over transport now all ≡ None
    → now < fold min c (map (λ e. awaited_moment transport e.1) all)
fold-min-later transport now [] c h idle f = h
fold-min-later transport now (e ∷ es) c h idle f =
    by (is_over transport now e.1) refl f (λ c h f. fold-min-later transport now es c h idle.1 f)
  where
    by : (b : Bool) → is_over transport now e.1 ≡ b
        → cond b (Some e) (first_over transport now es) ≡ None
        → ((c : ℕ) → now < c → first_over transport now es ≡ None
        → now < fold min c (map (λ e. awaited_moment transport e.1) es))
        → now < fold min (min c (awaited_moment transport e.1))
        (map (λ e. awaited_moment transport e.1) es)
    by true is f rest = cc
    by false is f rest =
        let off =
        later_one (is_cancelled e.1.sending) (has_slots transport e.1)
        (nat_le (awaited_moment transport e.1) now) idle.0 is in
        let later : now < awaited_moment transport e.1 =
        leb-false (awaited_moment transport e.1) now off in
        rest (min c (awaited_moment transport e.1)) (omega arith) f

-- an agent with nothing to send and nothing to end wakes up later
pub wakes_later : (now : ℕ) (a : Agent) → now < last_moment → IsIdle a.transport now a.transactions
    → ended_by_poll now a ≡ None → now < wake_up a.transport now a.transactions
wakes_later now a before idle f =
    let least =
    fold-min-later a.transport now a.transactions (moment_after now an_hour) (omega arith) idle f in
    omega arith
