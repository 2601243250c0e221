-- When a request is due, and until when nothing happens.
use Rattle.std.proofs.Common.{ℕ, ◌≡◌, ◌<◌, ◌≤◌, Bool, true, false, cond, List}
use Rattle.std.proofs.Common.{[], ◌∷◌, map, min, ap, refl, ◌∙◌, arith, inl, inr}
use Rattle.std.specs.Prelude.{Option, Some, None, find, fold, not, ◌&&◌, ◌||◌, nat_le}
use Rattle.std.specs.Option.{option_map_or}
use Rattle.std.proofs.lemmas.Bool.{leb-true, ltb-true}
use Rattle.std.proofs.lemmas.Bool.Decides.{leb_tells}
use Rattle.stun_base.specs.Moments.{moment_after}
use Rattle.stun_base.specs.declared.wire.transport.TransportType.{TransportType}
use Rattle.stun_agent.specs.declared.agent.StunAgentPollRet.TheVariants.{WaitUntil}
use Rattle.stun_agent.specs.declared.agent.StunAgentPollRet.TheVariants.{TransactionTimedOut}
use Rattle.stun_agent.specs.declared.agent.StunAgentPollRet.TheVariants.{TransactionCancelled}
use Rattle.stun_agent.specs.Agent.{Agent, end_of, with_tally, tally_of_end, with_transactions}
use Rattle.stun_agent.specs.Agent.{poll_answer, after_poll, ended_by_poll, sent_by_poll}
use Rattle.stun_agent.specs.Laws.{IsWait}
use Rattle.stun_agent.specs.Timing.{timeout, slots, final_wait}
use Rattle.stun_agent.specs.Transactions.{Transaction, Transactions, repeats}
use Rattle.stun_agent.specs.Transactions.{is_cancelled, has_slots, awaited_moment, is_due}
use Rattle.stun_agent.specs.Transactions.{is_over, wake_up, without, an_hour}
use Rattle.stun_agent.proofs.LookupLemmas.{found_passes}

-- ---- due
pub due_waits : (transport : TransportType) (now : ℕ) (t : Transaction)
    → is_due transport now t ≡ true → moment_after t.last (timeout t.settings t.slot) ≤ now
due_waits transport now t h = by (is_cancelled t.sending) (has_slots transport t) h
  where
    by : (c s : Bool)
        → (not c
        && (s && nat_le
        (moment_after t.last (cond s (timeout t.settings t.slot) (final_wait transport t.settings)))
        now)) ≡ true
        → moment_after t.last (timeout t.settings t.slot) ≤ now
    by true s h = cc
    by false false h = cc
    by false true h = leb-true _ _ h

pub due_slots : (transport : TransportType) (now : ℕ) (t : Transaction)
    → is_due transport now t ≡ true → t.slot < slots transport t.settings
due_slots transport now t h = by (is_cancelled t.sending) (has_slots transport t) refl h
  where
    by : (c s : Bool) → has_slots transport t ≡ s
        → (not c && (s && nat_le (awaited_moment transport t) now)) ≡ true
        → t.slot < slots transport t.settings
    by true s is h = cc
    by false false is h = cc
    by false true is h = ltb-true _ _ is

both : (a b : Bool) → (a && b) ≡ true → (a ≡ true) × (b ≡ true)
both true b h = (refl, h)
both false b h = cc

pub sent_is_due : (now : ℕ) (agent : Agent) (e : ℕ × Transaction) → sent_by_poll now agent ≡ Some e
    → is_due agent.transport now e.1 ≡ true
sent_is_due now agent e h =
    (both _ _
    (found_passes (λ (x : ℕ × Transaction). is_due agent.transport now x.1 && repeats x.1.sending)
    agent.transactions e h)).0

-- ---- quiet
not_reached : (a m : ℕ) → m < a → nat_le a m ≡ false
not_reached a m h = elim (leb_tells a m) [
  | inl p ↦ absurd (omega (arith, p.1))
  | inr p ↦ p.0
]

fold-min-le : (xs : List ℕ) (c : ℕ) → fold min c xs ≤ c
fold-min-le [] c = omega arith
fold-min-le (x ∷ xs) c = omega (arith, fold-min-le xs (min c x))

not_due : (c s l r : Bool) → l ≡ false → ((not c && (s && l)) && r) ≡ false
not_due true s l r h = refl
not_due false false l r h = refl
not_due false true l r h = ap (λ b. b && r) h

not_over : (c s l l' : Bool) → (c || (not s && l)) ≡ false → l' ≡ false
    → (c || (not s && l')) ≡ false
not_over true s l l' h k = h
not_over false true l l' h k = refl
not_over false false l l' h k = k

record AllQuiet (transport : TransportType) (m : ℕ) (es : Transactions) : Type 0 where
  sends : find (λ e. is_due transport m e.1 && repeats e.1.sending) es ≡ None
  ends : find (λ e. is_over transport m e.1) es ≡ None

quiet : (transport : TransportType) (now m : ℕ) (es : Transactions) (c : ℕ)
    → m < fold min c (map (λ e. awaited_moment transport e.1) es)
    → find (λ e. is_over transport now e.1) es ≡ None → AllQuiet transport m es
quiet transport now m [] c below none = record { sends = refl; ends = refl }
quiet transport now m (e ∷ es) c below none =
    by (is_over transport now e.1) refl none
    (quiet transport now m es (min c (awaited_moment transport e.1)) below)
  where
    late : m < awaited_moment transport e.1
    late = omega (
      arith,
      fold-min-le (map (λ x. awaited_moment transport x.1) es)
          (min c (awaited_moment transport e.1)),
    )

    by : (b : Bool) → is_over transport now e.1 ≡ b
        → cond b (Some e) (find (λ x. is_over transport now x.1) es) ≡ None
        → (find (λ x. is_over transport now x.1) es ≡ None → AllQuiet transport m es)
        → AllQuiet transport m (e ∷ es)
    by true is none rest = cc
    by false is none rest =
        let unreached = not_reached (awaited_moment transport e.1) m late in
        let tail = rest none in
        let undue : (is_due transport m e.1 && repeats e.1.sending) ≡ false =
        not_due (is_cancelled e.1.sending) (has_slots transport e.1) _ _ unreached in
        let unover : is_over transport m e.1 ≡ false =
        not_over (is_cancelled e.1.sending) (has_slots transport e.1) _ _ is unreached in
        record {
          sends = ap
              (λ b. cond b (Some e) (find (λ x. is_due transport m x.1 && repeats x.1.sending) es))
              undue ∙ tail.sends;
          ends = ap (λ b. cond b (Some e) (find (λ x. is_over transport m x.1) es)) unover
              ∙ tail.ends;
        }

no_wait : (e : ℕ × Transaction) (until : ℕ) → end_of e ≡ WaitUntil until → ⊥
no_wait e until h = by (repeats e.1.sending) h
  where
    by : (b : Bool)
        → cond b (TransactionTimedOut e.0) (TransactionCancelled e.0) ≡ WaitUntil until → ⊥
    by true h = cc
    by false h = cc

pub waits : (now until : ℕ) (agent : Agent) → poll_answer now agent ≡ WaitUntil until
    → (after_poll now agent ≡ agent) × IsWait now until agent
waits now until agent h = by (ended_by_poll now agent) refl h
  where
    by : (found : Option (ℕ × Transaction)) → ended_by_poll now agent ≡ found
        → option_map_or end_of found (WaitUntil (wake_up agent.transport now agent.transactions))
        ≡ WaitUntil until
        → (option_map_or
        (λ e. with_tally (tally_of_end e.1)
        (with_transactions agent (without e.0 agent.transactions)))
        found agent ≡ agent) × IsWait now until agent
    by (Some e) is h = absurd (no_wait e until h)
    by None is h =
        let same : wake_up agent.transport now agent.transactions ≡ until = cc in
        let hour =
        fold-min-le (map (λ x. awaited_moment agent.transport x.1) agent.transactions)
        (moment_after now an_hour) in (
          refl,
          record {
            not_past = omega arith;
            within_an_hour = omega arith;
            quiet = λ m from below.
                let least : m
                < fold min (moment_after now an_hour)
                (map (λ x. awaited_moment agent.transport x.1) agent.transactions) = omega arith in
                let none =
                quiet agent.transport now m agent.transactions (moment_after now an_hour)
                least is in
                record { sends_nothing = none.sends; ends_nothing = none.ends };
          },
        )
