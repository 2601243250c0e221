-- When a request is due after some timeouts: for a retransmission, or to time out.
use Rattle.std.proofs.Common.{ℕ, ◌+◌, ◌≡◌, ◌<◌, ◌≤◌, min, cond, ap, arith}
use Rattle.std.specs.Prelude.{nat_lt}
use Rattle.std.proofs.lemmas.Bool.{le-ltb, lt-ltb}
use Rattle.stun_base.specs.Moments.{last_moment, moment_after}
use Rattle.stun_base.specs.declared.wire.transport.TransportType.{TransportType}
use Rattle.stun_agent.specs.Timing.{Settings, timeout, slots, final_wait}

module _ (transport : TransportType) (settings : Settings) where
  -- the moment at which it is due after k slots, the last of which passed at `before`
  abbrev pub due_after : ℕ → ℕ → ℕ
  due_after k before =
      moment_after before
      (cond (nat_lt k (slots transport settings)) (timeout settings k)
      (final_wait transport settings))

  pub due_slot : (k before : ℕ) → k < slots transport settings
      → due_after k before ≡ moment_after before (timeout settings k)
  due_slot k before within =
      ap (λ b. moment_after before (cond b (timeout settings k) (final_wait transport settings)))
      (lt-ltb k (slots transport settings) within)

  pub due_end : (k before : ℕ) → k ≡ slots transport settings
      → due_after k before ≡ moment_after before (final_wait transport settings)
  due_end k before last =
      ap (λ b. moment_after before (cond b (timeout settings k) (final_wait transport settings)))
      (le-ltb k (slots transport settings) (omega arith))

  pub le_due : (k before : ℕ) → before ≤ last_moment → before ≤ due_after k before
  le_due k before within =
      later before
      (cond (nat_lt k (slots transport settings)) (timeout settings k)
      (final_wait transport settings)) within
    where
      later : (m w : ℕ) → m ≤ last_moment → m ≤ min (m + w) last_moment
      later m w h = omega arith
