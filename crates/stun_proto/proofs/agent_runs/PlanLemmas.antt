-- The plan of a request, transmission by transmission, and the moments that it awaits.
use Rattle.std.proofs.Common.{ℕ, zero, suc, ◌+◌, ◌≡◌, ◌<◌, ◌≤◌, min, cond, List, [], ◌∷◌, ◌++◌, map}
use Rattle.std.proofs.Common.{ap, refl, ◌∙◌, arith, add-one}
use Rattle.std.specs.Prelude.{nat_lt}
use Rattle.std.specs.List.{range_with_len}
use Rattle.std.specs.declared.net.socket_addr.SocketAddr.{SocketAddr}
use Rattle.std.proofs.lemmas.Bool.{le-ltb, lt-ltb, lt-leb}
use Rattle.stun_base.specs.Moments.{last_moment, moment_after}
use Rattle.stun_base.specs.declared.wire.transport.TransportType.{TransportType}
use Rattle.stun_agent.specs.Timing.{Settings, timeout, slots, final_wait, planned_end}
use Rattle.stun_agent.specs.Timing.{sum_of_timeouts}
use Rattle.stun_proto.specs.Schedule.{transmission, steps_until}
use Rattle.stun_proto.specs.Steps.{Step, Transmitted, TimedOut}

-- ---- the awaited moments
module _ (start : ℕ) (transport : TransportType) (settings : Settings) where
  -- the moment that the request awaits after k slots, at the moments of its plan
  abbrev pub awaited_after : ℕ → ℕ
  awaited_after k =
      moment_after (transmission start settings k)
      (cond (nat_lt k (slots transport settings)) (timeout settings k)
      (final_wait transport settings))

  pub awaited_slot : (k : ℕ) → k < slots transport settings
      → awaited_after k ≡ transmission start settings (suc k)
  unfolding sum_of_timeouts
  awaited_slot k within =
      ap (λ b.
      moment_after (transmission start settings k)
      (cond b (timeout settings k) (final_wait transport settings)))
      (lt-ltb k (slots transport settings) within) ∙ omega arith

  pub awaited_end : (k : ℕ) → k ≡ slots transport settings
      → awaited_after k ≡ planned_end transport settings start
  awaited_end k last =
      ap (λ b.
      moment_after (transmission start settings k)
      (cond b (timeout settings k) (final_wait transport settings)))
      (le-ltb k (slots transport settings) (omega arith))
      ∙ ap (λ n. moment_after (transmission start settings n) (final_wait transport settings)) last
      ∙ omega arith

  pub le-awaited : (k : ℕ) → transmission start settings k ≤ awaited_after k
  le-awaited k =
      later (start + sum_of_timeouts settings k)
      (cond (nat_lt k (slots transport settings)) (timeout settings k)
      (final_wait transport settings))
    where
      later : (m w : ℕ) → min m last_moment ≤ min (min m last_moment + w) last_moment
      later m w = omega arith

  pub awaited-le_end : (count k : ℕ) → k + count ≡ slots transport settings
      → awaited_after k ≤ planned_end transport settings start
  awaited-le_end zero k all = let last = awaited_end k (omega arith) in omega arith
  awaited-le_end (suc c) k all =
      let here = awaited_slot k (omega arith) in let next = le-awaited (suc k) in let rest =
      awaited-le_end c (suc k) (omega arith) in omega arith

-- ---- transmission by transmission
module _ (start id : ℕ) (transport : TransportType) (settings : Settings) (bytes : List ℕ)
    (to : SocketAddr) where
  -- transmissions from the k-th on, `count` of them, and the end
  unfoldable pub plan_from : ℕ → ℕ → List Step
  plan_from k zero = TimedOut (planned_end transport settings start) id ∷ []
  plan_from k (suc count) =
      Transmitted (transmission start settings k) id to bytes ∷ plan_from (suc k) count

  pub spelled_out : (count k : ℕ)
      → map (λ n. Transmitted (transmission start settings n) id to bytes) (range_with_len k count)
      ++ TimedOut (planned_end transport settings start) id ∷ [] ≡ plan_from k count
  unfolding plan_from
  spelled_out zero k = refl
  spelled_out (suc c) k =
      ap (λ m. Transmitted (transmission start settings k) id to bytes
      ∷ (map (λ n. Transmitted (transmission start settings n) id to bytes) (range_with_len m c)
      ++ TimedOut (planned_end transport settings start) id ∷ [])) (add-one k)
      ∙ ap (λ ss. Transmitted (transmission start settings k) id to bytes ∷ ss)
      (spelled_out c (suc k))

  -- up to a moment that is below the awaited one nothing is left of the plan
  pub steps_until-none : (until count k : ℕ) → k + count ≡ slots transport settings
      → until < awaited_after start transport settings k
      → steps_until until (plan_from (suc k) count) ≡ []
  unfolding plan_from
  steps_until-none until zero k all late =
      let last = awaited_end start transport settings k (omega arith) in
      ap (λ b. cond b (TimedOut (planned_end transport settings start) id ∷ []) [])
      (lt-leb (planned_end transport settings start) until (omega arith))
  steps_until-none until (suc c) k all late =
      let here = awaited_slot start transport settings k (omega arith) in
      let next = le-awaited start transport settings (suc k) in
      ap (λ b.
      cond b (Transmitted (transmission start settings (suc k)) id to bytes
      ∷ steps_until until (plan_from (suc (suc k)) c))
      (steps_until until (plan_from (suc (suc k)) c)))
      (lt-leb (transmission start settings (suc k)) until (omega arith))
      ∙ steps_until-none until c (suc k) (omega arith) (omega arith)
