-- The steps of one transaction among all steps: what the first of them adds to its own.
use Rattle.std.proofs.Common.{ℕ, ◌≡◌, Bool, true, false, cond, List, [], ◌∷◌, ap, sym, refl}
use Rattle.std.proofs.lemmas.Bool.{eq-eqb, ne_eqb}
use Rattle.stun_agent.specs.Transactions.{Transaction, repeats}
use Rattle.stun_proto.specs.Run.{transmission_step, end_step}
use Rattle.stun_proto.specs.Steps.{Step, TimedOut, Cancelled, steps_to_end}

module _ (id : ℕ) where
  pub own_nil : steps_to_end id [] ≡ []
  unfolding steps_to_end
  own_nil = refl

  -- ---- transmissions
  pub own_sent : (now : ℕ) (e : ℕ × Transaction) (more : List Step) → e.0 ≡ id
      → steps_to_end id (transmission_step now e ∷ more)
      ≡ transmission_step now e ∷ steps_to_end id more
  unfolding steps_to_end
  own_sent now e more key =
      ap (λ b. cond b (transmission_step now e ∷ steps_to_end id more) (steps_to_end id more))
      (eq-eqb id e.0 (sym key))

  pub own_other_sent : (now : ℕ) (e : ℕ × Transaction) (more : List Step) → (e.0 ≡ id → ⊥)
      → steps_to_end id (transmission_step now e ∷ more) ≡ steps_to_end id more
  unfolding steps_to_end
  own_other_sent now e more apart =
      ap (λ b. cond b (transmission_step now e ∷ steps_to_end id more) (steps_to_end id more))
      (ne_eqb id e.0 (λ h. apart (sym h)))

  -- ---- ends
  pub own_timed_out : (now : ℕ) (j : ℕ) (more : List Step) → j ≡ id
      → steps_to_end id (TimedOut now j ∷ more) ≡ TimedOut now j ∷ []
  unfolding steps_to_end
  own_timed_out now j more key =
      ap (λ b. cond b (TimedOut now j ∷ []) (steps_to_end id more)) (eq-eqb id j (sym key))

  pub own_other_ended : (now : ℕ) (e : ℕ × Transaction) (more : List Step) → (e.0 ≡ id → ⊥)
      → steps_to_end id (end_step now e ∷ more) ≡ steps_to_end id more
  unfolding steps_to_end
  own_other_ended now e more apart = by (repeats e.1.sending)
    where
      by : (b : Bool) → steps_to_end id (cond b (TimedOut now e.0) (Cancelled now e.0) ∷ more)
          ≡ steps_to_end id more
      by true =
          ap (λ b. cond b (TimedOut now e.0 ∷ []) (steps_to_end id more))
          (ne_eqb id e.0 (λ h. apart (sym h)))
      by false =
          ap (λ b. cond b (Cancelled now e.0 ∷ []) (steps_to_end id more))
          (ne_eqb id e.0 (λ h. apart (sym h)))
