-- How many requests are read to find the one that is over.
use Rattle.std.proofs.Common.{ℕ, ◌≡◌, ◌+◌, ◌≤◌, arith, Bool, refl}
use Rattle.std.specs.Prelude.{Option, Some, None, MatchOption}
use Rattle.std.specs.Option.{option_map}
use Rattle.stun_base.specs.declared.wire.transport.TransportType.{TransportType}
use Rattle.stun_agent.specs.Deadlines.{early_requests}
use Rattle.stun_agent.specs.Transactions.{Transaction, Transactions}
use Rattle.stun_agent.specs.Transactions.{first_over}
use Rattle.stun_agent.specs.code.Transactions.{id_and_repeats}
use Rattle.stun_agent.proofs.AwaitedLemmas.{over_early}

module _ (transport : TransportType) (now : ℕ) (all : Transactions) where
  -- the one that is read is early
  pub reads_early : (told : Option (ℕ × Bool)) (old new : ℕ)
      → told ≡ option_map id_and_repeats (first_over transport now all)
      → MatchOption told (new ≡ old) (λ _. new ≡ old + 1)
      → new ≤ old + early_requests transport now all
  reads_early None old new is counts = omega (arith, counts)
  reads_early (Some ended) old new is counts = by (first_over transport now all) refl is
    where
      by : (f : Option (ℕ × Transaction)) → first_over transport now all ≡ f
          → Some ended ≡ option_map id_and_repeats f → new ≤ old + early_requests transport now all
      by None there h = cc
      by (Some e) there h = let early = over_early transport now all e there in
          omega (arith, counts, early)
