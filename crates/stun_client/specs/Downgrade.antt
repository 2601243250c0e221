-- No downgrade: what a long-term server accepts from a client that answers challenges by the rule
-- (RFC 8489, sections 9.2.5 and 16.1.3).
use Rattle.std.specs.Prelude.{◌≡◌, ◌⊎◌, ℕ, List, true, Option, Some, None}
use Rattle.stun_base.specs.declared.keys.algorithm.IntegrityAlgorithm.{IntegrityAlgorithm}
use Rattle.stun_base.specs.declared.keys.algorithm.IntegrityAlgorithm.TheVariants.{Sha256}
use Rattle.stun_judging.specs.Algorithms.{contains}
use Rattle.stun_judging.specs.Feature.{is_possible}
use Rattle.stun_judging.specs.Nonces.{asks_for_algorithms, asks_for_userhash}
use Rattle.stun_judging.specs.Reading.{Reading, verified_under}
use Rattle.stun_judging.specs.Registered.{Registered}
use Rattle.stun_judging.specs.Verdict.{ClientSeen, IsAccepted}
use Rattle.stun_judging.specs.declared.algorithm_set.AlgorithmSet.{AlgorithmSet}
use Rattle.stun_judging.specs.declared.feature.Feature.{Feature}
use Rattle.stun_client.specs.Preferences.{supports}
use Rattle.stun_client.specs.declared.preferences.Preferences.{Preferences}

-- an algorithm is the strongest that a client and a server both support
pub record IsStrongestOfBoth (p : Preferences) (server : AlgorithmSet)
    (a : IntegrityAlgorithm) : Type 0 where
  pub ours : supports p a ≡ true
  pub theirs : contains a server ≡ true
  pub strongest : supports p Sha256 ≡ true → contains Sha256 server ≡ true → a ≡ Sha256

-- a server's nonce, and what it offered with it, belong to its current settings
pub record IsUpToDate (users : Registered) (feature : Feature) (nonce : List ℕ)
    (offered : Option AlgorithmSet) : Type 0 where
  pub algorithms : asks_for_algorithms nonce ≡ contains Sha256 users.algorithms
  pub hashes : asks_for_userhash nonce ≡ is_possible feature
  pub offer : (offered ≡ None) ⊎ (offered ≡ Some users.algorithms)

-- a client whose message has this reading is not bid down if a server accepts it. The algorithm is
-- the strongest that both sides support, a digest that verifies under any key has that algorithm,
-- and if both sides accept hashes, the user is named only by a hash
pub record IsNotBidDown (p : Preferences) (users : Registered) (feature : Feature)
    (nonce : List ℕ) (offered : Option AlgorithmSet) (r : Reading) : Type 0 where
  pub strongest : (client : ClientSeen) → IsAccepted users feature nonce offered r client
      → IsStrongestOfBoth p users.algorithms client.algorithm
  pub digest : (client : ClientSeen) → IsAccepted users feature nonce offered r client
      → (key : List ℕ) (a : IntegrityAlgorithm) → verified_under r key ≡ Some a
      → a ≡ client.algorithm
  pub hashed : (client : ClientSeen) → IsAccepted users feature nonce offered r client
      → is_possible p.anonymous_username ≡ true → is_possible feature ≡ true → r.username ≡ None

-- a client is not bid down at any server whose nonce and offer are up to date
abbrev pub IsNowhereBidDown : Preferences → Reading → Type 0
IsNowhereBidDown p r = (users : Registered) (feature : Feature) (nonce : List ℕ)
    (offered : Option AlgorithmSet) → IsUpToDate users feature nonce offered
    → IsNotBidDown p users feature nonce offered r
