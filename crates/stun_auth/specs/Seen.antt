-- The record that a server has of an address (RFC 8489, section 9.2.4).
use Rattle.std.specs.Prelude.{ℕ, List, Option, Some, None}
use Rattle.stun_judging.specs.declared.algorithm_set.AlgorithmSet.{AlgorithmSet}
use Rattle.stun_judging.specs.Verdict.{ClientSeen}

-- the nonce and when it expires, the algorithms that were offered, if any, and the client
pub record PlaceSeen : Type 0 where
  pub nonce : List ℕ
  pub expires : ℕ
  pub offered : Option AlgorithmSet
  pub client : Option ClientSeen

-- a record with a new nonce, and the same offer and client
abbrev pub renewed_place : Option PlaceSeen → List ℕ → ℕ → PlaceSeen
renewed_place None nonce expires =
    record { nonce = nonce; expires = expires; offered = None; client = None }
renewed_place (Some place) nonce expires = record place { nonce = nonce; expires = expires }
