-- The settings of a server. They are all that it is made of, and none depends on an address.
use Rattle.std.specs.Prelude.{ℕ, List, Bool, Option}
use Rattle.stun_base.specs.declared.wire.attribute_type.AttributeType.{AttributeType}
use Rattle.stun_judging.specs.declared.feature.Feature.{Feature}
use Rattle.stun_judging.specs.Registered.{Registered}
use Rattle.std.specs.FinMap as map
use Rattle.stun_judging.specs.declared.algorithm_set.AlgorithmSet.{AlgorithmSet}

pub record Settings : Type 0 where
  pub realm : List ℕ
  -- the supported algorithms
  pub algorithms : AlgorithmSet
  -- whether users may be named by a hash
  pub feature : Feature
  -- the key of the nonces, and another one whose nonces are accepted too
  pub secret : List ℕ
  pub previous : Option (List ℕ)
  -- the number of seconds of an epoch
  pub lifetime : ℕ
  -- the types of attributes that are understood
  pub known : List AttributeType
  -- the text of SOFTWARE
  pub software : Option (List ℕ)
  -- whether the server itself responds to a Binding request
  pub answers_binding : Bool
  -- whether a message without FINGERPRINT is dropped
  pub requires_fingerprint : Bool

-- the realm without users
abbrev pub registered_of : Settings → Registered
registered_of s = record { realm = s.realm; algorithms = s.algorithms; secrets = map.empty }
