-- A client: its settings, and what it stores (RFC 8489, section 9.2).
use Rattle.std.specs.Prelude.{[]}
use Rattle.std.specs.Prelude.{ℕ, List, ◌∷◌, Option, None}
use Rattle.stun_base.specs.Credentials.{NameAndPassword}
use Rattle.stun_base.specs.declared.keys.algorithm.IntegrityAlgorithm.{IntegrityAlgorithm}
use Rattle.stun_base.specs.declared.keys.algorithm.IntegrityAlgorithm.TheVariants.{Sha1}
use Rattle.stun_judging.specs.declared.feature.Feature.{Feature}
use Rattle.stun_judging.specs.declared.feature.Feature.TheVariants.{Auto}
use Rattle.stun_judging.specs.Naming.{Naming}

-- the algorithms in the order in which they were added, whether names are hashed, and the user
pub record ClientSettings : Type 0 where
  pub supported : List IntegrityAlgorithm
  pub feature : Feature
  pub credentials : Option NameAndPassword

-- what a client stores of a server's challenge: what later requests carry, and the key that they
-- are signed with
pub record Challenge : Type 0 where
  pub naming : Naming
  pub realm : List ℕ
  pub nonce : List ℕ
  -- the server's list, or an empty list if it sent none
  pub algorithms : List IntegrityAlgorithm
  pub algorithm : IntegrityAlgorithm
  pub key : List ℕ

-- how far a client has come with its server
pub data ClientState : Type 0 where
  initial : ClientState
  authenticating : Challenge → ClientState
  authenticated : Challenge → ClientState

-- a client as contracts see it
pub record ClientSide : Type 0 where
  pub settings : ClientSettings
  pub state : ClientState

-- a new client: HMAC-SHA1 alone, hashed names if the server allows them, no credentials
abbrev pub new_client : ClientSide
new_client =
    record {
      settings = record { supported = Sha1 ∷ []; feature = Auto; credentials = None };
      state = initial;
    }
