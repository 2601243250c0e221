-- When a client and a server have the same challenge (RFC 8489, section 9.2).
use Rattle.std.specs.Prelude.{◌≡◌, ℕ, List, Bool, true, false, Some, IsUtf8}
use Rattle.std.specs.List.{All}
use Rattle.std.specs.FinMap as map
use Rattle.std.specs.declared.net.socket_addr.SocketAddr.{SocketAddr}
use Rattle.stun_base.specs.Credentials.{NameAndPassword}
use Rattle.stun_base.specs.Keys.{long_term_key}
use Rattle.stun_base.specs.declared.keys.algorithm.IntegrityAlgorithm.{IntegrityAlgorithm}
use Rattle.stun_judging.specs.declared.feature.Feature.{Feature}
use Rattle.stun_judging.specs.Algorithms.{contains, algorithms_of}
use Rattle.stun_auth.specs.Client.{Challenge}
use Rattle.stun_judging.specs.Naming.{naming_of}
use Rattle.stun_judging.specs.Nonces.{nonce_of}
use Rattle.stun_judging.specs.Registered.{Registered, UserSecret, key_from}
use Rattle.stun_auth.specs.Seen.{PlaceSeen}
use Rattle.stun_auth.specs.Server.{Sight}
use Rattle.stun_judging.specs.Verdict.{named_by}
use Rattle.stun_judging.specs.Signed.{hashed_name, plain_name}
use Rattle.stun_proto.specs.Isolation.{concerns}
use Rattle.stun_proto.specs.declared.replay.call.ServerCall.{ServerCall}

-- calls of other addresses alone: none of this one, none on users or settings, and none that
-- forgets expired nonces
abbrev pub AreOfOthers : SocketAddr → List ServerCall → Type 0
AreOfOthers a calls = All (λ call. concerns a call ≡ false) calls

-- realm and user name are texts
pub record AreTexts (its_realm its_name : List ℕ) : Type 0 where
  pub realm : IsUtf8 its_realm
  pub username : IsUtf8 its_name

-- the user is registered, by this password or by the keys that it makes
pub record IsRegistered (users : Registered) (who : NameAndPassword) : Type 0 where
  pub secret : UserSecret
  pub present : map.get users.secrets who.username ≡ Some secret
  pub keys : (a : IntegrityAlgorithm) → contains a users.algorithms ≡ true
      → key_from a who.username users.realm secret
      ≡ Some (long_term_key a who.username users.realm who.password)

-- the challenge that a client keeps is the one that the server has kept in the record, and the
-- client has a registered user's key
pub record Matches (users : Registered) (feature : Feature) (p : PlaceSeen) (c : Challenge)
    (who : NameAndPassword) : Type 0 where
  pub realm : c.realm ≡ users.realm
  pub nonce : c.nonce ≡ p.nonce
  -- the nonce was made under the present settings
  pub made : (words : List ℕ) × (p.nonce ≡ nonce_of users.algorithms feature words)
  pub offered : p.offered ≡ Some users.algorithms
  pub algorithms : c.algorithms ≡ algorithms_of users.algorithms
  pub algorithm : contains c.algorithm users.algorithms ≡ true
  pub naming : (hashes : Bool) × (c.naming ≡ naming_of hashes who.username users.realm)
  pub known : IsRegistered users who
  pub named : named_by (hashed_name c.naming) (plain_name c.naming) users feature
      ≡ Some (record { username = who.username; secret = known.secret })
  pub key : c.key ≡ long_term_key c.algorithm who.username users.realm who.password

-- a client's challenge and what its address can tell of the server match, and the client is known
-- there
pub record AreJoined (v : Sight) (p : PlaceSeen) (c : Challenge) (who : NameAndPassword) : Type
    0 where
  pub place : v.place ≡ Some p
  pub client : p.client ≡ Some (record { name = who.username; algorithm = c.algorithm })
  pub matches : Matches v.registered v.feature p c who
