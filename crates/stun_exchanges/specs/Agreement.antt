-- A client and a server that have an algorithm in common: what the server offers, and the challenge
-- that the client reads in it (RFC 8489, sections 9.2.4 and 9.2.5).
use Rattle.std.specs.Prelude.{◌≡◌, ℕ, List, [], find, Bool, true, false, if◌then◌else◌, Some, None}
use Rattle.stun_base.specs.Credentials.{NameAndPassword}
use Rattle.stun_base.specs.declared.keys.algorithm.IntegrityAlgorithm.{IntegrityAlgorithm}
use Rattle.stun_base.specs.declared.keys.algorithm.IntegrityAlgorithm.TheVariants.{Sha256}
use Rattle.stun_types.specs.Integrity.{verified_algorithm}
use Rattle.stun_judging.specs.AddedAttribute as added
use Rattle.stun_judging.specs.Algorithms.{algorithms_of, contains}
use Rattle.stun_judging.specs.Feature.{is_required, is_possible}
use Rattle.stun_judging.specs.declared.algorithm_set.AlgorithmSet.{AlgorithmSet}
use Rattle.stun_judging.specs.declared.feature.Feature.{Feature}
use Rattle.stun_client.specs.Challenge.{Challenge, new_challenge}
use Rattle.stun_client.specs.Challenging.{is_challenge}
use Rattle.stun_client.specs.Judging.{fault_in}
use Rattle.stun_client.specs.Preferences.{supports}
use Rattle.stun_client.specs.declared.preferences.Preferences.{Preferences}

-- a client and a server agree on an algorithm: it is the first of the server's, the strongest
-- first, that the client supports. If the client must hash the name of its user, the server accepts
-- hashes
pub record AgreeOn (p : Preferences) (server : AlgorithmSet) (feature : Feature)
    (a : IntegrityAlgorithm) : Type 0 where
  pub first : find (supports p) (algorithms_of server) ≡ Some a
  pub hashes : is_required p.anonymous_username ≡ true → is_possible feature ≡ true

-- the list that a server sends, as the bytes of its value: its algorithms, the strongest first. A
-- server that supports HMAC-SHA1 alone sends none
abbrev pub offered_by : AlgorithmSet → List ℕ
offered_by server =
    if contains Sha256 server then (added.password_algorithms (algorithms_of server)).value else []

-- the challenge that a server means with a nonce, to a client that uses this algorithm
abbrev pub meant_by : Preferences → NameAndPassword → List ℕ → AlgorithmSet → List ℕ
    → IntegrityAlgorithm
    → Challenge
meant_by p who realm server nonce a =
    new_challenge p.anonymous_username who realm nonce (offered_by server) a

-- a response is a signed answer to a request that was signed with this key: it is not dropped
-- because of its FINGERPRINT, it asks for no credentials, and its digest verifies under the key
pub record IsSignedAnswer (required : Bool) (bytes key : List ℕ) (a : IntegrityAlgorithm)
    : Type 0 where
  pub whole : fault_in required bytes ≡ None
  pub final : is_challenge bytes ≡ false
  pub signed : verified_algorithm bytes key ≡ Some a
