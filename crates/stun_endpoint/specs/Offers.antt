-- What a server offers, and with which contents it accepts a request (RFC 8489, section 9.2.4).
-- Everything here is said of the settings of the server, and nothing of the users that it is passed.
use Rattle.std.specs.Prelude.{◌≡◌, ℕ, List, Option, Some, None, true, ⊤}
use Rattle.stun_base.specs.declared.keys.algorithm.IntegrityAlgorithm.{IntegrityAlgorithm}
use Rattle.stun_base.specs.declared.keys.algorithm.IntegrityAlgorithm.TheVariants.{Sha256}
use Rattle.stun_judging.specs.Algorithms.{algorithms_of, contains}
use Rattle.stun_judging.specs.Feature.{is_possible}
use Rattle.stun_judging.specs.Reading.{Reading}
use Rattle.stun_judging.specs.Verdict.{ClientSeen}
use Rattle.stun_endpoint.specs.Settings.{Settings}

-- a request has no PASSWORD-ALGORITHMS, or the list that the server offers: its algorithms, the
-- strongest first. A server that supports only HMAC-SHA1 offers no list
abbrev pub HasOfferedList : Settings → Option (List IntegrityAlgorithm) → Type 0
HasOfferedList s None = ⊤
HasOfferedList s (Some list) =
    (contains Sha256 s.algorithms ≡ true) × (list ≡ algorithms_of s.algorithms)

-- a request has no PASSWORD-ALGORITHM, or this algorithm, with a server that offers a list
abbrev pub HasChosen : Settings → IntegrityAlgorithm → Option IntegrityAlgorithm → Type 0
HasChosen s algorithm None = ⊤
HasChosen s algorithm (Some chosen) =
    (contains Sha256 s.algorithms ≡ true) × (chosen ≡ algorithm)

-- a request has no USERHASH, or hashed names are allowed
abbrev pub HasAllowedHash : Settings → Option (List ℕ) → Type 0
HasAllowedHash s None = ⊤
HasAllowedHash s (Some hash) = is_possible s.feature ≡ true

-- a request has only what the settings of the server offer, and its client has agreed on an
-- algorithm that the server supports
pub record IsOffered (s : Settings) (r : Reading) (client : ClientSeen) : Type 0 where
  pub supported : contains client.algorithm s.algorithms ≡ true
  pub list : HasOfferedList s r.algorithms
  pub choice : HasChosen s client.algorithm r.algorithm
  pub hash : HasAllowedHash s r.userhash
