-- A challenge of one message, by the rule (RFC 8489, section 9.2.5). A 401 and a 438 are read in
-- the same way, and nonce, list, algorithm, key and name are those of that one message.
use Rattle.std.specs.Prelude.{◌≡◌, ℕ, List, [], Bool, true, false, ◌&&◌, ◌||◌, not, if◌then◌else◌, Option, Some, None}
use Rattle.std.specs.Option.{is_none, is_some, option_map}
use Rattle.std.specs.Str.{bytes_eq}
use Rattle.stun_base.specs.Credentials.{NameAndPassword}
use Rattle.stun_base.specs.declared.keys.algorithm.IntegrityAlgorithm.{IntegrityAlgorithm}
use Rattle.stun_base.specs.declared.keys.algorithm.IntegrityAlgorithm.TheVariants.{Sha1}
use Rattle.stun_types.specs.Integrity.{verified_algorithm}
use Rattle.stun_judging.specs.Reading.{STALE_NONCE, is_code}
use Rattle.stun_judging.specs.Algorithms.{has, is_sha256, same_algorithm}
use Rattle.stun_judging.specs.Nonces.{asks_for_algorithms, asks_for_userhash}
use Rattle.stun_judging.specs.Signed.{plain_name}
use Rattle.stun_client.specs.Challenge.{Challenge, new_challenge}
use Rattle.stun_client.specs.Challenging.{code_in, is_challenge, list_in, nonce_in, realm_in}
use Rattle.stun_client.specs.Offers.{algorithms_in}
use Rattle.stun_client.specs.Preferences.{supports}
use Rattle.stun_client.specs.Rule.{chosen, lacks_userhash}
use Rattle.stun_client.specs.declared.preferences.Preferences.{Preferences}

-- a challenge, and the preferences with which it is answered
pub record Answered : Type 0 where
  pub preferences : Preferences
  pub challenge : Challenge

-- whether a message is a 438 without a list that is signed with the key of a challenge before
abbrev pub is_renewal : Challenge → List ℕ → Bool
is_renewal before bytes =
    is_code STALE_NONCE (code_in bytes) && is_none (list_in bytes)
    && is_some (verified_algorithm bytes before.key)

-- a list, or the empty one
abbrev pub list_or_none : Option (List ℕ) → List ℕ
list_or_none None = []
list_or_none (Some list) = list

-- the list from which the algorithm is chosen: the list of the message, with one exception. For a
-- 438 without a list that is signed with the key of the challenge before, it is the list of that
-- challenge, because the server that has the key still offers the same list
abbrev pub list_for : Option Challenge → List ℕ → List ℕ
list_for None bytes = list_or_none (list_in bytes)
list_for (Some before) bytes =
    if is_renewal before bytes then before.offered else list_or_none (list_in bytes)

-- the list that a request repeats, as it arrived, or an empty one if the nonce does not ask for a
-- choice
abbrev pub list_kept : List ℕ → List ℕ → List ℕ
list_kept nonce list = if asks_for_algorithms nonce then list else []

-- a challenge with this realm, nonce and list, unless the rule ignores it
abbrev pub by_rule : Preferences → NameAndPassword → List ℕ → List ℕ → List ℕ → Option Challenge
by_rule p who realm nonce list =
    if lacks_userhash p nonce then None
    else option_map (new_challenge p.anonymous_username who realm nonce (list_kept nonce list))
    (chosen p nonce list)

-- the challenge with this realm, nonce and list, or none if the realm or the nonce is missing
abbrev pub by_rule_if : Preferences → NameAndPassword → Option (List ℕ) → Option (List ℕ) → List ℕ
    → Option Challenge
by_rule_if p who None _ list = None
by_rule_if p who (Some realm) None list = None
by_rule_if p who (Some realm) (Some nonce) list = by_rule p who realm nonce list

-- the challenge in a message, unless the rule ignores it. `before` is the challenge that the
-- request was signed for
abbrev pub challenge_of : Preferences → NameAndPassword → Option Challenge → List ℕ
    → Option Challenge
challenge_of p who before bytes =
    if is_challenge bytes
    then by_rule_if p who (realm_in bytes) (nonce_in bytes) (list_for before bytes)
    else None

-- a challenge is read from a message, which is a 401 or a 438: realm, nonce and list are those of
-- the message
pub record IsOfMessage (before : Option Challenge) (bytes : List ℕ) (c : Challenge) : Type 0 where
  pub asks : is_challenge bytes ≡ true
  pub realm : realm_in bytes ≡ Some c.realm
  pub nonce : nonce_in bytes ≡ Some c.nonce
  pub offered : c.offered ≡ list_kept c.nonce (list_for before bytes)

-- whether a challenge offers an algorithm: an algorithm in its list if the nonce asks for a choice,
-- and otherwise HMAC-SHA1
abbrev pub is_offered : List ℕ → List ℕ → IntegrityAlgorithm → Bool
is_offered nonce list a =
    if asks_for_algorithms nonce then has a (algorithms_in list) else same_algorithm a Sha1

-- a challenge that a client can answer: it has realm and nonce, it allows a hash if the client must
-- send one, and it offers an algorithm that the client supports
pub record IsAnswerable (p : Preferences) (before : Option Challenge) (bytes : List ℕ) : Type 0 where
  pub asks : is_challenge bytes ≡ true
  pub realm : List ℕ
  pub realm_is : realm_in bytes ≡ Some realm
  pub nonce : List ℕ
  pub nonce_is : nonce_in bytes ≡ Some nonce
  pub hashes : lacks_userhash p nonce ≡ false
  pub algorithm : IntegrityAlgorithm
  pub supported : supports p algorithm ≡ true
  pub offered : is_offered nonce (list_for before bytes) algorithm ≡ true

-- whether a request that is signed for a challenge is less protected than a request that is signed
-- for another challenge: by HMAC-SHA1 instead of HMAC-SHA256, or with a user name instead of a hash
abbrev pub is_weaker : Challenge → Challenge → Bool
is_weaker c other =
    (is_sha256 other.algorithm && not (is_sha256 c.algorithm))
    || (is_none (plain_name other.naming) && not (is_none (plain_name c.naming)))

-- whether two security bits are equal
abbrev pub is_same_bit : Bool → Bool → Bool
is_same_bit one other = if one then other else not other

abbrev pub has_same_bits : List ℕ → List ℕ → Bool
has_same_bits nonce other =
    is_same_bit (asks_for_algorithms nonce) (asks_for_algorithms other)
    && is_same_bit (asks_for_userhash nonce) (asks_for_userhash other)

-- whether two challenges have the same realm and the same security bits, among those that a client
-- knows
abbrev pub is_alike : Challenge → Challenge → Bool
is_alike c other = bytes_eq c.realm other.realm && has_same_bits c.nonce other.nonce

-- whether two challenges are the same: they have the same nonce, realm, list and algorithm. Whether
-- the user is named by a hash need not be compared, because the nonce determines it
abbrev pub is_same : Challenge → Challenge → Bool
is_same c other =
    bytes_eq c.nonce other.nonce && bytes_eq c.realm other.realm
    && bytes_eq c.offered other.offered && same_algorithm c.algorithm other.algorithm

-- whether two challenges, each of which may be absent, are the same
abbrev pub is_one : Option Answered → Option Answered → Bool
is_one None other = false
is_one (Some c) None = false
is_one (Some c) (Some other) = is_same c.challenge other.challenge
