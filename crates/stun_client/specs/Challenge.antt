-- A challenge that a client answers, and what a request for it has (RFC 8489, section 9.2.5). The
-- server's list is repeated as it arrived.
use Rattle.std.specs.Prelude.{ℕ, List, [], ◌∷◌, ◌++◌, map, Bool, true, false, ◌&&◌, ◌||◌}
use Rattle.std.specs.Prelude.{if◌then◌else◌, Option, Some, None}
use Rattle.std.specs.Option.{option_map}
use Rattle.stun_base.specs.Attributes.{PASSWORD_ALGORITHMS}
use Rattle.stun_base.specs.Credentials.{NameAndPassword}
use Rattle.stun_base.specs.Keys.{long_term_key}
use Rattle.stun_base.specs.declared.keys.algorithm.IntegrityAlgorithm.{IntegrityAlgorithm}
use Rattle.stun_types.specs.Attribute.{TypedValue}
use Rattle.stun_types.specs.PasswordAlgorithms.{integrity_of, password_algorithms_in}
use Rattle.stun_judging.specs.AddedAttribute as attributes
use Rattle.stun_judging.specs.Additions.{Addition, attribute, integrity}
use Rattle.stun_judging.specs.Algorithms.{is_sha256}
use Rattle.stun_judging.specs.Naming.{Naming, who_asks, naming_of}
use Rattle.stun_judging.specs.Feature.{is_possible}
use Rattle.stun_judging.specs.Nonces.{asks_for_userhash}
use Rattle.stun_judging.specs.Signed.{Added, hashed_name, only_if, plain_name}
use Rattle.stun_judging.specs.declared.feature.Feature.{Feature}

-- what requests for a challenge have, and the key that they are signed with
pub record Challenge : Type 0 where
  pub naming : Naming
  pub realm : List ℕ
  pub nonce : List ℕ
  -- the server's list, as the bytes of its value: empty if requests repeat none
  pub offered : List ℕ
  pub algorithm : IntegrityAlgorithm
  pub key : List ℕ

-- the challenge with this realm, nonce and list, for a user and an algorithm
abbrev pub new_challenge : Feature → NameAndPassword → List ℕ → List ℕ → List ℕ
    → IntegrityAlgorithm → Challenge
new_challenge feature user realm nonce offered algorithm = record {
  naming = naming_of (asks_for_userhash nonce && is_possible feature) user.username realm;
  realm = realm;
  nonce = nonce;
  offered = offered;
  algorithm = algorithm;
  key = long_term_key algorithm user.username realm user.password;
}

-- ---- what is added to a request, in its order

-- the identity in a request: nonce, realm and name
abbrev pub identity : Challenge → List Addition
identity c = who_asks c.nonce c.realm c.naming

-- PASSWORD-ALGORITHMS with the server's list, as it arrived
abbrev pub repeated_list : List ℕ → TypedValue
repeated_list offered = record { kind = PASSWORD_ALGORITHMS; value = offered }

-- the list, if there is one, and the algorithm that was chosen. HMAC-SHA256 is named even without a
-- list
abbrev pub algorithm_choice : List ℕ → IntegrityAlgorithm → List Addition
algorithm_choice [] algorithm =
    if is_sha256 algorithm then attribute (attributes.password_algorithm algorithm) ∷ [] else []
algorithm_choice (byte ∷ list) algorithm =
    attribute (repeated_list (byte ∷ list)) ∷ attribute (attributes.password_algorithm algorithm) ∷ []

-- the digest under the key
abbrev pub protection : Challenge → List Addition
protection c = integrity c.algorithm c.key ∷ []

-- a request has the identity; messages of every class name the algorithms, and have the digest
abbrev pub challenge_additions : Bool → Challenge → List Addition
challenge_additions request c =
    (if request then identity c else []) ++ (algorithm_choice c.offered c.algorithm ++ protection c)

-- ---- what a server reads in a request

-- whether a list is repeated
abbrev pub is_listed : List ℕ → Bool
is_listed [] = false
is_listed (byte ∷ list) = true

-- the algorithms of the list, as a server reads them that knows no others
abbrev pub list_read : List ℕ → Option (List IntegrityAlgorithm)
list_read offered = option_map (map integrity_of) (password_algorithms_in (repeated_list offered))

-- what such a server reads, by attribute
abbrev pub added_under : Bool → Challenge → Added
added_under request c = record {
  nonce = only_if request c.nonce;
  realm = only_if request c.realm;
  username = if request then plain_name c.naming else None;
  userhash = if request then hashed_name c.naming else None;
  algorithms = if is_listed c.offered then list_read c.offered else None;
  algorithm = only_if (is_sha256 c.algorithm || is_listed c.offered) c.algorithm;
  integrity = Some (record { algorithm = c.algorithm; key = c.key });
}
