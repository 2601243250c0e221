-- The rule by which a client answers a challenge (RFC 8489, section 9.2.5). From the nonce and the
-- list of one challenge it determines the algorithm, and how the user is named. Nothing that came
-- before that challenge matters.
use Rattle.std.specs.Prelude.{◌≡◌, ℕ, List, find, Bool, true, not, ◌&&◌, if◌then◌else◌}
use Rattle.std.specs.Prelude.{Option, Some, None}
use Rattle.stun_base.specs.Credentials.{NameAndPassword}
use Rattle.stun_base.specs.Keys.{long_term_key}
use Rattle.stun_base.specs.declared.keys.algorithm.IntegrityAlgorithm.{IntegrityAlgorithm}
use Rattle.stun_base.specs.declared.keys.algorithm.IntegrityAlgorithm.TheVariants.{Sha1}
use Rattle.stun_judging.specs.Feature.{is_required, is_possible}
use Rattle.stun_judging.specs.Naming.{naming_of}
use Rattle.stun_judging.specs.Signed.{plain_name}
use Rattle.stun_judging.specs.Nonces.{asks_for_algorithms, asks_for_userhash}
use Rattle.stun_client.specs.Challenge.{Challenge}
use Rattle.stun_client.specs.Offers.{algorithms_in}
use Rattle.stun_client.specs.Preferences.{supports}
use Rattle.stun_client.specs.declared.preferences.Preferences.{Preferences}

-- the algorithm. If the nonce asks for a choice, it is the first of the list that the client
-- supports; unknown entries are skipped. Otherwise it is HMAC-SHA1, if the client supports that,
-- and the list is not read
abbrev pub chosen : Preferences → List ℕ → List ℕ → Option IntegrityAlgorithm
chosen p nonce list =
    if asks_for_algorithms nonce then find (supports p) (algorithms_in list)
    else if supports p Sha1 then Some Sha1 else None

-- whether the user is named by a hash: if the nonce allows it and the client does it
abbrev pub is_hashed : Preferences → List ℕ → Bool
is_hashed p nonce = asks_for_userhash nonce && is_possible p.anonymous_username

-- whether the client must name its user by a hash, and the nonce does not allow it
abbrev pub lacks_userhash : Preferences → List ℕ → Bool
lacks_userhash p nonce = is_required p.anonymous_username && not (asks_for_userhash nonce)

-- a challenge is by the rule: algorithm, name and key are those that the rule determines for its
-- own nonce, list and realm. If names must be hashed, the name is not sent in clear
pub record IsByRule (p : Preferences) (who : NameAndPassword) (c : Challenge) : Type 0 where
  pub algorithm : chosen p c.nonce c.offered ≡ Some c.algorithm
  pub naming : c.naming ≡ naming_of (is_hashed p c.nonce) who.username c.realm
  pub key : c.key ≡ long_term_key c.algorithm who.username c.realm who.password
  pub required : is_required p.anonymous_username ≡ true → plain_name c.naming ≡ None

-- what holds for each challenge that a client answers, whoever its user is: the algorithm is the
-- rule's, and if names are hashed, or must be, the name is not sent in clear
pub record IsChosen (p : Preferences) (c : Challenge) : Type 0 where
  pub by_rule : chosen p c.nonce c.offered ≡ Some c.algorithm
  pub hashed : is_hashed p c.nonce ≡ true → plain_name c.naming ≡ None
  pub required : is_required p.anonymous_username ≡ true → plain_name c.naming ≡ None
