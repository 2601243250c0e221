-- Which client a server with long-term credentials accepts under a nonce, and why it refuses all
-- others (RFC 8489, section 9.2.4).
use Rattle.std.specs.Prelude.{◌≡◌, ℕ, List, [], ◌∷◌, Bool, true, false}
use Rattle.std.specs.Prelude.{not, ◌&&◌, ◌||◌, if◌then◌else◌, Option, Some, None}
use Rattle.std.specs.Option.{is_none, is_some, option_and_then, option_map_or, unwrap_or, IsSome}
use Rattle.std.specs.List.{find}
use Rattle.std.specs.Str.{bytes_eq}
use Rattle.std.specs.declared.result.Result.{Result}
use Rattle.std.specs.declared.result.Result.TheVariants.{Ok, Err}
use Rattle.std.specs.FinMap as map
use Rattle.stun_base.specs.declared.keys.algorithm.IntegrityAlgorithm.{IntegrityAlgorithm}
use Rattle.stun_base.specs.declared.keys.algorithm.IntegrityAlgorithm.TheVariants.{Sha1, Sha256}
use Rattle.stun_judging.specs.declared.algorithm_set.AlgorithmSet.{AlgorithmSet}
use Rattle.stun_judging.specs.declared.feature.Feature.{Feature}
use Rattle.stun_judging.specs.declared.refusal.VerdictRefusal.{VerdictRefusal}
use Rattle.stun_judging.specs.declared.refusal.VerdictRefusal.TheVariants.{Unauthorized, BadRequest}
use Rattle.stun_judging.specs.declared.refusal.VerdictRefusal.TheVariants.{StaleNonce}
use Rattle.stun_judging.specs.Algorithms.{contains, has, offered_list, same_list}
use Rattle.stun_judging.specs.Feature.{is_possible}
use Rattle.stun_judging.specs.Nonces.{asks_for_algorithms, security_bits}
use Rattle.stun_judging.specs.Reading.{Reading, is_malformed, verified_under}
use Rattle.stun_judging.specs.Registered.{Registered, RegisteredUser, UserSecret}
use Rattle.stun_judging.specs.Registered.{key_from, key_of, user_named, user_with_hash}

-- a client: the name of a user, and the algorithm that both sides agreed on
pub record ClientSeen : Type 0 where
  pub name : List ℕ
  pub algorithm : IntegrityAlgorithm

-- ---- the contents of a message

-- the algorithm if the nonce asks for a choice. It is HMAC-SHA1 if the message has neither list nor
-- choice. Otherwise it is the choice, if the list is the offered one and the choice is in it
abbrev pub choice : Option (List IntegrityAlgorithm) → Option IntegrityAlgorithm
    → List IntegrityAlgorithm → Option IntegrityAlgorithm
choice None None offered = Some Sha1
choice (Some list) (Some a) offered =
    if same_list list offered && has a offered then Some a else None
choice (Some list) None offered = None
choice None (Some a) offered = None

-- the algorithm that both sides agree on: the choice of the message if the nonce asks for one, and
-- otherwise HMAC-SHA1
abbrev pub agreement : Reading → List ℕ → Option AlgorithmSet → Option IntegrityAlgorithm
agreement r nonce offered =
    if asks_for_algorithms nonce then choice r.algorithms r.algorithm (offered_list offered)
    else Some Sha1

-- the registered user whom a message names. If the message has a hash, this is the user with the
-- hash, or nobody if hashes are not accepted. Otherwise it is the user with the name
abbrev pub named_by : Option (List ℕ) → Option (List ℕ) → Registered → Feature
    → Option RegisteredUser
named_by (Some hash) username users feature =
    if is_possible feature then user_with_hash users hash else None
named_by None username users feature = option_and_then (user_named users) username

-- the registered user whom the reading of a message names
abbrev pub named_user : Registered → Feature → Reading → Option RegisteredUser
named_user users feature r = named_by r.userhash r.username users feature

-- ---- acceptance, in one conjunction

-- a message is accepted from a client: it has a realm and the server's nonce, its algorithms agree
-- with the offer, it names a registered user, and its digest verifies under the key of that user
pub record IsAccepted (users : Registered) (feature : Feature) (ours : List ℕ)
    (offered : Option AlgorithmSet) (r : Reading) (client : ClientSeen) : Type 0 where
  pub secret : UserSecret
  pub key : List ℕ
  pub realm : IsSome r.realm
  pub nonce : r.nonce ≡ Some ours
  pub algorithm : agreement r ours offered ≡ Some client.algorithm
  pub named : named_user users feature r ≡ Some (record { username = client.name; secret = secret })
  pub present : map.get users.secrets client.name ≡ Some secret
  pub supported : contains client.algorithm users.algorithms ≡ true
  -- the key that is derived from the password, or the stored key
  pub key_is : key_from client.algorithm client.name users.realm secret ≡ Some key
  pub digest : IsSome (verified_under r key)

-- ---- the refusals, in a table

-- the nonce of a message, or an empty one if the message has none. Such a message is refused by the
-- second row of the table, before the nonce is used
abbrev pub their_nonce : Reading → List ℕ
their_nonce r = unwrap_or r.nonce []

-- whether both nonces have security bits, and the bits differ
abbrev pub bits_differ : Option (List ℕ) → Option (List ℕ) → Bool
bits_differ None theirs = false
bits_differ (Some ours) None = false
bits_differ (Some ours) (Some theirs) = not (bytes_eq ours theirs)

-- the refusal of a nonce that is not the current one: a nonce with different security bits is not
-- stale
abbrev pub nonce_refusal : List ℕ → List ℕ → VerdictRefusal
nonce_refusal ours theirs =
    if bits_differ (security_bits ours) (security_bits theirs) then Unauthorized else StaleNonce

-- the algorithm whose digest verifies under the key that a user has for an algorithm
abbrev pub verified_for : Registered → Reading → IntegrityAlgorithm → RegisteredUser
    → Option IntegrityAlgorithm
verified_for users r a user = option_and_then (verified_under r) (key_of users user a)

-- the algorithm whose digest verifies under the key that the named user has for the agreed
-- algorithm
abbrev pub verified_named : Registered → Feature → Reading → Option IntegrityAlgorithm
    → Option IntegrityAlgorithm
verified_named users feature r chosen =
    option_and_then (λ a. option_and_then (verified_for users r a) (named_user users feature r))
    chosen

-- the refusals, in the order in which they are tested
abbrev pub refusals : Registered → Feature → List ℕ → Option AlgorithmSet → Reading
    → List (Bool × VerdictRefusal)
refusals users feature ours offered r =
    (is_none r.integrity, Unauthorized)
    ∷ (is_none r.realm || is_none r.nonce, BadRequest)
    ∷ (is_none r.userhash && is_none r.username, BadRequest)
    ∷ (is_none (agreement r (their_nonce r) offered), BadRequest)
    ∷ (not (bytes_eq (their_nonce r) ours), nonce_refusal ours (their_nonce r))
    ∷ (is_none (verified_named users feature r (agreement r (their_nonce r) offered)), Unauthorized)
    ∷ []

-- the first refusal that applies, if there is one
abbrev pub verdict_refusal : Registered → Feature → List ℕ → Option AlgorithmSet → Reading
    → Option VerdictRefusal
verdict_refusal users feature ours offered r =
    option_map_or (λ (row : Bool × VerdictRefusal). Some row.1)
    (find (λ (row : Bool × VerdictRefusal). row.0) (refusals users feature ours offered r)) None

-- ---- the verdict

-- the client of an accepted message: the named user with the agreed algorithm
abbrev pub client_of : Registered → Feature → List ℕ → Option AlgorithmSet → Reading → ClientSeen
client_of users feature ours offered r = record {
  name = option_map_or (λ (user : RegisteredUser). user.username) (named_user users feature r) [];
  algorithm = unwrap_or (agreement r (their_nonce r) offered) Sha1;
}

-- a client, or a refusal
abbrev pub or_refused : Option VerdictRefusal → ClientSeen → Result ClientSeen VerdictRefusal
or_refused None client = Ok client
or_refused (Some refusal) client = Err refusal

-- the verdict if this nonce is current and these algorithms were offered: the client that is
-- accepted, or the first refusal that applies
abbrev pub verdict : Registered → Feature → List ℕ → Option AlgorithmSet → Reading
    → Result ClientSeen VerdictRefusal
verdict users feature ours offered r =
    or_refused (verdict_refusal users feature ours offered r)
    (client_of users feature ours offered r)

-- ---- a server that offers the algorithms that it supports

-- whether a message has PASSWORD-ALGORITHMS or PASSWORD-ALGORITHM at a server that offers no list,
-- because HMAC-SHA1 is the only algorithm that it supports
abbrev pub is_unoffered : AlgorithmSet → Reading → Bool
is_unoffered supported r =
    not (contains Sha256 supported) && (is_some r.algorithms || is_some r.algorithm)

-- the algorithm that both sides agree on, if the server offers a list of the algorithms that it
-- supports, or no list if HMAC-SHA1 is the only one
abbrev pub agreement_offering : AlgorithmSet → Reading → Option IntegrityAlgorithm
agreement_offering supported r =
    if is_unoffered supported r then None else agreement r (their_nonce r) (Some supported)

-- the verdict of such a server
abbrev pub verdict_offering : Registered → Feature → List ℕ → AlgorithmSet → Reading
    → Result ClientSeen VerdictRefusal
verdict_offering users feature ours supported r =
    if is_some r.integrity && is_unoffered supported r then Err BadRequest
    else verdict users feature ours (Some supported) r

-- such a server accepts a message from a client: the message has algorithms only if some were
-- offered, and all else is as for every server
pub record IsAcceptedOffering (users : Registered) (feature : Feature) (ours : List ℕ)
    (supported : AlgorithmSet) (r : Reading) (client : ClientSeen) : Type 0 where
  pub offered : is_unoffered supported r ≡ false
  pub accepted : IsAccepted users feature ours (Some supported) r client

-- ---- several nonces

-- a verdict or, if the verdict is that the nonce is stale, an acceptance under the nonce of the
-- epoch before
abbrev pub or_before : Result ClientSeen VerdictRefusal → Result ClientSeen VerdictRefusal
    → Result ClientSeen VerdictRefusal
or_before (Ok client) before = Ok client
or_before (Err Unauthorized) before = Err Unauthorized
or_before (Err BadRequest) before = Err BadRequest
or_before (Err StaleNonce) (Ok client) = Ok client
or_before (Err StaleNonce) (Err refusal) = Err StaleNonce

-- the refusal that is sent to a client: a bad request is sent as such if the message is malformed
-- or has the current nonce, and otherwise as a stale nonce
abbrev pub told_refusal : List ℕ → Reading → VerdictRefusal → VerdictRefusal
told_refusal ours r Unauthorized = Unauthorized
told_refusal ours r StaleNonce = StaleNonce
told_refusal ours r BadRequest =
    if is_malformed r || bytes_eq (their_nonce r) ours then BadRequest else StaleNonce
