-- What the lemmas on negotiation need of nonces, and of messages that were signed.
use Rattle.std.proofs.Common.{◌≡◌, ℕ, ◌+◌, ◌≤◌, List, length, Bool, true, false, Some, None, Ok}
use Rattle.std.specs.Prelude.{◌||◌, IsOk, IsUtf8}
use Rattle.std.specs.Option.{is_some}
use Rattle.stun_base.specs.declared.keys.algorithm.IntegrityAlgorithm.{IntegrityAlgorithm}
use Rattle.stun_base.specs.declared.keys.algorithm.IntegrityAlgorithm.TheVariants.{Sha256}
use Rattle.stun_judging.specs.declared.algorithm_set.AlgorithmSet.{AlgorithmSet}
use Rattle.stun_judging.specs.declared.feature.Feature.{Feature}
use Rattle.stun_judging.specs.Additions.{Page}
use Rattle.stun_judging.specs.Algorithms.{contains, algorithms_of}
use Rattle.stun_auth.specs.Client.{Challenge, ClientState, initial}
use Rattle.stun_auth.specs.ClientSigning.{kept_challenge}
use Rattle.stun_judging.specs.Reading.{UNAUTHORIZED, STALE_NONCE, is_code}
use Rattle.stun_judging.specs.Naming.{naming_of}
use Rattle.stun_judging.specs.Feature.{is_possible}
use Rattle.stun_judging.specs.Nonces.{asks_for_algorithms, asks_for_userhash, nonce_of}
use Rattle.stun_judging.specs.Nonces.{security_bits}
use Rattle.stun_base.specs.MessageType.{is_response, is_success}
use Rattle.stun_judging.specs.Reading.{Reading, reading_of, verified_under}
use Rattle.stun_judging.specs.Registered.{key_at}
use Rattle.stun_judging.specs.Verdict.{ClientSeen}
use Rattle.stun_auth.specs.Seen.{PlaceSeen}
use Rattle.stun_judging.specs.Signed.{Added, IsSmall, hashed_name, plain_name}
use Rattle.stun_auth.specs.Signed.{added_by_client, added_by_server}
use Rattle.stun_auth.specs.Server.{Sight}
use Rattle.stun_proto.specs.Negotiation.{client_request, failure, server_response, success}
use Rattle.stun_proto.specs.Renewal.{IsAsked, IsTold}
use Rattle.stun_proto.specs.Contact.{IsChallenged, IsGranted}
use Rattle.stun_proto.specs.Session.{IsAnswered}

-- what a server's nonces ask for
pub record NoncesAsk : Type 0 where
  pub algorithms : (set : AlgorithmSet) (f : Feature) (words : List ℕ)
      → asks_for_algorithms (nonce_of set f words) ≡ contains Sha256 set
  pub userhash : (set : AlgorithmSet) (f : Feature) (words : List ℕ)
      → asks_for_userhash (nonce_of set f words) ≡ is_possible f
  pub there : (set : AlgorithmSet) (f : Feature) (words : List ℕ)
      → is_some (security_bits (nonce_of set f words)) ≡ (contains Sha256 set || is_possible f)
  pub alike : (set : AlgorithmSet) (f : Feature) (words others : List ℕ)
      → security_bits (nonce_of set f words) ≡ security_bits (nonce_of set f others)
  pub text : (set : AlgorithmSet) (f : Feature) (words : List ℕ) → IsUtf8 (nonce_of set f words)

-- a request that has nothing
pub record IsBare (r : Reading) : Type 0 where
  pub response : is_response r.class ≡ false
  pub protected : is_some r.integrity ≡ false

-- a request that is signed under a challenge
pub record IsRequest (c : Challenge) (r : Reading) : Type 0 where
  pub response : is_response r.class ≡ false
  pub protected : is_some r.integrity ≡ true
  pub realm : r.realm ≡ Some c.realm
  pub nonce : r.nonce ≡ Some c.nonce
  pub username : r.username ≡ plain_name c.naming
  pub userhash : r.userhash ≡ hashed_name c.naming
  pub algorithms : r.algorithms ≡ Some c.algorithms
  pub algorithm : r.algorithm ≡ Some c.algorithm
  pub digest : verified_under r c.key ≡ Some c.algorithm

-- an error with a nonce
pub record IsFailure (code : ℕ) (its_realm its_nonce : List ℕ) (r : Reading) : Type 0 where
  pub error : r.error ≡ Some code
  pub realm : r.realm ≡ Some its_realm
  pub nonce : r.nonce ≡ Some its_nonce

-- a success under a key
pub record IsSuccess (a : IntegrityAlgorithm) (key : List ℕ) (r : Reading) : Type 0 where
  pub error : r.error ≡ None
  pub success : is_success r.class ≡ true
  pub digest : verified_under r key ≡ Some a

-- a response under a key that does not tell a nonce stale
pub record IsResponse (a : IntegrityAlgorithm) (key : List ℕ) (r : Reading) : Type 0 where
  pub not_stale : is_code STALE_NONCE r.error ≡ false
  pub digest : verified_under r key ≡ Some a

-- what is read of each message of a run
pub record SignedIsRead : Type 0 where
  pub bare : (id : ℕ) (page : Page) → client_request id initial ≡ Ok page
      → IsBare (reading_of page.bytes)
  pub any_bare : (page : Page) → IsAsked initial page → IsBare (reading_of page.bytes)
  pub request : (id : ℕ) (state : ClientState) (c : Challenge) (set : AlgorithmSet) (hashes : Bool)
      (name realm : List ℕ) (page : Page)
      → kept_challenge state ≡ Some c → c.algorithms ≡ algorithms_of set
      → c.naming ≡ naming_of hashes name realm
      → IsUtf8 c.realm → IsUtf8 c.nonce → IsUtf8 name → client_request id state ≡ Ok page
      → IsRequest c (reading_of page.bytes)
  pub challenge : (id : ℕ) (s : Sight) (p : PlaceSeen) (page : Page) → s.place ≡ Some p
      → p.client ≡ None → IsUtf8 s.registered.realm → IsUtf8 p.nonce
      → server_response (failure UNAUTHORIZED id) s ≡ Ok page
      → IsFailure UNAUTHORIZED s.registered.realm p.nonce (reading_of page.bytes)
      × ((reading_of page.bytes).algorithms ≡ Some (algorithms_of s.registered.algorithms))
  pub any_challenge : (s : Sight) (p : PlaceSeen) (page : Page) → s.place ≡ Some p
      → p.client ≡ None → IsUtf8 s.registered.realm → IsUtf8 p.nonce → IsChallenged s page
      → IsFailure UNAUTHORIZED s.registered.realm p.nonce (reading_of page.bytes)
      × ((reading_of page.bytes).algorithms ≡ Some (algorithms_of s.registered.algorithms))
  pub any_success : (s : Sight) (p : PlaceSeen) (c : ClientSeen) (key : List ℕ) (page : Page)
      → s.place ≡ Some p → p.client ≡ Some c
      → key_at s.registered c.name c.algorithm ≡ Some key → IsUtf8 s.registered.realm
      → IsUtf8 p.nonce
      → IsGranted s page → IsSuccess c.algorithm key (reading_of page.bytes)
  pub any_request : (state : ClientState) (c : Challenge) (set : AlgorithmSet) (hashes : Bool)
      (name realm : List ℕ) (page : Page)
      → kept_challenge state ≡ Some c → c.algorithms ≡ algorithms_of set
      → c.naming ≡ naming_of hashes name realm
      → IsUtf8 c.realm → IsUtf8 c.nonce → IsUtf8 name → IsAsked state page
      → IsRequest c (reading_of page.bytes)
  pub stale : (s : Sight) (p : PlaceSeen) (page : Page) → s.place ≡ Some p
      → IsUtf8 s.registered.realm → IsUtf8 p.nonce
      → IsTold s page → IsFailure STALE_NONCE s.registered.realm p.nonce (reading_of page.bytes)
  pub success : (id : ℕ) (s : Sight) (p : PlaceSeen) (c : ClientSeen) (key : List ℕ) (page : Page)
      → s.place ≡ Some p → p.client ≡ Some c
      → key_at s.registered c.name c.algorithm ≡ Some key → IsUtf8 s.registered.realm
      → IsUtf8 p.nonce
      → server_response (success id) s ≡ Ok page → IsSuccess c.algorithm key (reading_of page.bytes)
  pub answered : (s : Sight) (p : PlaceSeen) (c : ClientSeen) (key : List ℕ) (page : Page)
      → s.place ≡ Some p → p.client ≡ Some c
      → key_at s.registered c.name c.algorithm ≡ Some key → IsUtf8 s.registered.realm
      → IsUtf8 p.nonce
      → IsAnswered s page → IsResponse c.algorithm key (reading_of page.bytes)

-- each message of a run can be signed with what is small, and nonces are short
pub record SigningSucceeds : Type 0 where
  pub request : (id : ℕ) (state : ClientState) → IsSmall (added_by_client true state)
      → IsOk (client_request id state)
  pub challenge : (id : ℕ) (s : Sight) (a : Added) → added_by_server s true ≡ Some a → IsSmall a
      → IsOk (server_response (failure UNAUTHORIZED id) s)
  pub success : (id : ℕ) (s : Sight) (a : Added) → added_by_server s true ≡ Some a → IsSmall a
      → IsOk (server_response (success id) s)
  pub short : (set : AlgorithmSet) (f : Feature) (words : List ℕ)
      → length (nonce_of set f words) ≤ 13 + length words
