-- The three sentences of this library, which are about whole runs of calls. Each of them is a
-- definition that an `ensures` clause of a public call cites. The comment on the definition names
-- this call and its clause, and the check of the call proves the sentence. Words.antt says where
-- each word is defined.
use Rattle.std.specs.FinMap as map
use Rattle.std.specs.Prelude.{◌≡◌, ◌≤◌, ◌+◌, ◌-◌, ◌↔◌, ◌⊎◌, ◌∷◌, ◌++◌}
use Rattle.stun_auth.specs.declared.server.reason.LongTermServerValidation.TheVariants as Served
use Rattle.stun_proto.specs.Serving as Serving
use Rattle.stun_proto.specs.Words.{ℕ, false, List, filter, length, slice_get, take, Some, None}
use Rattle.stun_proto.specs.Words.{AllByRecursion, IsSome, Vec, SocketAddr, Result, Ok, Err, digest}
use Rattle.stun_proto.specs.Words.{NameAndPassword, HEADER_LENGTH, header_refusal}
use Rattle.stun_proto.specs.Words.{transaction_id_field, long_term_key, class_in, is_response}
use Rattle.stun_proto.specs.Words.{IntegrityAlgorithm, Request, TypedValue, deciding}
use Rattle.stun_proto.specs.Words.{integrity_algorithm, TEXT_LIMIT, USERNAME_LIMIT, with_length}
use Rattle.stun_proto.specs.Words.{UnsupportedFeature, algorithms_of, Challenge, ClientState}
use Rattle.stun_proto.specs.Words.{authenticated, initial, Reading, verified_under, PlaceSeen}
use Rattle.stun_proto.specs.Words.{Sight, AcceptedWith, Answer, ServerSeen, sight, ServerCall}
use Rattle.stun_proto.specs.Words.{Validate, NegotiateError, Memory, Outcome, Validated}
use Rattle.stun_proto.specs.Words.{ClientRefused, HashIsRefused, IsShared, IsStrongestShared}
use Rattle.stun_proto.specs.Words.{IsReady, own_calls, own_replies, Meeting, Reads}
use Rattle.stun_proto.specs.Words.{sight_by_replies}
use Rattle.stun_proto.specs.Words.{Reply, Agent, planned_end, at, AgentEvent, SendRequest}
use Rattle.stun_proto.specs.Words.{requester, Requester, Asks, IsUndisturbed, plan, steps_until}
use Rattle.stun_proto.specs.Words.{Step}
use Rattle.stun_proto.specs.Words.{is_of}

-- ---- 1. The server (section 9.2.4)

-- One call: `LongTermServerAuth::validate_incoming_message`, clause `accepted`. By the RFC, a
-- server cannot challenge an indication, but this call judges an indication like a request. A
-- request or an indication gets `Validated` if and only if it has all of these:
--
-- - a REALM, of any value;
-- - the NONCE that is current at its address (once that nonce has expired, a new one, which has not
--   been sent to anybody yet);
-- - consistent algorithms, of which the server supports the chosen one;
-- - the digest under the key of the registered user whom it names
abbrev pub ValidatesOneCall : Sight → ℕ → List ℕ → Reading → Answer → Type 0
ValidatesOneCall s now words r given =
    (is_response r.class ≡ false) → (a : IntegrityAlgorithm)
    → (given ≡ Ok (Served.Validated a)) ↔ AcceptedWith s now words r a

-- The digest of a message, byte by byte. One integrity attribute decides: MESSAGE-INTEGRITY-SHA256
-- if it is visible, and otherwise MESSAGE-INTEGRITY. This attribute has the whole HMAC, under this
-- key, of the bytes before it, with the length field of a message that ends after the attribute
-- (sections 14.5 and 14.6)
abbrev pub HoldsDigest : List ℕ → List ℕ → Type 0
HoldsDigest bytes key =
    (place : ℕ) × (attribute : TypedValue) × (deciding bytes ≡ Some (place, attribute))
    × (attribute.value ≡ digest (integrity_algorithm attribute) key
    (with_length (take place bytes) (place + 4 + length attribute.value - HEADER_LENGTH)))

-- Every list of calls: `serve`, clause `headline`, with `read` = `message_read` and `run` =
-- `replies`. The fields `validated` and `digest` say whom the server validates, without citing
-- `replies`
pub record ValidatesEachCall (read : Reads) (run : ServerSeen → List ServerCall → List Reply)
    (start : ServerSeen) (calls : List ServerCall) (given : List Reply) : Type 0 where
  -- the replies are those of the run
  pub replied : given ≡ run start calls
  -- at each index, the same holds as for one call. The nonce, the offer, the users and the settings
  -- are those that earlier calls left, according to their replies. Only the calls for the same
  -- address, and the calls that concern every address, matter
  pub validated : (i : ℕ) (from : SocketAddr) (now : ℕ) (message : Vec ℕ) (words : List ℕ)
      (m : Reading) (a : IntegrityAlgorithm)
      → slice_get calls i ≡ Some (Validate from now message words) → read message.items ≡ Some m
      → is_response m.class ≡ false → (slice_get given i ≡ Some (Serving.Validated a))
      ↔ AcceptedWith (sight_by_replies read from (sight start from) (take i calls) given)
      now words m a
  -- the digest of a message verifies if the message holds it
  pub digest : (bytes key : List ℕ) (m : Reading) → read bytes ≡ Some m
      → IsSome (verified_under m key) ↔ HoldsDigest bytes key
  -- whatever calls are made for other addresses, the replies to an address are those of a run that
  -- has only the address's own calls and the calls that concern every address
  pub isolated : (from : SocketAddr)
      → own_replies from calls given ≡ run start (own_calls from calls)

-- ---- 2. The client (sections 9.2.3 to 9.2.5)

-- A client that has read nothing yet and is ready:
--
-- - it has the credentials of a registered user, and no two registered users have the same hash;
-- - its address is new to the server;
-- - the calls between its messages are for other addresses only;
-- - its second request comes while the nonce is current;
-- - the realm has at most 763 bytes (section 14.9), and its user name at most 513 (section 14.3)
pub record IsReadyClient (state : ClientState) (m : Meeting) (who : NameAndPassword)
    (server : ServerSeen) : Type 0 where
  pub new : state ≡ initial
  pub ready : IsReady m who server
  pub realm_fits : length server.registered.realm ≤ TEXT_LIMIT
  pub name_fits : length who.username ≤ USERNAME_LIMIT

-- both sides know each other. The server has stored this client for its address, with this
-- algorithm. The client has stored the server's realm, the nonce of its address, and its user's key
-- for the algorithm
pub record KnowEachOther (from : SocketAddr) (who : NameAndPassword) (a : IntegrityAlgorithm)
    (client : ClientState) (server : ServerSeen) : Type 0 where
  pub place : PlaceSeen
  pub challenge : Challenge
  pub kept : map.get server.places from ≡ Some place
  pub known : place.client ≡ Some (record { name = who.username; algorithm = a })
  pub state : client ≡ authenticated challenge
  pub algorithm : challenge.algorithm ≡ a
  pub realm : challenge.realm ≡ server.registered.realm
  pub nonce : challenge.nonce ≡ place.nonce
  pub key : challenge.key ≡ long_term_key a who.username server.registered.realm who.password

-- a meeting ends with this outcome and leaves both sides like this, or an allocation failed
abbrev pub EndsWith : Result Outcome NegotiateError → Outcome → Type 0 → Type 0
EndsWith result outcome left = ((result ≡ Ok outcome) × left) ⊎ (result ≡ Err Memory)

-- How the meeting of such a client and a server ends, with nobody in between, and how it leaves
-- both sides. The clause `headline` of `negotiate` says that `IsReadyClient` implies
-- `EndsAtStrongest`
pub record EndsAtStrongest (m : Meeting) (who : NameAndPassword) (server : ServerSeen)
    (result : Result Outcome NegotiateError) (client : ClientState)
    (after : ServerSeen) : Type 0 where
  -- the outcome is `Validated`, with the strongest algorithm that both sides support: the server
  -- has accepted the second request, the client has accepted the success response, and both know
  -- each other
  pub validated : (a : IntegrityAlgorithm)
      → IsStrongestShared m.settings.supported (algorithms_of server.registered.algorithms) a
      → (HashIsRefused m.settings.feature server.feature → ⊥)
      → EndsWith result (Validated a) (KnowEachOther m.from who a client after)
  -- if the sides have no algorithm in common, or if the client must hash its name and the server
  -- accepts no hashes, then the client gives up and stores nothing, and the server knows no client
  -- at the client's address
  pub refused : (HashIsRefused m.settings.feature server.feature
      ⊎ ((a : IntegrityAlgorithm)
      → IsShared m.settings.supported (algorithms_of server.registered.algorithms) a → ⊥))
      → EndsWith result (ClientRefused UnsupportedFeature)
      ((client ≡ initial) × (place : PlaceSeen) × (map.get after.places m.from ≡ Some place)
      × (place.client ≡ None))

-- ---- 3. The agent (sections 6.2.1 and 6.2.2)

-- A request that one event asks for and that is undisturbed:
--
-- - its bytes begin with the header of a request (section 5) and this ID;
-- - the agent may send to its destination;
-- - no request with this ID is outstanding when the run begins, and no other event asks for one;
-- - until its plan ends, no response with this ID comes from its destination, and no call cancels
--   or changes it
pub record IsAskedOnce (a : Requester) (id start : ℕ) (bytes : List ℕ) (to : SocketAddr)
    (earlier later : List (ℕ × AgentEvent)) : Type 0 where
  pub header : header_refusal bytes ≡ None
  pub class : class_in bytes ≡ Request
  pub names : transaction_id_field bytes ≡ id
  -- if the agent may send only to one address, it is this one
  pub goes_there : (peer : SocketAddr) → a.remote_addr ≡ Some peer → to ≡ peer
  pub new : at id a.outstanding ≡ None
  pub not_before : AllByRecursion (λ e. Asks id e.1 → ⊥) earlier
  pub not_again : AllByRecursion (λ e. Asks id e.1 → ⊥) later
  pub undisturbed : IsUndisturbed id to (planned_end a.transport a.settings start) later

-- All steps of such a request are those of its plan, up to and including the time `until`. For each
-- k up to its number of slots, the request is sent at its start plus the sum of its first k
-- timeouts. It is sent at no other time. It times out once, if its plan ends at `until` or before
abbrev pub SendsByPlan : ℕ → Requester → List (ℕ × AgentEvent) → List Step → Type 0
SendsByPlan until a events steps =
    (id start : ℕ) (bytes : Vec ℕ) (to : SocketAddr) (earlier later : List (ℕ × AgentEvent))
    → events ≡ earlier ++ (start, SendRequest bytes to) ∷ later
    → IsAskedOnce a id start bytes.items to earlier later
    → filter (is_of id) steps
    ≡ steps_until until (plan a.transport start a.settings id to bytes.items)

-- `drive`, clause `headline`, with `run` = `IsDriven until`
pub record IsDrivenByPlan (run : Agent → List (ℕ × AgentEvent) → List Step → Agent → Type 0)
    (until : ℕ) (a : Agent) (events : List (ℕ × AgentEvent)) (steps : List Step)
    (after : Agent) : Type 0 where
  -- the returned steps are all that this agent did. The agent received the events, and was polled
  -- at exactly the times that `run` says. `after` is the agent after the run
  pub driven : run a events steps after
  -- the steps of each such request are those of its plan
  pub by_plan : SendsByPlan until (requester a) events steps
