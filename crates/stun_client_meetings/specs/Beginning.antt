-- A new client and a server meet: the premises of a meeting hold for them, and there are such a
-- client and server.
use Rattle.std.specs.Prelude.{◌≡◌, ◌≢◌, ◌≤◌, ◌<◌, ℕ, Bool, true, false, List, [], ◌∷◌, length}
use Rattle.std.specs.Prelude.{Option, Some, None, if◌then◌else◌, replicate}
use Rattle.std.specs.Option.{IfSome}
use Rattle.std.specs.declared.net.socket_addr.SocketAddr.{SocketAddr}
use Rattle.stun_base.specs.Moments.{moment_after}
use Rattle.stun_base.specs.declared.keys.algorithm.IntegrityAlgorithm.{IntegrityAlgorithm}
use Rattle.stun_base.specs.declared.keys.algorithm.IntegrityAlgorithm.TheVariants.{Sha256}
use Rattle.stun_base.specs.declared.wire.transport.TransportType.TheVariants.{Udp}
use Rattle.stun_types.specs.Limits.{TEXT_LIMIT}
use Rattle.stun_agent.specs.Timing.{default_settings}
use Rattle.stun_judging.specs.Registered.{Registered}
use Rattle.stun_judging.specs.Signed.{plain_name}
use Rattle.stun_judging.specs.declared.feature.Feature.TheVariants.{Disabled}
use Rattle.stun_client.specs.Ids.{id_of}
use Rattle.stun_client_endpoint.specs.Bodies.{Body, with_value}
use Rattle.stun_client_endpoint.specs.Settings.{plan_of}
use Rattle.stun_client_calls.specs.Clients.{refusal_to_start, started}
use Rattle.stun_client_calls.specs.NewClients.{NewClient, made_of}
use Rattle.stun_client_calls.specs.Options.{Options, plan_by}
use Rattle.stun_client_calls.specs.Receiving.{Memory}
use Rattle.stun_endpoint.specs.Nonces.{current_nonce}
use Rattle.stun_endpoint.specs.Received.{answered, challenge_answer, received_for}
use Rattle.stun_endpoint.specs.Settings.{Settings}
use Rattle.stun_endpoint.specs.declared.received.Refusal.TheVariants.{Unauthenticated}
use Rattle.stun_exchanges.specs.Exchange.{IsWithinPeriod}
use Rattle.stun_exchanges.specs.Instance.{example_preferences, example_settings, example_user}
use Rattle.stun_exchanges.specs.Instance.{example_users}
use Rattle.stun_requests.specs.Fitting.{IsBuiltBody}
use Rattle.stun_client_meetings.specs.Meeting.{CanMeet, ClientSide, IsAcceptedAs, IsSentAgain}
use Rattle.stun_client_meetings.specs.Meeting.{IsMeetable, IsSignedFor, challenge_at}

-- ---- a new client

-- the parts of a new client that matter in a meeting
abbrev pub side_of : NewClient → ClientSide
side_of n = record {
  server = n.server;
  who = n.who;
  preferences = n.preferences;
  accepts_unsigned = n.accepts_unsigned;
  form = n.form;
  requires_fingerprint = n.requires_fingerprint;
}

-- it can meet a server: another message of its requests may become the current one at least once,
-- SOFTWARE fits, and its first two transaction IDs differ
pub record CanBegin (s : Settings) (users : Registered) (n : NewClient) (a : IntegrityAlgorithm)
    : Type 0 where
  pub meet : CanMeet s users (side_of n) a
  pub turns : 0 < n.turns
  pub software : IfSome n.form.software (λ text. length text ≤ TEXT_LIMIT)
  pub another : id_of n.seed 1 ≢ id_of n.seed 0

-- it starts a request with these options, which the server challenges. The challenge arrives, and
-- the server accepts the request that the client sends for it, while the nonce lasts
pub record AreIntroduced (s : Settings) (users : Registered) (from : SocketAddr) (n : NewClient)
    (a : IntegrityAlgorithm) (method : ℕ) (body : Body) (options : Option Options)
    (start time now : ℕ) (memory : Memory) : Type 0 where
  pub starts : refusal_to_start (made_of n) method body options ≡ None
  pub first : List ℕ
  pub unsigned : IsSignedFor 0 None (started method body options start (made_of n)) first
  pub challenged : received_for s (Some users) from time first
      ≡ answered (challenge_answer s Unauthenticated (current_nonce s from time) from first)
  pub renewed : IsSentAgain (side_of n) (started method body options start (made_of n)) 0
      (challenge_at s (side_of n) a from time) (started method body options start (made_of n))
      (challenge_answer s Unauthenticated (current_nonce s from time) from first).bytes now memory
  pub accepted : (later : ℕ) → IsWithinPeriod s time later
      → IsAcceptedAs s users from later renewed.bytes n.who.username a

-- whatever the times and the plan of the request are, if it is signed, the server answers it, and
-- the challenge arrives within this plan
abbrev pub NewClientsMeetServers : Type 0
NewClientsMeetServers =
    (s : Settings) (users : Registered) (from : SocketAddr) (n : NewClient)
    (a : IntegrityAlgorithm) (method : ℕ) (body : Body) (options : Option Options)
    (start time now : ℕ) (memory : Memory) → CanBegin s users n a → IsMeetable (side_of n) options
    → method < 4096 → IsBuiltBody body
    → now ≤ moment_after start (plan_of (plan_by options n.plan))
    → AreIntroduced s users from n a method body options start time now memory

-- ---- there are such a client and server

-- a server with both algorithms and one user, which accepts hashes of names or does not
abbrev pub example_server : Bool → List ℕ → Settings
example_server true secret = example_settings secret
example_server false secret = record (example_settings secret) { feature = Disabled }

-- the client of this user over UDP, which sends FINGERPRINT
abbrev pub example_client : SocketAddr → NewClient
example_client server = record {
  transport = Udp;
  server = server;
  counts = false;
  requires_fingerprint = false;
  who = example_user;
  preferences = example_preferences;
  accepts_unsigned = false;
  form = record { software = None; has_fingerprint = true };
  understood = [];
  turns = 6;
  plan = default_settings;
  seed = replicate 32 0;
}

-- a Binding request (RFC 8489, section 18.2), and an Allocate request with REQUESTED-TRANSPORT for
-- UDP (RFC 8656, section 18.7)
abbrev pub allocate_body : Body
allocate_body = with_value (record { kind = 0x0019; value = 17 ∷ 0 ∷ 0 ∷ 0 ∷ [] }) ∷ []

-- they meet by requests without options, with HMAC-SHA256, whatever the secret, the addresses and
-- the times are. The user is named by a hash, or in clear
pub record AreExamples (hashes : Bool) (secret : List ℕ) (from server : SocketAddr)
    (start time now : ℕ) (memory : Memory) : Type 0 where
  pub binding : AreIntroduced (example_server hashes secret) example_users from
      (example_client server) Sha256 1 [] None start time now memory
  pub allocate : AreIntroduced (example_server hashes secret) example_users from
      (example_client server) Sha256 3 allocate_body None start time now memory
  pub named :
      plain_name (challenge_at (example_server hashes secret) (side_of (example_client server))
      Sha256
      from time).challenge.naming
      ≡ (if hashes then None else Some example_user.username)

abbrev pub ThereAreMeetings : Type 0
ThereAreMeetings =
    (hashes : Bool) (secret : List ℕ) (from server : SocketAddr) (start time now : ℕ)
    (memory : Memory)
    → now ≤ moment_after start (plan_of (example_client server).plan)
    → AreExamples hashes secret from server start time now memory
