-- The statements of the laws over the settings of servers and clients.
use Rattle.std.specs.Prelude.{◌≡◌, ◌≢◌, ◌≤◌, ◌⊎◌, ℕ, List, true, length}
use Rattle.std.specs.Prelude.{Option, Some, None, replicate}
use Rattle.std.specs.Str.{is_utf8}
use Rattle.std.specs.declared.net.socket_addr.SocketAddr.{SocketAddr}
use Rattle.stun_agent.specs.Timing.{default_settings}
use Rattle.stun_judging.specs.declared.algorithm_set.AlgorithmSet.{AlgorithmSet}
use Rattle.stun_judging.specs.declared.algorithm_set.AlgorithmSet.TheVariants.{OnlySha1}
use Rattle.stun_judging.specs.declared.algorithm_set.AlgorithmSet.TheVariants.{OnlySha256, Both}
use Rattle.stun_judging.specs.declared.feature.Feature.{Feature}
use Rattle.stun_judging.specs.declared.feature.Feature.TheVariants.{Auto, Disabled, Required}
use Rattle.stun_base.specs.declared.keys.algorithm.IntegrityAlgorithm.{IntegrityAlgorithm}
use Rattle.stun_base.specs.declared.keys.algorithm.IntegrityAlgorithm.TheVariants.{Sha1, Sha256}
use Rattle.stun_client.specs.Judging.{Identity, long_term, short_term, unsigned}
use Rattle.stun_client_calls.specs.Clients.{Client as ClientSeen}
use Rattle.stun_endpoint.specs.Responding.{Responding}
use Rattle.stun_endpoint.specs.Settings.{Settings}
use Rattle.stun_c_endpoint.specs.ClientsGiven.{ClientGiven}
use Rattle.stun_c_endpoint.specs.Given.{Given, GivenAlone}
use Rattle.stun_c_endpoint.specs.declared.client.settings.ClientOptions.{ClientOptions}

-- ---- servers

-- the algorithms of a number, as `include/stunp_endpoint.h` has them
abbrev pub AreNumbered : ℕ → AlgorithmSet → Type 0
AreNumbered number OnlySha1 = number ≡ 1
AreNumbered number OnlySha256 = number ≡ 2
AreNumbered number Both = (number ≡ 0) ⊎ (number ≡ 3)

-- 32 bytes that may be random: they are not one byte that is repeated
abbrev pub IsDrawn : List ℕ → Type 0
IsDrawn secret = (byte : ℕ) → secret ≢ replicate 32 byte

-- the bytes of the secret that was in use before, if there was one, may be random too, and are
-- others
abbrev pub IsPrevious : List ℕ → Option (List ℕ) → Type 0
IsPrevious secret None = Unit {0}
IsPrevious secret (Some previous) = IsDrawn previous × (previous ≢ secret)

-- a text of SOFTWARE, or none if there are no bytes
abbrev pub IsTextPassed : List ℕ → Option (List ℕ) → Type 0
IsTextPassed text kept =
    ((length text ≡ 0) × (kept ≡ None)) ⊎ ((length text ≢ 0) × (kept ≡ Some text))

-- a server has the settings that were passed, and they are safe: its secret may be random, its
-- nonces last at least 30 seconds and at most 30 days, and its realm is not empty
pub record IsServerOf (g : Given) (s : Settings) : Type 0 where
  pub realm : s.realm ≡ g.realm
  pub algorithms : AreNumbered g.algorithms s.algorithms
  pub hashed : g.anonymous_username ≢ 2 → s.feature ≡ Auto
  pub never_hashed : g.anonymous_username ≡ 2 → s.feature ≡ Disabled
  pub secret : s.secret ≡ g.secret
  pub drawn : IsDrawn g.secret
  pub previous : s.previous ≡ g.previous_secret
  pub other : IsPrevious g.secret g.previous_secret
  pub hour : g.nonce_seconds ≡ 0 → s.lifetime ≡ 3600
  pub lifetime : g.nonce_seconds ≢ 0 → s.lifetime ≡ g.nonce_seconds
  pub least : 30 ≤ s.lifetime
  pub most : s.lifetime ≤ 2592000
  pub software : IsTextPassed g.software s.software
  pub answers_binding : s.answers_binding ≡ g.answers_binding
  pub requires_fingerprint : s.requires_fingerprint ≡ g.requires_fingerprint
  pub text : is_utf8 g.realm ≡ true
  pub some : length g.realm ≢ 0
  pub short : length g.realm ≤ 763

-- a server without a realm has the settings that were passed
pub record IsAloneOf (g : GivenAlone) (s : Responding) : Type 0 where
  pub software : IsTextPassed g.software s.software
  pub answers_binding : s.answers_binding ≡ g.answers_binding
  pub requires_fingerprint : s.requires_fingerprint ≡ g.requires_fingerprint
  pub text : is_utf8 g.software ≡ true
  pub short : length g.software ≤ 763

-- ---- clients

-- the algorithm of short-term credentials: HMAC-SHA256 for the number 2, and otherwise HMAC-SHA1
abbrev pub IsAlgorithm : ℕ → IntegrityAlgorithm → Type 0
IsAlgorithm number Sha1 = number ≢ 2
IsAlgorithm number Sha256 = number ≡ 2

-- when the user name is sent as a hash: if the server allows it, always for the number 1, or never
-- for the number 2
abbrev pub IsFeature : ℕ → Feature → Type 0
IsFeature number Auto = (number ≢ 1) × (number ≢ 2)
IsFeature number Required = number ≡ 1
IsFeature number Disabled = number ≡ 2

-- a client proves who it is with what was passed: not at all without a name, and otherwise as this
-- user with the credentials and the algorithms of these numbers
abbrev pub IsIdentity : List ℕ → List ℕ → ClientOptions → Identity → Type 0
IsIdentity name password o unsigned = (length name ≡ 0) × (length password ≡ 0)
IsIdentity name password o (short_term user secret algorithm) =
    (length name ≢ 0) × (length password ≢ 0) × (o.credentials ≡ 1) × (user ≡ name)
    × (secret ≡ password) × IsAlgorithm o.algorithms algorithm
IsIdentity name password o (long_term user p accepts_unsigned) =
    (length name ≢ 0) × (length password ≢ 0) × (o.credentials ≢ 1) × (user.username ≡ name)
    × (user.password ≡ password) × (accepts_unsigned ≡ o.accepts_unsigned)
    × AreNumbered o.algorithms p.algorithms × IsFeature o.anonymous_username p.anonymous_username

-- a number that is passed, or its default for 0
abbrev pub IsOr : ℕ → ℕ → ℕ → Type 0
IsOr default passed number =
    ((passed ≡ 0) × (number ≡ default)) ⊎ ((passed ≢ 0) × (number ≡ passed))

-- a client of the server at an address has the settings that were passed: the seed of its
-- transaction IDs may be random, and it has no requests yet
pub record IsClientOf (g : ClientGiven) (server : SocketAddr) (c : ClientSeen) : Type 0 where
  pub server_is : c.server ≡ server
  pub seed : c.seed ≡ g.seed
  pub drawn : IsDrawn g.seed
  pub first : c.next_id ≡ 0
  pub identity : IsIdentity g.name g.password g.options c.identity
  pub requires_fingerprint : c.requires_fingerprint ≡ g.options.requires_fingerprint
  pub has_fingerprint : c.form.has_fingerprint ≡ g.options.has_fingerprint
  pub software : IsTextPassed g.software c.form.software
  pub challenges : IsOr 6 g.options.challenges c.turns
  pub initial : IsOr default_settings.initial g.options.initial c.plan.initial
  pub longest : IsOr 18446744073709551615 g.options.longest c.plan.maximum
  pub transmissions : IsOr default_settings.transmissions g.options.transmissions
      c.plan.transmissions
  pub last : IsOr default_settings.last_wait g.options.last c.plan.last_wait
