-- The client that a caller in C creates.
use Rattle.std.specs.Prelude.{◌≡◌, ℕ, ℤ, List, ◌++◌, Bool, true, false, ◌&&◌, ◌||◌, ◌==◌, not}
use Rattle.std.specs.Prelude.{length, nat_lt, if◌then◌else◌, Option, Some, None}
use Rattle.std.specs.Str.{is_utf8}
use Rattle.std.specs.declared.net.socket_addr.SocketAddr.{SocketAddr}
use Rattle.stun_base.specs.declared.keys.algorithm.IntegrityAlgorithm.{IntegrityAlgorithm}
use Rattle.stun_base.specs.declared.keys.algorithm.IntegrityAlgorithm.TheVariants.{Sha1, Sha256}
use Rattle.stun_base.specs.declared.wire.transport.TransportType.{TransportType}
use Rattle.stun_base.specs.declared.wire.transport.TransportType.TheVariants.{Tcp, Udp}
use Rattle.stun_judging.specs.declared.feature.Feature.{Feature}
use Rattle.stun_judging.specs.declared.feature.Feature.TheVariants.{Auto, Disabled, Required}
use Rattle.stun_agent.specs.Timing.{Settings}
use Rattle.stun_client.specs.Judging.{Identity, long_term, short_term, unsigned}
use Rattle.stun_client.specs.declared.preferences.Preferences.{Preferences}
use Rattle.stun_client_calls.specs.Clients.{Client as ClientSeen, new_client}
use Rattle.stun_extra.specs.Unknown.{types_of}
use Rattle.stun_types.specs.Limits.{TEXT_LIMIT, USERNAME_LIMIT}
use Rattle.stun_handles.specs.Addresses.{socket_address}
use Rattle.stun_handles.specs.declared.address.Address.{Address}
use Rattle.stun_numbers.specs.Refusals.{refusal_number}
use Rattle.stun_numbers.specs.declared.refusal.Refusal.{Refusal}
use Rattle.stun_numbers.specs.declared.refusal.Refusal.TheVariants.{BadArgument, NotText}
use Rattle.stun_numbers.specs.declared.refusal.Refusal.TheVariants.{TextTooLong}
use Rattle.stun_c_endpoint.specs.Given.{Makes, algorithms_given, if_any, is_repeated}
use Rattle.stun_c_endpoint.specs.declared.client.settings.ClientOptions.{ClientOptions}
use Rattle.stun_c_endpoint.specs.declared.client.settings.TheConstants.{UNDERSTOOD}
use Rattle.stun_c_endpoint.specs.declared.handle.endpoint.Kept.{Kept}
use Rattle.stun_c_endpoint.specs.declared.handle.endpoint.Kept.TheVariants.{Client}

-- the arguments of a caller: the addresses, texts and keys as bytes, types as numbers
pub record ClientGiven : Type 0 where
  pub server : Address
  pub seed : List ℕ
  pub name : List ℕ
  pub password : List ℕ
  pub software : List ℕ
  pub understood : List ℕ
  pub options : ClientOptions

-- a number, or its default if it is 0
abbrev pub or_else : ℕ → ℕ → ℕ
or_else number default = if number == 0 then default else number

-- ---- the user

-- whether there is a user
abbrev pub has_user : List ℕ → Bool
has_user name = not (length name == 0)

-- whether the user name is sent as a hash
abbrev pub feature_given : ℕ → Feature
feature_given number =
    if number == 1 then Required else if number == 2 then Disabled else Auto

abbrev pub preferences_given : ClientOptions → Preferences
preferences_given o = record {
  algorithms = algorithms_given o.algorithms;
  anonymous_username = feature_given o.anonymous_username;
}

-- the algorithm of short-term credentials: HMAC-SHA1, unless the other one is passed
abbrev pub algorithm_given : ℕ → IntegrityAlgorithm
algorithm_given number = if number == 2 then Sha256 else Sha1

abbrev pub long_term_given : List ℕ → List ℕ → ClientOptions → Identity
long_term_given name password o =
    long_term (record { username = name; password = password }) (preferences_given o)
    o.accepts_unsigned

-- how the client proves who it is
abbrev pub identity_given : List ℕ → List ℕ → ClientOptions → Identity
identity_given name password o =
    if not (has_user name) then unsigned
    else if o.credentials == 1 then short_term name password (algorithm_given o.algorithms)
    else long_term_given name password o

-- whether a number is out of range
abbrev pub is_out_of_range : Bool → ClientOptions → Bool
is_out_of_range user o =
    nat_lt 3 o.algorithms || (nat_lt 2 o.anonymous_username
    || (user && nat_lt 1 o.credentials
    || user && (o.credentials == 1) && (o.algorithms == 3)))

-- whether there is a name without a password, or a password without a name
abbrev pub is_half_user : List ℕ → List ℕ → Bool
is_half_user name password =
    if has_user name then length password == 0 else not (length password == 0)

-- ---- the timers

abbrev pub transport_given : Bool → TransportType
transport_given true = Tcp
transport_given false = Udp

-- when a request is retransmitted, and when it ends: by default as in RFC 8489, section 6.2.1
abbrev pub timeouts_given : ClientOptions → Settings
timeouts_given o = record {
  initial = or_else o.initial 500000000;
  maximum = or_else o.longest 18446744073709551615;
  transmissions = or_else o.transmissions 7;
  last_wait = or_else o.last 8000000000;
}

-- ---- the client

-- why no client is created at an address: the first reason that applies
unfoldable pub client_refusal : ClientGiven → Option Refusal
client_refusal g =
    if is_out_of_range (has_user g.name) g.options
    || (is_half_user g.name g.password || is_repeated g.seed)
    then Some BadArgument
    else if not (is_utf8 g.name && is_utf8 g.password && is_utf8 g.software) then Some NotText
    else if nat_lt USERNAME_LIMIT (length g.name) || nat_lt TEXT_LIMIT (length g.software)
    then Some TextTooLong
    else None

-- the client that is created from these arguments, of the server at an address. It keeps no
-- statistics
abbrev pub client_given : ClientGiven → SocketAddr → ClientSeen
client_given g server =
    new_client (transport_given g.options.is_stream) server false g.options.requires_fingerprint
    (identity_given g.name g.password g.options)
    (record { software = if_any g.software; has_fingerprint = g.options.has_fingerprint })
    (types_of g.understood ++ UNDERSTOOD) (or_else g.options.challenges 6) (timeouts_given g.options)
    g.seed

-- an address that is not one fails first
abbrev pub MakesAt : Option SocketAddr → ClientGiven → ℤ → Option Kept → Type 0
MakesAt None g result now = (result ≡ refusal_number BadArgument) × (now ≡ None)
MakesAt (Some server) g result now =
    Makes (client_refusal g) (Client (client_given g server)) result now

-- a call creates the client from these arguments in an empty handle and returns 0, or returns the
-- first error; or an allocation failed
abbrev pub MakesClient : ClientGiven → ℤ → Option Kept → Type 0
MakesClient g result now = MakesAt (socket_address g.server) g result now
