-- How a single request is sent, and which address answers it, if that differs from its client (RFC
-- 8489, sections 6.2.1, 6.3 and 9, and RFC 5780, section 3.2).
use Rattle.std.specs.Prelude.{ℕ, ◌-◌, Bool, if◌then◌else◌, Option, Some, None}
use Rattle.std.specs.declared.net.socket_addr.SocketAddr.{SocketAddr}
use Rattle.stun_agent.specs.Timing.{Settings, settings_of}
use Rattle.stun_client.specs.Challenges.{Answered}
use Rattle.stun_client.specs.Judging.{Identity, unsigned}
use Rattle.stun_client_calls.specs.declared.options.HandedOut.{HandedOut}
use Rattle.stun_client_calls.specs.declared.options.HandedOut.TheVariants.{Again, Never, Once}
use Rattle.stun_client_calls.specs.declared.options.RequestOptions.{RequestOptions}

-- whether a request is signed, and its responses are verified, with the credentials of its client;
-- the plan of each of its messages; and the address that its responses come from
pub record Options : Type 0 where
  pub is_signed : Bool
  pub plan : Settings
  pub from : SocketAddr

-- the options of a request that a caller has passed
abbrev pub options_of : RequestOptions → Options
options_of o = record { is_signed = o.is_signed; plan = settings_of o.timeouts; from = o.from }

-- the identity of a client for a request: nobody, if the request is not signed
abbrev pub identity_by : Option Options → Identity → Identity
identity_by None identity = identity
identity_by (Some o) identity = if o.is_signed then identity else unsigned

-- the challenge that a new request is signed for: the standing one, or none
abbrev pub challenge_by : Option Options → Option Answered → Option Answered
challenge_by None standing = standing
challenge_by (Some o) standing = if o.is_signed then standing else None

-- the plan of each message of a request: its own, or that of its client
abbrev pub plan_by : Option Options → Settings → Settings
plan_by None plan = plan
plan_by (Some o) plan = o.plan

-- the address that the responses to a request come from: its own, or that of the server
abbrev pub address_by : Option Options → SocketAddr → SocketAddr
address_by None server = server
address_by (Some o) server = o.from

-- ---- the round trip

-- how often the bytes of a message were returned, after they are returned at a time
abbrev pub handed_out_at : ℕ → HandedOut → HandedOut
handed_out_at now Never = Once now
handed_out_at now (Once before) = Again
handed_out_at now Again = Again

-- the time between a message and its response. If a message was retransmitted, it is not known
-- which transmission the response answers (section 6.2.1, and RFC 6298, section 3)
abbrev pub round_trip : ℕ → HandedOut → Option ℕ
round_trip now Never = None
round_trip now (Once before) = Some (now - before)
round_trip now Again = None
