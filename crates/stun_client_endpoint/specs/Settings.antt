-- The settings of a client: why no client can be created from some, since each of its requests
-- would be refused; and how long the plan of a request lasts (RFC 8489, section 6.2).
use Rattle.std.specs.Prelude.{ℕ, Bool, true, false, List, length, nat_lt, if◌then◌else◌, Option, Some, None}
use Rattle.stun_base.specs.declared.wire.transport.TransportType.{TransportType}
use Rattle.stun_base.specs.declared.wire.transport.TransportType.TheVariants.{Tcp, Udp}
use Rattle.stun_agent.specs.Timing.{Settings, final_wait}
use Rattle.stun_types.specs.Limits.{TEXT_LIMIT, USERNAME_LIMIT}
use Rattle.stun_client_endpoint.specs.declared.settings.SettingsError.{SettingsError}
use Rattle.stun_client_endpoint.specs.declared.settings.SettingsError.TheVariants.{NameTooLong}
use Rattle.stun_client_endpoint.specs.declared.settings.SettingsError.TheVariants.{SoftwareTooLong}

-- what is wrong with a user name and the text of SOFTWARE: the first reason that applies. Both must
-- fit into their attributes (RFC 8489, sections 14.3 and 14.14)
abbrev pub settings_refusal : List ℕ → List ℕ → Option SettingsError
settings_refusal name software =
    if nat_lt USERNAME_LIMIT (length name) then Some NameTooLong
    else if nat_lt TEXT_LIMIT (length software) then Some SoftwareTooLong
    else None

-- how long a message is sent and awaited if nobody answers it: all its timeouts, and the wait after
-- the last transmission (section 6.2.1). Over a reliable transport it is awaited as long (section
-- 6.2.2)
abbrev pub plan_of : Settings → ℕ
plan_of settings = final_wait Tcp settings

-- whether nothing is retransmitted over a transport
abbrev pub is_reliable : TransportType → Bool
is_reliable Udp = false
is_reliable Tcp = true
