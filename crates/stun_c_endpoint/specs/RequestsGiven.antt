-- How a caller in C has a single request sent, and which address answers it.
use Rattle.std.specs.Prelude.{ℕ, not, ◌==◌, if◌then◌else◌, Option, Some, None, Result, Ok, Err}
use Rattle.std.specs.declared.net.socket_addr.SocketAddr.{SocketAddr}
use Rattle.stun_agent.specs.Timing.{Settings}
use Rattle.stun_client_calls.specs.Clients.{Client as ClientSeen}
use Rattle.stun_client_calls.specs.Options.{Options}
use Rattle.stun_handles.specs.Addresses.{socket_address}
use Rattle.stun_handles.specs.declared.address.Address.{Address}
use Rattle.stun_numbers.specs.declared.refusal.Refusal.{Refusal}
use Rattle.stun_numbers.specs.declared.refusal.Refusal.TheVariants.{BadArgument}
use Rattle.stun_c_endpoint.specs.ClientsGiven.{or_else}
use Rattle.stun_c_endpoint.specs.declared.client.options.RequestOptions.{RequestOptions}

-- the number of bytes of a caller's options, with which they begin
abbrev pub OPTIONS_SIZE : ℕ
OPTIONS_SIZE = 64

-- the plan of each message. A number that is 0 is the client's
abbrev pub plan_given : RequestOptions → Settings → Settings
plan_given o plan = record {
  initial = or_else o.initial plan.initial;
  maximum = or_else o.longest plan.maximum;
  transmissions = or_else o.transmissions plan.transmissions;
  last_wait = or_else o.last plan.last_wait;
}

-- the address that the responses come from. One without octets is the server's
abbrev pub source_given : Address → SocketAddr → Option SocketAddr
source_given a server = if a.length == 0 then Some server else socket_address a

abbrev pub options_from : RequestOptions → ClientSeen → Option SocketAddr → Result Options Refusal
options_from o c None = Err BadArgument
options_from o c (Some from) = Ok (record {
  is_signed = not o.is_unsigned;
  plan = plan_given o c.plan;
  from = from;
})

-- the options, for a request of a client. A struct of another size fails, and so does an address
-- that is not one
abbrev pub options_given : RequestOptions → ClientSeen → Result Options Refusal
options_given o c =
    if o.size == OPTIONS_SIZE then options_from o c (source_given o.from c.server)
    else Err BadArgument

abbrev pub some_options : Result Options Refusal → Result (Option Options) Refusal
some_options (Err refusal) = Err refusal
some_options (Ok options) = Ok (Some options)

-- a caller passes options, or none
abbrev pub options_if_any : Option RequestOptions → ClientSeen → Result (Option Options) Refusal
options_if_any None c = Ok None
options_if_any (Some o) c = some_options (options_given o c)
