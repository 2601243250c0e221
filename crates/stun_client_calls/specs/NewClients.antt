-- A new client with long-term credentials (RFC 8489, section 9.2).
use Rattle.std.specs.Prelude.{ℕ, Bool, List}
use Rattle.std.specs.declared.net.socket_addr.SocketAddr.{SocketAddr}
use Rattle.stun_base.specs.Credentials.{NameAndPassword}
use Rattle.stun_base.specs.declared.wire.attribute_type.AttributeType.{AttributeType}
use Rattle.stun_base.specs.declared.wire.transport.TransportType.{TransportType}
use Rattle.stun_agent.specs.Timing.{Settings}
use Rattle.stun_client.specs.Judging.{long_term}
use Rattle.stun_client.specs.declared.preferences.Preferences.{Preferences}
use Rattle.stun_client_endpoint.specs.Written.{Form}
use Rattle.stun_client_calls.specs.Clients.{Client, new_client}

-- the parts of a client with long-term credentials
pub record NewClient : Type 0 where
  pub transport : TransportType
  pub server : SocketAddr
  pub counts : Bool
  pub requires_fingerprint : Bool
  pub who : NameAndPassword
  pub preferences : Preferences
  pub accepts_unsigned : Bool
  pub form : Form
  pub understood : List AttributeType
  pub turns : ℕ
  pub plan : Settings
  pub seed : List ℕ

-- the client that has no requests yet
abbrev pub made_of : NewClient → Client
made_of n =
    new_client n.transport n.server n.counts n.requires_fingerprint
    (long_term n.who n.preferences n.accepts_unsigned) n.form n.understood n.turns n.plan n.seed
