-- Which bytes are sent: for every sequence of calls, those of the request that was started (RFC
-- 8489, sections 6.1, 6.2.1 and 9.2.5).
use Rattle.std.specs.Prelude.{◌≡◌, ◌<◌, ℕ, List, Option, None, Some, Ok}
use Rattle.std.specs.declared.net.socket_addr.SocketAddr.{SocketAddr}
use Rattle.stun_base.specs.Header.{transaction_id_field, type_field}
use Rattle.stun_base.specs.MessageType.{type_number}
use Rattle.stun_base.specs.declared.wire.message_type.MessageClass.TheVariants.{Request}
use Rattle.stun_agent.specs.Transactions.{Transaction, at as transaction_at}
use Rattle.stun_client.specs.Ids.{id_of}
use Rattle.stun_client.specs.Judging.{Identity}
use Rattle.stun_client_endpoint.specs.Bodies.{Body}
use Rattle.stun_client_endpoint.specs.Written.{Form, request_bytes}
use Rattle.stun_client_requests.specs.Numbers.{id_at}
use Rattle.stun_client_requests.specs.Requests.{bytes_at, datum_of}
use Rattle.stun_client_calls.specs.Clients.{Client, refusal_to_start, started, told, transmit}
use Rattle.stun_client_calls.specs.Messages.{AskedSeen}
use Rattle.stun_client_calls.specs.Options.{Options, identity_by}
use Rattle.stun_client_calls.specs.Runs.{Calls, Event, next_number}
use Rattle.stun_client_runs.specs.Kept.{IsClient}

-- a request that was started: its number, its method, its body and its options, and the parts of
-- its client: the address of the server, what each request has besides its body, the identity of
-- the client, and the seed of its transaction IDs
pub record Asking : Type 0 where
  pub server : SocketAddr
  pub form : Form
  pub identity : Identity
  pub seed : List ℕ
  pub number : ℕ
  pub method : ℕ
  pub body : Body
  pub options : Option Options

-- the request that a client starts next
abbrev pub asking : Client → ℕ → Body → Option Options → Asking
asking c method body options = record {
  server = c.server;
  form = c.form;
  identity = c.identity;
  seed = c.seed;
  number = next_number c;
  method = method;
  body = body;
  options = options;
}

-- what is stored of an outstanding request is as it was started: its method, its body and its
-- options. Its current message has a transaction ID that is derived from the seed. `bytes_of`
-- returns the bytes of a request with its method, this ID and its body, written with the identity
-- of the client for this request with its options, and signed for the challenge that is stored with
-- it. Their header has this method and this ID, and they are what the table has sent to the server
-- and retransmits
pub record IsSentAs (s : Asking) (a : AskedSeen) (c : Client) : Type 0 where
  pub method : a.method ≡ s.method
  pub body : a.body ≡ s.body
  pub options : a.options ≡ s.options
  pub id : ℕ
  pub id_number : ℕ
  pub derived : id ≡ id_of s.seed id_number
  pub current : id_at s.number c.requests.numbers ≡ Some id
  pub bytes : List ℕ
  pub there : bytes_at s.number c.requests ≡ Some bytes
  pub written : request_bytes s.form (identity_by s.options s.identity) a.signed_for s.method id
      s.body
      ≡ Ok bytes
  pub kind : type_field bytes ≡ type_number Request s.method
  pub named : transaction_id_field bytes ≡ id
  pub transaction : Transaction
  pub sent : transaction_at id c.requests.table.requests ≡ Some transaction
  pub to : transaction.to ≡ s.server
  pub same : transaction.bytes ≡ bytes

-- a request is outstanding, and has these bytes
pub record HasItsBytes (s : Asking) (c : Client) : Type 0 where
  pub asked : AskedSeen
  pub there : datum_of s.number c.requests ≡ Some asked
  pub sent : IsSentAs s asked c

-- a request is started with any options, and a sequence of calls follows. As long as it is
-- outstanding, its bytes are those that it was started for. A method has 12 bits
abbrev pub KeepsItsBytes : Type 0
KeepsItsBytes = (c later : Client) (between : List Event) (method : ℕ) (body : Body)
    (options : Option Options) (now : ℕ) (a : AskedSeen) → IsClient c → method < 4096
    → refusal_to_start c method body options ≡ None
    → Calls (started method body options now c) between later
    → datum_of (next_number c) later.requests ≡ Some a
    → IsSentAs (asking c method body options) a later

-- and once a poll says to send it, it is outstanding
abbrev pub SendsItsBytes : Type 0
SendsItsBytes = (c later last : Client) (between : List Event) (method : ℕ) (body : Body)
    (options : Option Options) (start now : ℕ) → IsClient c → method < 4096
    → refusal_to_start c method body options ≡ None
    → Calls (started method body options start c) between later
    → told now later ≡ (transmit (next_number c), last)
    → HasItsBytes (asking c method body options) last
