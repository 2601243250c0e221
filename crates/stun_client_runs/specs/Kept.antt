-- What holds for every client, from its creation on, for every sequence of calls (RFC 8489,
-- sections 5, 6.1, 6.2.1 and 9.2.5).
use Rattle.std.specs.Prelude.{◌≡◌, ℕ, Bool, true, List, Option, Some, Ok}
use Rattle.std.specs.BTreeMap.{is_at}
use Rattle.std.specs.List.{AllByRecursion, list_any}
use Rattle.std.specs.List.Sorted.{IsStrictlySortedBy}
use Rattle.std.specs.Map.{lookup}
use Rattle.std.specs.Option.{IsSome}
use Rattle.std.specs.Ordering.{nat_cmp}
use Rattle.std.specs.declared.net.socket_addr.SocketAddr.{SocketAddr}
use Rattle.stun_base.specs.Header.{transaction_id_field}
use Rattle.stun_base.specs.declared.wire.attribute_type.AttributeType.{AttributeType}
use Rattle.stun_base.specs.declared.wire.transport.TransportType.{TransportType}
use Rattle.stun_agent.specs.Tables.{datum_at}
use Rattle.stun_agent.specs.Timing.{Settings}
use Rattle.stun_agent.specs.Transactions.{IsAscending, Transaction}
use Rattle.stun_agent.specs.Transactions.{at as transaction_at}
use Rattle.stun_client.specs.Ids.{id_of}
use Rattle.stun_client.specs.Judging.{Identity}
use Rattle.stun_client_endpoint.specs.Written.{Form}
use Rattle.stun_client_requests.specs.Laws.{IsRequests}
use Rattle.stun_client_requests.specs.Numbers.{id_at}
use Rattle.stun_client_requests.specs.declared.requests.Request.{Request}
use Rattle.stun_client_calls.specs.Clients.{Client, new_client}
use Rattle.stun_client_calls.specs.Messages.{AllSent, AskedSeen, SentSeen}
use Rattle.stun_client_calls.specs.Runs.{Calls, Event}
use Rattle.stun_client_calls.specs.Writing.{message_bytes}

-- ---- the messages of a request

-- a transaction ID is derived from the seed of a client
pub record IsDerived (seed : List ℕ) (id : ℕ) : Type 0 where
  pub id_number : ℕ
  pub derived : id ≡ id_of seed id_number

-- the current message of a request has this transaction ID, which is derived from the seed. Its
-- bytes are those of the request's method and body, written with the identity of the client for
-- this request with its options, and signed for the challenge that is stored with it. They have
-- this ID, and the table has sent them to the server and retransmits them
pub record IsCurrent (c : Client) (id : ℕ) (a : AskedSeen) : Type 0 where
  pub from_seed : IsDerived c.seed id
  pub transaction : Transaction
  pub sent : transaction_at id c.requests.table.requests ≡ Some transaction
  pub to : transaction.to ≡ c.server
  pub written : message_bytes c.form c.identity a.signed_for id a ≡ Ok transaction.bytes
  pub named : transaction_id_field transaction.bytes ≡ id

-- the earlier message with a rank
abbrev pub sent_at : ℕ → AllSent → Option SentSeen
sent_at rank earlier = lookup (is_at (nat_cmp rank)) earlier

-- the transaction IDs of earlier messages are derived from the seed, too
abbrev pub AreDerived : List ℕ → AllSent → Type 0
AreDerived seed earlier = AllByRecursion (λ e. IsDerived seed e.1.id) earlier

-- ---- a client

-- whether the bytes of the request with this number were not returned yet
abbrev pub is_unsent : ℕ → List ℕ → Bool
is_unsent number unsent = list_any (is_at (nat_cmp number)) unsent

-- what holds for every client: each outstanding request is in its table once (`requests`), under
-- the transaction ID of its current message, and each timer is that of an outstanding request
-- (`owned`). Bytes that were not returned yet are those of an outstanding request (`unsent`). The
-- table sends to the server. The messages of each request are in order (`current`, `earlier`)
pub record IsClient (c : Client) : Type 0 where
  pub requests : IsRequests c.requests
  pub timers : IsAscending c.requests.table.requests
  pub owned : (id : ℕ) (t : Transaction) → transaction_at id c.requests.table.requests ≡ Some t
      → IsSome (datum_at id c.requests.table.attached)
  pub in_order : IsStrictlySortedBy nat_cmp c.requests.numbers.unsent
  pub unsent : (number : ℕ) → is_unsent number c.requests.numbers.unsent ≡ true
      → IsSome (id_at number c.requests.numbers)
  pub server : c.requests.table.to ≡ c.server
  pub current : (id : ℕ) (q : Request AskedSeen) → datum_at id c.requests.table.attached ≡ Some q
      → IsCurrent c id q.datum
  pub earlier : (id : ℕ) (q : Request AskedSeen) → datum_at id c.requests.table.attached ≡ Some q
      → AreDerived c.seed q.datum.earlier

-- this holds for a client that has no requests yet
abbrev pub BeginsAsClient : Type 0
BeginsAsClient = (transport : TransportType) (server : SocketAddr)
    (counts requires_fingerprint : Bool) (identity : Identity) (form : Form)
    (understood : List AttributeType) (turns : ℕ) (plan : Settings) (seed : List ℕ)
    → IsClient
    (new_client transport server counts requires_fingerprint identity form understood turns plan
    seed)

-- for every sequence of calls: what holds for every client still holds afterwards
abbrev pub StaysAClient : Type 0
StaysAClient = (c after : Client) (events : List Event) → IsClient c → Calls c events after
    → IsClient after
