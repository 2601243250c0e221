-- A table of outstanding requests, each with a datum of its owner, and how each call changes it
-- (RFC 8489, sections 6.2 and 6.3).
use Rattle.std.specs.Prelude.{ℕ, ◌≡◌, Bool, List, [], length, Option, None}
use Rattle.std.specs.Map.{lookup, keys_of, set_value, remove_entry}
use Rattle.std.specs.Option.{option_map, option_map_or}
use Rattle.std.specs.Ordering.{nat_cmp}
use Rattle.std.specs.BTreeMap.{is_at, insert_entry}
use Rattle.std.specs.declared.net.socket_addr.SocketAddr.{SocketAddr}
use Rattle.stun_base.specs.declared.wire.transport.TransportType.{TransportType}
use Rattle.stun_agent.specs.Agent.{statistics_if, tally_of_end}
use Rattle.stun_agent.specs.Statistics.{Statistics, Tally, statistics_after, request_sent}
use Rattle.stun_agent.specs.Statistics.{request_sent_again, response_received}
use Rattle.stun_agent.specs.Statistics.{request_cancelled as one_cancelled}
use Rattle.stun_agent.specs.Timing.{Settings}
use Rattle.stun_agent.specs.Transactions.{Transaction, Transactions, AreKept, new_transaction, at}
use Rattle.stun_agent.specs.Transactions.{with, without, first_over, wake_up, next_sent}
use Rattle.stun_agent.specs.Transactions.{after_slots, round_trip}

-- ---- the data of the owner
-- each datum under the ID of its request, in the order of the IDs
abbrev pub Attached : Type 0 → Type 0
Attached D = List (ℕ × D)

-- the datum at an ID, if there is one
abbrev pub datum_at : {D : Type 0} → ℕ → Attached D → Option D
datum_at id all = lookup (is_at (nat_cmp id)) all

-- the data with this one at an ID, added or in place of another
abbrev pub with_datum : {D : Type 0} → ℕ → D → Attached D → Attached D
with_datum id datum all = insert_entry nat_cmp all id datum

-- the data without the one at an ID
abbrev pub without_datum : {D : Type 0} → ℕ → Attached D → Attached D
without_datum id all = remove_entry (is_at (nat_cmp id)) all

-- the data after the datum at an ID is replaced, if there is one
abbrev pub set_datum : {D : Type 0} → ℕ → D → Attached D → Attached D
set_datum id datum all = set_value (is_at (nat_cmp id)) all datum

-- ---- a table
-- the requests of a table go to one address over one transport. The table counts if it has
-- statistics
pub record TableSeen (D : Type 0) : Type 0 where
  pub transport : TransportType
  pub to : SocketAddr
  pub statistics : Option Statistics
  pub requests : Transactions
  pub attached : Attached D

-- the IDs ascend, and each request is stored under its own transaction ID and has one datum
pub record IsTable {D : Type 0} (table : TableSeen D) : Type 0 where
  pub kept : AreKept table.requests
  pub same : keys_of table.attached ≡ keys_of table.requests

-- a table that has sent nothing
abbrev pub new_table : {D : Type 0} → TransportType → SocketAddr → Bool → TableSeen D
new_table transport to counts = record {
  transport = transport;
  to = to;
  statistics = statistics_if counts;
  requests = [];
  attached = [];
}

-- the table after a tally is counted
abbrev pub counted : {D : Type 0} → Tally → TableSeen D → TableSeen D
counted tally table =
    record table { statistics = option_map (statistics_after tally) table.statistics }

-- ---- requests that begin and end
-- the transaction of a request. Its bytes are not read, so it has no integrity
abbrev pub request_in : {D : Type 0} → TableSeen D → List ℕ → Settings → ℕ → Transaction
request_in table bytes settings now = new_transaction bytes table.to None settings now

-- the table after it has sent a request, which is then outstanding
abbrev pub after_sending : {D : Type 0} → ℕ → List ℕ → Settings → D → ℕ → TableSeen D → TableSeen D
after_sending id bytes settings datum now table =
    counted (request_sent (length bytes)) (record table {
      requests = with id (request_in table bytes settings now) table.requests;
      attached = with_datum id datum table.attached;
    })

-- the table without a request and its datum
abbrev pub without_request : {D : Type 0} → ℕ → TableSeen D → TableSeen D
without_request id table = record table {
  requests = without id table.requests;
  attached = without_datum id table.attached;
}

-- a response of this many bytes ends a request
abbrev pub after_answer : {D : Type 0} → ℕ → ℕ → Option ℕ → TableSeen D → TableSeen D
after_answer id count moment table =
    option_map_or
    (λ t. counted (response_received count (round_trip moment t)) (without_request id table))
    (at id table.requests) table

-- the owner ends a request
abbrev pub after_cancel : {D : Type 0} → ℕ → TableSeen D → TableSeen D
after_cancel id table =
    option_map_or (λ t. counted one_cancelled (without_request id table)) (at id table.requests)
    table

-- a request gets another datum
abbrev pub with_other_datum : {D : Type 0} → ℕ → D → TableSeen D → TableSeen D
with_other_datum id datum table =
    record table { attached = set_datum id datum table.attached }

-- ---- polls
-- the request that is retransmitted: the one with the least ID among those that are due
abbrev pub sent_in : {D : Type 0} → ℕ → TableSeen D → Option (ℕ × Transaction)
sent_in now table = next_sent table.transport now table.requests

-- the table after a transmission is counted, if there was one
abbrev pub counted_sent : {D : Type 0} → Option (ℕ × Transaction) → TableSeen D → TableSeen D
counted_sent sent table =
    option_map_or (λ e. counted (request_sent_again (length e.1.bytes)) table) sent table

-- the table after a poll for transmissions
abbrev pub after_transmission : {D : Type 0} → ℕ → TableSeen D → TableSeen D
after_transmission now table =
    counted_sent (sent_in now table) (record table {
      requests = after_slots table.transport now (option_map (λ e. e.0) (sent_in now table))
          table.requests;
    })

-- the request that ends at a poll: the one with the least ID among those that are over
abbrev pub over_in : {D : Type 0} → ℕ → TableSeen D → Option (ℕ × Transaction)
over_in now table = first_over table.transport now table.requests

-- the time to wait until, if no request ends
abbrev pub until_in : {D : Type 0} → ℕ → TableSeen D → ℕ
until_in now table = wake_up table.transport now table.requests

-- the table after a poll
abbrev pub after_end : {D : Type 0} → ℕ → TableSeen D → TableSeen D
after_end now table =
    option_map_or (λ e. counted (tally_of_end e.1) (without_request e.0 table))
    (over_in now table) table
