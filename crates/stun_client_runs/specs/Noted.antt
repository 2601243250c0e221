-- Which request an earlier message belongs to (RFC 8489, section 5).
use Rattle.std.specs.Prelude.{◌≡◌, ◌≤◌, ℕ, Bool, List, Some, None}
use Rattle.std.specs.List.Sorted.{IsStrictlySortedBy}
use Rattle.std.specs.Map.{keys_of}
use Rattle.std.specs.Ordering.{nat_cmp}
use Rattle.std.specs.declared.net.socket_addr.SocketAddr.{SocketAddr}
use Rattle.stun_base.specs.declared.wire.attribute_type.AttributeType.{AttributeType}
use Rattle.stun_base.specs.declared.wire.transport.TransportType.{TransportType}
use Rattle.stun_agent.specs.Tables.{Attached, datum_at}
use Rattle.stun_agent.specs.Timing.{Settings}
use Rattle.stun_client.specs.Judging.{Identity}
use Rattle.stun_client_endpoint.specs.Written.{Form}
use Rattle.stun_client_requests.specs.declared.requests.Request.{Request}
use Rattle.stun_client_calls.specs.Clients.{Client, new_client}
use Rattle.stun_client_calls.specs.Ids.{Earlier, number_in}
use Rattle.stun_client_calls.specs.Messages.{AskedSeen, SentSeen, rank_after}
use Rattle.stun_client_calls.specs.Runs.{Calls, Event}
use Rattle.stun_client_runs.specs.Kept.{IsClient, sent_at}

-- the request with this number is outstanding, and one of its earlier messages has this transaction
-- ID
pub record HasEarlier (id number : ℕ) (all : Attached (Request AskedSeen)) : Type 0 where
  pub at : ℕ
  pub request : Request AskedSeen
  pub there : datum_at at all ≡ Some request
  pub numbered : request.number ≡ number
  pub rank : ℕ
  pub message : SentSeen
  pub stored : sent_at rank request.datum.earlier ≡ Some message
  pub named : message.id ≡ id

-- the earlier messages of a request are in the order of their ranks, none of which is that of the
-- current one. The next message that is sent for the first time has a lower rank than all of them
pub record AreRanked (most : ℕ) (a : AskedSeen) : Type 0 where
  pub ascending : IsStrictlySortedBy nat_cmp (keys_of a.earlier)
  pub turns : a.turns ≤ most
  pub current : rank_after a.turns ≤ a.rank
  pub apart : sent_at a.rank a.earlier ≡ None
  pub above : (rank : ℕ) (s : SentSeen) → sent_at rank a.earlier ≡ Some s
      → rank_after a.turns ≤ rank

-- each ID that is recorded is that of an earlier message of an outstanding request
pub record AreNoted (most : ℕ) (ids : Earlier) (all : Attached (Request AskedSeen)) : Type 0 where
  pub limit : most ≤ 4294967295
  pub in_order : IsStrictlySortedBy nat_cmp (keys_of ids)
  pub ranked : (id : ℕ) (q : Request AskedSeen) → datum_at id all ≡ Some q → AreRanked most q.datum
  pub noted : (id number : ℕ) → number_in id ids ≡ Some number → HasEarlier id number all

abbrev pub NotesMessages : Client → Type 0
NotesMessages c = AreNoted c.turns c.earlier c.requests.table.attached

-- this holds for a client that has no requests yet. The limit of other messages has 32 bits
abbrev pub BeginsNoted : Type 0
BeginsNoted = (transport : TransportType) (server : SocketAddr)
    (counts requires_fingerprint : Bool) (identity : Identity) (form : Form)
    (understood : List AttributeType) (turns : ℕ) (plan : Settings) (seed : List ℕ)
    → turns ≤ 4294967295
    → NotesMessages
    (new_client transport server counts requires_fingerprint identity form understood turns plan
    seed)

-- and every sequence of calls preserves it
abbrev pub StaysNoted : Type 0
StaysNoted = (c after : Client) (events : List Event) → IsClient c → NotesMessages c
    → Calls c events after → NotesMessages after
