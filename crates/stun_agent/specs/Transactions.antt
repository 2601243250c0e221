-- Outstanding requests, which await their responses (RFC 8489, section 6.2).
use Rattle.std.specs.Prelude.{◌≡◌, ℕ, ◌+◌, ◌-◌, ◌*◌, ◌==◌, Bool, true, false, not}
use Rattle.std.specs.Prelude.{◌&&◌, ◌||◌, nat_lt, nat_le, if◌then◌else◌, List}
use Rattle.std.specs.Prelude.{Option, Some, None, map, fold, find, filter, min, max}
use Rattle.std.specs.Option.{option_map, option_map_or}
use Rattle.std.specs.declared.net.socket_addr.SocketAddr.{SocketAddr}
use Rattle.std.specs.Ordering.{nat_cmp}
use Rattle.std.specs.Map.{lookup, keys_of, set_value, remove_entry}
use Rattle.std.specs.List.{AllByRecursion}
use Rattle.std.specs.List.Sorted.{IsStrictlySortedBy}
use Rattle.std.specs.BTreeMap.{is_at, insert_entry}
use Rattle.stun_base.specs.Header.{BeginsWithHeader, transaction_id_field}
use Rattle.stun_base.specs.Moments.{moment_after}
use Rattle.stun_base.specs.declared.keys.algorithm.IntegrityAlgorithm.{IntegrityAlgorithm}
use Rattle.stun_base.specs.declared.wire.transport.TransportType.{TransportType}
use Rattle.stun_agent.specs.declared.state.transaction.Sending.{Sending}
use Rattle.stun_agent.specs.declared.state.transaction.Sending.TheVariants.{Repeats, Silent}
use Rattle.stun_agent.specs.declared.state.transaction.Sending.TheVariants.{Cancelled}
use Rattle.stun_agent.specs.Timing.{Settings, timeout, slots, final_wait}

-- an outstanding request. `slot` counts the timeouts that have passed, each of which is a slot for
-- one retransmission. `last` is the time of the last slot, or at first the time at which the
-- request was sent. `sending` says whether the request is still retransmitted
pub record Transaction : Type 0 where
  pub bytes : List ℕ
  pub to : SocketAddr
  pub integrity : Option IntegrityAlgorithm
  pub settings : Settings
  pub slot : ℕ
  pub last : ℕ
  pub sending : Sending

-- ---- what is still sent
-- it is retransmitted while timeouts are left
abbrev pub repeats : Sending → Bool
repeats Repeats = true
repeats Silent = false
repeats Cancelled = false

-- it ends at the next poll that reaches it
abbrev pub is_cancelled : Sending → Bool
is_cancelled Repeats = false
is_cancelled Silent = false
is_cancelled Cancelled = true

-- it is no longer sent, and what was canceled stays canceled
abbrev pub after_silence : Sending → Sending
after_silence Repeats = Silent
after_silence Silent = Silent
after_silence Cancelled = Cancelled

-- ---- one transaction
-- a request that is sent for the first time
abbrev pub new_transaction : List ℕ → SocketAddr → Option IntegrityAlgorithm → Settings → ℕ
    → Transaction
new_transaction bytes to integrity settings now =
    record {
      bytes = bytes;
      to = to;
      integrity = integrity;
      settings = settings;
      slot = 0;
      last = now;
      sending = Repeats;
    }

-- it is not retransmitted
abbrev pub without_retransmissions : Transaction → Transaction
without_retransmissions t = record t { sending = after_silence t.sending }

-- it ends at the next poll that reaches it
abbrev pub with_cancellation : Transaction → Transaction
with_cancellation t = record t { sending = Cancelled }

-- it gets other settings
abbrev pub with_settings : Settings → Transaction → Transaction
with_settings settings t = record t { settings = settings }

-- one timeout has passed
abbrev pub after_slot : ℕ → Transaction → Transaction
after_slot now t = record t { slot = t.slot + 1; last = now }

-- timeouts are left
abbrev pub has_slots : TransportType → Transaction → Bool
has_slots transport t = nat_lt t.slot (slots transport t.settings)

-- the time at which it is retransmitted, or ends
abbrev pub awaited_moment : TransportType → Transaction → ℕ
awaited_moment transport t =
    moment_after t.last
    (if has_slots transport t then timeout t.settings t.slot else final_wait transport t.settings)

-- its next timeout has passed
abbrev pub is_due : TransportType → ℕ → Transaction → Bool
is_due transport now t =
    not (is_cancelled t.sending)
    && (has_slots transport t && nat_le (awaited_moment transport t) now)

-- it is over: it ends at the next poll that reaches it
abbrev pub is_over : TransportType → ℕ → Transaction → Bool
is_over transport now t =
    is_cancelled t.sending
    || (not (has_slots transport t) && nat_le (awaited_moment transport t) now)

-- the round trip of a response that is accepted at a time. It is known only if no timeout has
-- passed
abbrev pub round_trip : Option ℕ → Transaction → Option ℕ
round_trip moment t = if t.slot == 0 then option_map (λ now. now - t.last) moment else None

-- ---- all of them
-- each transaction under its id, in the order of the ids
abbrev pub Transactions : Type 0
Transactions = List (ℕ × Transaction)

-- the IDs ascend
abbrev pub IsAscending : Transactions → Type 0
IsAscending all = IsStrictlySortedBy nat_cmp (keys_of all)

-- the bytes begin with a header of this transaction
pub record IsRequestOf (id : ℕ) (bytes : List ℕ) : Type 0 where
  pub header : BeginsWithHeader bytes
  pub id_is : transaction_id_field bytes ≡ id

-- the request that is stored under an ID has this transaction ID
abbrev pub IsNamed : ℕ × Transaction → Type 0
IsNamed e = IsRequestOf e.0 e.1.bytes

-- the IDs ascend, and each request is stored under its own transaction ID
pub record AreKept (all : Transactions) : Type 0 where
  pub ascending : IsAscending all
  pub named : AllByRecursion IsNamed all

-- the transaction at an ID, if there is one
abbrev pub at : ℕ → Transactions → Option Transaction
at id all = lookup (is_at (nat_cmp id)) all

-- the transactions with this one at an ID, added or in place of another
abbrev pub with : ℕ → Transaction → Transactions → Transactions
with id t all = insert_entry nat_cmp all id t

-- the transactions without the one at an ID
abbrev pub without : ℕ → Transactions → Transactions
without id all = remove_entry (is_at (nat_cmp id)) all

-- the transactions after a change of the one at an ID, if there is one
abbrev pub with_change_at : (Transaction → Transaction) → ℕ → Transactions → Transactions
with_change_at f id all =
    option_map_or (λ t. set_value (is_at (nat_cmp id)) all (f t)) (at id all) all

-- ---- ends
-- the transaction with the least ID among those that are over
abbrev pub first_over : TransportType → ℕ → Transactions → Option (ℕ × Transaction)
first_over transport now all = find (λ e. is_over transport now e.1) all

-- an hour, in nanoseconds
abbrev pub an_hour : ℕ
an_hour = 3600 * 1_000_000_000

-- the earliest awaited time, but at most an hour from now, and never before `now`
abbrev pub wake_up : TransportType → ℕ → Transactions → ℕ
wake_up transport now all =
    max now (fold min (moment_after now an_hour) (map (λ e. awaited_moment transport e.1) all))

-- the times that are awaited, except those of canceled requests
abbrev pub awaited_moments : TransportType → Transactions → List ℕ
awaited_moments transport all =
    map (λ e. awaited_moment transport e.1) (filter (λ e. not (is_cancelled e.1.sending)) all)

-- the earlier of two times, the first of which may be absent
abbrev pub sooner : Option ℕ → ℕ → Option ℕ
sooner None moment = Some moment
sooner (Some least) moment = Some (min least moment)

-- the earliest of these times, if there are any
abbrev pub next_awaited : TransportType → Transactions → Option ℕ
next_awaited transport all = fold sooner None (awaited_moments transport all)

-- ---- retransmission
-- the transaction with the least ID among those that are due and still retransmitted
abbrev pub next_sent : TransportType → ℕ → Transactions → Option (ℕ × Transaction)
next_sent transport now all = find (λ e. is_due transport now e.1 && repeats e.1.sending) all

-- whether an ID is at most the ID of the request that is sent. If no request is sent, every ID is
abbrev pub is_reached : Option ℕ → ℕ → Bool
is_reached sent id = option_map_or (λ last. nat_le id last) sent true

-- a transaction after its timeout (slot) has passed, if the timeout is due and the transaction does
-- not come after the one that is sent
abbrev pub slot_passed : TransportType → ℕ → Option ℕ → ℕ × Transaction → Transaction
slot_passed transport now sent e =
    if is_reached sent e.0 && is_due transport now e.1 then after_slot now e.1 else e.1

-- all transactions after the due timeouts have passed
abbrev pub after_slots : TransportType → ℕ → Option ℕ → Transactions → Transactions
after_slots transport now sent all = map (λ e. (e.0, slot_passed transport now sent e)) all
