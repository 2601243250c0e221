-- The requests of a client, each stored once, and how each call changes them (RFC 8489, sections
-- 6.2, 6.3 and 9.2.5).
use Rattle.std.specs.Prelude.{ℕ, ◌+◌, ◌==◌, Bool, List, Option, Some, None, count_by}
use Rattle.std.specs.Prelude.{if◌then◌else◌}
use Rattle.std.specs.Map.{values_of}
use Rattle.std.specs.Option.{is_some, option_and_then, option_map, option_map_or}
use Rattle.std.specs.declared.net.socket_addr.SocketAddr.{SocketAddr}
use Rattle.stun_base.specs.declared.wire.transport.TransportType.{TransportType}
use Rattle.stun_agent.specs.Tables.{Attached, TableSeen, after_answer, after_cancel, after_end}
use Rattle.stun_agent.specs.Tables.{after_sending, after_transmission, datum_at, new_table, over_in}
use Rattle.stun_agent.specs.Tables.{sent_in, until_in, with_other_datum}
use Rattle.stun_agent.specs.Timing.{Settings}
use Rattle.stun_agent.specs.Transactions.{at as transaction_at}
use Rattle.stun_client_requests.specs.Numbers.{NumbersSeen, after_end as after_end_of, after_put}
use Rattle.stun_client_requests.specs.Numbers.{after_mark, after_rename, after_removal}
use Rattle.stun_client_requests.specs.Numbers.{end_of_first, first_unsent, id_at}
use Rattle.stun_client_requests.specs.Numbers.{is_outstanding, no_numbers, without_first}
use Rattle.stun_client_requests.specs.Numbers.{without_first_unsent}
use Rattle.stun_client_requests.specs.declared.requests.Polled.{Polled}
use Rattle.stun_client_requests.specs.declared.requests.Polled.TheVariants.{Ended, TimedOut}
use Rattle.stun_client_requests.specs.declared.requests.Polled.TheVariants.{Transmit, Wait}
use Rattle.stun_client_requests.specs.declared.requests.Request.{Request}
use Rattle.stun_client_requests.specs.declared.requests.AgainRefusal.{AgainRefusal}
use Rattle.stun_client_requests.specs.declared.requests.AgainRefusal.TheVariants as Again
use Rattle.stun_client_requests.specs.declared.requests.AgainRefusal.TheVariants.{NotOutstanding}
use Rattle.stun_client_requests.specs.declared.requests.StartRefusal.{StartRefusal}
use Rattle.stun_client_requests.specs.declared.requests.StartRefusal.TheVariants.{IdTaken, NoNumber}

-- the outstanding requests by transaction ID, with their bytes and timers and with what their owner
-- stores of each; what is known of each request by its number; and the number of the next one
pub record RequestsSeen (D E : Type 0) : Type 0 where
  pub table : TableSeen (Request D)
  pub numbers : NumbersSeen E
  pub next : ℕ

abbrev pub new_requests : {D E : Type 0} → TransportType → SocketAddr → Bool → RequestsSeen D E
new_requests transport to counts =
    record { table = new_table transport to counts; numbers = no_numbers; next = 0 }

-- a response: how many bytes it has, and when it has arrived, if its round trip is measured
pub record Answering : Type 0 where
  pub count : ℕ
  pub moment : Option ℕ

-- the number of the outstanding request that has this transaction ID
abbrev pub number_at : {D : Type 0} → ℕ → Attached (Request D) → Option ℕ
number_at id all = option_map (λ r. r.number) (datum_at id all)

-- the bytes of an outstanding request
abbrev pub bytes_at : {D E : Type 0} → ℕ → RequestsSeen D E → Option (List ℕ)
bytes_at number r =
    option_and_then (λ id. option_map (λ t. t.bytes) (transaction_at id r.table.requests))
    (id_at number r.numbers)

-- what the owner stores of an outstanding request
abbrev pub stored_at : {D E : Type 0} → ℕ → RequestsSeen D E → Option (Request D)
stored_at number r =
    option_and_then (λ id. datum_at id r.table.attached) (id_at number r.numbers)

abbrev pub datum_of : {D E : Type 0} → ℕ → RequestsSeen D E → Option D
datum_of number r = option_map (λ q. q.datum) (stored_at number r)

-- how many requests are outstanding
abbrev pub outstanding_count : {E : Type 0} → NumbersSeen E → ℕ
outstanding_count s = count_by is_outstanding (values_of s.known)

-- ---- starting

-- the last number is not used
abbrev pub LAST_NUMBER : ℕ
LAST_NUMBER = 18446744073709551615

-- why a request is not started: the first reason that applies, if there is memory
abbrev pub start_refusal : {D E : Type 0} → RequestsSeen D E → ℕ → Option StartRefusal
start_refusal r id =
    if is_some (transaction_at id r.table.requests) then Some IdTaken
    else if r.next == LAST_NUMBER then Some NoNumber else None

abbrev pub after_start : {D E : Type 0} → ℕ → List ℕ → Settings → D → ℕ → RequestsSeen D E
    → RequestsSeen D E
after_start id bytes settings datum now r = record {
  table = after_sending id bytes settings (record { number = r.next; datum = datum }) now r.table;
  numbers = after_put r.next id r.numbers;
  next = r.next + 1;
}

-- ---- another message

abbrev pub again_refusal_of : {D E : Type 0} → RequestsSeen D E → ℕ → Option ℕ → Option AgainRefusal
again_refusal_of r id None = Some NotOutstanding
again_refusal_of r id (Some former) =
    if is_some (transaction_at id r.table.requests) then Some Again.IdTaken else None

-- why a request is not sent by another message: the first reason that applies, if there is memory
abbrev pub again_refusal : {D E : Type 0} → RequestsSeen D E → ℕ → ℕ → Option AgainRefusal
again_refusal r number id = again_refusal_of r id (id_at number r.numbers)

-- a request is sent by another message, under another transaction ID, and a response of this many
-- bytes ends the former one
abbrev pub after_again : {D E : Type 0} → ℕ → Answering → ℕ → List ℕ → Settings → D → ℕ
    → RequestsSeen D E → RequestsSeen D E
after_again number a id bytes settings datum now r =
    option_map_or
    (λ former. record r {
      table = after_answer former a.count a.moment
          (after_sending id bytes settings (record { number = number; datum = datum }) now r.table);
      numbers = after_rename number id (after_mark number r.numbers);
    })
    (id_at number r.numbers) r

-- ---- changes and ends by the owner

abbrev pub after_replacing : {D E : Type 0} → ℕ → D → RequestsSeen D E → RequestsSeen D E
after_replacing number datum r =
    option_map_or
    (λ id. record r {
      table = with_other_datum id (record { number = number; datum = datum }) r.table;
    })
    (id_at number r.numbers) r

-- a response of this many bytes ends a request
abbrev pub after_answering : {D E : Type 0} → ℕ → ℕ → Option ℕ → E → RequestsSeen D E
    → RequestsSeen D E
after_answering number count moment end r =
    option_map_or
    (λ id. record r {
      table = after_answer id count moment r.table;
      numbers = after_end_of number end r.numbers;
    })
    (id_at number r.numbers) r

-- its owner ends a request
abbrev pub after_canceling : {D E : Type 0} → ℕ → E → RequestsSeen D E → RequestsSeen D E
after_canceling number end r =
    option_map_or
    (λ id. record r {
      table = after_cancel id r.table;
      numbers = after_end_of number end r.numbers;
    })
    (id_at number r.numbers) r

-- its owner ends a request, and nothing is stored of it any more
abbrev pub after_removing : {D E : Type 0} → ℕ → RequestsSeen D E → RequestsSeen D E
after_removing number r =
    option_map_or
    (λ id. record r {
      table = after_cancel id r.table;
      numbers = after_removal number r.numbers;
    })
    (id_at number r.numbers) r

-- ---- polling

abbrev pub Poll : Type 0 → Type 0 → Type 0
Poll D E = Polled D E × RequestsSeen D E

-- until when to wait, if a request is outstanding
abbrev pub wait_of : {D E : Type 0} → ℕ → RequestsSeen D E → Option ℕ
wait_of now r = if outstanding_count r.numbers == 0 then None else Some (until_in now r.table)

abbrev pub over_or : {D E : Type 0} → ℕ → RequestsSeen D E → Option (Request D) → Poll D E
over_or now r (Some q) = (
  TimedOut q.number q.datum,
  record r { table = after_end now r.table; numbers = after_removal q.number r.numbers },
)
over_or now r None = (Wait (wait_of now r), r)

-- the request that ends, because its time is over
abbrev pub over : {D : Type 0} → ℕ → TableSeen (Request D) → Option (Request D)
over now table = option_and_then (λ e. datum_at e.0 table.attached) (over_in now table)

abbrev pub over_step : {D E : Type 0} → ℕ → RequestsSeen D E → Poll D E
over_step now r = over_or now r (over now r.table)

abbrev pub ends_or : {D E : Type 0} → ℕ → RequestsSeen D E → Option (ℕ × E) → Poll D E
ends_or now r (Some e) = (Ended e.0 e.1, record r { numbers = without_first r.numbers })
ends_or now r None = over_step now r

abbrev pub ends_step : {D E : Type 0} → ℕ → RequestsSeen D E → Poll D E
ends_step now r = ends_or now r (end_of_first r.numbers)

abbrev pub repeats_or : {D E : Type 0} → ℕ → RequestsSeen D E → Option ℕ → Poll D E
repeats_or now r (Some number) = (Transmit number, r)
repeats_or now r None = ends_step now r

-- the request whose bytes are retransmitted
abbrev pub repeated : {D : Type 0} → ℕ → TableSeen (Request D) → Option ℕ
repeated now table = option_and_then (λ e. number_at e.0 table.attached) (sent_in now table)

abbrev pub repeats_step : {D E : Type 0} → ℕ → RequestsSeen D E → Poll D E
repeats_step now r =
    repeats_or now (record r { table = after_transmission now r.table }) (repeated now r.table)

abbrev pub unsent_or : {D E : Type 0} → ℕ → RequestsSeen D E → Option ℕ → Poll D E
unsent_or now r (Some number) =
    (Transmit number, record r { numbers = without_first_unsent r.numbers })
unsent_or now r None = repeats_step now r

-- what a poll returns: bytes that were not returned yet, then bytes that are retransmitted, then an
-- end, then a request whose time is over, and then until when to wait
unfoldable pub polled : {D E : Type 0} → ℕ → RequestsSeen D E → Poll D E
polled now r = unsent_or now r (first_unsent r.numbers)
