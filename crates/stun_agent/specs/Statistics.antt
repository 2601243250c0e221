-- What an agent counts: messages, bytes, ends of requests (RFC 8489, section 6.2) and round trips.
use Rattle.std.specs.Prelude.{ℕ, ◌+◌, ◌-◌, ◌/◌, ◌^◌, ◌<◌, ◌≡◌, ◌==◌, if◌then◌else◌, List}
use Rattle.std.specs.Prelude.{[], ◌++◌, length, sum, sum_by, fold, min, max, Option, Some}
use Rattle.std.specs.Prelude.{None, option_to_list, ◌≤◌, MatchOption, Contains, All}
use Rattle.std.specs.List.{flat_map}
use Rattle.std.specs.Option.{option_map_or}

-- what has been counted. Round trips are in nanoseconds
pub record Statistics : Type 0 where
  pub requests_sent : ℕ
  pub requests_received : ℕ
  pub responses_sent : ℕ
  pub responses_received : ℕ
  pub indications_sent : ℕ
  pub indications_received : ℕ
  pub transactions_timed_out : ℕ
  pub transactions_cancelled : ℕ
  pub bytes_sent : ℕ
  pub bytes_received : ℕ
  pub rtt_count : ℕ
  pub rtt_min : Option ℕ
  pub rtt_max : Option ℕ
  pub rtt_total : ℕ

-- the statistics before anything is counted
abbrev pub new_statistics : Statistics
new_statistics =
    record {
      requests_sent = 0;
      requests_received = 0;
      responses_sent = 0;
      responses_received = 0;
      indications_sent = 0;
      indications_received = 0;
      transactions_timed_out = 0;
      transactions_cancelled = 0;
      bytes_sent = 0;
      bytes_received = 0;
      rtt_count = 0;
      rtt_min = None;
      rtt_max = None;
      rtt_total = 0;
    }

-- what one call, or several, add
pub record Tally : Type 0 where
  pub requests_sent : ℕ
  pub requests_received : ℕ
  pub responses_sent : ℕ
  pub responses_received : ℕ
  pub indications_sent : ℕ
  pub indications_received : ℕ
  pub timed_out : ℕ
  pub cancelled : ℕ
  pub bytes_sent : ℕ
  pub bytes_received : ℕ
  pub round_trips : List ℕ

-- nothing
abbrev pub no_tally : Tally
no_tally =
    record {
      requests_sent = 0;
      requests_received = 0;
      responses_sent = 0;
      responses_received = 0;
      indications_sent = 0;
      indications_received = 0;
      timed_out = 0;
      cancelled = 0;
      bytes_sent = 0;
      bytes_received = 0;
      round_trips = [];
    }

-- a request of this many bytes was sent for the first time
abbrev pub request_sent : ℕ → Tally
request_sent bytes = record no_tally { requests_sent = 1; bytes_sent = bytes }

-- the request was retransmitted, which only counts its bytes
abbrev pub request_sent_again : ℕ → Tally
request_sent_again bytes = record no_tally { bytes_sent = bytes }

abbrev pub response_sent : ℕ → Tally
response_sent bytes = record no_tally { responses_sent = 1; bytes_sent = bytes }

abbrev pub indication_sent : ℕ → Tally
indication_sent bytes = record no_tally { indications_sent = 1; bytes_sent = bytes }

abbrev pub request_received : ℕ → Tally
request_received bytes = record no_tally { requests_received = 1; bytes_received = bytes }

-- a response to an outstanding request, a success or an error, and the round trip if it is known
abbrev pub response_received : ℕ → Option ℕ → Tally
response_received bytes round_trip =
    record no_tally {
      responses_received = 1;
      bytes_received = bytes;
      round_trips = option_to_list round_trip;
    }

abbrev pub indication_received : ℕ → Tally
indication_received bytes = record no_tally { indications_received = 1; bytes_received = bytes }

-- a request ended because no response arrived in time
abbrev pub request_timed_out : Tally
request_timed_out = record no_tally { timed_out = 1 }

-- a request was canceled, and ended
abbrev pub request_cancelled : Tally
request_cancelled = record no_tally { cancelled = 1 }

-- two tallies in one
abbrev pub together : Tally → Tally → Tally
together first second =
    record {
      requests_sent = first.requests_sent + second.requests_sent;
      requests_received = first.requests_received + second.requests_received;
      responses_sent = first.responses_sent + second.responses_sent;
      responses_received = first.responses_received + second.responses_received;
      indications_sent = first.indications_sent + second.indications_sent;
      indications_received = first.indications_received + second.indications_received;
      timed_out = first.timed_out + second.timed_out;
      cancelled = first.cancelled + second.cancelled;
      bytes_sent = first.bytes_sent + second.bytes_sent;
      bytes_received = first.bytes_received + second.bytes_received;
      round_trips = first.round_trips ++ second.round_trips;
    }

-- the greatest number of 64 bits, at which a counter stays
abbrev pub last_count : ℕ
last_count = 2 ^ 64 - 1

-- the greatest number of 128 bits, at which the sum of the round trips stays
abbrev pub last_total : ℕ
last_total = 2 ^ 128 - 1

-- a counter to which this many are added
abbrev pub saturating_sum : ℕ → ℕ → ℕ
saturating_sum counter more = min (counter + more) last_count

-- the least of these numbers and one that may be absent
abbrev pub least : Option ℕ → List ℕ → Option ℕ
least first others = fold (λ found other. Some (option_map_or (min other) found other)) first others

-- the greatest of these numbers and one that may be absent
abbrev pub greatest : Option ℕ → List ℕ → Option ℕ
greatest first others =
    fold (λ found other. Some (option_map_or (max other) found other)) first others

-- the least of these, or nothing if there are none
abbrev pub IsLeast : List ℕ → Option ℕ → Type 0
IsLeast numbers found =
    MatchOption found (numbers ≡ []) (λ m. Contains numbers m × All (λ n. m ≤ n) numbers)

-- the greatest of these, or nothing if there are none
abbrev pub IsGreatest : List ℕ → Option ℕ → Type 0
IsGreatest numbers found =
    MatchOption found (numbers ≡ []) (λ m. Contains numbers m × All (λ n. n ≤ m) numbers)

-- the statistics after this is counted too
abbrev pub statistics_after : Tally → Statistics → Statistics
statistics_after tally old =
    record {
      requests_sent = saturating_sum old.requests_sent tally.requests_sent;
      requests_received = saturating_sum old.requests_received tally.requests_received;
      responses_sent = saturating_sum old.responses_sent tally.responses_sent;
      responses_received = saturating_sum old.responses_received tally.responses_received;
      indications_sent = saturating_sum old.indications_sent tally.indications_sent;
      indications_received = saturating_sum old.indications_received tally.indications_received;
      transactions_timed_out = saturating_sum old.transactions_timed_out tally.timed_out;
      transactions_cancelled = saturating_sum old.transactions_cancelled tally.cancelled;
      bytes_sent = saturating_sum old.bytes_sent tally.bytes_sent;
      bytes_received = saturating_sum old.bytes_received tally.bytes_received;
      rtt_count = saturating_sum old.rtt_count (length tally.round_trips);
      rtt_min = least old.rtt_min tally.round_trips;
      rtt_max = greatest old.rtt_max tally.round_trips;
      rtt_total = min (old.rtt_total + sum tally.round_trips) last_total;
    }

-- the mean round trip in nanoseconds, rounded down, if there is one
abbrev pub average : Statistics → Option ℕ
average statistics =
    if statistics.rtt_count == 0 then None else Some (statistics.rtt_total / statistics.rtt_count)

-- the number of requests that had neither a response nor another end, or 0 if more have ended than
-- were sent
abbrev pub outstanding_requests : Statistics → ℕ
outstanding_requests statistics =
    statistics.requests_sent
    - (statistics.responses_received + statistics.transactions_timed_out
    + statistics.transactions_cancelled)

-- of the requests sent, n had neither a response, nor a timeout, nor a cancellation
abbrev pub LeavesOutstanding : Statistics → ℕ → Type 0
LeavesOutstanding statistics n =
    statistics.requests_sent
    ≡ statistics.responses_received + statistics.transactions_timed_out
    + statistics.transactions_cancelled + n

-- none of the counters of requests and their ends is full
pub record IsNotFull (statistics : Statistics) : Type 0 where
  pub requests_sent : statistics.requests_sent < last_count
  pub responses_received : statistics.responses_received < last_count
  pub transactions_timed_out : statistics.transactions_timed_out < last_count
  pub transactions_cancelled : statistics.transactions_cancelled < last_count

-- all tallies in one: sums, and the round trips in their order
abbrev pub total : List Tally → Tally
total tallies =
    record {
      requests_sent = sum_by (λ t. t.requests_sent) tallies;
      requests_received = sum_by (λ t. t.requests_received) tallies;
      responses_sent = sum_by (λ t. t.responses_sent) tallies;
      responses_received = sum_by (λ t. t.responses_received) tallies;
      indications_sent = sum_by (λ t. t.indications_sent) tallies;
      indications_received = sum_by (λ t. t.indications_received) tallies;
      timed_out = sum_by (λ t. t.timed_out) tallies;
      cancelled = sum_by (λ t. t.cancelled) tallies;
      bytes_sent = sum_by (λ t. t.bytes_sent) tallies;
      bytes_received = sum_by (λ t. t.bytes_received) tallies;
      round_trips = flat_map (λ t. t.round_trips) tallies;
    }

-- the statistics after each of these was counted in its turn
abbrev pub counted_in_turn : List Tally → Statistics → Statistics
counted_in_turn tallies old =
    fold (λ statistics tally. statistics_after tally statistics) old tallies
