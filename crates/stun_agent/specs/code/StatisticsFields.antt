-- The statistics that the fields of a `StunAgentStats` hold.
use Rattle.std.specs.Prelude.{◌≤◌, ◌*◌, ◌^◌}
use Rattle.stun_agent.specs.Statistics.{Statistics, last_count, last_total}
use Rattle.stun_agent.specs.declared.stats.StunAgentStats.TheInside.{Inside}

abbrev pub statistics_of : Inside → Statistics
statistics_of stats =
    record {
      requests_sent = stats.requests_sent;
      requests_received = stats.requests_received;
      responses_sent = stats.responses_sent;
      responses_received = stats.responses_received;
      indications_sent = stats.indications_sent;
      indications_received = stats.indications_received;
      transactions_timed_out = stats.transactions_timed_out;
      transactions_cancelled = stats.transactions_cancelled;
      bytes_sent = stats.bytes_sent;
      bytes_received = stats.bytes_received;
      rtt_count = stats.rtt_count;
      rtt_min = stats.rtt_min;
      rtt_max = stats.rtt_max;
      rtt_total = stats.rtt_total;
    }

abbrev pub fields_of : Statistics → Inside
fields_of statistics =
    record {
      requests_sent = statistics.requests_sent;
      requests_received = statistics.requests_received;
      responses_sent = statistics.responses_sent;
      responses_received = statistics.responses_received;
      indications_sent = statistics.indications_sent;
      indications_received = statistics.indications_received;
      transactions_timed_out = statistics.transactions_timed_out;
      transactions_cancelled = statistics.transactions_cancelled;
      bytes_sent = statistics.bytes_sent;
      bytes_received = statistics.bytes_received;
      rtt_count = statistics.rtt_count;
      rtt_min = statistics.rtt_min;
      rtt_max = statistics.rtt_max;
      rtt_total = statistics.rtt_total;
    }

-- the fields can hold these statistics, and their average is up to 2^65, so that it fits into a
-- span of time
pub record FitsFields (statistics : Statistics) : Type 0 where
  pub requests_sent : statistics.requests_sent ≤ last_count
  pub requests_received : statistics.requests_received ≤ last_count
  pub responses_sent : statistics.responses_sent ≤ last_count
  pub responses_received : statistics.responses_received ≤ last_count
  pub indications_sent : statistics.indications_sent ≤ last_count
  pub indications_received : statistics.indications_received ≤ last_count
  pub transactions_timed_out : statistics.transactions_timed_out ≤ last_count
  pub transactions_cancelled : statistics.transactions_cancelled ≤ last_count
  pub bytes_sent : statistics.bytes_sent ≤ last_count
  pub bytes_received : statistics.bytes_received ≤ last_count
  pub rtt_count : statistics.rtt_count ≤ last_count
  pub rtt_total : statistics.rtt_total ≤ last_total
  pub rtt_average : statistics.rtt_total ≤ statistics.rtt_count * 2 ^ 65
