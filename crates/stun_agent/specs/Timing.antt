-- When a request is retransmitted, and when it ends (RFC 8489, sections 6.2.1 and 6.2.2). Spans are
-- in nanoseconds.
use Rattle.std.specs.Prelude.{ℕ, zero, suc, ◌+◌, ◌-◌, ◌*◌, ◌^◌, min, max, nat_lt, nat_le}
use Rattle.std.specs.Prelude.{if◌then◌else◌}
use Rattle.std.specs.Duration.{as_nanos, max_nanos}
use Rattle.stun_base.specs.Moments.{moment_after}
use Rattle.stun_base.specs.declared.wire.transport.TransportType.{TransportType}
use Rattle.stun_base.specs.declared.wire.transport.TransportType.TheVariants.{Udp, Tcp}
use Rattle.stun_agent.specs.declared.state.rto.RequestRto.{RequestRto}

-- the settings of a request, its spans in nanoseconds
pub record Settings : Type 0 where
  pub initial : ℕ
  pub maximum : ℕ
  pub transmissions : ℕ
  pub last_wait : ℕ

-- the settings of a request whose user has set none (section 6.2.1): 500 ms, no maximum, 7
-- transmissions, and 8 s
abbrev pub default_settings : Settings
default_settings =
    record {
      initial = 500_000_000;
      maximum = max_nanos;
      transmissions = 7;
      last_wait = 8_000_000_000;
    }

-- the settings that a `RequestRto` holds
abbrev pub settings_of : RequestRto → Settings
settings_of rto =
    record {
      initial = as_nanos rto.initial;
      maximum = as_nanos rto.max;
      transmissions = rto.retransmits;
      last_wait = as_nanos rto.last_retransmit;
    }

-- the wait after transmission i, counted from 0: it doubles each time, up to the maximum
abbrev pub timeout : Settings → ℕ → ℕ
timeout settings i = min (settings.initial * 2 ^ i) settings.maximum

-- the first k timeouts together
unfoldable pub sum_of_timeouts : Settings → ℕ → ℕ
sum_of_timeouts settings zero = 0
sum_of_timeouts settings (suc k) = sum_of_timeouts settings k + timeout settings k

-- how often a request is retransmitted over UDP
abbrev pub repetitions : Settings → ℕ
repetitions settings = max 1 settings.transmissions - 1

-- the number of timeouts, each of which ends with a retransmission
abbrev pub slots : TransportType → Settings → ℕ
slots Udp settings = repetitions settings
slots Tcp settings = 0

-- the wait after the last transmission. Over a reliable transport a request is sent once, and this
-- wait is as long as all waits over UDP together
abbrev pub final_wait : TransportType → Settings → ℕ
final_wait Udp settings = settings.last_wait
final_wait Tcp settings =
    min (settings.last_wait + sum_of_timeouts settings (repetitions settings)) max_nanos

-- the time at which a request ends that is sent at a time and never answered, if its agent is
-- polled at each time that the request awaits: when all timeouts and the final wait have passed
abbrev pub planned_end : TransportType → Settings → ℕ → ℕ
planned_end transport settings start =
    moment_after start
    (sum_of_timeouts settings (slots transport settings) + final_wait transport settings)

-- ---- a shorter plan
-- the time from the first transmission to the end: all timeouts, and the last wait
abbrev pub plan_length : Settings → ℕ
plan_length settings = sum_of_timeouts settings (repetitions settings) + settings.last_wait

-- the largest number of timeouts, at most k, whose sum is less than a time
unfoldable pub timeouts_before : ℕ → Settings → ℕ → ℕ
timeouts_before time settings zero = 0
timeouts_before time settings (suc k) =
    if nat_lt (sum_of_timeouts settings (suc k)) time then suc k
    else timeouts_before time settings k

-- the settings, cut short so that the plan takes at most this time: the transmissions before the
-- time stay, and after the last of them the request waits for the rest of the time
abbrev pub cut : ℕ → Settings → Settings
cut time settings =
    if nat_le (plan_length settings) time then settings
    else record settings {
      transmissions = timeouts_before time settings (repetitions settings) + 1;
      last_wait = time
          - sum_of_timeouts settings (timeouts_before time settings (repetitions settings));
    }
