-- Times and spans, in whole nanoseconds. RFC 8489 leaves the clock open; these are the times of
-- this library.
use Rattle.std.specs.Prelude.{ℕ, ◌+◌, ◌-◌, ◌^◌, min}

-- the last time
abbrev pub last_moment : ℕ
last_moment = 2 ^ 64 - 1

-- a time plus a span, but at most the last time
abbrev pub moment_after : ℕ → ℕ → ℕ
moment_after moment span = min (moment + span) last_moment
