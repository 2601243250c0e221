-- The number of bytes that a frame states.
use Rattle.std.specs.Prelude.{ℕ, ◌+◌}
use Rattle.stun_extra.specs.declared.framing.Frame.{Frame}
use Rattle.stun_extra.specs.declared.framing.Frame.TheVariants.{Need, Message as Whole}
use Rattle.stun_extra.specs.declared.framing.Frame.TheVariants.{NotStun as NoFrame}

-- the bytes that have arrived and those that a frame needs, or those that it has
abbrev pub wanted_bytes : ℕ → Frame → ℕ
wanted_bytes there (Need more) = there + more
wanted_bytes there (Whole n) = n
wanted_bytes there NoFrame = 0
