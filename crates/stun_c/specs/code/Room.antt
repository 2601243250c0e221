-- Where an attribute is written: after a message, in a buffer that has room for it.
use Rattle.std.specs.Prelude.{◌≤◌, ℕ, ◌+◌, ◌-◌}
use Rattle.stun_types.specs.Attribute.{attribute_length}
use Rattle.stun_types.specs.Limits.{max_length}

-- a header in the first `count` bytes of a buffer of `room`, and room for a value of n bytes after
-- it
pub record HasRoom (count n room : ℕ) : Type 0 where
  pub header : 20 ≤ count
  pub whole : count + attribute_length n ≤ room
  pub short : count - 20 + attribute_length n ≤ max_length
