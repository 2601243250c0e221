-- The room of a writer that grows, and that may begin with bytes of any number.
use Rattle.std.specs.Prelude.{ℕ, ◌+◌, ◌-◌, ◌≤◌}
use Rattle.stun_types.specs.Limits.{LENGTH_LIMIT}

-- this many reserved bytes after this many written ones fit the capacity, and what is left of the
-- longest message
pub record FitsBuffer (len reserved capacity : ℕ) : Type 0 where
  pub in_capacity : len + reserved ≤ capacity
  pub in_message : reserved ≤ LENGTH_LIMIT - len
