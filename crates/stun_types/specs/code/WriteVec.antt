-- The room of a writer that grows.
use Rattle.std.specs.Prelude.{ℕ, ◌+◌, ◌≤◌}
use Rattle.stun_types.specs.Limits.{LENGTH_LIMIT}

-- the written bytes and the reserved bytes together fit in the capacity, and in the longest message
pub record FitsCapacity (len reserved capacity : ℕ) : Type 0 where
  pub in_capacity : len + reserved ≤ capacity
  pub in_message : len + reserved ≤ LENGTH_LIMIT
