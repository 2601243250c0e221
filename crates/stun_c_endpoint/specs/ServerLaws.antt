-- The statements of the laws over how a server judges a datagram.
use Rattle.std.specs.Prelude.{◌≡◌, ◌≤◌, ℕ, List, true, false, length}
use Rattle.stun_judging.specs.Named.{Named, by_hash, by_name}
use Rattle.stun_c_endpoint.specs.Replies.{told_name}
use Rattle.stun_c_endpoint.specs.declared.received.Received.{Received}

-- a caller reads whom a request names: the bytes, and whether these are the name or its hash. No
-- name in a message is longer than the room in a result (section 14.3)
abbrev pub Names : Named → Received → Type 0
Names (by_name name) r = (r.is_hash ≡ false) × (length name ≤ 513 → told_name r ≡ name)
Names (by_hash hash) r = (r.is_hash ≡ true) × (length hash ≤ 513 → told_name r ≡ hash)
