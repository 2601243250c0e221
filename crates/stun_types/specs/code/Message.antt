-- A message as its struct stores it.
use Rattle.std.specs.Prelude.{◌≡◌, ◌≤◌, ℕ, List, length}
use Rattle.stun_base.specs.Header.{HeaderFields, header_of}
use Rattle.stun_types.specs.Limits.{LENGTH_LIMIT}
use Rattle.stun_types.specs.Message.{IsMessage}

-- the bytes are a message with this header, so their length is at most the greatest length of a
-- message
pub record IsRead (header : HeaderFields) (bytes : List ℕ) : Type 0 where
  pub is_message : IsMessage bytes
  pub header_is : header ≡ header_of bytes
  pub limit : length bytes ≤ LENGTH_LIMIT
