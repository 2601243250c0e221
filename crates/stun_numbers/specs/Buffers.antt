-- The caller's buffer after a call.
use Rattle.std.specs.Prelude.{ℕ, List, ◌++◌, length, drop, nat_lt, if◌then◌else◌, Result, Ok, Err}
use Rattle.stun_numbers.specs.declared.refusal.Refusal.{Refusal}
use Rattle.stun_numbers.specs.declared.refusal.Refusal.TheVariants.{BufferTooSmall}

-- bytes for a buffer with this much room, which must be enough
abbrev pub within_room : Result (List ℕ) Refusal → ℕ → Result (List ℕ) Refusal
within_room (Ok bytes) room = if nat_lt room (length bytes) then Err BufferTooSmall else Ok bytes
within_room (Err refusal) room = Err refusal

-- how many bytes are written
abbrev pub length_of : Result (List ℕ) Refusal → Result ℕ Refusal
length_of (Ok bytes) = Ok (length bytes)
length_of (Err refusal) = Err refusal

-- the buffer afterwards: the bytes, then what followed them; an error leaves it unchanged
abbrev pub buffer_after : Result (List ℕ) Refusal → List ℕ → List ℕ
buffer_after (Ok bytes) buffer = bytes ++ drop (length bytes) buffer
buffer_after (Err refusal) buffer = buffer
