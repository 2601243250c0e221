-- Why nothing can be added to the message at the front of a buffer.
use Rattle.std.specs.Prelude.{ℕ, Bool, List, length, take, find, nat_lt}
use Rattle.std.specs.Prelude.{if◌then◌else◌, is_some, Option, Some, None}
use Rattle.std.specs.Option.{option_or}
use Rattle.stun_types.specs.Message.{refusal}
use Rattle.stun_types.specs.Visible.{visible}
use Rattle.stun_types.specs.Writing.{is_set_apart}
use Rattle.stun_numbers.specs.Refusals.{message_refusal}
use Rattle.stun_numbers.specs.declared.refusal.Refusal.{Refusal}
use Rattle.stun_numbers.specs.declared.refusal.Refusal.TheVariants.{BadArgument, Closed}

-- whether a message has an attribute after which no other may be added (RFC 8489, sections 14.5 to
-- 14.7)
abbrev pub is_closed : List ℕ → Bool
is_closed message = is_some (find (λ m. is_set_apart m.1.kind) (visible message))

-- why nothing can be added to the first `count` bytes of a buffer, if nothing can
abbrev pub base_refusal : List ℕ → ℕ → Option Refusal
base_refusal buffer count =
    if nat_lt (length buffer) count then Some BadArgument
    else option_or (message_refusal (refusal (take count buffer)))
    (if is_closed (take count buffer) then Some Closed else None)
