-- The transaction ID of the next message (RFC 8489, section 5).
use Rattle.std.specs.Prelude.{ℕ, ◌+◌, ◌-◌, ◌||◌, Bool, List, if◌then◌else◌, Option, Some, None}
use Rattle.std.specs.Prelude.{suc, zero}
use Rattle.std.specs.BTreeMap.{is_at}
use Rattle.std.specs.Map.{lookup}
use Rattle.std.specs.Option.{is_some, option_or}
use Rattle.std.specs.Ordering.{nat_cmp}
use Rattle.stun_agent.specs.Tables.{Attached}
use Rattle.stun_client.specs.Ids.{id_of}
use Rattle.stun_client_requests.specs.Requests.{LAST_NUMBER, number_at}
use Rattle.stun_client_requests.specs.declared.requests.Request.{Request}
use Rattle.stun_client_calls.specs.Messages.{AskedSeen}

-- the number of the request that each earlier message belongs to, by transaction ID
abbrev pub Earlier : Type 0
Earlier = List (ℕ × ℕ)

abbrev pub number_in : ℕ → Earlier → Option ℕ
number_in id earlier = lookup (is_at (nat_cmp id)) earlier

-- the number of the outstanding request that has a message with this transaction ID, the current
-- one or an earlier one
abbrev pub number_with : ℕ → Attached (Request AskedSeen) → Earlier → Option ℕ
number_with id all earlier = option_or (number_at id all) (number_in id earlier)

-- whether a message of an outstanding request has this ID
abbrev pub is_message : ℕ → Attached (Request AskedSeen) → Earlier → Bool
is_message id all earlier = is_some (number_at id all) || is_some (number_in id earlier)

abbrev pub is_taken : List ℕ → Attached (Request AskedSeen) → Earlier → ℕ → Bool
is_taken seed all earlier number = is_message (id_of seed number) all earlier

-- the first number that is free, among this many
abbrev pub first_free : (ℕ → Bool) → ℕ → ℕ → Option ℕ
first_free taken number zero = None
first_free taken number (suc many) =
    if taken number then first_free taken (number + 1) many else Some number

-- the number whose ID the next message gets: the first one that is free. The last number is not
-- used
abbrev pub free_number : List ℕ → Attached (Request AskedSeen) → Earlier → ℕ → Option ℕ
free_number seed all earlier next =
    first_free (is_taken seed all earlier) next (LAST_NUMBER - next)
