-- How a request ends.
use Rattle.std.specs.Prelude.{ℕ, List, [], ◌∷◌, Option, None}
use Rattle.std.specs.BTreeMap.{is_at}
use Rattle.std.specs.Map.{remove_entry}
use Rattle.std.specs.Ordering.{nat_cmp}
use Rattle.stun_client_endpoint.specs.declared.ended.RequestEnd.{RequestEnd}
use Rattle.stun_client_calls.specs.Ids.{Earlier}
use Rattle.stun_client_calls.specs.Messages.{AllSent}

-- how a request has ended, the response that ended it, or no bytes, and the time between the
-- message and this response, if it is known
pub record EndSeen : Type 0 where
  pub end : RequestEnd
  pub response : List ℕ
  pub round_trip : Option ℕ

-- the end of a request without a response
abbrev pub bare_end : RequestEnd → EndSeen
bare_end end = record { end = end; response = []; round_trip = None }

-- the transaction IDs of earlier messages, without those of these messages, whose request ends
abbrev pub without_all : AllSent → Earlier → Earlier
without_all [] earlier = earlier
without_all (e ∷ others) earlier =
    without_all others (remove_entry (is_at (nat_cmp e.1.id)) earlier)
