-- What always holds for the table and for the numbers.
use Rattle.std.specs.Prelude.{◌≡◌, ◌≤◌, ℕ, Some, None}
use Rattle.std.specs.List.Sorted.{IsStrictlySortedBy}
use Rattle.std.specs.Map.{keys_of}
use Rattle.std.specs.Ordering.{nat_cmp}
use Rattle.stun_agent.specs.Tables.{Attached}
use Rattle.stun_client_requests.specs.Numbers.{NumbersSeen, id_at, known_at}
use Rattle.stun_client_requests.specs.Requests.{number_at}
use Rattle.stun_client_requests.specs.declared.requests.Request.{Request}

-- the table is in the order of the transaction IDs. A request in it is outstanding under its number
-- with its transaction ID, and each outstanding request is in it. The next number is free, and so
-- are all greater ones
pub record IsOneTable {D E : Type 0} (all : Attached (Request D)) (numbers : NumbersSeen E) (next
    : ℕ)
    : Type 0 where
  pub in_order : IsStrictlySortedBy nat_cmp (keys_of all)
  pub named : (id number : ℕ) → number_at id all ≡ Some number → id_at number numbers ≡ Some id
  pub timed : (number id : ℕ) → id_at number numbers ≡ Some id → number_at id all ≡ Some number
  pub fresh : (number : ℕ) → next ≤ number → known_at number numbers.known ≡ None
