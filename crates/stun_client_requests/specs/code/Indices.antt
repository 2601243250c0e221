-- What always holds for the three indices by number.
use Rattle.std.specs.Prelude.{◌≡◌, ◌≤◌, ◌+◌, ◌==◌, ℕ, Bool, true, false, List, count_by}
use Rattle.std.specs.Prelude.{if◌then◌else◌, length}
use Rattle.std.specs.BTreeMap.{is_at}
use Rattle.std.specs.BinaryHeap.{IsHeap}
use Rattle.std.specs.List.{list_any}
use Rattle.std.specs.Map.{values_of}
use Rattle.std.specs.Option.{option_map_or}
use Rattle.std.specs.Ordering.{nat_cmp}
use Rattle.std.specs.declared.cmp.Ordering.{Ordering}
use Rattle.std.specs.declared.cmp.Reverse.{Reverse}
use Rattle.stun_client_requests.specs.Numbers.{AllKnown, is_ended, is_outstanding, known_at}

-- the greater number comes later
abbrev pub later : Reverse ℕ → Reverse ℕ → Ordering
later x y = nat_cmp y.0 x.0

-- how often a number is in a heap
abbrev pub times : ℕ → List (Reverse ℕ) → ℕ
times number items = count_by (λ x. x.0 == number) items

abbrev pub has_ended : {E : Type 0} → AllKnown E → ℕ → Bool
has_ended all number = option_map_or is_ended (known_at number all) false

abbrev pub is_open : {E : Type 0} → AllKnown E → ℕ → Bool
is_open all number = option_map_or is_outstanding (known_at number all) false

-- the heap has each request that has ended once, and nothing else, and has room for the outstanding
-- ones, which are counted. Those whose bytes were not returned yet are outstanding
pub record AreIndices {E : Type 0} (known : AllKnown E) (unsent : List ℕ) (items : List (Reverse ℕ))
    (ended room outstanding : ℕ) : Type 0 where
  pub in_order : IsHeap later items
  pub listed : (number : ℕ) → times number items ≡ (if has_ended known number then 1 else 0)
  pub long : ended ≡ length items
  pub counted : outstanding ≡ count_by is_outstanding (values_of known)
  pub fits : ended + outstanding ≤ room
  pub sendable : (number : ℕ) → list_any (is_at (nat_cmp number)) unsent ≡ true
      → is_open known number ≡ true
