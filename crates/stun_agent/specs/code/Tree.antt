-- Transactions in a tree: which it holds, in which order, and what its links state.
use Rattle.std.specs.Prelude.{ℕ, max, ◌≡◌, ◌+◌, ◌-◌, ◌*◌, ◌/◌, ◌^◌, ◌<◌, ◌≤◌, [], ◌∷◌, ◌++◌}
use Rattle.std.specs.Prelude.{Option, Some, None}
use Rattle.stun_base.specs.declared.wire.transport.TransportType.{TransportType}
use Rattle.stun_agent.specs.declared.state.tree.Fork.{Fork}
use Rattle.stun_agent.specs.declared.state.tree.Link.{Link}
use Rattle.stun_agent.specs.declared.state.tree.Link.TheVariants.{Empty, Leaf, Fork'}
use Rattle.stun_agent.specs.declared.state.tree.Quarter.{Quarter}
use Rattle.stun_agent.specs.declared.state.tree.Quarter.TheVariants.{First, Second, Third, Fourth}
use Rattle.stun_agent.specs.Deadlines.{most_levels}
use Rattle.stun_agent.specs.Tables.{Attached}
use Rattle.stun_agent.specs.Transactions.{Transaction, Transactions, IsNamed}
use Rattle.stun_agent.specs.code.Awaited.{Awaited, nothing, awaited_by, awaited_of}

-- ---- what is in a tree
-- the transactions below a link, in the order of their ids
abbrev pub items : {A D : Type 0} → Link A D → Transactions
items Empty = []
items (Leaf awaited leaf) = leaf.value.entry ∷ []
items (Fork' awaited p a b c d) = items a ++ (items b ++ (items c ++ items d))

abbrev pub fork_items : {A D : Type 0} → Fork A D → Transactions
fork_items fork =
    items fork.first ++ (items fork.second ++ (items fork.third ++ items fork.fourth))

-- the data of the owner below a link, in the order of the IDs
abbrev pub attached : {A D : Type 0} → Link A D → Attached D
attached Empty = []
attached (Leaf awaited leaf) = (leaf.value.entry.0, leaf.value.datum) ∷ []
attached (Fork' awaited p a b c d) = attached a ++ (attached b ++ (attached c ++ attached d))

abbrev pub fork_attached : {A D : Type 0} → Fork A D → Attached D
fork_attached fork =
    attached fork.first
    ++ (attached fork.second ++ (attached fork.third ++ attached fork.fourth))

-- ---- its order
-- the part of all IDs that contains an ID, below which there is room for this many levels of forks:
-- all its bits but two for each level
abbrev pub part_of : ℕ → ℕ → ℕ
part_of levels id = id / 2 ^ (2 * levels)

-- an ID in this part, which is that of the request
pub record IsPlaced (levels part : ℕ) (e : ℕ × Transaction) : Type 0 where
  pub inside : part_of levels e.0 ≡ part
  pub named : IsNamed e

-- the two bits of an ID that stand for a quarter of a part
abbrev pub two_bits : Quarter → ℕ
two_bits First = 0
two_bits Second = 1
two_bits Third = 2
two_bits Fourth = 3

-- there is room for this many levels of forks below a link, if that is a fork
pub record IsDeep (levels : ℕ) : Type 0 where
  pub some : 0 < levels
  pub most : levels ≤ most_levels

-- each quarter of a part is below a link of its own, down to the single transactions
abbrev pub IsOrdered : {A D : Type 0} → ℕ → ℕ → Link A D → Type 0
IsOrdered levels part Empty = Unit {0}
IsOrdered levels part (Leaf awaited leaf) = IsPlaced levels part leaf.value.entry
IsOrdered levels part (Fork' awaited p a b c d) =
    IsDeep levels
    × IsOrdered (levels - 1) (4 * part) a × IsOrdered (levels - 1) (4 * part + 1) b
    × IsOrdered (levels - 1) (4 * part + 2) c × IsOrdered (levels - 1) (4 * part + 3) d

abbrev pub IsOrderedFork : {A D : Type 0} → ℕ → ℕ → Fork A D → Type 0
IsOrderedFork levels part fork =
    IsOrdered (levels - 1) (4 * part) fork.first × IsOrdered (levels - 1) (4 * part + 1) fork.second
    × IsOrdered (levels - 1) (4 * part + 2) fork.third
    × IsOrdered (levels - 1) (4 * part + 3) fork.fourth

-- ---- its depth
-- the largest number of forks that are below one another
abbrev pub depth : {A D : Type 0} → Link A D → ℕ
depth Empty = 0
depth (Leaf awaited leaf) = 0
depth (Fork' awaited p a b c d) = 1 + max (depth a) (max (depth b) (max (depth c) (depth d)))

abbrev pub fork_depth : {A D : Type 0} → Fork A D → ℕ
fork_depth fork =
    max (depth fork.first) (max (depth fork.second) (max (depth fork.third) (depth fork.fourth)))

-- ---- its times
-- what a link states of the requests below it
abbrev pub told : {A D : Type 0} → Link A D → Awaited
told Empty = nothing
told (Leaf awaited leaf) = awaited
told (Fork' awaited p a b c d) = awaited

-- each link states what the requests below it await
abbrev pub IsTimed : {A D : Type 0} → TransportType → Link A D → Type 0
IsTimed transport Empty = Unit {0}
IsTimed transport (Leaf awaited leaf) = awaited ≡ awaited_by transport leaf.value.entry.1
IsTimed transport (Fork' awaited p a b c d) =
    (awaited ≡ awaited_of transport (items a ++ (items b ++ (items c ++ items d))))
    × IsTimed transport a × IsTimed transport b × IsTimed transport c × IsTimed transport d

abbrev pub IsTimedFork : {A D : Type 0} → TransportType → Fork A D → Type 0
IsTimedFork transport fork =
    IsTimed transport fork.first × IsTimed transport fork.second × IsTimed transport fork.third
    × IsTimed transport fork.fourth

-- a tree of all IDs
pub record IsTree {A D : Type 0} (transport : TransportType) (root : Link A D) : Type 0 where
  pub ordered : IsOrdered most_levels 0 root
  pub timed : IsTimed transport root

-- ---- one link
-- the link leads to one transaction
abbrev pub IsLeaf : {A D : Type 0} → Link A D → Type 0
IsLeaf Empty = ⊥
IsLeaf (Leaf awaited leaf) = Unit {0}
IsLeaf (Fork' awaited p a b c d) = ⊥

-- the link leads to a fork
abbrev pub IsFork : {A D : Type 0} → Link A D → Type 0
IsFork Empty = ⊥
IsFork (Leaf awaited leaf) = ⊥
IsFork (Fork' awaited p a b c d) = Unit {0}

-- the link leads to one transaction, or to none
abbrev pub IsLone : {A D : Type 0} → Link A D → Type 0
IsLone Empty = Unit {0}
IsLone (Leaf awaited leaf) = Unit {0}
IsLone (Fork' awaited p a b c d) = ⊥

-- the first of some transactions, if there are any
abbrev pub first_request : Transactions → Option Transaction
first_request [] = None
first_request (e ∷ es) = Some e.1

-- the first of some data, if there are any
abbrev pub first_datum : {D : Type 0} → Attached D → Option D
first_datum [] = None
first_datum (e ∷ es) = Some e.1
