-- What is left of a tree without the transaction at an id.
use Rattle.std.proofs.Common.{ℕ, ◌≡◌, Bool, true, false, cond, [], ◌∷◌, subst, sym}
use Rattle.std.specs.List.{AllByRecursion}
use Rattle.std.specs.Ordering.{nat_cmp}
use Rattle.std.specs.BTreeMap.{is_at}
use Rattle.stun_agent.specs.declared.state.tree.Link.{Link}
use Rattle.stun_agent.specs.declared.state.tree.Link.TheVariants.{Empty, Leaf, Fork'}
use Rattle.stun_agent.specs.Transactions.{Transaction, Transactions, without}
use Rattle.stun_agent.specs.code.Tree.{items, IsLone, IsPlaced, IsOrdered}
use Rattle.stun_agent.proofs.TreeLemmas.{ArePlaced, placed}

-- what holds of all of them holds without one
all_without : (P : ℕ × Transaction → Type 0) (id : ℕ) (es : Transactions)
    → AllByRecursion P es → AllByRecursion P (without id es)
all_without P id [] h = tt
all_without P id (e ∷ es) h = by (is_at (nat_cmp id) e.0) (all_without P id es h.1)
  where
    by : (b : Bool) → AllByRecursion P (without id es)
        → AllByRecursion P (cond b es (e ∷ without id es))
    by true rest = h.1
    by false rest = (h.0, rest)

module _ {A D : Type 0} where
  -- one transaction in the part is in order
  lone_ordered : (levels part : ℕ) (l : Link A D) → IsLone l → ArePlaced levels part (items l)
      → IsOrdered levels part l
  lone_ordered levels part Empty lone h = tt
  lone_ordered levels part (Leaf awaited leaf) lone h = h.0
  lone_ordered levels part (Fork' awaited p a b c d) lone h = elim lone [ ]

  -- a link to the one transaction, or to none, that a fork has kept is in order
  pub kept_ordered : (id levels part : ℕ) (whole only : Link A D) → IsOrdered levels part whole
      → IsLone only → items only ≡ without id (items whole) → IsOrdered levels part only
  kept_ordered id levels part whole only h lone is =
      lone_ordered levels part only lone
      (subst (ArePlaced levels part) (sym is)
      (all_without (IsPlaced levels part) id (items whole) (placed levels part whole h)))
