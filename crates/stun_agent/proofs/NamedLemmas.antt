-- What a search finds has the id of its bytes.
use Rattle.std.proofs.Common.{ℕ, Bool, true, false, cond, [], ◌∷◌}
use Rattle.std.specs.Prelude.{Some, find, IfSome}
use Rattle.std.specs.List.{AllByRecursion}
use Rattle.stun_agent.specs.Transactions.{Transaction, Transactions, IsNamed}

abbrev AreNamed : Transactions → Type 0
AreNamed all = AllByRecursion IsNamed all

-- what a search finds is named by its id
pub named-found : (p : ℕ × Transaction → Bool) (all : Transactions) → AreNamed all
    → IfSome (find p all) IsNamed
named-found p [] h = tt
named-found p (e ∷ es) h = by (p e) (named-found p es h.1)
  where
    by : (b : Bool) → IfSome (find p es) IsNamed → IfSome (cond b (Some e) (find p es)) IsNamed
    by true rest = h.0
    by false rest = rest
