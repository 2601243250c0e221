-- At how many links a search looks, and how many forks are one below another.
use Rattle.std.proofs.Common.{ℕ, ◌≡◌, ◌+◌, ◌-◌, ◌*◌, ◌≤◌, arith, Bool, true}
use Rattle.std.specs.Prelude.{max, Option, Some, None, MatchOption}
use Rattle.std.specs.Option.{option_map, is_some}
use Rattle.stun_agent.specs.declared.state.tree.Link.{Link}
use Rattle.stun_agent.specs.declared.state.tree.Link.TheVariants.{Empty, Leaf, Fork'}
use Rattle.stun_agent.specs.Transactions.{Transaction}
use Rattle.stun_agent.specs.code.Transactions.{id_and_repeats}
use Rattle.stun_agent.specs.code.Tree.{depth, IsOrdered}

-- a search of the links of a fork, of which one has a request that is over
pub looks_of_fork : (told : Option (ℕ × Bool)) (found : Option (ℕ × Transaction))
    → told ≡ option_map id_and_repeats found → is_some found ≡ true
    → (old seen new deep : ℕ) → seen ≡ old + 1
    → MatchOption told (new ≤ seen + 4) (λ _. new ≤ seen + 4 + 4 * deep)
    → MatchOption told (new ≤ old + 1) (λ _. new ≤ old + 1 + 4 * (1 + deep))
looks_of_fork None None is some old seen new deep one looked = cc
looks_of_fork None (Some e) is some old seen new deep one looked = cc
looks_of_fork (Some s) found is some old seen new deep one looked = omega (arith, one, looked)

-- the search of the last link of a fork
pub looks_of_last : (told : Option (ℕ × Bool)) (old mid new a b c d : ℕ) → mid ≤ old + 3
    → MatchOption told (new ≤ mid + 1) (λ _. new ≤ mid + 1 + 4 * d)
    → MatchOption told (new ≤ old + 4)
    (λ _. new ≤ old + 4 + 4 * max a (max b (max c d)))
looks_of_last None old mid new a b c d first last = omega (arith, first, last)
looks_of_last (Some e) old mid new a b c d first last = omega (arith, first, last)

-- ---- each fork has fewer levels below it
pub depth_within : {A D : Type 0} (levels part : ℕ) (link : Link A D) → IsOrdered levels part link
    → depth link ≤ levels
depth_within levels part Empty ordered = omega arith
depth_within levels part (Leaf awaited leaf) ordered = omega arith
depth_within levels part (Fork' awaited p a b c d) (deep, oa, ob, oc, od) =
    let some = deep.some in
    let one = depth_within (levels - 1) _ a oa in
    let two = depth_within (levels - 1) _ b ob in
    let three = depth_within (levels - 1) _ c oc in
    let four = depth_within (levels - 1) _ d od in
    omega (arith, some, one, two, three, four)
