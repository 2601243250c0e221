-- What a search finds in two lists, one after the other, and in the links of a fork.
use Rattle.std.proofs.Common.{ℕ, ◌≡◌, Bool, true, false, List, ◌++◌, sym, refl, ◌∙◌}
use Rattle.std.specs.Prelude.{Option, Some, None, find}
use Rattle.std.specs.Option.{option_map, option_or, is_some}
use Rattle.std.proofs.lemmas.List.Folds.{find-append}
use Rattle.stun_agent.specs.declared.state.tree.Fork.{Fork}
use Rattle.stun_agent.specs.Transactions.{Transaction}
use Rattle.stun_agent.specs.code.Tree.{items, fork_items}

pub none_is : {X : Type 0} (o : Option X) → is_some o ≡ false → o ≡ None
none_is None h = refl
none_is (Some x) h = cc

-- whether something is found is told by what is made of it
pub some_of : {X Y : Type 0} (f : X → Y) (o : Option X) (y : Y) → Some y ≡ option_map f o
    → is_some o ≡ true
some_of f None y h = cc
some_of f (Some x) y h = refl

pub none_of : {X Y : Type 0} (f : X → Y) (o : Option X) → None ≡ option_map f o
    → is_some o ≡ false
none_of f None h = refl
none_of f (Some x) h = cc

module _ {X : Type 0} (p : X → Bool) (xs ys : List X) where
  -- what is found in the first is found
  pub found_first : is_some (find p xs) ≡ true → find p xs ≡ find p (xs ++ ys)
  found_first some = by (find p xs) some ∙ sym (find-append p xs ys)
    where
      by : (o : Option X) → is_some o ≡ true → o ≡ option_or o (find p ys)
      by None h = cc
      by (Some x) h = refl

  -- and where that has nothing, what is found in the second
  pub found_second : is_some (find p xs) ≡ false → find p ys ≡ find p (xs ++ ys)
  found_second none = by (find p xs) none ∙ sym (find-append p xs ys)
    where
      by : (o : Option X) → is_some o ≡ false → find p ys ≡ option_or o (find p ys)
      by None h = refl
      by (Some x) h = cc

-- the first link of a fork with one that passes has the first of them
module _ {A D : Type 0} (p : ℕ × Transaction → Bool) (fork : Fork A D) where
  pub found_in_first : is_some (find p (items fork.first)) ≡ true
      → find p (items fork.first) ≡ find p (fork_items fork)
  found_in_first some = found_first p (items fork.first) _ some

  module _ (none : is_some (find p (items fork.first)) ≡ false) where
    pub found_in_second : is_some (find p (items fork.second)) ≡ true
        → find p (items fork.second) ≡ find p (fork_items fork)
    found_in_second some =
        found_first p (items fork.second) _ some ∙ found_second p (items fork.first) _ none

    module _ (neither : is_some (find p (items fork.second)) ≡ false) where
      pub found_in_third : is_some (find p (items fork.third)) ≡ true
          → find p (items fork.third) ≡ find p (fork_items fork)
      found_in_third some =
          found_first p (items fork.third) _ some ∙ found_second p (items fork.second) _ neither
          ∙ found_second p (items fork.first) _ none

      pub found_in_fourth : is_some (find p (items fork.third)) ≡ false
          → find p (items fork.fourth) ≡ find p (fork_items fork)
      found_in_fourth last =
          found_second p (items fork.third) _ last ∙ found_second p (items fork.second) _ neither
          ∙ found_second p (items fork.first) _ none
