-- One step of a walk over a list by index.
use Rattle.std.proofs.Common.{◌≡◌, ℕ, zero, suc, ◌+◌, Bool, true, false, List, []}
use Rattle.std.proofs.Common.{◌∷◌, ◌++◌, take, drop, Some, None, refl, ap, add-one}
use Rattle.std.specs.Prelude.{cond, map, find}
use Rattle.std.specs.List.{slice_get}
use Rattle.std.specs.Option.{IfSome}

from_at : {X : Type 0} (xs : List X) (i : ℕ) (x : X) → slice_get xs i ≡ Some x
    → drop i xs ≡ x ∷ drop (suc i) xs
from_at [] i x h = cc
from_at (y ∷ ys) zero x h = cc
from_at (y ∷ ys) (suc i) x h = from_at ys i x h

up_to_at : {X : Type 0} (xs : List X) (i : ℕ) (x : X) → slice_get xs i ≡ Some x
    → take (suc i) xs ≡ take i xs ++ x ∷ []
up_to_at [] i x h = cc
up_to_at (y ∷ ys) zero x h = cc
up_to_at (y ∷ ys) (suc i) x h = ap (λ zs. y ∷ zs) (up_to_at ys i x h)

from_none : {X : Type 0} (xs : List X) (i : ℕ) → slice_get xs i ≡ None → drop i xs ≡ drop (suc i) xs
from_none [] zero h = refl
from_none [] (suc i) h = refl
from_none (y ∷ ys) zero h = cc
from_none (y ∷ ys) (suc i) h = from_none ys i h

up_to_none : {X : Type 0} (xs : List X) (i : ℕ) → slice_get xs i ≡ None
    → take (suc i) xs ≡ take i xs
up_to_none [] zero h = refl
up_to_none [] (suc i) h = refl
up_to_none (y ∷ ys) zero h = cc
up_to_none (y ∷ ys) (suc i) h = ap (λ zs. y ∷ zs) (up_to_none ys i h)

-- what is from an index on begins with its element
pub drop-at : {X : Type 0} (xs : List X) (i : ℕ) (x : X) → slice_get xs i ≡ Some x
    → drop i xs ≡ x ∷ drop (i + 1) xs
drop-at xs i x h = rw (add-one i) (from_at xs i x h)

-- what is up to an index ends with its element
pub take-at : {X : Type 0} (xs : List X) (i : ℕ) (x : X) → slice_get xs i ≡ Some x
    → take (i + 1) xs ≡ take i xs ++ x ∷ []
take-at xs i x h = rw (add-one i) (up_to_at xs i x h)

-- past the end nothing changes
pub drop-past : {X : Type 0} (xs : List X) (i : ℕ) → slice_get xs i ≡ None
    → drop i xs ≡ drop (i + 1) xs
drop-past xs i h = rw (add-one i) (from_none xs i h)

pub take-past : {X : Type 0} (xs : List X) (i : ℕ) → slice_get xs i ≡ None
    → take (i + 1) xs ≡ take i xs
take-past xs i h = rw (add-one i) (up_to_none xs i h)

-- an element that passes is found
pub find-at : {X Y : Type 0} (p : Y → Bool) (f : X → Y) (xs : List X) (i : ℕ) (x : X)
    → slice_get xs i ≡ Some x → p (f x) ≡ true
    → find p (map f (drop i xs)) ≡ Some (f x)
find-at p f xs i x h passes = rw (drop-at xs i x h, passes) refl

-- one that does not pass is not
pub find-past : {X Y : Type 0} (p : Y → Bool) (f : X → Y) (xs : List X) (i : ℕ) (x : X)
    → slice_get xs i ≡ Some x → p (f x) ≡ false
    → find p (map f (drop i xs)) ≡ find p (map f (drop (i + 1) xs))
find-past p f xs i x h fails = rw (drop-at xs i x h, fails) refl

-- what `find` finds passes
pub find-passes : {X : Type 0} (test : X → Bool) (list : List X)
    → IfSome (find test list) (λ x. test x ≡ true)
find-passes test [] = tt
find-passes {X = X} test (first ∷ list) = by (test first) refl (find-passes test list)
  where
    by : (b : Bool) → test first ≡ b → IfSome (find test list) (λ x. test x ≡ true)
        → IfSome (cond b (Some first) (find test list)) (λ x. test x ≡ true)
    by true is rest = is
    by false is rest = rest
