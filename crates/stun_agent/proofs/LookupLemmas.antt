-- What is at an id, and how many there are, once entries are taken out, put in or changed.
use Rattle.std.proofs.Common.{ℕ, ◌≡◌, ◌+◌, Bool, true, false, cond, List, []}
use Rattle.std.proofs.Common.{◌∷◌, length, subst, ap, sym, refl, ◌∙◌, arith}
use Rattle.std.specs.Prelude.{Option, Some, None, find}
use Rattle.std.specs.Option.{option_map, option_map_or, is_some}
use Rattle.std.specs.List.{AllByRecursion}
use Rattle.std.specs.Map.{lookup, keys_of, set_value}
use Rattle.std.specs.Ordering.{nat_cmp, is_eq, match_ordering}
use Rattle.std.specs.declared.cmp.Ordering.{Ordering}
use Rattle.std.specs.declared.cmp.Ordering.TheVariants.{Less, Equal, Greater}
use Rattle.std.specs.BTreeMap.{is_at}
use Rattle.std.proofs.lemmas.Map.Keys.{sorted_head, sorted_tail}
use Rattle.stun_agent.specs.Transactions.{Transaction, Transactions, IsAscending}
use Rattle.stun_agent.specs.Transactions.{at, with, without, with_change_at}
use Rattle.stun_agent.proofs.Ascending.{lookup-set_other}
use Rattle.stun_agent.proofs.EntryLemmas.{same_key, own_key}
pub use Rattle.stun_agent.proofs.EntryLemmas.{lookup-map}

pub none_above : {X : Type 0} (k : ℕ) (es : List (ℕ × X))
    → AllByRecursion (λ y. nat_cmp k y ≡ Less) (keys_of es) → lookup (is_at (nat_cmp k)) es ≡ None
none_above k [] a = refl
none_above {X} k (e ∷ es) a = by (is_at (nat_cmp k) e.0) refl (none_above k es a.1)
  where
    by : (b : Bool) → is_at (nat_cmp k) e.0 ≡ b → lookup (is_at (nat_cmp k)) es ≡ None
        → cond b (Some e.1) (lookup (is_at (nat_cmp k)) es) ≡ None
    by true is rest = let off : is_at (nat_cmp k) e.0 ≡ false = ap is_eq a.0 in cc
    by false is rest = rest

pub at-without : (id : ℕ) (all : Transactions) → IsAscending all → at id (without id all) ≡ None
at-without id [] s = refl
at-without id (e ∷ es) s =
    by (is_at (nat_cmp id) e.0) refl (at-without id es (sorted_tail nat_cmp e.0 (keys_of es) s))
  where
    by : (b : Bool) → is_at (nat_cmp id) e.0 ≡ b → at id (without id es) ≡ None
        → at id (cond b es (e ∷ without id es)) ≡ None
    by true is rest =
        let key : e.0 ≡ id = same_key id e.0 is in
        none_above id es
        (subst (λ j. AllByRecursion (λ y. nat_cmp j y ≡ Less) (keys_of es)) key
        (sorted_head nat_cmp e.0 (keys_of es) s))
    by false is rest = ap (λ b. cond b (Some e.1) (at id (without id es))) is ∙ rest

at-set : (id : ℕ) (w : Transaction) (all : Transactions) (t : Transaction) → at id all ≡ Some t
    → at id (set_value (is_at (nat_cmp id)) all w) ≡ Some w
at-set id w [] t h = cc
at-set id w (e ∷ es) t h = by (is_at (nat_cmp id) e.0) refl h (at-set id w es t)
  where
    by : (b : Bool) → is_at (nat_cmp id) e.0 ≡ b → cond b (Some e.1) (at id es) ≡ Some t
        → (at id es ≡ Some t → at id (set_value (is_at (nat_cmp id)) es w) ≡ Some w)
        → at id (cond b ((e.0, w) ∷ es) (e ∷ set_value (is_at (nat_cmp id)) es w)) ≡ Some w
    by true is h rest = ap (λ b. cond b (Some w) (at id es)) is
    by false is h rest =
        ap (λ b. cond b (Some e.1) (at id (set_value (is_at (nat_cmp id)) es w))) is ∙ rest h

pub at-with_change_at : (f : Transaction → Transaction) (id : ℕ) (all : Transactions)
    → at id (with_change_at f id all) ≡ option_map f (at id all)
at-with_change_at f id all = by (at id all) refl
  where
    by : (found : Option Transaction) → at id all ≡ found
        → at id (option_map_or (λ t. set_value (is_at (nat_cmp id)) all (f t)) found all)
        ≡ option_map f found
    by None is = is
    by (Some t) is = at-set id (f t) all t is

pub at-changed_other : (f : Transaction → Transaction) (id other : ℕ) (all : Transactions)
    → is_at (nat_cmp id) other ≡ false → at id (with_change_at f other all) ≡ at id all
at-changed_other f id other all apart = by (at other all)
  where
    by : (found : Option Transaction)
        → at id (option_map_or (λ t. set_value (is_at (nat_cmp other)) all (f t)) found all)
        ≡ at id all
    by None = refl
    by (Some t) = lookup-set_other id other (f t) all apart

pub is_some-option_map : {X Y : Type 0} (f : X → Y) (o : Option X)
    → is_some (option_map f o) ≡ is_some o
is_some-option_map f None = refl
is_some-option_map f (Some x) = refl

pub is_some-with_change_at : (f : Transaction → Transaction) (id other : ℕ) (all : Transactions)
    → is_some (at id (with_change_at f other all)) ≡ is_some (at id all)
is_some-with_change_at f id other all = by (is_at (nat_cmp id) other) refl
  where
    by : (b : Bool) → is_at (nat_cmp id) other ≡ b
        → is_some (at id (with_change_at f other all)) ≡ is_some (at id all)
    by true is =
        let key : other ≡ id = same_key id other is in
        subst (λ j. is_some (at id (with_change_at f j all)) ≡ is_some (at id all)) (sym key)
        (ap is_some (at-with_change_at f id all) ∙ is_some-option_map f (at id all))
    by false is = ap is_some (at-changed_other f id other all is)

-- ---- how many there are
pub length-without : (id : ℕ) (all : Transactions) (t : Transaction) → at id all ≡ Some t
    → length (without id all) + 1 ≡ length all
length-without id [] t h = cc
length-without id (e ∷ es) t h = by (is_at (nat_cmp id) e.0) h (length-without id es t)
  where
    by : (b : Bool) → cond b (Some e.1) (at id es) ≡ Some t
        → (at id es ≡ Some t → length (without id es) + 1 ≡ length es)
        → length (cond b es (e ∷ without id es)) + 1 ≡ length (e ∷ es)
    by true h rest = omega arith
    by false h rest = omega (arith, rest h)

pub length-with : (id : ℕ) (w : Transaction) (all : Transactions) → at id all ≡ None
    → length (with id w all) ≡ length all + 1
length-with id w [] h = omega arith
length-with id w (e ∷ es) h = by (nat_cmp id e.0) refl (length-with id w es)
  where
    by : (r : Ordering) → nat_cmp id e.0 ≡ r
        → (at id es ≡ None → length (with id w es) ≡ length es + 1)
        → length (match_ordering r ((id, w) ∷ e ∷ es) ((e.0, w) ∷ es) (e ∷ with id w es))
        ≡ length (e ∷ es) + 1
    by Less is rest = omega arith
    by Equal is rest = let found : at id (e ∷ es) ≡ Some e.1 =
        ap (λ b. cond b (Some e.1) (at id es)) (ap is_eq is) in cc
    by Greater is rest = let off : at id (e ∷ es) ≡ at id es =
        ap (λ b. cond b (Some e.1) (at id es)) (ap is_eq is) in omega (arith, rest (sym off ∙ h))

length-set : (test : ℕ → Bool) (all : Transactions) (w : Transaction)
    → length (set_value test all w) ≡ length all
length-set test [] w = refl
length-set test (e ∷ es) w = by (test e.0) (length-set test es w)
  where
    by : (b : Bool) → length (set_value test es w) ≡ length es
        → length (cond b ((e.0, w) ∷ es) (e ∷ set_value test es w)) ≡ length (e ∷ es)
    by true rest = omega arith
    by false rest = omega (arith, rest)

pub length-with_change_at : (f : Transaction → Transaction) (id : ℕ) (all : Transactions)
    → length (with_change_at f id all) ≡ length all
length-with_change_at f id all = by (at id all)
  where
    by : (found : Option Transaction)
        → length (option_map_or (λ t. set_value (is_at (nat_cmp id)) all (f t)) found all)
        ≡ length all
    by None = refl
    by (Some t) = length-set (is_at (nat_cmp id)) all (f t)

-- what a search finds is at some entry of its id
pub found_there : (p : ℕ × Transaction → Bool) (all : Transactions) (e : ℕ × Transaction)
    → find p all ≡ Some e → (t : Transaction) × (at e.0 all ≡ Some t)
found_there p [] e h = cc
found_there p (x ∷ xs) e h = by (p x) h (found_there p xs e)
  where
    either_way : (b : Bool) (t : Transaction) → at e.0 xs ≡ Some t
        → (u : Transaction) × (cond b (Some x.1) (at e.0 xs) ≡ Some u)
    either_way true t is = (x.1, refl)
    either_way false t is = (t, is)

    by : (b : Bool) → cond b (Some x) (find p xs) ≡ Some e
        → (find p xs ≡ Some e → (t : Transaction) × (at e.0 xs ≡ Some t))
        → (t : Transaction) × (at e.0 (x ∷ xs) ≡ Some t)
    by true h rest =
        let key : x.0 ≡ e.0 = ap (λ o. option_map_or (λ (y : ℕ × Transaction). y.0) o 0) h in
        let own : is_at (nat_cmp e.0) x.0 ≡ true =
        subst (λ k. is_at (nat_cmp e.0) k ≡ true) (sym key) (own_key e.0) in
        (x.1, ap (λ b. cond b (Some x.1) (at e.0 xs)) own)
    by false h rest = let tail = rest h in either_way (is_at (nat_cmp e.0) x.0) tail.0 tail.1

-- what a search finds passes its test
pub found_passes : {X : Type 0} (p : X → Bool) (xs : List X) (x : X) → find p xs ≡ Some x
    → p x ≡ true
found_passes p [] x h = cc
found_passes {X} p (y ∷ ys) x h = by (p y) refl h (found_passes p ys x)
  where
    by : (b : Bool) → p y ≡ b → cond b (Some y) (find p ys) ≡ Some x
        → (find p ys ≡ Some x → p x ≡ true) → p x ≡ true
    by true is h rest = let same : y ≡ x = ap (λ o. option_map_or (λ z. z) o y) h in
        subst (λ z. p z ≡ true) same is
    by false is h rest = rest h
