-- Credentials are refused side by side, and names without a colon are told apart by the first one.
use Rattle.std.proofs.Common.{◌≡◌, ◌↔◌, ℕ, List, [], ◌∷◌, ◌++◌, Bool, true, false, refl, ◌∙◌}
use Rattle.std.proofs.Common.{sym, ap, ap₂, subst, None, Some}
use Rattle.std.proofs.lemmas.List.{append_assoc}
use Rattle.std.specs.List.{list_any}
use Rattle.std.specs.Prelude.{◌&&◌, ◌||◌, ◌==◌, not, if◌then◌else◌, codes, drop, slice_index}
use Rattle.stun_base.specs.Keys.{with_colon}
use Rattle.stun_ice.specs.Agent.{has_colon}
use Rattle.stun_ice.specs.declared.checker.BuildError.TheVariants.{ColonInName, NameLength}
use Rattle.stun_ice.specs.declared.checker.BuildError.TheVariants.{PasswordLength}

-- ---- sides

together : (n m : Bool) (k l : Bool) (p q : Bool)
    → (if not (n && m) then Some NameLength
    else if k || l then Some ColonInName
    else if not (p && q) then Some PasswordLength else None) ≡ None
    → ((if not n then Some NameLength
    else if k then Some ColonInName else if not p then Some PasswordLength else None) ≡ None)
    × ((if not m then Some NameLength
    else if l then Some ColonInName else if not q then Some PasswordLength else None) ≡ None)
together false m k l p q h = cc
together true false k l p q h = cc
together true true true l p q h = cc
together true true false true p q h = cc
together true true false false false q h = cc
together true true false false true false h = cc
together true true false false true true h = (refl, refl)

apart : (n m : Bool) (k l : Bool) (p q : Bool)
    → ((if not n then Some NameLength
    else if k then Some ColonInName else if not p then Some PasswordLength else None) ≡ None)
    → ((if not m then Some NameLength
    else if l then Some ColonInName else if not q then Some PasswordLength else None) ≡ None)
    → (if not (n && m) then Some NameLength
    else if k || l then Some ColonInName
    else if not (p && q) then Some PasswordLength else None) ≡ None
apart false m k l p q h g = cc
apart true false k l p q h g = cc
apart true true true l p q h g = cc
apart true true false true p q h g = cc
apart true true false false false q h g = cc
apart true true false false true false h g = cc
apart true true false false true true h g = refl

pub sides : (n m : Bool) (k l : Bool) (p q : Bool)
    → ((if not (n && m) then Some NameLength
    else if k || l then Some ColonInName
    else if not (p && q) then Some PasswordLength else None) ≡ None)
    ↔ (((if not n then Some NameLength
    else if k then Some ColonInName else if not p then Some PasswordLength else None) ≡ None)
    × ((if not m then Some NameLength
    else if l then Some ColonInName else if not q then Some PasswordLength else None) ≡ None))
sides n m k l p q = (together n m k l p q, λ both. apart n m k l p q both.0 both.1)

-- a side that is accepted has no colon in its name
pub no-colon : (n k p : Bool)
    → (if not n then Some NameLength
    else if k then Some ColonInName else if not p then Some PasswordLength else None) ≡ None
    → k ≡ false
no-colon false k p h = cc
no-colon true true p h = cc
no-colon true false p h = refl

-- ---- names

or-right : (a b : Bool) → (a || b) ≡ false → b ≡ false
or-right true b h = cc
or-right false b h = h

never : {A : Type 0} → true ≡ false → A
never h = cc

-- a byte that is a colon is in no name without one
no-front : {A : Type 0} (byte : ℕ) (rest : List ℕ) → 58 ≡ byte → has_colon (byte ∷ rest) ≡ false → A
no-front byte rest is none =
    never (subst (λ b. ((b == 58) || list_any (λ byte. byte == 58) rest) ≡ false) (sym is) none)

parted : (n o p q : List ℕ) → has_colon n ≡ false → has_colon o ≡ false
    → n ++ (58 ∷ p) ≡ o ++ (58 ∷ q) → (n ≡ o) × (p ≡ q)
parted [] [] p q hn ho e = (refl, ap (drop 1) e)
parted [] (y ∷ o) p q hn ho e =
    no-front y o (ap (λ (l : List ℕ). slice_index l 0) e) ho
parted (x ∷ n) [] p q hn ho e =
    no-front x n (sym (ap (λ (l : List ℕ). slice_index l 0) e)) hn
parted (x ∷ n) (y ∷ o) p q hn ho e =
    let rest = parted n o p q (or-right (x == 58) (has_colon n) hn)
    (or-right (y == 58) (has_colon o) ho) (ap (drop 1) e) in
    (ap₂ (λ (b : ℕ) (bs : List ℕ). b ∷ bs) (ap (λ (l : List ℕ). slice_index l 0) e) rest.0, rest.1)

pub both-named : (n o p q : List ℕ) → has_colon n ≡ false → has_colon o ≡ false
    → with_colon n p ≡ with_colon o q → (n ≡ o) × (p ≡ q)
both-named n o p q hn ho e =
    parted n o p q hn ho (sym (append_assoc n (codes ":") p) ∙ e ∙ append_assoc o (codes ":") q)
