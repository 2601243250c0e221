-- What `best` answers is the strongest algorithm that both lists have.
use Rattle.std.proofs.Common.{◌≡◌, ◌≤◌, ◌⊎◌, List, [], ◌∷◌, Bool, true, false}
use Rattle.std.proofs.Common.{Option, Some, None, Contains, filter, fold, refl}
use Rattle.std.proofs.Common.{sym, ap, ap₂, ◌∙◌, inl, inr, true≢false, arith}
use Rattle.std.specs.Prelude.{cond, not, ◌&&◌}
use Rattle.std.specs.Cmp.{IsEquivalence}
use Rattle.std.specs.List.{reduce}
use Rattle.std.proofs.lemmas.Map.Views.{Contains-from_any, any-filter_same, list_any-from_Contains}
use Rattle.stun_base.specs.Algorithm.{strength}
use Rattle.stun_base.specs.declared.keys.algorithm.IntegrityAlgorithm.{IntegrityAlgorithm}
use Rattle.stun_base.specs.declared.keys.algorithm.IntegrityAlgorithm.TheVariants.{Sha1, Sha256}
use Rattle.stun_judging.specs.declared.feature.Feature.{Feature}
use Rattle.stun_judging.specs.declared.feature.Feature.TheVariants.{Auto, Required, Disabled}
use Rattle.stun_judging.specs.Algorithms.{has, same_algorithm}
use Rattle.stun_judging.specs.Feature.{is_required, is_possible}
use Rattle.stun_proto.specs.Best.{HashIsRefused, IsBest, IsShared}
use Rattle.stun_proto.specs.Best.{IsStrongestShared, best, stronger}
use Rattle.stun_proto.proofs.Tests.{both}

-- ---- by cases

-- the strongest that both have, by what each has of the two
abbrev pub common : Bool → Bool → Bool → Bool → Option IntegrityAlgorithm
common h1 h256 s1 s256 = cond (s256 && h256) (Some Sha256) (cond (s1 && h1) (Some Sha1) None)

fold-stronger : (a : IntegrityAlgorithm) (list : List IntegrityAlgorithm)
    → fold stronger a list ≡ cond (has Sha256 (a ∷ list)) Sha256 Sha1
fold-stronger Sha1 [] = refl
fold-stronger Sha256 [] = refl
fold-stronger Sha1 (Sha1 ∷ list) = fold-stronger Sha1 list
fold-stronger Sha1 (Sha256 ∷ list) = fold-stronger Sha256 list
fold-stronger Sha256 (Sha1 ∷ list) = fold-stronger Sha256 list
fold-stronger Sha256 (Sha256 ∷ list) = fold-stronger Sha256 list

Some-cond : (b : Bool) (a c : IntegrityAlgorithm) → Some (cond b a c) ≡ cond b (Some a) (Some c)
Some-cond true a c = refl
Some-cond false a c = refl

reduce-stronger : (list : List IntegrityAlgorithm) → reduce stronger list
    ≡ cond (has Sha256 list) (Some Sha256) (cond (has Sha1 list) (Some Sha1) None)
reduce-stronger [] = refl
reduce-stronger (Sha1 ∷ list) =
    ap Some (fold-stronger Sha1 list) ∙ Some-cond (has Sha256 list) Sha256 Sha1
reduce-stronger (Sha256 ∷ list) = ap Some (fold-stronger Sha256 list)

same : (a b : IntegrityAlgorithm) → same_algorithm b a ≡ true → a ≡ b
same Sha1 Sha1 h = refl
same Sha256 Sha256 h = refl
same Sha1 Sha256 h = cc
same Sha256 Sha1 h = cc

has-filter : (a : IntegrityAlgorithm) (p : IntegrityAlgorithm → Bool)
    (list : List IntegrityAlgorithm) → has a (filter p list) ≡ (p a && has a list)
has-filter a p list =
    any-filter_same (λ b. same_algorithm b a) p (p a) (λ b h. sym (ap p (same a b h))) list

pub best-by_cases : (client server : List IntegrityAlgorithm) (wanted given : Feature)
    → best client server wanted given
    ≡ cond (is_required wanted && not (is_possible given)) None
    (common (has Sha1 client) (has Sha256 client) (has Sha1 server) (has Sha256 server))
best-by_cases client server wanted given =
    let both : IntegrityAlgorithm → Bool = λ a. has a server in
    ap (cond (is_required wanted && not (is_possible given)) None)
    (reduce-stronger (filter both client)
    ∙ ap₂ (λ one other. cond other (Some Sha256) (cond one (Some Sha1) None))
    (has-filter Sha1 both client) (has-filter Sha256 both client))

-- ---- the law, for what both have of each algorithm, and whether nothing may be agreed on

abbrev choice : Bool → Bool → Bool → Option IntegrityAlgorithm
choice refused one other = cond refused None (cond other (Some Sha256) (cond one (Some Sha1) None))

abbrev of_two : Bool → Bool → IntegrityAlgorithm → Bool
of_two one other Sha1 = one
of_two one other Sha256 = other

below_sha256 : (b : IntegrityAlgorithm) → strength b ≤ strength Sha256
below_sha256 Sha1 = omega arith
below_sha256 Sha256 = omega arith

sha1_alone : (b : IntegrityAlgorithm) → of_two true false b ≡ true → strength b ≤ strength Sha1
sha1_alone Sha1 h = omega arith
sha1_alone Sha256 h = cc

none_of_two : (a : IntegrityAlgorithm) → of_two false false a ≡ true → ⊥
none_of_two Sha1 h = cc
none_of_two Sha256 h = cc

some_is : (refused one other : Bool) (a : IntegrityAlgorithm) → choice refused one other ≡ Some a
    → (refused ≡ false) × (of_two one other a ≡ true)
    × ((b : IntegrityAlgorithm) → of_two one other b ≡ true → strength b ≤ strength a)
some_is true one other a h = cc
some_is false one true Sha256 h = (refl, refl, λ b _. below_sha256 b)
some_is false one true Sha1 h = cc
some_is false true false Sha1 h = (refl, refl, sha1_alone)
some_is false true false Sha256 h = cc
some_is false false false a h = cc

is_some : (refused one other : Bool) (a : IntegrityAlgorithm) → refused ≡ false
    → of_two one other a ≡ true
    → ((b : IntegrityAlgorithm) → of_two one other b ≡ true → strength b ≤ strength a)
    → choice refused one other ≡ Some a
is_some true one other a allowed h most = cc
is_some false one true Sha256 allowed h most = refl
is_some false one true Sha1 allowed h most = let wrong : ⊥ =
    omega (arith, most Sha256 refl) in absurd wrong
is_some false true false Sha1 allowed h most = refl
is_some false false false Sha1 allowed h most = cc
is_some false one false Sha256 allowed h most = cc

none_is : (refused one other : Bool) → choice refused one other ≡ None
    → (refused ≡ true) ⊎ ((a : IntegrityAlgorithm) → of_two one other a ≡ true → ⊥)
none_is true one other h = inl refl
none_is false one true h = cc
none_is false true false h = cc
none_is false false false h = inr none_of_two

is_none : (refused one other : Bool) → (refused ≡ true)
    ⊎ ((a : IntegrityAlgorithm) → of_two one other a ≡ true → ⊥) → choice refused one other ≡ None
is_none true one other h = refl
is_none false one other (inl h) = cc
is_none false one true (inr nothing) = absurd (nothing Sha256 refl)
is_none false true false (inr nothing) = absurd (nothing Sha1 refl)
is_none false false false (inr nothing) = refl

-- ---- the law, for lists and features

same_equal : IsEquivalence (λ a b. same_algorithm b a)
same_equal = record { refl = itself; symm = either_way; congr = alike }
  where
    itself : (a : IntegrityAlgorithm) → same_algorithm a a ≡ true
    itself Sha1 = refl
    itself Sha256 = refl

    either_way : (a b : IntegrityAlgorithm) → same_algorithm b a ≡ same_algorithm a b
    either_way Sha1 Sha1 = refl
    either_way Sha1 Sha256 = refl
    either_way Sha256 Sha1 = refl
    either_way Sha256 Sha256 = refl

    alike : (a b c : IntegrityAlgorithm) → same_algorithm b a ≡ true
        → same_algorithm c a ≡ same_algorithm c b
    alike a b c h = ap (same_algorithm c) (same a b h)

Contains-from_has : (a : IntegrityAlgorithm) (list : List IntegrityAlgorithm) → has a list ≡ true
    → Contains list a
Contains-from_has a list = Contains-from_any {eq = λ x y. same_algorithm y x} same a list

pub has_from_Contains : (a : IntegrityAlgorithm) (list : List IntegrityAlgorithm) → Contains list a
    → has a list ≡ true
has_from_Contains a list = list_any-from_Contains {eq = λ x y. same_algorithm y x} same_equal a list

refused_is : (wanted given : Feature) → (is_required wanted && not (is_possible given)) ≡ true
    → HashIsRefused wanted given
refused_is Required Disabled h = (refl, refl)
refused_is Required Auto h = cc
refused_is Required Required h = cc
refused_is Auto given h = cc
refused_is Disabled given h = cc

is_refused : (wanted given : Feature) → HashIsRefused wanted given
    → (is_required wanted && not (is_possible given)) ≡ true
is_refused wanted given h = ap₂ (λ w g. is_required w && not (is_possible g)) h.0 h.1

false_unless : (b : Bool) → (b ≡ true → ⊥) → b ≡ false
false_unless true h = absurd (h refl)
false_unless false h = refl

module _ (client server : List IntegrityAlgorithm) (wanted given : Feature) where
  abbrev refused : Bool
  refused = is_required wanted && not (is_possible given)

  abbrev one : Bool
  one = has Sha1 server && has Sha1 client

  abbrev other : Bool
  other = has Sha256 server && has Sha256 client

  of_lists : (a : IntegrityAlgorithm) → of_two one other a ≡ (has a server && has a client)
  of_lists Sha1 = refl
  of_lists Sha256 = refl

  shared_is : (a : IntegrityAlgorithm) → of_two one other a ≡ true → IsShared client server a
  shared_is a h =
      let has_both = both (has a server) (has a client) (sym (of_lists a) ∙ h) in
      (Contains-from_has a client has_both.1, Contains-from_has a server has_both.0)

  is_shared : (a : IntegrityAlgorithm) → IsShared client server a → of_two one other a ≡ true
  is_shared a h = of_lists a
      ∙ ap₂ (λ s c. s && c) (has_from_Contains a server h.1) (has_from_Contains a client h.0)

  by_two : best client server wanted given ≡ choice refused one other
  by_two = best-by_cases client server wanted given

  some_strongest : (a : IntegrityAlgorithm) → best client server wanted given ≡ Some a
      → (HashIsRefused wanted given → ⊥) × IsStrongestShared client server a
  some_strongest a h =
      let is = some_is refused one other a (sym by_two ∙ h) in (
        λ clash. true≢false (sym (is_refused wanted given clash) ∙ is.0),
        record { shared = shared_is a is.1; strongest = λ b shared. is.2 b (is_shared b shared) },
      )

  strongest_some : (a : IntegrityAlgorithm) → (HashIsRefused wanted given → ⊥)
      × IsStrongestShared client server a → best client server wanted given ≡ Some a
  strongest_some a h =
      by_two ∙ is_some refused one other a
      (false_unless refused (λ clash. h.0 (refused_is wanted given clash))) (is_shared a h.1.shared)
      (λ b has. h.1.strongest b (shared_is b has))

  none_shared : best client server wanted given ≡ None
      → HashIsRefused wanted given ⊎ ((a : IntegrityAlgorithm) → IsShared client server a → ⊥)
  none_shared h =
      elim (none_is refused one other (sym by_two ∙ h)) [
        | inl clash ↦ inl (refused_is wanted given clash)
        | inr nothing
            ↦ inr (λ a shared. nothing a (is_shared a shared))
      ]

  shared_none : HashIsRefused wanted given
      ⊎ ((a : IntegrityAlgorithm) → IsShared client server a → ⊥)
      → best client server wanted given ≡ None
  shared_none (inl h) = by_two ∙ is_none refused one other (inl (is_refused wanted given h))
  shared_none (inr nothing) = by_two
      ∙ is_none refused one other (inr (λ a has. nothing a (shared_is a has)))

  pub best_is : IsBest client server wanted given (best client server wanted given)
  best_is =
      record { some = λ a. (some_strongest a, strongest_some a); none = (none_shared, shared_none) }
