-- Where no two present users share a hash, a hash names its user.
use Rattle.std.proofs.Common.{◌≡◌, ℕ, List, [], ◌∷◌, Some, Bool, true, false, refl, sym, ◌∙◌, ap}
use Rattle.std.specs.Prelude.{cond, ◌||◌}
use Rattle.std.specs.List.{find, list_any}
use Rattle.std.specs.Str.{bytes_eq}
use Rattle.std.specs.Option.{is_some, option_and_then, option_map}
use Rattle.std.specs.Ordering.{eq_by_cmp}
use Rattle.std.specs.FinMap as map
use Rattle.std.specs.FinMap.{contains_key-keys}
use Rattle.std.proofs.lemmas.Map.Text.{is_eq-slice_cmp}
use Rattle.std.proofs.lemmas.Slice.Eq.{bytes_eq-Decides}
use Rattle.stun_base.specs.Keys.{userhash_of}
use Rattle.stun_judging.specs.Registered.{Registered, UserSecret, name_cmp}
use Rattle.stun_judging.specs.Registered.{name_with_hash, user_named, user_with_hash}
use Rattle.stun_proto.specs.Honest.{HaveOwnHashes}

abbrev same : List ℕ → List ℕ → Bool
same = eq_by_cmp name_cmp

same_names : (a b : List ℕ) → same a b ≡ true → a ≡ b
same_names a b h = (bytes_eq-Decides a b).0 (sym (is_eq-slice_cmp a b) ∙ h)

same_name : (a : List ℕ) → same a a ≡ true
same_name a = is_eq-slice_cmp a a ∙ (bytes_eq-Decides a a).1 refl

either : (a b : Bool) → b ≡ true → (a || b) ≡ true
either true b h = refl
either false b h = h

front : (a b : Bool) → a ≡ true → (a || b) ≡ true
front true b h = refl
front false b h = cc

-- the only name that passes a test is found
find_only : (names : List (List ℕ)) (test : List ℕ → Bool) (name : List ℕ)
    → list_any (same name) names ≡ true → test name ≡ true
    → ((x : List ℕ) → list_any (same x) names ≡ true → test x ≡ true → x ≡ name)
    → find test names ≡ Some name
find_only [] test name there passes only = cc
find_only (x ∷ names) test name there passes only =
    elim (test x) as (λ b. test x ≡ b → cond b (Some x) (find test names) ≡ Some name) [
      | true ↦ λ h. ap Some (only x (front (same x x) _ (same_name x)) h)
      | false ↦ λ h. find_only names test name (later h (same name x) refl there) passes
          (λ y among. only y (either (same y x) _ among))
    ] refl
  where
    later : test x ≡ false → (b : Bool) → same name x ≡ b → (b || list_any (same name) names) ≡ true
        → list_any (same name) names ≡ true
    later h true e t = let is : name ≡ x = same_names name x e in
        absurd_of (sym h ∙ ap test (sym is) ∙ passes)
      where
        absurd_of : false ≡ true → list_any (same name) names ≡ true
        absurd_of h = cc
    later h false e t = t

own_name : (users : Registered) (name : List ℕ) → HaveOwnHashes users
    → is_some (map.get users.secrets name) ≡ true
    → name_with_hash users (userhash_of name users.realm) ≡ Some name
own_name users name own there =
    find_only (map.keys users.secrets)
    (λ x. bytes_eq (userhash_of x users.realm) (userhash_of name users.realm)) name
    (sym (contains_key-keys users.secrets name) ∙ there)
    ((bytes_eq-Decides (userhash_of name users.realm) (userhash_of name users.realm)).1 refl)
    (λ x among alike. own x name (contains_key-keys users.secrets x ∙ among) there
    ((bytes_eq-Decides (userhash_of x users.realm) (userhash_of name users.realm)).0 alike))

-- a present user is named by name
module _ (users : Registered) (name : List ℕ) (secret : UserSecret)
    (present : map.get users.secrets name ≡ Some secret) where
  pub own_user : user_named users name ≡ Some (record { username = name; secret = secret })
  own_user = ap (option_map (λ (s : UserSecret). record { username = name; secret = s })) present

  -- and by hash
  pub own_hash : HaveOwnHashes users → user_with_hash users (userhash_of name users.realm)
      ≡ Some (record { username = name; secret = secret })
  own_hash own =
      ap (option_and_then (user_named users)) (own_name users name own (ap is_some present))
      ∙ own_user
