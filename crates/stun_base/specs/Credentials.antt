-- What contracts see of credentials (RFC 8489, section 9).
use Rattle.std.specs.Prelude.{ℕ, List, Bool, nat_eq}
use Rattle.std.specs.Ordering.{on, eq_of_both}
use Rattle.std.specs.Cmp.{IsEquivalence, on_equiv, and_equiv}
use Rattle.std.specs.Cmp.Lexicographic.{pointwise, nat_list_eq_equiv}

-- the bytes of a user's name and password (section 9.2)
pub record NameAndPassword : Type 0 where
  pub username : List ℕ
  pub password : List ℕ

-- the bytes of a user's name, realm and password (section 9.2.2)
pub record UserAtRealm : Type 0 where
  pub username : List ℕ
  pub realm : List ℕ
  pub password : List ℕ

-- whether two texts have the same bytes
abbrev pub same_text : List ℕ → List ℕ → Bool
same_text = pointwise nat_eq

-- whether two users have the same name and the same password
abbrev pub same_user : NameAndPassword → NameAndPassword → Bool
same_user =
    eq_of_both (on (λ (u : NameAndPassword). u.username) same_text)
    (on (λ (u : NameAndPassword). u.password) same_text)

-- `same_text` is an equivalence
pub same_text_equivalence : IsEquivalence same_text
same_text_equivalence = nat_list_eq_equiv

-- `same_user` is an equivalence
pub same_user_equivalence : IsEquivalence same_user
same_user_equivalence =
    and_equiv (on_equiv (λ (u : NameAndPassword). u.username) nat_list_eq_equiv)
    (on_equiv (λ (u : NameAndPassword). u.password) nat_list_eq_equiv)
