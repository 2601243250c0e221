-- A response that has room for its end: SOFTWARE, a signature and FINGERPRINT.
use Rattle.std.specs.Prelude.{◌≡◌, ◌≤◌, ℕ, false, List, [], ◌∷◌, length}
use Rattle.std.specs.List.{AllByRecursion}
use Rattle.stun_base.specs.Attributes.{NONCE, PASSWORD_ALGORITHMS, REALM}
use Rattle.stun_extra.specs.AttributeTypes.{SOFTWARE}
use Rattle.stun_types.specs.Visible.{has_kind}
use Rattle.stun_types.specs.Walk.{walk}
use Rattle.stun_types.specs.Writing.{IsOpen}

-- a message that attributes can be added to, which has no attribute of these types, and at most
-- this many bytes
pub record HasRoom (kinds : List ℕ) (most : ℕ) (page : List ℕ) : Type 0 where
  pub is_open : IsOpen page
  pub none : AllByRecursion (λ kind. has_kind kind (walk page) ≡ false) kinds
  pub short : length page ≤ most

-- what is added to an error response after ERROR-CODE
abbrev pub LATER : List ℕ
LATER = NONCE ∷ REALM ∷ PASSWORD_ALGORITHMS ∷ SOFTWARE ∷ []

-- a response that can be ended
abbrev pub IsEndable : List ℕ → Type 0
IsEndable page = HasRoom (SOFTWARE ∷ []) 60000 page
