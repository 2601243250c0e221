-- The statements of the laws of this crate.
use Rattle.std.specs.Prelude.{◌≡◌, ◌+◌, ℕ, Option, Some, None}
use Rattle.stun_types.specs.Attribute.{TypedValue}
use Rattle.stun_types.specs.Walk.{Member}

-- a call finds no attribute, returns 0 and leaves the caller's number unchanged; or it finds this
-- one, returns where its value begins, and sets the number to a part of it
abbrev pub IsComeTo : Option Member → (TypedValue → ℕ) → ℕ → ℕ → ℕ → Type 0
IsComeTo None part result before after = (result ≡ 0) × (after ≡ before)
IsComeTo (Some m) part result before after = (result ≡ m.0 + 4) × (after ≡ part m.1)
