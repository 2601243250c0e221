-- The statements of the laws over handles.
use Rattle.std.specs.Prelude.{◌≡◌, ◌≢◌, ℤ, pos, int_lt, true, Option, Some, None, Result, Ok, Err}
use Rattle.stun_numbers.specs.declared.refusal.Refusal.{Refusal}
use Rattle.stun_numbers.specs.declared.refusal.Refusal.TheVariants.{EmptyHandle, WrongHandle}
use Rattle.stun_c_endpoint.specs.declared.handle.endpoint.Kept.{Kept}

-- a number that a call returns is that of an error: it is less than 0
abbrev pub IsErrorNumber : ℤ → Type 0
IsErrorNumber result = int_lt result (pos 0) ≡ true

-- a call needs one kind of value in a handle: this is what it finds there, or why it fails
pub record Takes {V : Type 0} (kind : V → Kept) (handle : Option Kept)
    (found : Result V Refusal) : Type 0 where
  pub own : (value : V) → handle ≡ Some (kind value) → found ≡ Ok value
  pub empty : handle ≡ None → found ≡ Err EmptyHandle
  pub other : (kept : Kept) → handle ≡ Some kept → ((value : V) → kept ≢ kind value)
      → found ≡ Err WrongHandle
